-- So it is of applications.
use Rattle.rip_session.specs.Serving.{may_serve}
use Rattle.rip_session.specs.Shapes.{shapes}
use Rattle.rip_session.specs.Application.{doing_of}
use Rattle.rip_headline.specs.LeftToDo.{ApplicationsAsk}
use Rattle.rip_headline.proofs.Asking.{session_asks}
use Rattle.rip_headline.proofs.Rising.{session_rises}

pub applications_ask : ApplicationsAsk
applications_ask app = (
  λ seed time batches given more n few.
      session_asks (doing_of app seed time) may_serve (λ batch a n w s. shapes batch a n w s) batches given more n few,
  λ seed time batches given. session_rises (doing_of app seed time) batches given,
)
