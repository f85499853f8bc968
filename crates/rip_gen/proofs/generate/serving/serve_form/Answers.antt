use Rattle.std.proofs.Common.{map}
use Rattle.rip_log.specs.Entries.{recorded_of}
use Rattle.rip_gen.specs.Served.{IsServed, IsServedForm}
use Rattle.rip_gen.proofs.Results.{on_ok}
use Rattle.rip_gen.proofs.generate.serving.serve_form.Goals as goal

pub returns : goal.returns
returns c =
    on_ok (λ entries. IsServed c.in_ok-app.app c.args.text.now (map recorded_of entries)) (λ entries. IsServedForm c.args.text.now (map recorded_of entries)) c.serve_text.result
    (λ entries served. record { app = c.in_ok-app.app; is_form = c.in_ok-app.ensures; served = served }) c.serve_text.ensures
