use Rattle.std.proofs.Common.{◌≡◌, ap, ◌∙◌}
use Rattle.std.proofs.lemmas.Result.{IfOk-weaker}
use Rattle.rip_wire.specs.Items.{Reported, reported_of}
use Rattle.rip_client.specs.Bytes.{size_of}
use Rattle.rip_client.specs.Sizes.{IsTold}
use Rattle.rip_client.proofs.Bodies.{told_same}
use Rattle.rip_client.proofs.tale.text_size.Goals as goal

pub returns : goal.returns
returns c =
    IfOk-weaker c.item_size.result (λ size. size ≡ size_of (reported_of c.in_ok-item.item)) (λ size. (item : Reported) → IsTold c.args.tale item → size ≡ size_of item)
    (λ size is item told. is ∙ ap size_of (told_same c.args.tale (reported_of c.in_ok-item.item) item c.in_ok-item.ensures.told told)) c.item_size.ensures
