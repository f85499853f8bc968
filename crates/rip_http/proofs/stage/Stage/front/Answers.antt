use Rattle.std.proofs.Common.{refl}
use Rattle.rip_http.specs.declared.stage.Stage.TheVariants.{Head, Body, Refused}
use Rattle.rip_http.proofs.StageLemmas.{at_stage, head_waits}
use Rattle.rip_http.proofs.stage.Stage.front.Goals as goal

pub front-requires : goal.front-requires
front-requires c = at_stage c.args.bytes.now c.args.bytes.now c.args.self.now (Body c.in-Body.awaited) c.requires c.in-Body.is refl

pub returns-in-Head : goal.returns-in-Head
returns-in-Head c =
    let here = at_stage c.args.bytes.now c.args.bytes.now c.args.self.now (Head c.in-Head.field-0) c.requires c.in-Head.is refl in
    head_waits c.args.bytes.now c.in-Head.field-0 here.0 here.1

pub returns-in-Refused : goal.returns-in-Refused
returns-in-Refused c =
    at_stage c.args.bytes.now c.args.bytes.now c.args.self.now (Refused c.in-Refused.refused) c.requires c.in-Refused.is refl
