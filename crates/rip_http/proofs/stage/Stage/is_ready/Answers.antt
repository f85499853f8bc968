use Rattle.std.proofs.Common.{refl}
use Rattle.rip_http.specs.declared.stage.Stage.TheVariants.{Head, Body, Refused}
use Rattle.rip_http.proofs.StageLemmas.{at_stage, head_waits, refused_comes, body_comes, body_is_waited}
use Rattle.rip_http.proofs.stage.Stage.is_ready.Goals as goal

pub has_come-requires : goal.has_come-requires
has_come-requires c = at_stage c.args.bytes.now c.args.bytes.now c.args.self.now (Body c.in-Body.awaited) c.requires c.in-Body.is refl

pub returns-in-Head-clause-waits : goal.returns-in-Head-clause-waits
returns-in-Head-clause-waits c =
    let here = at_stage c.args.bytes.now c.args.bytes.now c.args.self.now (Head c.in-Head.field-0) c.requires c.in-Head.is refl in
    head_waits c.args.bytes.now c.in-Head.field-0 here.0 here.1

pub returns-in-Refused-clause-come : goal.returns-in-Refused-clause-come
returns-in-Refused-clause-come c =
    let here = at_stage c.args.bytes.now c.args.bytes.now c.args.self.now (Refused c.in-Refused.field-0) c.requires c.in-Refused.is refl in
    refused_comes c.args.bytes.now here.0 c.in-Refused.field-0 here.1

pub returns-in-Body-clause-come : goal.returns-in-Body-clause-come
returns-in-Body-clause-come c =
    let here = at_stage c.args.bytes.now c.args.bytes.now c.args.self.now (Body c.in-Body.awaited) c.requires c.in-Body.is refl in
    body_comes c.args.bytes.now c.in-Body.awaited c.has_come.result here c.has_come.ensures

pub returns-in-Body-clause-waits : goal.returns-in-Body-clause-waits
returns-in-Body-clause-waits c =
    let here = at_stage c.args.bytes.now c.args.bytes.now c.args.self.now (Body c.in-Body.awaited) c.requires c.in-Body.is refl in
    body_is_waited c.args.bytes.now c.in-Body.awaited c.has_come.result here c.has_come.ensures
