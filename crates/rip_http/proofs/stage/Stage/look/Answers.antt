use Rattle.rip_http.proofs.StageLemmas.{body_grows, refused_grows}
use Rattle.rip_http.proofs.stage.Stage.look.Goals as goal

pub returns-in-Body : goal.returns-in-Body
returns-in-Body c = body_grows c.args.bytes.now c.args.from c.args.self c.in-Body.awaited c.requires.stage c.in-Body.is

pub returns-in-Refused : goal.returns-in-Refused
returns-in-Refused c = refused_grows c.args.bytes.now c.args.from c.args.self c.in-Refused.refused c.requires.stage c.in-Refused.is
