use Rattle.std.proofs.Common.{length}
use Rattle.rip_http.proofs.StageLemmas.{body_end_le, come_tells}
use Rattle.rip_http.proofs.stage.Awaited.has_come.Goals as goal

pub overflow_sub-result : goal.overflow_sub-result
overflow_sub-result c = body_end_le c.args.bytes.now c.args.self.now c.requires

pub returns : goal.returns
returns c =
    come_tells c.args.self.now.end c.args.self.now.going.size (length c.args.bytes.now) (body_end_le c.args.bytes.now c.args.self.now c.requires)
