use Rattle.rip_http.proofs.StreamLemmas.{head_end_le}
use Rattle.rip_http.proofs.StageLemmas.{head_refuses}
use Rattle.rip_http.proofs.stage.look_behind.Goals as goal

pub head_of-requires : goal.head_of-requires
head_of-requires c = head_end_le 8192 c.args.end c.args.bytes.now c.requires

pub returns-in-Refused : goal.returns-in-Refused
returns-in-Refused c =
    (c.args.end, head_refuses c.args.bytes.now c.head_of.result.now c.args.end c.in-Refused.refused c.requires c.head_of.ensures c.in-Refused.ensures.verdict)
