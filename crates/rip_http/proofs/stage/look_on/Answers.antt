use Rattle.std.proofs.Common.{◌∙◌, sym, ap}
use Rattle.rip_http.specs.Heads.{after, head_end}
use Rattle.rip_http.specs.declared.head.Scan.TheVariants.{Before}
use Rattle.rip_http.proofs.StageLemmas.{window_is, overlong_refuses}
use Rattle.rip_http.proofs.stage.look_on.Goals as goal

pub look_behind-requires : goal.look_behind-requires
look_behind-requires c =
    let same = window_is c.args.bytes.now c.min-limit.result c.min-limit.ensures in
    sym (ap head_end same) ∙ c.in-Ended.ensures

pub returns-else-bytes-lt-LONGEST_HEAD : goal.returns-else-bytes-lt-LONGEST_HEAD
returns-else-bytes-lt-LONGEST_HEAD c =
    let same = window_is c.args.bytes.now c.min-limit.result c.min-limit.ensures in
    (8192, overlong_refuses c.args.bytes.now c.in-Open.next (sym (ap (after Before) same) ∙ c.in-Open.ensures) c.if-bytes-lt-LONGEST_HEAD.false)
