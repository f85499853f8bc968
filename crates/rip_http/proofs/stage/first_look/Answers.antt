use Rattle.std.proofs.Common.{◌+◌, refl}
use Rattle.rip_http.specs.Heads.{head_at}
use Rattle.rip_http.specs.declared.verdict.Judged.TheVariants.{Refused, Passed}
use Rattle.rip_http.proofs.StageLemmas.{head_refuses, whole_there}
use Rattle.rip_http.proofs.stage.first_look.Goals as goal

pub returns-in-Some-default-Refused : goal.returns-in-Some-default-Refused
returns-in-Some-default-Refused c =
    let bytes = c.args.bytes.now in
    let refused = c.in-Some-default-Refused.refused in
    let end = c.count_blank-blank.result + c.in-Some-default-Refused.field-0-0 in
    let there = whole_there bytes c.min.result c.count_blank-blank.result c.in-Some-default-Refused.field-0-0 c.in-Some-default-Refused.field-0-1 (Refused refused) c.in-Some-default-Refused.field-0-1-is c.min.ensures c.count_blank-blank.ensures.value c.count_blank-blank.ensures.within c.in-Some-default-Refused.ensures in
    (end, head_refuses bytes (head_at bytes end) end refused there.0 refl there.1)

pub returns-in-Some-default-Passed : goal.returns-in-Some-default-Passed
returns-in-Some-default-Passed c =
    let now = c.in-Some-default-Passed in
    whole_there c.args.bytes.now c.min.result c.count_blank-blank.result now.size now.field-0-1 (Passed now.going now.target) now.field-0-1-is c.min.ensures c.count_blank-blank.ensures.value c.count_blank-blank.ensures.within now.ensures
