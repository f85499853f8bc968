use Rattle.std.proofs.Common.{◌≡◌, map, drop, ap, sym, subst, ◌∙◌, arith, rules}
use Rattle.std.specs.Prelude.{string_bytes, codes}
use Rattle.std.proofs.lemmas.List.{take_rest}
use Rattle.rip_script.specs.Words.{AreLimits}
use Rattle.rip_script.proofs.Writing.{behind_two}
use Rattle.rip_script.proofs.words.run_of.Goals as goal

pub returns-clause-form : goal.returns-clause-form
returns-clause-form c =
    let all = behind_two c.args.words.now c.first-item.result c.file-item.result (omega arith) c.first-item.is c.file-item.is in
    let same : c.as_str.result.now ≡ codes "run" = search rules in
    let first : string_bytes c.first-item.result ≡ codes "run" = sym c.as_str.ensures.value ∙ same in
    let file = c.as_str-2.ensures.value in
    (map string_bytes (drop 2 c.args.words.now), ap (map string_bytes) all ∙ cc, subst (λ ws. AreLimits (map string_bytes ws) c.in_ok-limits.limits) (take_rest c.args.words.now 2) c.in_ok-limits.ensures.are)
