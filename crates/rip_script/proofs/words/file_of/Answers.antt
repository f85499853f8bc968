use Rattle.std.proofs.Common.{◌≡◌, true, false, not, map, ap, sym, ◌∙◌, arith, rules}
use Rattle.std.specs.Prelude.{nat_eq, string_bytes}
use Rattle.std.specs.Cmp.Lexicographic.{pointwise, bytes_decides}
use Rattle.rip_script.proofs.Writing.{not_both, two}
use Rattle.rip_script.proofs.words.file_of.Goals as goal

pub returns-then-ne-clause-other : goal.returns-then-ne-clause-other
returns-then-ne-clause-other c file e =
    let all = two c.args.words.now c.first-item.result c.file-item.result (omega arith) c.first-item.is c.file-item.is in
    let words = sym (ap (map string_bytes) all) ∙ e in
    let first : string_bytes c.first-item.result ≡ c.args.command.now = cc in
    let same : pointwise nat_eq c.as_str.result.now c.args.command.now ≡ true = (bytes_decides c.as_str.result.now c.args.command.now).1 (c.as_str.ensures.value ∙ first) in
    let wrong : true ≡ false = sym c.if-ne.true ∙ c.ne.ensures ∙ ap not same in
    not_both wrong

pub returns-clause-form : goal.returns-clause-form
returns-clause-form c =
    let all = two c.args.words.now c.first-item.result c.file-item.result (omega arith) c.first-item.is c.file-item.is in
    let same : c.as_str.result.now ≡ c.args.command.now = search rules in
    let first : string_bytes c.first-item.result ≡ c.args.command.now = sym c.as_str.ensures.value ∙ same in
    let file = c.as_str-2.ensures.value in
    ap (map string_bytes) all ∙ cc
