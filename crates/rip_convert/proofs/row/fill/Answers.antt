use Rattle.std.proofs.Common.{rules, ◌≡◌, ◌∷◌, ◌++◌, [], Ok, Some, length, unwrap_or, sym, ap, ap₂, ◌∙◌, arith}
use Rattle.std.proofs.lemmas.Result.{err_from_is_err_and}
use Rattle.json.specs.Print.{quoted}
use Rattle.serde_json.specs.Written.{compact_text}
use Rattle.rip_values.specs.Pool.{text_at}
use Rattle.rip_data.specs.Datum.{utf8_of}
use Rattle.rip_convert.specs.Arguments.{call_line}
use Rattle.rip_convert.specs.Written.{added, value_data}
use Rattle.rip_convert.proofs.Calling.{call_err, call_long, call_short, name_part, joined, none_of, some_of}
use Rattle.rip_convert.proofs.Judged.{taken-pieces}
use Rattle.rip_convert.proofs.row.fill.Goals as goal

pub returns-in_err-judge-clause-text : goal.returns-in_err-judge-clause-text
returns-in_err-judge-clause-text c =
    let p = err_from_is_err_and c.from_residual.result c.from_residual.ensures.1 in
    rw (p.1, p.2) (call_err c.args.heap.now c.args.name c.args.args.now _ c.in_err-judge.ensures)

pub write_value-requires : goal.write_value-requires
write_value-requires c =
    let taken = taken-pieces 8 c.args.heap.now c.args.args.now 16384 c.in_ok-judge.field-0 c.in_ok-judge.ensures in
    (omega (arith, taken, ap (λ f. length f.properties) c.requires.none), omega (arith, taken, ap (λ f. length f.places) c.requires.none))

pub returns-then-not-copy-clause-text : goal.returns-then-not-copy-clause-text
returns-then-not-copy-clause-text c =
    let text = compact_text (value_data 8 c.args.heap.now c.args.args.now) in
    let none = none_of c.write_value.new.line c.copy-2.result c.copy-2.ensures.there (first_of (search (rules, c.if-not-copy.true), cc)) in
    call_long c.args.heap.now c.args.name c.args.args.now c.in_ok-judge.field-0 c.in_ok-judge.ensures
    (sym (ap (λ r. added r text) c.clear-2.ensures) ∙ sym c.write_value.ensures.text ∙ none)

pub returns-clause-text : goal.returns-clause-text
returns-clause-text c =
    let w = c.args.heap.now in
    let name = utf8_of (text_at w.pool c.args.name) in
    let q = quoted name in
    let text = compact_text (value_data 8 w c.args.args.now) in
    let t = unwrap_or c.write_value.new.line [] in
    let some = some_of c.write_value.new.line c.copy-2.result c.copy-2.ensures.there (first_of (search (rules, c.if-not-copy.false), cc)) in
    let spelling : c.get.result.now ≡ text_at w.pool c.args.name = c.get.ensures.text ∙ ap (λ p. text_at p c.args.name) c.pool.ensures in
    let part : c.push_text.new.self ≡ Some q = c.push_text.ensures ∙ ap₂ (λ r u. added r (quoted (utf8_of u))) c.clear.ensures spelling ∙ name_part name c.requires.name in
    let first : c.push_reserved.new.self.items ≡ 91 ∷ [] = c.push_reserved.ensures.items ∙ ap (λ l. l ++ 91 ∷ []) c.truncate.ensures.items in
    let second : c.copy.new.text.items ≡ (91 ∷ []) ++ q = c.copy.ensures.text ∙ ap₂ (λ l o. l ++ unwrap_or o []) first part in
    let third : c.push_reserved-2.new.self.items ≡ ((91 ∷ []) ++ q) ++ 44 ∷ [] = c.push_reserved-2.ensures.items ∙ ap (λ l. l ++ 44 ∷ []) second in
    let fourth : c.copy-2.new.text.items ≡ (((91 ∷ []) ++ q) ++ 44 ∷ []) ++ t = c.copy-2.ensures.text ∙ ap (λ l. l ++ t) third in
    let fifth : c.push_reserved-3.new.self.items ≡ call_line name t = c.push_reserved-3.ensures.items ∙ ap (λ l. l ++ 93 ∷ []) fourth ∙ joined q t in
    call_short w c.args.name c.args.args.now c.in_ok-judge.field-0 t c.in_ok-judge.ensures
    (sym (ap (λ r. added r text) c.clear-2.ensures) ∙ sym c.write_value.ensures.text ∙ some) ∙ ap Ok (sym fifth)
