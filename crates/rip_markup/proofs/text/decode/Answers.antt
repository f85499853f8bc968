use Rattle.std.proofs.Common.{◌+◌, ◌++◌, ◌∷◌, [], sym, ap, ◌∙◌, arith, append_assoc}
use Rattle.std.specs.Char.Escape.{encode_utf16}
use Rattle.rip_markup.specs.Steps.{decoded, bad_reference}
use Rattle.rip_markup.proofs.Decoding.{at_unit, at_reference}
use Rattle.rip_markup.proofs.text.decode.Goals as goal

pub text-preserved-in-Itself : goal.text-preserved-in-Itself
text-preserved-in-Itself c =
    let was = c.text.invariant in
    let step = at_unit c.text.rest.now c.text.place c.in-Itself.unit c.in-Itself.ensures.value in
    let tail = c.split_at.ensures.back in
    record {
      units = ap (λ u. u ++ decoded 0 c.split_at.result.1.now) c.in_ok-push-in-Itself.ensures.items ∙ append_assoc c.text.out.items (c.in-Itself.unit ∷ []) (decoded 0 c.split_at.result.1.now) ∙ ap (λ u. c.text.out.items ++ (c.in-Itself.unit ∷ decoded 0 u)) tail ∙ ap (λ u. c.text.out.items ++ u) (sym step.0) ∙ was.units;
      bad = ap (λ u. bad_reference (c.text.place + 1) 0 u) tail ∙ sym step.1 ∙ was.bad;
      bound = omega (arith, c.split_at.ensures.back_len, was.bound);
    }

pub text-preserved : goal.text-preserved
text-preserved c =
    let was = c.text.invariant in
    let r = c.in-Reference.reference in
    let step = at_reference c.text.rest.now c.text.place r c.in-Reference.ensures.value in
    let tail = c.split_at-in-Reference.ensures.back in
    record {
      units = ap (λ u. u ++ decoded 0 c.split_at-in-Reference.result.1.now) c.in_ok-push_code-in-Reference.ensures ∙ append_assoc c.text.out.items (encode_utf16 r.code) (decoded 0 c.split_at-in-Reference.result.1.now) ∙ ap (λ u. c.text.out.items ++ (encode_utf16 r.code ++ decoded 0 u)) tail ∙ ap (λ u. c.text.out.items ++ u) (sym step.0) ∙ was.units;
      bad = ap (λ u. bad_reference (c.text.place + (r.count + 1)) 0 u) tail ∙ sym step.1 ∙ was.bad;
      bound = omega (arith, c.split_at-in-Reference.ensures.back_len, was.bound, c.in-Reference.ensures.bound.0);
    }
