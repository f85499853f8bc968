use Rattle.std.proofs.Common.{◌≡◌, ◌+◌, ◌<◌, ◌≤◌, ◌∷◌, drop, get_or, true≢false, add-zero, get_or-drop, sym, ap, subst, ◌∙◌, arith}
use Rattle.std.proofs.lemmas.List.{drop_more, drop_all}
use Rattle.std.specs.Char.{IsScalar}
use Rattle.std.specs.Char.Utf16.{utf16_chars}
use Rattle.std.specs.Option.{SomeIff}
use Rattle.rip_data.specs.Written.{IsPair}
use Rattle.rip_convert.proofs.Chars.{lone, pair}
use Rattle.rip_convert.proofs.units.char_at.Goals as goal
use Rattle.rip_convert.proofs.units.char_at.Goals.{else-at-units-via-then-at-units+else-is_pair, else-at-units-via-else-at-units}

pub returns-then-is_pair-clause-char : goal.returns-then-is_pair-clause-char
returns-then-is_pair-clause-char c =
    let us = c.args.units.now in
    let at = c.args.at in
    let first : drop at us ≡ get_or us at 0 ∷ drop (at + 1) us = drop_more us at 0 c.requires in
    let second : drop (at + 1) us ≡ get_or us (at + 1) 0 ∷ drop (at + 1 + 1) us = drop_more us (at + 1) 0 c.if-at-units.true in
    let next : at + 1 + 1 ≡ at + 2 = omega arith in
    let here : drop at us ≡ get_or us at 0 ∷ get_or us (at + 1) 0 ∷ drop (at + 2) us =
    first ∙ ap (λ l. get_or us at 0 ∷ l) second ∙ ap (λ k. get_or us at 0 ∷ get_or us (at + 1) 0 ∷ drop k us) next in
    ap utf16_chars here ∙ pair _ _ c.pair_char.result _ _ (c.is_pair.ensures.0 c.if-is_pair.true) c.pair_char.ensures.code c.pair_char.ensures.within.0 c.pair_char.ensures.within.1 c.from_u32.ensures.value

pub returns-else-at-units-clause-char : goal.returns-else-at-units-clause-char
returns-else-at-units-clause-char c =
    let us = c.args.units.now in
    let at = c.args.at in
    let here : drop at us ≡ get_or us at 0 ∷ drop (at + 1) us = drop_more us at 0 c.requires in
    let next : get_or (drop (at + 1) us) 0 0 ≡ get_or us (at + 1) 0 = get_or-drop (at + 1) us 0 0 ∙ ap (λ k. get_or us k 0) (add-zero (at + 1)) in
    let alone : ¬ (IsPair (get_or us at 0) (get_or (drop (at + 1) us) 0 0)) = elim c.else-at-units.branch [
      | else-at-units-via-then-at-units+else-is_pair w ↦ λ pair.
          let p : IsPair (get_or us at 0) (get_or us (at + 1) 0) = subst (IsPair (get_or us at 0)) next pair in
          true≢false (sym (w.is_pair.ensures.1 p) ∙ w.if-is_pair.false)
      | else-at-units-via-else-at-units w ↦ λ pair.
          let none : get_or (drop (at + 1) us) 0 0 ≡ 0 = ap (λ l. get_or l 0 0) (drop_all (at + 1) us w.if-at-units.false) in
          let high : 56320 ≤ get_or (drop (at + 1) us) 0 0 = pair.2 in
          omega arith
    ] in
    let small : get_or us at 0 < 65536 = omega (arith, c.type_inv.units at) in
    let unit : c.from.result ≡ get_or us at 0 = c.from.ensures in
    let value : SomeIff c.from_u32-else-at-units.result (IsScalar (get_or us at 0)) (get_or us at 0) =
    subst (λ u. SomeIff c.from_u32-else-at-units.result (IsScalar u) u) unit c.from_u32-else-at-units.ensures.value in
    ap utf16_chars here ∙ lone _ _ _ small alone value
