use Rattle.std.proofs.Common.{◌≡◌, ◌+◌, ◌<◌, ◌≤◌, ◌∷◌, drop, get_or, true≢false, add-zero, get_or-drop, sym, ap, subst, ◌∙◌, arith}
use Rattle.std.proofs.lemmas.List.{drop_more, drop_all}
use Rattle.rip_data.specs.Written.{escaped_length, IsPair}
use Rattle.rip_data.proofs.SizeLemmas.{escaped_length-ascii, escaped_length-two, escaped_length-three, escaped_length-pair}
use Rattle.rip_data.proofs.size.char_size.Goals as goal
use Rattle.rip_data.proofs.size.char_size.Goals.{else-at-units-via-then-at-units+else-is_pair, else-at-units-via-else-at-units}

pub returns-then-unit-lt128-clause-bytes : goal.returns-then-unit-lt128-clause-bytes
returns-then-unit-lt128-clause-bytes c =
    let us = c.args.units.now in
    let here : drop c.args.at us ≡ get_or us c.args.at 0 ∷ drop (c.args.at + 1) us = drop_more us c.args.at 0 c.requires in
    ap (λ n. n + escaped_length (drop (c.args.at + 1) us)) c.ascii_size.ensures
    ∙ sym (ap escaped_length here ∙ escaped_length-ascii _ _ c.if-unit-lt128.true)

pub returns-then-unit-lt2048-clause-bytes : goal.returns-then-unit-lt2048-clause-bytes
returns-then-unit-lt2048-clause-bytes c =
    let us = c.args.units.now in
    let here : drop c.args.at us ≡ get_or us c.args.at 0 ∷ drop (c.args.at + 1) us = drop_more us c.args.at 0 c.requires in
    sym (ap escaped_length here ∙ escaped_length-two _ _ c.if-unit-lt128.false c.if-unit-lt2048.true)

pub returns-then-is_pair-clause-bytes : goal.returns-then-is_pair-clause-bytes
returns-then-is_pair-clause-bytes c =
    let us = c.args.units.now in
    let at = c.args.at in
    let first : drop at us ≡ get_or us at 0 ∷ drop (at + 1) us = drop_more us at 0 c.requires in
    let second : drop (at + 1) us ≡ get_or us (at + 1) 0 ∷ drop (at + 1 + 1) us = drop_more us (at + 1) 0 c.if-at-units.true in
    let next : at + 1 + 1 ≡ at + 2 = omega arith in
    let here : drop at us ≡ get_or us at 0 ∷ get_or us (at + 1) 0 ∷ drop (at + 2) us =
    first ∙ ap (λ l. get_or us at 0 ∷ l) second ∙ ap (λ k. get_or us at 0 ∷ get_or us (at + 1) 0 ∷ drop k us) next in
    sym (ap escaped_length here ∙ escaped_length-pair _ _ _ (c.is_pair.ensures.0 c.if-is_pair.true))

pub returns-else-at-units-clause-bytes : goal.returns-else-at-units-clause-bytes
returns-else-at-units-clause-bytes c =
    let us = c.args.units.now in
    let at = c.args.at in
    let here : drop at us ≡ get_or us at 0 ∷ drop (at + 1) us = drop_more us at 0 c.requires in
    let next : get_or (drop (at + 1) us) 0 0 ≡ get_or us (at + 1) 0 = get_or-drop (at + 1) us 0 0 ∙ ap (λ k. get_or us k 0) (add-zero (at + 1)) in
    let alone : ¬ (IsPair (get_or us at 0) (get_or (drop (at + 1) us) 0 0)) = elim c.else-at-units.branch [
      | else-at-units-via-then-at-units+else-is_pair w ↦ λ pair.
          let p : IsPair (get_or us at 0) (get_or us (at + 1) 0) = subst (IsPair (get_or us at 0)) next pair in
          true≢false (sym (w.is_pair.ensures.1 p) ∙ w.if-is_pair.false)
      | else-at-units-via-else-at-units w ↦ λ pair.
          let none : get_or (drop (at + 1) us) 0 0 ≡ 0 = ap (λ l. get_or l 0 0) (drop_all (at + 1) us w.if-at-units.false) in
          let high : 56320 ≤ get_or (drop (at + 1) us) 0 0 = pair.2 in
          omega arith
    ] in
    let small : get_or us at 0 < 65536 = omega (arith, c.type_inv.units at) in
    sym (ap escaped_length here ∙ escaped_length-three _ _ c.if-unit-lt2048.false small alone)
