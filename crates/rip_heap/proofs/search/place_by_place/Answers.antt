use Rattle.std.proofs.Common.{◌≡◌, ◌-◌, ℕ, List, length, take, drop, sym, ap, ◌∙◌, arith, length-drop, nat_eq}
use Rattle.std.proofs.Math.Seq.{take-length}
use Rattle.std.specs.List.{starts_with}
use Rattle.rip_heap.proofs.BorderLemmas.{stands-bound}
use Rattle.rip_heap.proofs.SearchLemmas.{first_place-none, tried-here, tried-not}
use Rattle.rip_heap.proofs.search.place_by_place.Goals as goal

rest : (text : List ℕ) (place : ℕ) → take (length text - place) (drop place text) ≡ drop place text
rest text place = ap (λ n. take n (drop place text)) (sym (length-drop place text)) ∙ take-length (drop place text)

pub returns-then-starts_with-clause-place : goal.returns-then-starts_with-clause-place
returns-then-starts_with-clause-place c =
    let text = c.args.text.now in
    let place = c.loop-place.place in
    sym (tried-here c.args.pattern.now text place (ap (λ t. starts_with nat_eq t c.args.pattern.now) (sym (rest text place)) ∙ sym c.starts_with.ensures.value ∙ c.if-starts_with.true) c.loop-place.invariant)

pub loop-place-preserved : goal.loop-place-preserved
loop-place-preserved c =
    let text = c.args.text.now in
    let place = c.loop-place.place in
    tried-not c.args.pattern.now text place (ap (λ t. starts_with nat_eq t c.args.pattern.now) (sym (rest text place)) ∙ sym c.starts_with.ensures.value ∙ c.if-starts_with.false) c.loop-place.invariant

pub returns-clause-place : goal.returns-clause-place
returns-clause-place c =
    sym (first_place-none c.args.pattern.now c.args.text.now (λ q s. c.loop-place.invariant q (omega (arith, stands-bound c.args.pattern.now c.args.text.now q c.requires s)) s))
