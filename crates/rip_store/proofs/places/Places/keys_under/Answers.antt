use Rattle.std.proofs.Common.{◌≡◌, [], ◌∷◌, ◌++◌, map, length, drop, true, false, nat_eq, sym, ap, ◌∙◌, append_assoc, append-nil, arith}
use Rattle.std.specs.declared.ops.Bound.TheVariants.{Included, Unbounded}
use Rattle.std.specs.List.{starts_with}
use Rattle.std.specs.BTreeMap.Range.{entries_between}
use Rattle.std.proofs.lemmas.Grind.{common_steps}
use Rattle.rip_data.specs.Datum.{tree_of}
use Rattle.rip_store.specs.Operations.{text_of}
use Rattle.rip_store.specs.Outcomes.{key_text, with_any}
use Rattle.rip_store.proofs.PlaceLemmas.{Entry, key_cmp}
use Rattle.rip_store.proofs.KeyLemmas.{under-all, under-cut, under-push}
use Rattle.rip_store.proofs.places.Places.keys_under.Goals as goal

pub returns : goal.returns
returns c =
    let done = c.loop-place.invariant.0 in
    let v = c.in_ok-from.from in
    let es = c.args.self.now.held.entries in
    let begun : c.into_iter-place-iterator.result ≡ c.range-place-items.result = cc in
    let all : entries_between key_cmp (Included v) Unbounded es ≡ done =
    sym (c.range-place-items.ensures.between tt) ∙ sym begun ∙ c.loop-place.invariant.1 ∙ ap (λ fs. done ++ fs) c.in-None.ensures.steps.0 ∙ append-nil done in
    c.loop-place.invariant.2 ∙ ap (map text_of) (under-all c.args.prefix.now v es done c.in_ok-from.ensures.items all)

pub returns-then-not-starts_with : goal.returns-then-not-starts_with
returns-then-not-starts_with c =
    let done = c.loop-place.invariant.0 in
    let v = c.in_ok-from.from in
    let es = c.args.self.now.held.entries in
    let e : Entry = (c.in-Some.place.now, c.in-Some.field-0-1.now) in
    let begun : c.into_iter-place-iterator.result ≡ c.range-place-items.result = cc in
    let all : entries_between key_cmp (Included v) Unbounded es ≡ done ++ e ∷ c.next.new.self =
    sym (c.range-place-items.ensures.between tt) ∙ sym begun ∙ c.loop-place.invariant.1 ∙ ap (λ fs. done ++ fs) c.in-Some.ensures.steps in
    let off : starts_with nat_eq e.0.items c.args.prefix.now ≡ false = first_of (cc, grind arith) in
    c.loop-place.invariant.2
    ∙ ap (map text_of) (under-cut c.args.prefix.now v es done e c.next.new.self c.in_ok-from.ensures.items c.range-place-items.ensures.ordered all off)

pub loop-place-preserved : goal.loop-place-preserved
loop-place-preserved c =
    let done = c.loop-place.invariant.0 in
    let e : Entry = (c.in-Some.place.now, c.in-Some.field-0-1.now) in
    let on : starts_with nat_eq e.0.items c.args.prefix.now ≡ true = first_of (cc, grind arith) in
    let added : map tree_of c.add_key.new.keys.items ≡ with_any (map tree_of c.loop-place.keys.items) (key_text (drop (length c.args.prefix.now) e.0.items)) = first_of (cc, grind (arith, common_steps)) in (
      done ++ e ∷ [],
      c.loop-place.invariant.1 ∙ ap (λ fs. done ++ fs) c.in-Some.ensures.steps ∙ sym (append_assoc done (e ∷ []) c.next.new.self),
      added ∙ ap (λ ds. with_any ds (key_text (drop (length c.args.prefix.now) e.0.items))) c.loop-place.invariant.2 ∙ under-push c.args.prefix.now done e on,
    )
