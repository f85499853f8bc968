use Rattle.std.proofs.Common.{◌≡◌, [], ◌∷◌, ◌++◌, ◌+◌, take, map, string_bytes, ap₂, arith, sym, ap, ◌∙◌, subst, rules, append_assoc, append-nil}
use Rattle.std.proofs.lemmas.Grind.{common_steps}
use Rattle.std.proofs.lemmas.List.{map-append}
use Rattle.std.proofs.lemmas.Result.{err_from_is_err_and}
use Rattle.serde_json.specs.Data as json
use Rattle.serde_json.specs.View.{view, items_view, members_view}
use Rattle.serde_json.specs.View as value
use Rattle.serde_json.specs.declared.value.Value.{the_lemmas}
use Rattle.serde_json.proofs.Views.{Entry, view-Array, view-Object}
use Rattle.rip_data.specs.Datum.{tree_of, data_of, text, array, elements_of, utf8_of, AreInOrder}
use Rattle.rip_data.specs.Reading.{items_whole, members_whole}
use Rattle.rip_data.specs.Written.{AreElements, AreFields}
use Rattle.rip_data.specs.declared.datum.Datum.{Datum, Text, List, Fields}
use Rattle.rip_data.specs.declared.datum.Datum as datum
use Rattle.rip_data.specs.declared.datum.Datum.TheViews.{roll-DatumList}
use Rattle.rip_data.proofs.DataLemmas.{tree_of-Fields, utf8_of-IsSameText, IsUtf16-IsSameText, items_of-elements, AreElements-push, items_whole-at, seen, shown, fields_data-members_view, AreFields-push, AreInOrder-members_view, members_whole-among}
use Rattle.rip_data.proofs.read.+convert.Goals as goal

pub datum_of-returns-in_ok-units_of-in-String-clause-data : goal.datum_of-returns-in_ok-units_of-in-String-clause-data
datum_of-returns-in_ok-units_of-in-String-clause-data t c =
    let is : json.string c.as_str.result.now ≡ view c.args.value.now = rw c.in-String.is (search (rules, the_lemmas)) in
    let made : tree_of (Text c.in_ok-units_of-in-String.field-0) ≡ text c.in_ok-units_of-in-String.field-0 = search (rules, datum.the_lemmas) in
    ap data_of made ∙ ap json.string (utf8_of-IsSameText _ _ c.in_ok-units_of-in-String.ensures.same) ∙ is

pub datum_of-returns-in_ok-items-in-Array-clause-data : goal.datum_of-returns-in_ok-items-in-Array-clause-data
datum_of-returns-in_ok-items-in-Array-clause-data t c =
    let v = c.in_ok-items-in-Array.items in
    let made : tree_of (List (roll-DatumList (record { items = v }))) ≡ array (elements_of (map tree_of v.items)) = search (rules, datum.the_lemmas) in
    ap data_of made ∙ ap json.array (items_of-elements v.items ∙ ap value.items_of c.in_ok-items-in-Array.ensures.data)
    ∙ sym (ap view c.in-Array.is ∙ view-Array c.in-Array.items)

pub datum_of-returns-in_ok-fields-in-Object-clause-data : goal.datum_of-returns-in_ok-fields-in-Object-clause-data
datum_of-returns-in_ok-fields-in-Object-clause-data t c =
    let v = c.in_ok-fields-in-Object.fields in
    ap data_of (tree_of-Fields v) ∙ ap json.object c.in_ok-fields-in-Object.ensures.data ∙ sym (ap view c.in-Object.is ∙ view-Object c.in-Object.members)

pub elements_of-returns-in_err-datum_of-clause-refused : goal.elements_of-returns-in_err-datum_of-clause-refused
elements_of-returns-in_err-datum_of-clause-refused t c =
    let p = err_from_is_err_and c.from_residual-in_err-datum_of.result c.from_residual-in_err-datum_of.ensures.1 in
    let vs : c.deref-item-items.result.now ≡ c.args.items.now.items = c.deref-item-items.ensures.value in
    rw p.1 (λ other.
    let refused = c.in_err-datum_of.ensures.refused (λ m. other (p.2 ∙ m)) in (
      p.2 ∙ refused.0,
      ap (λ xs. items_whole (items_view xs)) (sym vs) ∙ items_whole-at c.deref-item-items.result.now c.loop-item.item-index c.item-item.result (omega arith) c.item-item.is refused.1,
    ))

pub elements_of-loop-item-preserved : goal.elements_of-loop-item-preserved
elements_of-loop-item-preserved t c =
    let same : map (λ d. data_of (tree_of d)) c.push.new.self.items ≡ map view (take (c.loop-item.item-index + 1) c.deref-item-items.result.now) = grind (arith, common_steps) in (
      same,
      subst AreElements (sym c.in_ok-push.ensures.items) (AreElements-push _ _ c.loop-item.invariant.1 c.in_ok-datum_of.ensures.made),
    )

pub fields_of-returns-in_err-datum_of-clause-refused : goal.fields_of-returns-in_err-datum_of-clause-refused
fields_of-returns-in_err-datum_of-clause-refused t c =
    let p = err_from_is_err_and c.from_residual-in_err-datum_of.result c.from_residual-in_err-datum_of.ensures.1 in
    let done = c.loop-name.invariant.0 in
    let e : Entry = (c.in-Some.name.now, c.in-Some.member.now) in
    let left = c.next.new.self in
    let all : c.args.members.now.entries ≡ done ++ e ∷ left = c.loop-name.invariant.1 ∙ ap (λ es. done ++ es) c.in-Some.ensures.steps in
    rw p.1 (λ other.
    let refused = c.in_err-datum_of.ensures.refused (λ m. other (p.2 ∙ m)) in (
      p.2 ∙ refused.0,
      ap (λ es. members_whole (members_view es)) all ∙ members_whole-among done e left refused.1,
    ))

pub fields_of-loop-name-preserved : goal.fields_of-loop-name-preserved
fields_of-loop-name-preserved t c =
    let done = c.loop-name.invariant.0 in
    let e : Entry = (c.in-Some.name.now, c.in-Some.member.now) in
    let left = c.next.new.self in
    let all : c.args.members.now.entries ≡ done ++ e ∷ left = c.loop-name.invariant.1 ∙ ap (λ es. done ++ es) c.in-Some.ensures.steps in
    let same = c.in_ok-name.ensures.same in
    let named : utf8_of c.in_ok-name.name ≡ string_bytes e.0 = utf8_of-IsSameText _ _ same ∙ c.as_str.ensures.value in
    let new : seen (c.in_ok-name.name, c.in_ok-datum_of.field-0) ≡ shown e = ap₂ (λ k d. (k, d)) named c.in_ok-datum_of.ensures.data in (
      done ++ e ∷ [],
      all ∙ sym (append_assoc done (e ∷ []) left),
      ap (map seen) c.in_ok-push.ensures.items ∙ map-append seen c.loop-name.made.items _ ∙ ap₂ (λ xs x. xs ++ x ∷ []) c.loop-name.invariant.2 new ∙ sym (map-append shown done (e ∷ [])),
      subst AreFields (sym c.in_ok-push.ensures.items) (AreFields-push _ _ _ c.loop-name.invariant.3 (IsUtf16-IsSameText _ _ same) c.in_ok-datum_of.ensures.made),
    )

pub fields_of-returns-clause-data : goal.fields_of-returns-clause-data
fields_of-returns-clause-data t c =
    let done = c.loop-name.invariant.0 in
    let all : c.args.members.now.entries ≡ done = c.loop-name.invariant.1 ∙ ap (λ es. done ++ es) c.in-None.ensures.steps.0 ∙ append-nil done in
    fields_data-members_view _ _ c.loop-name.invariant.2 ∙ ap members_view (sym all)

pub fields_of-returns-clause-order : goal.fields_of-returns-clause-order
fields_of-returns-clause-order t c =
    let done = c.loop-name.invariant.0 in
    let all : c.args.members.now.entries ≡ done = c.loop-name.invariant.1 ∙ ap (λ es. done ++ es) c.in-None.ensures.steps.0 ∙ append-nil done in
    subst AreInOrder (sym (fields_data-members_view _ _ c.loop-name.invariant.2 ∙ ap members_view (sym all)))
    (AreInOrder-members_view _ c.iter-name-items.ensures.ordered)
