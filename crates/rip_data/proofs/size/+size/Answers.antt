use Rattle.std.proofs.Common.{◌≡◌, ◌+◌, ◌==◌, cond, [], length, drop, map, sym, ap, ◌∙◌, arith}
use Rattle.std.proofs.lemmas.List.{drop_all}
use Rattle.rip_data.specs.Datum.{tree_of, array, object, elements_of, fields_of, canonical_text}
use Rattle.rip_data.specs.Written.{elements_length, elements_nesting, fields_length, fields_nesting}
use Rattle.rip_data.proofs.DataLemmas.{tree_of-array, tree_of-object}
use Rattle.rip_data.proofs.SizeLemmas.{array-length, object-length}
use Rattle.rip_data.proofs.size.+size.Goals as goal

pub datum_size-returns-in-List-clause-length : goal.datum_size-returns-in-List-clause-length
datum_size-returns-in-List-clause-length t c =
    let ds = c.in-List.list.items.items in
    let text : length (canonical_text (tree_of c.args.d.now)) ≡ length (canonical_text (array (elements_of (map tree_of ds)))) =
    ap (λ d. length (canonical_text (tree_of d))) c.in-List.is ∙ ap (λ t. length (canonical_text t)) (tree_of-array c.in-List.list) in
    let all : length (canonical_text (tree_of c.args.d.now)) ≡ elements_length ds + cond (c.elements_size.result.length == 0) 2 1 =
    text ∙ array-length ds ∙ ap (λ n. elements_length ds + cond (n == 0) 2 1) (sym c.elements_size.ensures.length) in
    omega (arith, all, c.around.ensures.length, c.elements_size.ensures.length)

pub datum_size-returns-in-Fields-clause-length : goal.datum_size-returns-in-Fields-clause-length
datum_size-returns-in-Fields-clause-length t c =
    let fs = c.in-Fields.object.fields.items in
    let text : length (canonical_text (tree_of c.args.d.now)) ≡ length (canonical_text (object (fields_of (map (λ f. (f.0, tree_of f.1)) fs)))) =
    ap (λ d. length (canonical_text (tree_of d))) c.in-Fields.is ∙ ap (λ t. length (canonical_text t)) (tree_of-object c.in-Fields.object) in
    let all : length (canonical_text (tree_of c.args.d.now)) ≡ fields_length fs + cond (c.fields_size.result.length == 0) 2 1 =
    text ∙ object-length fs ∙ ap (λ n. fields_length fs + cond (n == 0) 2 1) (sym c.fields_size.ensures.length) in
    omega (arith, all, c.around-in-Fields.ensures.length, c.fields_size.ensures.length)

pub elements_size-returns-clause-length : goal.elements_size-returns-clause-length
elements_size-returns-clause-length t c =
    let l = c.loop-item in
    let xs = c.deref-item-items.result.now in
    let none : drop l.item-index xs ≡ [] = drop_all l.item-index xs (omega arith) in
    omega (arith, l.invariant.0, ap elements_length none, ap elements_length c.deref-item-items.ensures.value)

pub elements_size-returns-clause-depth : goal.elements_size-returns-clause-depth
elements_size-returns-clause-depth t c =
    let l = c.loop-item in
    let xs = c.deref-item-items.result.now in
    let none : drop l.item-index xs ≡ [] = drop_all l.item-index xs (omega arith) in
    omega (arith, l.invariant.1, ap elements_nesting none, ap elements_nesting c.deref-item-items.ensures.value)

pub fields_size-returns-clause-length : goal.fields_size-returns-clause-length
fields_size-returns-clause-length t c =
    let l = c.loop-field in
    let xs = c.deref-field-items.result.now in
    let none : drop l.field-index xs ≡ [] = drop_all l.field-index xs (omega arith) in
    omega (arith, l.invariant.0, ap fields_length none, ap fields_length c.deref-field-items.ensures.value)

pub fields_size-returns-clause-depth : goal.fields_size-returns-clause-depth
fields_size-returns-clause-depth t c =
    let l = c.loop-field in
    let xs = c.deref-field-items.result.now in
    let none : drop l.field-index xs ≡ [] = drop_all l.field-index xs (omega arith) in
    omega (arith, l.invariant.1, ap fields_nesting none, ap fields_nesting c.deref-field-items.ensures.value)
