use Rattle.std.proofs.Common.{◌≤◌, ◌<◌, map, length, Some, ap, ◌∙◌, arith}
use Rattle.std.proofs.lemmas.Bool.Decides.{nat_tests}
use Rattle.rip_data.specs.Datum.{tree_of, array, elements_of, canonical_text}
use Rattle.rip_data.proofs.DataLemmas.{tree_of-List}
use Rattle.rip_store.proofs.operations.short_list.Goals as goal

pub returns-then-datum_size-gt-MAX_LENGTH : goal.returns-then-datum_size-gt-MAX_LENGTH
returns-then-datum_size-gt-MAX_LENGTH c =
    let is = tree_of-List c.args.items in
    let long : 16384 < length (canonical_text (array (elements_of (map tree_of c.args.items.items)))) =
    omega (arith, c.datum_size.ensures.length, ap (λ t. length (canonical_text t)) is) in
    grind (arith, nat_tests, long)

pub returns : goal.returns
returns c =
    let is = tree_of-List c.args.items in
    let short : length (canonical_text (array (elements_of (map tree_of c.args.items.items)))) ≤ 16384 =
    omega (arith, c.datum_size.ensures.length, ap (λ t. length (canonical_text t)) is) in
    ap Some is ∙ grind (arith, nat_tests, short)
