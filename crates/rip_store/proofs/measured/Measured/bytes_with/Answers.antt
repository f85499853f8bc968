use Rattle.std.proofs.Common.{◌≡◌, ◌<◌, length, map, min, sym, ap, ◌∙◌, arith}
use Rattle.std.proofs.lemmas.Bool.Decides.{nat_tests}
use Rattle.rip_data.specs.Datum.{tree_of, array, elements_of, canonical_text}
use Rattle.rip_data.specs.declared.datum.DatumList.{out-DatumList}
use Rattle.rip_data.proofs.DataLemmas.{tree_of-array}
use Rattle.rip_store.proofs.ListLemmas.{bytes-with_item}
use Rattle.rip_store.proofs.measured.Measured.bytes_with.Goals as goal
use Rattle.rip_store.proofs.measured.Measured.bytes_with.Goals.{then-is_empty, else-is_empty}

pub returns-after-is_empty : goal.returns-after-is_empty
returns-after-is_empty c =
    let ds = (out-DatumList c.in-List.list).items.items in
    let is : tree_of c.args.self.now ≡ array (elements_of (map tree_of ds)) = ap tree_of (sym c.self.view_is ∙ c.in-List.is) ∙ tree_of-array c.in-List.list in
    let none : length ds ≡ 0 → c.if-is_empty.comma ≡ 0 = λ e. elim c.if-is_empty.branch [
      | then-is_empty w ↦ w.comma-is
      | else-is_empty w ↦ let t = w.if-is_empty in grind (arith, nat_tests)
    ] in
    let some : 0 < length ds → c.if-is_empty.comma ≡ 1 = λ e. elim c.if-is_empty.branch [
      | then-is_empty w ↦ let t = w.if-is_empty in grind (arith, nat_tests)
      | else-is_empty w ↦ w.comma-is
    ] in
    bytes-with_item (tree_of c.args.self.now) (tree_of c.args.item.now) ds c.self.inside.bytes c.if-is_empty.comma c.saturating_add-before.result c.datum_size.result.length c.saturating_add.result is
    (c.self.invariant ∙ ap (λ d. min (length (canonical_text (tree_of d))) 18446744073709551615) c.self.view_is)
    none some c.saturating_add-before.ensures c.datum_size.ensures.length c.saturating_add.ensures
