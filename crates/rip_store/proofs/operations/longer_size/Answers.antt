use Rattle.std.proofs.Common.{◌≡◌, ◌+◌, length, min, option_map, sym, ap, ◌∙◌, arith}
use Rattle.rip_data.specs.Datum.{tree_of, array, canonical_text}
use Rattle.rip_data.specs.declared.datum.DatumList.{out-DatumList}
use Rattle.rip_store.specs.Operations.{count, list_or_empty, with_last}
use Rattle.rip_store.specs.Outcomes.{elements_in}
use Rattle.rip_store.proofs.ListLemmas.{size-longer, with_item-list, count-with_last, count-elements_of}
use Rattle.rip_store.proofs.operations.longer_size.Goals as goal

pub returns : goal.returns
returns c =
    let es = elements_in c.in_ok-list.list.now in
    let v = tree_of c.args.value.now in
    let ds = (out-DatumList c.in_ok-list.list.now).items.items in
    let t = tree_of c.in-Some.held.now in
    let there = c.in_ok-list.ensures in
    let many : c.len.result + 1 ≡ count (with_last es v) = omega (arith, count-with_last es v, count-elements_of ds) in
    let size : c.bytes_with.result ≡ min (length (canonical_text (array (with_last es v)))) 18446744073709551615 = c.bytes_with.ensures ∙ ap (λ u. min (length (canonical_text u)) 18446744073709551615) (with_item-list t v es there) in
    size-longer _ es v (record { count = c.len.result + 1; length = c.bytes_with.result }) (ap (λ o. list_or_empty (option_map (λ m. tree_of m.now) o)) c.in-Some.is ∙ sym there) (record { count = many; length = size })
