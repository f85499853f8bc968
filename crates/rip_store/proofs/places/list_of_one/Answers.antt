use Rattle.std.proofs.Common.{◌≡◌, [], ◌∷◌, ◌++◌, map, ap, ◌∙◌}
use Rattle.rip_data.specs.Datum.{tree_of, array, elements_of}
use Rattle.rip_data.proofs.DataLemmas.{tree_of-List}
use Rattle.rip_store.proofs.places.list_of_one.Goals as goal

pub returns : goal.returns
returns c =
    let items : c.push.new.self.items ≡ c.args.item ∷ [] = c.in_ok-push.ensures.items ∙ ap (λ ds. ds ++ c.args.item ∷ []) c.new-items.ensures.items in
    tree_of-List c.push.new.self ∙ ap (λ ds. array (elements_of (map tree_of ds))) items
