use Rattle.std.proofs.Common.{map, ap, ◌∙◌}
use Rattle.std.specs.BTreeMap.{insert_entry}
use Rattle.rip_data.specs.Datum.{tree_of}
use Rattle.rip_store.specs.Held.{stored_in}
use Rattle.rip_store.specs.Places.{compare}
use Rattle.rip_store.proofs.PlaceLemmas.{shown, insert_entry-shown}
use Rattle.rip_store.proofs.places.Places.keep.Goals as goal

pub returns-clause-done : goal.returns-clause-done
returns-clause-done c =
    ap (map shown) c.in_ok-insert.ensures.entries
    ∙ insert_entry-shown c.args.self.now.held.entries c.args.place c.new.result
    ∙ ap (λ d. insert_entry compare (stored_in c.args.self.now) c.args.place.items (tree_of d)) c.new.ensures
