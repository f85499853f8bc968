use Rattle.std.proofs.Common.{map, ap, ◌∙◌}
use Rattle.rip_store.proofs.PlaceLemmas.{shown, remove_entry-shown}
use Rattle.rip_store.proofs.places.Places.remove.Goals as goal

pub returns : goal.returns
returns c = ap (map shown) c.remove.ensures.entries ∙ remove_entry-shown c.args.place.now c.args.self.now.held.entries
