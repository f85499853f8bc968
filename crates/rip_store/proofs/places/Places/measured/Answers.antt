use Rattle.std.proofs.Common.{ap, ◌∙◌}
use Rattle.std.specs.Prelude.{option_map}
use Rattle.rip_data.specs.Datum.{tree_of}
use Rattle.rip_store.proofs.PlaceLemmas.{lookup-shown, shown-copied}
use Rattle.rip_store.proofs.places.Places.measured.Goals as goal

pub returns : goal.returns
returns c =
    shown-copied c.get.result ∙ ap (option_map tree_of) c.get.ensures.value ∙ lookup-shown c.args.place.now c.args.self.now.held.entries
