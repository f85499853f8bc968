use Rattle.std.proofs.Common.{◌≡◌, ◌<◌, length, ap, ◌∙◌, slice_get, subst, sym}
use Rattle.std.specs.Prelude.{option_and_then}
use Rattle.rip_heap.specs.HeadSlots.{chain_in}
use Rattle.rip_heap.specs.Names.{place_of}
use Rattle.rip_heap.specs.Region.{Kept, listed, places_here, properties_here}
use Rattle.rip_heap.proofs.RegionLemmas.{found_here, objects_within}
use Rattle.rip_heap.proofs.region.Region.find.Goals as goal

pub returns-then-has : goal.returns-then-has
returns-then-has c =
    let within = objects_within c.self.inside.pages c.args.at c.args.self.now (ap (λ (k : Kept). k.pages) (sym c.self.view_is)) c.requires.within in
    subst (λ (k : Kept). c.find.result ≡ option_and_then (slice_get (places_here k c.args.at)) (place_of c.args.pool.now c.args.name (properties_here k c.args.at))) c.self.view_is
    (c.find.ensures ∙ found_here c.args.pool.now c.self.inside.pages c.args.at c.chain_in-chain.result c.args.name within (c.chain_in-chain.ensures ∙ ap chain_in c.get-slot.ensures))

pub returns-else-has : goal.returns-else-has
returns-else-has c =
    let within = objects_within c.self.inside.pages c.args.at c.args.self.now (ap (λ (k : Kept). k.pages) (sym c.self.view_is)) c.requires.within in
    subst (λ (k : Kept). c.find-else-has.result ≡ option_and_then (slice_get (places_here k c.args.at)) (place_of c.args.pool.now c.args.name (properties_here k c.args.at))) c.self.view_is
    (c.find-else-has.ensures ∙ found_here c.args.pool.now c.self.inside.pages c.args.at c.chain_in-chain.result c.args.name within (c.chain_in-chain.ensures ∙ ap chain_in c.get-slot.ensures))
