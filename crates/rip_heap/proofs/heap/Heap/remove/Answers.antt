use Rattle.std.proofs.Common.{◌∙◌, ap, slice_get}
use Rattle.std.specs.Prelude.{is_some}
use Rattle.rip_heap.specs.declared.heap.HeapParts.{HeapParts}
use Rattle.rip_heap.specs.NamedObjects.{edited}
use Rattle.rip_heap.specs.Region.{without}
use Rattle.rip_heap.specs.World.{World}
use Rattle.rip_heap.proofs.PlaceLemmas.{place_in, removed_stands, some_own, world_of}
use Rattle.rip_heap.proofs.heap.Heap.remove.Goals as goal

pub returns-clause-gone : goal.returns-clause-gone
returns-clause-gone c =
    let w = c.args.self.now in
    let name = c.args.name in
    let at = c.in-Some.at in
    let whole = ap (λ (parts : HeapParts). world_of c.self.inside.limit c.self.inside.used parts.named) c.deref_mut.ensures.value ∙ c.self.view_is in
    c.remove.ensures.found
    ∙ ap (λ (x : World). is_some (place_in x.pool name (slice_get x.objects at))) whole
    ∙ some_own w c.args.object name (slice_get w.objects at) c.in-Some.ensures.2

pub returns-clause-left : goal.returns-clause-left
returns-clause-left c =
    let w = c.args.self.now in
    let name = c.args.name in
    let at = c.in-Some.at in
    let whole = ap (λ (parts : HeapParts). world_of c.self.inside.limit c.self.inside.used parts.named) c.deref_mut.ensures.value ∙ c.self.view_is in
    ap (world_of c.self.inside.limit c.self.inside.used) c.remove.ensures.edited
    ∙ ap (λ (x : World). record x { objects = edited x.objects at (λ o. record o { properties = without o.properties (place_in x.pool name (slice_get x.objects at)) }) (slice_get x.objects at) }) whole
    ∙ removed_stands w c.args.object at name c.in-Some.ensures.0 c.in-Some.ensures.2
