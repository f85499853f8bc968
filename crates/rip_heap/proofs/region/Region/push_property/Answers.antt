use Rattle.std.proofs.Common.{◌≡◌, ◌≢◌, ◌+◌, ◌<◌, ℕ, [], ◌∷◌, ◌++◌, List, ap, arith, length, ◌∙◌, refl, slice_get, slice_index_or, subst, sym, Some}
use Rattle.std.specs.Prelude.{map, slice_set}
use Rattle.std.proofs.lemmas.List.{length-map}
use Rattle.std.proofs.lemmas.Option.{slice_get-get_or}
use Rattle.rip_heap_region.specs.declared.pages.slot.Slot.{Slot}
use Rattle.rip_heap_region.specs.declared.pages.property.Property.{Property}
use Rattle.rip_heap_region.specs.Pages.{Paged, slot_at}
use Rattle.rip_heap_region.specs.Chains.{AreHung, chain_at, places_of, properties_of}
use Rattle.rip_heap_region.specs.NameIndex.{IsIndexAt}
use Rattle.rip_heap.specs.HeadSlots.{chain_in, index_in, with_chain}
use Rattle.rip_heap.specs.Region.{AreIndexes, Kept, chains_in, listed, properties_here, with_properties}
use Rattle.rip_heap.specs.Rooms.{spending}
use Rattle.rip_heap.proofs.RegionLemmas.{IsRehung, chain_here, chain_is, filled_rehung, hung_linked, indexes_rehung, listed_rehung, objects_within, others_linked, properties_are, rehung_of, renew_ready, room_stays, rows_rehung}
use Rattle.rip_heap.proofs.region.Region.push_property.Goals as goal

pub renew-index-requires-clause-index : goal.renew-index-requires-clause-index
renew-index-requires-clause-index c =
    let pages = c.self.inside.pages in
    let within = objects_within pages c.args.at c.args.self.now (ap (λ (k : Kept). k.pages) (sym c.self.view_is)) c.requires.within in
    let slot = c.get.ensures in
    let chain = c.chain_in.ensures ∙ ap chain_in slot in
    let known = subst (λ (k : Kept). AreIndexes c.args.pool.now k.pages c.args.indexes.now.blocks) (sym c.self.view_is) c.requires.indexes in
    renew_ready c.args.pool.now pages.properties c.push-chain.new.pages.properties c.chain_in.result c.push-chain.result c.args.property c.args.indexes.now.blocks c.index_in-index.result c.args.at
    (chain_here pages c.args.at c.chain_in.result within chain c.self.invariant.chains) c.push-chain.ensures.links c.push-chain.ensures.places c.push-chain.ensures.properties c.push-chain.ensures.count
    (subst (λ n. IsIndexAt c.args.pool.now pages.properties (places_of pages.properties c.chain_in.result) (properties_of pages.properties c.chain_in.result) c.args.indexes.now.blocks n c.args.at)
    (sym (c.index_in-index.ensures ∙ ap index_in slot))
    (subst (λ ch. IsIndexAt c.args.pool.now pages.properties (places_of pages.properties ch) (properties_of pages.properties ch) c.args.indexes.now.blocks (index_in (slot_at pages.objects c.args.at)) c.args.at)
    (chain_is pages c.args.at within ∙ sym chain) (known c.args.at within)))

here : (c : goal.After-self-1) → c.args.at < length c.self.inside.pages.objects
here c = objects_within c.self.inside.pages c.args.at c.args.self.now (ap (λ (k : Kept). k.pages) (sym c.self.view_is)) c.requires.within

chain : (c : goal.After-self-1) → c.chain_in.result ≡ chain_at (chains_in c.self.inside.pages) c.args.at
chain c = c.chain_in.ensures ∙ ap chain_in c.get.ensures ∙ sym (chain_is c.self.inside.pages c.args.at (here c))

rehung : (c : goal.After-self-1) → IsRehung c.self.inside.pages c.set.new.self c.args.at c.push-chain.result c.renew-index.result
rehung c =
    rehung_of c.self.inside.pages c.push-chain.new.pages c.renew-index.new.pages c.set.new.self c.args.at c.with_chain.result c.get.result.now c.push-chain.result c.renew-index.result
    c.push-chain.ensures.row c.renew-index.ensures.row c.set.ensures c.with_chain.ensures c.get.ensures

row : (c : goal.After-self-1) → c.set.new.self.properties ≡ c.renew-index.new.pages.properties
row c = ap (λ (p : Paged). p.properties) c.set.ensures

-- what hangs there in the end
hung : (c : goal.After-self-1) → AreHung (slice_set (chains_in c.self.inside.pages) c.args.at c.push-chain.result) c.set.new.self.properties
    (slice_set (map (places_of c.self.inside.pages.properties) (chains_in c.self.inside.pages)) c.args.at (places_of c.self.inside.pages.properties c.chain_in.result ++ length c.self.inside.pages.properties ∷ []))
    (slice_set (map (properties_of c.self.inside.pages.properties) (chains_in c.self.inside.pages)) c.args.at (properties_of c.self.inside.pages.properties c.chain_in.result ++ c.args.property ∷ []))
hung c =
    subst (λ slots. AreHung (slice_set (chains_in c.self.inside.pages) c.args.at c.push-chain.result) slots
    (slice_set (map (places_of c.self.inside.pages.properties) (chains_in c.self.inside.pages)) c.args.at (places_of c.self.inside.pages.properties c.chain_in.result ++ length c.self.inside.pages.properties ∷ []))
    (slice_set (map (properties_of c.self.inside.pages.properties) (chains_in c.self.inside.pages)) c.args.at (properties_of c.self.inside.pages.properties c.chain_in.result ++ c.args.property ∷ [])))
    (sym (row c))
    (hung_linked _ c.push-chain.new.pages.properties c.renew-index.new.pages.properties _ _ c.renew-index.ensures.only
    (c.push-chain.ensures.all (chains_in c.self.inside.pages) c.args.at
    (slice_get-get_or (chains_in c.self.inside.pages) c.args.at (record { first = 0; last = 0; count = 0 }) (omega (arith, here c, length-map c.self.inside.pages.objects chain_in)) ∙ ap Some (sym (chain c)))
    c.self.invariant.chains))

pub invariant_of-self : goal.invariant_of-self
invariant_of-self c =
    rows_rehung c.self.inside.pages c.set.new.self c.args.at c.push-chain.result c.renew-index.result c.self.inside.spent (c.self.inside.spent + 1) c.self.inside.room _ _ (rehung c) (hung c) c.renew-index.ensures.number
    (omega (arith, room))
    (omega (
      arith,
      room,
      c.self.invariant.paid,
      filled_rehung c.self.inside.pages c.set.new.self c.args.at c.push-chain.result c.renew-index.result (rehung c),
      ap length (row c),
      c.renew-index.ensures.only.size,
      c.push-chain.ensures.one,
      room_stays c.self.inside.pages c.push-chain.new.pages c.renew-index.new.pages c.set.new.self c.args.at c.with_chain.result c.push-chain.ensures.row c.renew-index.ensures.row c.set.ensures,
    ))
    c.self.invariant
  where
    room : c.self.inside.spent < c.self.inside.room
    room = subst (λ (k : Kept). k.rooms.spent < k.rooms.room) (sym c.self.view_is) c.requires.room

pub returns-clause-listed : goal.returns-clause-listed
returns-clause-listed c =
    subst (λ (k : Kept). listed (record { pages = c.set.new.self; rooms = record { spent = c.self.inside.spent + 1; room = c.self.inside.room } })
    ≡ record (with_properties (listed k) c.args.at (properties_here k c.args.at ++ c.args.property ∷ [])) { rooms = spending 1 k.rooms }) c.self.view_is
    (listed_rehung c.self.inside.pages c.set.new.self (record { spent = c.self.inside.spent; room = c.self.inside.room }) (record { spent = c.self.inside.spent + 1; room = c.self.inside.room }) c.args.at c.push-chain.result c.renew-index.result _
    (properties_here (record { pages = c.self.inside.pages; rooms = record { spent = c.self.inside.spent; room = c.self.inside.room } }) c.args.at ++ c.args.property ∷ []) (rehung c)
    (subst (λ ps. AreHung (slice_set (chains_in c.self.inside.pages) c.args.at c.push-chain.result) c.set.new.self.properties
    (slice_set (map (places_of c.self.inside.pages.properties) (chains_in c.self.inside.pages)) c.args.at (places_of c.self.inside.pages.properties c.chain_in.result ++ length c.self.inside.pages.properties ∷ []))
    (slice_set (map (properties_of c.self.inside.pages.properties) (chains_in c.self.inside.pages)) c.args.at (ps ++ c.args.property ∷ [])))
    (ap (properties_of c.self.inside.pages.properties) (chain c) ∙ sym (properties_are c.self.inside.pages c.args.at (here c))) (hung c)))

pub returns-clause-indexes : goal.returns-clause-indexes
returns-clause-indexes c =
    indexes_rehung c.args.pool.now c.self.inside.pages c.set.new.self c.args.at c.push-chain.result c.renew-index.result
    (places_of c.self.inside.pages.properties c.chain_in.result ++ length c.self.inside.pages.properties ∷ []) (properties_of c.self.inside.pages.properties c.chain_in.result ++ c.args.property ∷ [])
    c.args.indexes.now.blocks c.renew-index.new.self.blocks (rehung c) (hung c)
    (λ i k p lt ne found. ap (λ slots. (slot_at slots p).link) (row c)
    ∙ others_linked c.self.inside.pages c.push-chain.new.pages.properties c.renew-index.new.pages.properties c.args.at c.chain_in.result (places_of c.push-chain.new.pages.properties c.push-chain.result) (here c) (chain c)
    c.self.invariant.chains (omega (arith, c.push-chain.ensures.one)) c.push-chain.ensures.links c.push-chain.ensures.places c.renew-index.ensures.links i k p lt ne found)
    c.renew-index.ensures.others
    (subst (λ (k : Kept). AreIndexes c.args.pool.now k.pages c.args.indexes.now.blocks) (sym c.self.view_is) c.requires.indexes)
    (subst (λ slots. IsIndexAt c.args.pool.now slots (places_of c.self.inside.pages.properties c.chain_in.result ++ length c.self.inside.pages.properties ∷ []) (properties_of c.self.inside.pages.properties c.chain_in.result ++ c.args.property ∷ []) c.renew-index.new.self.blocks c.renew-index.result c.args.at)
    (sym (row c))
    (subst (λ ps. IsIndexAt c.args.pool.now c.renew-index.new.pages.properties ps (properties_of c.self.inside.pages.properties c.chain_in.result ++ c.args.property ∷ []) c.renew-index.new.self.blocks c.renew-index.result c.args.at) c.push-chain.ensures.places
    (subst (λ qs. IsIndexAt c.args.pool.now c.renew-index.new.pages.properties (places_of c.push-chain.new.pages.properties c.push-chain.result) qs c.renew-index.new.self.blocks c.renew-index.result c.args.at) c.push-chain.ensures.properties
    c.renew-index.ensures.index)))
