use Rattle.std.proofs.Common.{◌≡◌, ◌<◌, ◌^◌, ℕ, [], true, None, Some, ap, arith, length, ◌∙◌, refl, slice_get, slice_index_or, subst, sym}
use Rattle.std.specs.Prelude.{is_some, map, remove, slice_index, slice_set}
use Rattle.std.proofs.lemmas.List.{length-map}
use Rattle.std.proofs.lemmas.Option.{slice_get-get_or}
use Rattle.rip_heap_region.specs.Pages.{Paged, slot_at}
use Rattle.rip_values.specs.Pool.{Texts}
use Rattle.rip_heap_region.specs.declared.chains.chain.Chain.{Chain}
use Rattle.rip_heap_region.specs.Chains.{AreHung, IfOneOf, IsChain, chain_at, places_of, properties_of}
use Rattle.rip_heap_region.proofs.ChainLemmas.{hung_by_links}
use Rattle.rip_heap_region.specs.NameIndex.{IsIndexAt, IsIndexOf}
use Rattle.rip_heap_region.specs.Blocks.{buckets_at}
use Rattle.rip_heap.specs.HeadSlots.{chain_in, index_in}
use Rattle.rip_heap.specs.Names.{place_of}
use Rattle.rip_heap.specs.Region.{AreIndexes, Kept, chains_in, listed, properties_here, with_properties, without}
use Rattle.rip_heap.proofs.RegionLemmas.{IsRehung, chain_is, filled_rehung, found_at, found_none, hung_held, index_linked, indexes_rehung, kept_list, left_without, links_all, listed_rehung, linked_there, objects_within, one_of, place_numbered, others_kept, rehung_of, room_stays, rows_rehung}
use Rattle.rip_heap.proofs.region.Region.remove_property.Goals as goal
use Rattle.rip_heap.proofs.region.Region.remove_property.Goals.{After-set}

none : (c : goal.In_default) → place_of c.args.pool.now c.args.name (properties_here c.args.self.now c.args.at) ≡ None
none c = found_none c.args.pool.now c.args.name c.args.self.now.pages c.args.at (objects_within c.args.self.now.pages c.args.at c.args.self.now refl c.requires.within) (sym c.find.ensures ∙ c.in_default.is)

pub returns-in_default-clause-found : goal.returns-in_default-clause-found
returns-in_default-clause-found c = ap is_some (sym (none c))

pub returns-in_default-clause-listed : goal.returns-in_default-clause-listed
returns-in_default-clause-listed c =
    kept_list c.args.self.now c.args.at _ (objects_within c.args.self.now.pages c.args.at c.args.self.now refl c.requires.within)
    (ap (without (properties_here c.args.self.now c.args.at)) (sym (none c)))

pub unlink-left-requires-clause-chain : goal.unlink-left-requires-clause-chain
unlink-left-requires-clause-chain c =
    let pages = c.self.inside.pages in
    let within = objects_within pages c.args.at c.args.self.now (ap (λ (k : Kept). k.pages) (sym c.self.view_is)) c.requires.within in
    (linked_there pages c.drop_name.new.pages.properties c.args.at c.chain_in-chain.result within (c.chain_in-chain.ensures ∙ ap chain_in c.get.ensures ∙ sym (chain_is pages c.args.at within)) c.drop_name.ensures.only c.self.invariant.chains).0

pub unlink-left-requires-clause-among : goal.unlink-left-requires-clause-among
unlink-left-requires-clause-among c =
    let pages = c.self.inside.pages in
    let within = objects_within pages c.args.at c.args.self.now (ap (λ (k : Kept). k.pages) (sym c.self.view_is)) c.requires.within in
    let chain = c.chain_in-chain.ensures ∙ ap chain_in c.get.ensures ∙ sym (chain_is pages c.args.at within) in
    let linked = linked_there pages c.drop_name.new.pages.properties c.args.at c.chain_in-chain.result within chain c.drop_name.ensures.only c.self.invariant.chains in
    let found : found_at pages c.args.at (place_of c.args.pool.now c.args.name (slice_index_or (map (properties_of pages.properties) (chains_in pages)) c.args.at [])) ≡ Some c.in-Some.place =
    subst (λ (k : Kept). found_at k.pages c.args.at (place_of c.args.pool.now c.args.name (properties_here k c.args.at)) ≡ Some c.in-Some.place) (sym c.self.view_is) (sym c.find.ensures ∙ c.in-Some.is) in
    let number = place_numbered pages c.args.at c.chain_in-chain.result _ c.in-Some.place chain found in
    one_of _ number.0 c.in-Some.place (ap (λ ps. slice_get ps number.0) linked.1 ∙ number.2)

here : (c : After-set) → c.args.at < length c.self.inside.pages.objects
here c = objects_within c.self.inside.pages c.args.at c.args.self.now (ap (λ (k : Kept). k.pages) (sym c.self.view_is)) c.requires.within

chain : (c : After-set) → c.chain_in-chain.result ≡ chain_at (chains_in c.self.inside.pages) c.args.at
chain c = c.chain_in-chain.ensures ∙ ap chain_in c.get.ensures ∙ sym (chain_is c.self.inside.pages c.args.at (here c))

linked : (c : After-set) → IsChain c.drop_name.new.pages.properties c.chain_in-chain.result
    × (places_of c.drop_name.new.pages.properties c.chain_in-chain.result ≡ places_of c.self.inside.pages.properties c.chain_in-chain.result)
    × (properties_of c.drop_name.new.pages.properties c.chain_in-chain.result ≡ properties_of c.self.inside.pages.properties c.chain_in-chain.result)
linked c = linked_there c.self.inside.pages c.drop_name.new.pages.properties c.args.at c.chain_in-chain.result (here c) (chain c) c.drop_name.ensures.only c.self.invariant.chains

-- the number of what is found
number : (c : After-set) → (n : ℕ) × (place_of c.args.pool.now c.args.name (slice_index_or (map (properties_of c.self.inside.pages.properties) (chains_in c.self.inside.pages)) c.args.at []) ≡ Some n)
    × (slice_get (places_of c.self.inside.pages.properties c.chain_in-chain.result) n ≡ Some c.in-Some.place)
number c =
    place_numbered c.self.inside.pages c.args.at c.chain_in-chain.result _ c.in-Some.place (chain c)
    (subst (λ (k : Kept). found_at k.pages c.args.at (place_of c.args.pool.now c.args.name (properties_here k c.args.at)) ≡ Some c.in-Some.place) (sym c.self.view_is) (sym c.find.ensures ∙ c.in-Some.is))

rehung : (c : After-set) → IsRehung c.self.inside.pages c.set.new.self c.args.at c.unlink-left.result c.index_in-index.result
rehung c =
    rehung_of c.self.inside.pages c.drop_name.new.pages c.unlink-left.new.pages c.set.new.self c.args.at c.with_chain.result c.get.result.now c.unlink-left.result c.index_in-index.result
    c.drop_name.ensures.row c.unlink-left.ensures.row c.set.ensures c.with_chain.ensures c.get.ensures

row : (c : After-set) → c.set.new.self.properties ≡ c.unlink-left.new.pages.properties
row c = ap (λ (p : Paged). p.properties) c.set.ensures

-- what hangs there in the end
hung : (c : After-set) → AreHung (slice_set (chains_in c.self.inside.pages) c.args.at c.unlink-left.result) c.set.new.self.properties
    (slice_set (map (places_of c.self.inside.pages.properties) (chains_in c.self.inside.pages)) c.args.at (remove (places_of c.self.inside.pages.properties c.chain_in-chain.result) (number c).0))
    (slice_set (map (properties_of c.self.inside.pages.properties) (chains_in c.self.inside.pages)) c.args.at (remove (properties_of c.self.inside.pages.properties c.chain_in-chain.result) (number c).0))
hung c =
    let pages = c.self.inside.pages in
    let before = hung_by_links (chains_in pages) pages.properties c.drop_name.new.pages.properties c.drop_name.ensures.only c.self.invariant.chains in
    let after = c.unlink-left.ensures.all (chains_in pages) c.args.at (number c).0
    (slice_get-get_or (chains_in pages) c.args.at (record { first = 0; last = 0; count = 0 }) (omega (arith, here c, length-map pages.objects chain_in)) ∙ ap Some (sym (chain c)))
    (ap (λ ps. slice_get ps (number c).0) (linked c).1 ∙ (number c).2) before.hang in
    subst (λ slots. AreHung (slice_set (chains_in pages) c.args.at c.unlink-left.result) slots
    (slice_set (map (places_of pages.properties) (chains_in pages)) c.args.at (remove (places_of pages.properties c.chain_in-chain.result) (number c).0))
    (slice_set (map (properties_of pages.properties) (chains_in pages)) c.args.at (remove (properties_of pages.properties c.chain_in-chain.result) (number c).0))) (sym (row c))
    (record {
      hang = after.hang;
      stand = after.stand ∙ (λ t. slice_set (before.stand t) c.args.at (remove ((linked c).1 t) (number c).0));
      hold = after.hold ∙ (λ t. slice_set (before.hold t) c.args.at (remove ((linked c).2 t) (number c).0));
    })

pub invariant_of-self : goal.invariant_of-self
invariant_of-self c =
    rows_rehung c.self.inside.pages c.set.new.self c.args.at c.unlink-left.result c.index_in-index.result c.self.inside.spent c.self.inside.spent c.self.inside.room _ _ (rehung c) (hung c)
    (subst (λ n. n < 2 ^ 28) (sym (c.index_in-index.ensures ∙ ap index_in c.get.ensures)) (c.self.invariant.numbered c.args.at))
    c.self.invariant.within
    (omega (
      arith,
      c.self.invariant.paid,
      filled_rehung c.self.inside.pages c.set.new.self c.args.at c.unlink-left.result c.index_in-index.result (rehung c),
      ap length (row c),
      c.unlink-left.ensures.size,
      c.drop_name.ensures.only.size,
      room_stays c.self.inside.pages c.drop_name.new.pages c.unlink-left.new.pages c.set.new.self c.args.at c.with_chain.result c.drop_name.ensures.row c.unlink-left.ensures.row c.set.ensures,
    ))
    c.self.invariant

pub returns-clause-found : goal.returns-clause-found
returns-clause-found c =
    subst (λ (k : Kept). true ≡ is_some (place_of c.args.pool.now c.args.name (properties_here k c.args.at))) c.self.view_is (ap is_some (sym (number c).1))

pub returns-clause-listed : goal.returns-clause-listed
returns-clause-listed c =
    subst (λ (k : Kept). listed (record { pages = c.set.new.self; rooms = record { spent = c.self.inside.spent; room = c.self.inside.room } })
    ≡ with_properties (listed k) c.args.at (without (properties_here k c.args.at) (place_of c.args.pool.now c.args.name (properties_here k c.args.at)))) c.self.view_is
    (listed_rehung c.self.inside.pages c.set.new.self (record { spent = c.self.inside.spent; room = c.self.inside.room }) (record { spent = c.self.inside.spent; room = c.self.inside.room }) c.args.at c.unlink-left.result c.index_in-index.result _ _ (rehung c)
    (hung_held _ _ _ _ _ c.args.at _ _ refl
    (ap (λ ch. remove (properties_of c.self.inside.pages.properties ch) (number c).0) (chain c) ∙ left_without c.self.inside.pages c.args.at _ (number c).0 (here c) (number c).1) (hung c)))

pub returns-clause-indexes : goal.returns-clause-indexes
returns-clause-indexes c p h =
    let pages = c.self.inside.pages in
    let known : AreIndexes p pages c.args.indexes.now.blocks = subst (λ (k : Kept). AreIndexes p k.pages c.args.indexes.now.blocks) (sym c.self.view_is) h in
    let number_is = c.index_in-index.ensures ∙ ap index_in c.get.ensures in
    let dropped = c.drop_name.ensures.index p (number c).0 (number c).2
    (subst (λ n. IsIndexAt p pages.properties (places_of pages.properties c.chain_in-chain.result) (properties_of pages.properties c.chain_in-chain.result) c.args.indexes.now.blocks n c.args.at) (sym number_is)
    (subst (λ ch. IsIndexAt p pages.properties (places_of pages.properties ch) (properties_of pages.properties ch) c.args.indexes.now.blocks (index_in (slot_at pages.objects c.args.at)) c.args.at) (sym (chain c)) (known c.args.at (here c)))) in
    indexes_rehung p pages c.set.new.self c.args.at c.unlink-left.result c.index_in-index.result
    (remove (places_of pages.properties c.chain_in-chain.result) (number c).0) (remove (properties_of pages.properties c.chain_in-chain.result) (number c).0)
    c.args.indexes.now.blocks c.drop_name.new.self.blocks (rehung c) (hung c)
    (λ i k q lt ne found. ap (λ slots. (slot_at slots q).link) (row c)
    ∙ links_all c.drop_name.new.pages.properties c.unlink-left.new.pages.properties c.unlink-left.ensures.size c.unlink-left.ensures.links q
    ∙ others_kept pages c.drop_name.new.pages.properties c.args.at c.chain_in-chain.result (here c) (chain c) c.self.invariant.chains c.drop_name.ensures.links i k q lt ne found)
    c.drop_name.ensures.others known
    (index_linked p c.drop_name.new.pages.properties c.set.new.self.properties (remove (places_of pages.properties c.chain_in-chain.result) (number c).0) (remove (properties_of pages.properties c.chain_in-chain.result) (number c).0)
    (buckets_at c.drop_name.new.self.blocks c.index_in-index.result c.args.at) dropped
    (λ k inside. ap (λ slots. (slot_at slots (slice_index (remove (places_of pages.properties c.chain_in-chain.result) (number c).0) k)).link) (row c)
    ∙ links_all c.drop_name.new.pages.properties c.unlink-left.new.pages.properties c.unlink-left.ensures.size c.unlink-left.ensures.links _))
