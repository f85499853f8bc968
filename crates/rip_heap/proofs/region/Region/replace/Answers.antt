use Rattle.std.proofs.Common.{◌≡◌, ◌<◌, ℕ, [], ap, arith, false, length, ◌∙◌, refl, slice_get, slice_index_or, subst, sym, None, Some}
use Rattle.std.specs.Prelude.{is_some, map, slice_set}
use Rattle.std.proofs.lemmas.List.{length-map}
use Rattle.std.proofs.lemmas.Option.{slice_get-get_or}
use Rattle.rip_heap_region.specs.Chains.{AreHung, chain_at, places_of, properties_of}
use Rattle.rip_heap_region.specs.Chains.{with_value as chain_with_value}
use Rattle.rip_heap.specs.HeadSlots.{chain_in}
use Rattle.rip_heap.specs.Names.{place_of}
use Rattle.rip_heap.specs.Region.{IndexesStay, Kept, chains_in, listed, properties_here, valued, with_properties}
use Rattle.rip_heap.proofs.RegionLemmas.{found_at, found_none, found_within, hung_held, indexes_valued, kept_list, listed_valued, number_of, objects_within, rows_valued, value_set, values_alike}
use Rattle.rip_heap.proofs.region.Region.replace.Goals as goal

here : (c : goal.After-set_value) → c.args.at < length c.self.inside.pages.objects
here c = objects_within c.self.inside.pages c.args.at c.args.self.now (ap (λ (k : Kept). k.pages) (sym c.self.view_is)) c.requires.within

-- what is looked for is found there
found : (c : goal.After-set_value) → found_at c.self.inside.pages c.args.at (place_of c.args.pool.now c.args.name (properties_here (record { pages = c.self.inside.pages; rooms = record { spent = c.self.inside.spent; room = c.self.inside.room } }) c.args.at)) ≡ Some c.in-Some.place
found c =
    subst (λ (k : Kept). found_at k.pages c.args.at (place_of c.args.pool.now c.args.name (properties_here k c.args.at)) ≡ Some c.in-Some.place) (sym c.self.view_is)
    (sym c.find.ensures ∙ c.in-Some.is)

-- the number of it
number : (c : goal.After-set_value) → (n : ℕ) × (place_of c.args.pool.now c.args.name (slice_index_or (map (properties_of c.self.inside.pages.properties) (chains_in c.self.inside.pages)) c.args.at []) ≡ Some n)
    × (slice_get (places_of c.self.inside.pages.properties (chain_at (chains_in c.self.inside.pages) c.args.at)) n ≡ Some c.in-Some.place)
number c = number_of (places_of c.self.inside.pages.properties (chain_at (chains_in c.self.inside.pages) c.args.at)) _ c.in-Some.place (found c)

-- what hangs there with the value of that number
changed : (c : goal.After-set_value) → AreHung (chains_in c.self.inside.pages) c.set_value.new.pages.properties (map (places_of c.self.inside.pages.properties) (chains_in c.self.inside.pages))
    (slice_set (map (properties_of c.self.inside.pages.properties) (chains_in c.self.inside.pages)) c.args.at
    (chain_with_value (properties_of c.self.inside.pages.properties (chain_at (chains_in c.self.inside.pages) c.args.at)) (number c).0 c.args.v))
changed c =
    c.set_value.ensures.all (chains_in c.self.inside.pages) c.args.at (number c).0 (chain_at (chains_in c.self.inside.pages) c.args.at)
    (slice_get-get_or (chains_in c.self.inside.pages) c.args.at (record { first = 0; last = 0; count = 0 }) (omega (arith, here c, length-map c.self.inside.pages.objects chain_in)))
    (number c).2 c.self.invariant.chains

pub set_value-requires : goal.set_value-requires
set_value-requires c =
    let pages = c.self.inside.pages in
    let within = objects_within pages c.args.at c.args.self.now (ap (λ (k : Kept). k.pages) (sym c.self.view_is)) c.requires.within in
    record {
      within = found_within pages c.args.at _ c.in-Some.place within c.self.invariant.chains
          (subst (λ (k : Kept). found_at k.pages c.args.at (place_of c.args.pool.now c.args.name (properties_here k c.args.at)) ≡ Some c.in-Some.place) (sym c.self.view_is)
          (sym c.find.ensures ∙ c.in-Some.is));
    }

pub invariant_of-self : goal.invariant_of-self
invariant_of-self c =
    rows_valued c.self.inside.pages c.set_value.new.pages c.self.inside.spent c.self.inside.room _ _ c.set_value.ensures.row c.set_value.ensures.size (changed c) c.self.invariant

pub returns-in-Some-clause-listed : goal.returns-in-Some-clause-listed
returns-in-Some-clause-listed c =
    subst (λ (k : Kept). listed (record { pages = c.set_value.new.pages; rooms = record { spent = c.self.inside.spent; room = c.self.inside.room } })
    ≡ with_properties (listed k) c.args.at (valued (properties_here k c.args.at) c.args.v (place_of c.args.pool.now c.args.name (properties_here k c.args.at)))) c.self.view_is
    (listed_valued c.self.inside.pages c.set_value.new.pages (record { spent = c.self.inside.spent; room = c.self.inside.room }) c.args.at _ _ c.set_value.ensures.row
    (hung_held (chains_in c.self.inside.pages) c.set_value.new.pages.properties _ _ _ c.args.at _ _ refl (value_set c.self.inside.pages c.args.at _ (number c).0 c.args.v (here c) (number c).1) (changed c)))

pub returns-in-Some-clause-indexes : goal.returns-in-Some-clause-indexes
returns-in-Some-clause-indexes c =
    subst (λ (k : Kept). IndexesStay k.pages c.set_value.new.pages) c.self.view_is
    (indexes_valued c.self.inside.pages c.set_value.new.pages c.args.at (number c).0 c.args.v c.set_value.ensures.row c.set_value.ensures.size (here c) c.set_value.ensures.links c.self.invariant.chains
    (hung_held (chains_in c.self.inside.pages) c.set_value.new.pages.properties _ _ _ c.args.at _ _ refl
    (values_alike (properties_of c.self.inside.pages.properties (chain_at (chains_in c.self.inside.pages) c.args.at)) (number c).0 c.args.v) (changed c)))

none : (c : goal.In-None) → place_of c.args.pool.now c.args.name (properties_here c.args.self.now c.args.at) ≡ None
none c = found_none c.args.pool.now c.args.name c.args.self.now.pages c.args.at (objects_within c.args.self.now.pages c.args.at c.args.self.now refl c.requires.within) (sym c.find.ensures ∙ c.in-None.is)

pub returns-in-None-clause-found : goal.returns-in-None-clause-found
returns-in-None-clause-found c = ap is_some (sym (none c))

pub returns-in-None-clause-listed : goal.returns-in-None-clause-listed
returns-in-None-clause-listed c =
    kept_list c.args.self.now c.args.at _ (objects_within c.args.self.now.pages c.args.at c.args.self.now refl c.requires.within)
    (ap (valued (properties_here c.args.self.now c.args.at) c.args.v) (sym (none c)))
