-- One chain of a row is changed: how it hangs then, and that the others hang as before.
use Rattle.std.proofs.Common.{◌≡◌, ◌≢◌, ℕ, suc, ◌+◌, ◌-◌, ◌<◌, ◌≤◌, ◌⊎◌, inl, inr, List, [], ◌∷◌, ◌++◌, length, Some, refl, sym, ap, ◌∙◌, subst, arith, map, slice_get}
use Rattle.std.specs.Prelude.{remove, slice_index_or, slice_set}
use Rattle.std.proofs.lemmas.Bool.{cases_eq}
use Rattle.std.proofs.lemmas.List.{get_or-map, get_or-set_other, get_or-set_same, get_or_append_left, get_or_at, length-append, length-set, map-set, map_push, set-get_or}
use Rattle.std.proofs.lemmas.Option.{get_or_from_slice_get, same_Some, slice_get-get_or, slice_get_within}
use Rattle.rip_base.specs.declared.value.Value.{Value}
use Rattle.rip_heap_region.specs.declared.pages.property.Property.{Property}
use Rattle.rip_heap_region.specs.declared.pages.slot.Slot.{Slot}
use Rattle.rip_heap_region.specs.Pages.{no_slot, slot_at}
use Rattle.rip_heap_region.specs.declared.chains.chain.Chain.{Chain}
use Rattle.rip_heap_region.specs.Chains.{Apart, AreChains, AreHung, IfOneOf, IsChain, Rising, chain_at, places_of, properties_at, properties_of, property_in, walk, with_value}
use Rattle.rip_heap_region.proofs.ChainLemmas.{apart_kept, chain_kept, chain_some, no_chain, place_first, place_number, place_within, places_count, rising_distinct}
use Rattle.rip_heap_region.proofs.WalkLemmas.{get_end, get_front, map_remove, map_replaced, map_set_one, properties_frame, remove_above, remove_among, remove_below, rising_more, rising_remove, walk_frame, walk_longer, walk_without}

-- ONE OF THEM IS ANOTHER

-- the slots that are not of the chain lead on as before, and hold what they held
pub record Changed (chain : Chain) (old new : List Slot) : Type 0 where
  pub size : length old ≤ length new
  pub nexts : (p : ℕ) → p < length old → ((j : ℕ) → slice_get (places_of old chain) j ≡ Some p → ⊥) → (slot_at new p).next ≡ (slot_at old p).next
  pub properties : (p : ℕ) → p < length old → ((j : ℕ) → slice_get (places_of old chain) j ≡ Some p → ⊥) → property_in (slot_at new p) ≡ property_in (slot_at old p)

pub hung_after : (chains : List Chain) (at : ℕ) (chain chain' : Chain) (old new : List Slot) (places : List ℕ) (properties : List Property)
    → slice_get chains at ≡ Some chain → AreChains chains old → Changed chain old new → IsChain new chain'
    → places_of new chain' ≡ places → properties_of new chain' ≡ properties
    → ((i p : ℕ) → slice_get places i ≡ Some p → p < length old → IfOneOf p (places_of old chain))
    → AreHung (slice_set chains at chain') new (slice_set (map (places_of old) chains) at places) (slice_set (map (properties_of old) chains) at properties)
hung_after chains at chain chain' old new places properties is are changed new_chain stands holds among = record {
  hang = record {
    each = λ i lt. each i (omega (arith, lt, length-set chains at chain')) (cases_eq i at);
    apart = λ i j li lj ne. apart i j (omega (arith, li, length-set chains at chain')) (omega (arith, lj, length-set chains at chain')) ne (cases_eq i at) (cases_eq j at);
  };
  stand = map-set (places_of new) chains at chain' ∙ ap (λ ps. slice_set (map (places_of new) chains) at ps) stands ∙ map_replaced (places_of new) (places_of old) chains no_chain at places same_places;
  hold = map-set (properties_of new) chains at chain' ∙ ap (λ ps. slice_set (map (properties_of new) chains) at ps) holds ∙ map_replaced (properties_of new) (properties_of old) chains no_chain at properties same_properties;
}
  where
    after : List Chain
    after = slice_set chains at chain'

    within : at < length chains
    within = slice_get_within chains at chain is

    here : chain_at chains at ≡ chain
    here = get_or_from_slice_get chains at chain no_chain is

    -- a place of another chain is none of this one
    other : (i : ℕ) → i < length chains → i ≢ at → (k p : ℕ) → slice_get (places_of old (chain_at chains i)) k ≡ Some p → (j : ℕ) → slice_get (places_of old chain) j ≡ Some p → ⊥
    other i lt ne k p there j mine = are.apart i at lt within ne k j p there (ap (λ c. slice_get (places_of old c) j) here ∙ mine)

    same_places : (i : ℕ) → i < length chains → i ≢ at → places_of new (chain_at chains i) ≡ places_of old (chain_at chains i)
    same_places i lt ne =
        walk_frame old new (chain_at chains i).first (chain_at chains i).count
        (λ k p less there. changed.nexts p (place_within old (chain_at chains i) k p (are.each i lt) there) (other i lt ne k p there))

    same_properties : (i : ℕ) → i < length chains → i ≢ at → properties_of new (chain_at chains i) ≡ properties_of old (chain_at chains i)
    same_properties i lt ne =
        ap (properties_at new) (same_places i lt ne)
        ∙ properties_frame old new (places_of old (chain_at chains i))
        (λ k p there. changed.properties p (place_within old (chain_at chains i) k p (are.each i lt) there) (other i lt ne k p there))

    this : (i : ℕ) → i ≡ at → chain_at after i ≡ chain'
    this i e = ap (λ j. chain_at after j) e ∙ get_or-set_same chains at chain' no_chain within

    that : (i : ℕ) → i ≢ at → chain_at after i ≡ chain_at chains i
    that i ne = get_or-set_other chains at i chain' no_chain ne

    each : (i : ℕ) → i < length chains → (i ≡ at) ⊎ (i ≢ at) → IsChain new (chain_at after i)
    each i lt (inl e) = subst (λ c. IsChain new c) (sym (this i e)) new_chain
    each i lt (inr ne) = subst (λ c. IsChain new c) (sym (that i ne)) (chain_kept old new (chain_at chains i) changed.size (same_places i lt ne) (are.each i lt))

    mine : (i : ℕ) → i ≡ at → places_of new (chain_at after i) ≡ places
    mine i e = ap (places_of new) (this i e) ∙ stands

    theirs : (i : ℕ) → i < length chains → i ≢ at → places_of new (chain_at after i) ≡ places_of old (chain_at chains i)
    theirs i lt ne = ap (places_of new) (that i ne) ∙ same_places i lt ne

    clear : (i : ℕ) → i < length chains → i ≢ at → Apart places (places_of old (chain_at chains i))
    clear i lt ne a b p one two =
        let one_of : IfOneOf p (places_of old chain) = among a p one (place_within old (chain_at chains i) b p (are.each i lt) two) in
        other i lt ne b p two one_of.number one_of.is

    apart : (i j : ℕ) → i < length chains → j < length chains → i ≢ j → (i ≡ at) ⊎ (i ≢ at) → (j ≡ at) ⊎ (j ≢ at) → Apart (places_of new (chain_at after i)) (places_of new (chain_at after j))
    apart i j li lj ne (inl e) (inl f) = absurd (ne (e ∙ sym f))
    apart i j li lj ne (inl e) (inr f) =
        apart_kept places (places_of old (chain_at chains j)) (places_of new (chain_at after i)) (places_of new (chain_at after j)) (mine i e) (theirs j lj f) (clear j lj f)
    apart i j li lj ne (inr e) (inl f) =
        apart_kept (places_of old (chain_at chains i)) places (places_of new (chain_at after i)) (places_of new (chain_at after j)) (theirs i li e) (mine j f) (λ a b p one two. clear i li e b a p two one)
    apart i j li lj ne (inr e) (inr f) =
        apart_kept (places_of old (chain_at chains i)) (places_of old (chain_at chains j)) (places_of new (chain_at after i)) (places_of new (chain_at after j)) (theirs i li e) (theirs j lj f) (are.apart i j li lj ne)

-- A VALUE

abbrev pub valued : List Slot → ℕ → Value → List Slot
valued old place v = slice_set old place (record (slot_at old place) { value = v })

valued_other : (old : List Slot) (place : ℕ) (v : Value) (p : ℕ) → p ≢ place → slot_at (valued old place v) p ≡ slot_at old p
valued_other old place v p ne = get_or-set_other old place p (record (slot_at old place) { value = v }) no_slot ne

valued_here : (old : List Slot) (place : ℕ) (v : Value) → place < length old → slot_at (valued old place v) place ≡ record (slot_at old place) { value = v }
valued_here old place v lt = get_or-set_same old place (record (slot_at old place) { value = v }) no_slot lt

valued_next : (old : List Slot) (place : ℕ) (v : Value) (p : ℕ) → place < length old → (slot_at (valued old place v) p).next ≡ (slot_at old p).next
valued_next old place v p lt = by (cases_eq p place)
  where
    by : (p ≡ place) ⊎ (p ≢ place) → (slot_at (valued old place v) p).next ≡ (slot_at old p).next
    by (inl e) = ap (λ q. (slot_at (valued old place v) q).next) e ∙ ap (λ (s : Slot). s.next) (valued_here old place v lt) ∙ ap (λ q. (slot_at old q).next) (sym e)
    by (inr ne) = ap (λ (s : Slot). s.next) (valued_other old place v p ne)

pub valued_hung : (chains : List Chain) (at number : ℕ) (chain : Chain) (old : List Slot) (place : ℕ) (v : Value) → slice_get chains at ≡ Some chain
    → slice_get (places_of old chain) number ≡ Some place → AreChains chains old → place < length old
    → AreHung chains (valued old place v) (map (places_of old) chains) (slice_set (map (properties_of old) chains) at (with_value (properties_of old chain) number v))
valued_hung chains at number chain old place v is there are lt =
    subst (λ cs. AreHung cs new (map (places_of old) chains) lists) self
    (subst (λ ps. AreHung (slice_set chains at chain) new ps lists) self_places
    (hung_after chains at chain chain old new (places_of old chain) values is are changed (chain_kept old new chain (omega (arith, length-set old place (record (slot_at old place) { value = v }))) stands mine) stands holds (λ i p here low. record { number = i; is = here })))
  where
    new : List Slot
    new = valued old place v

    values : List Property
    values = with_value (properties_of old chain) number v

    lists : List (List Property)
    lists = slice_set (map (properties_of old) chains) at values

    mine : IsChain old chain
    mine = subst (λ c. IsChain old c) (get_or_from_slice_get chains at chain no_chain is) (are.each at (slice_get_within chains at chain is))

    self : slice_set chains at chain ≡ chains
    self = ap (λ c. slice_set chains at c) (sym (get_or_from_slice_get chains at chain no_chain is)) ∙ set-get_or chains at no_chain

    self_places : slice_set (map (places_of old) chains) at (places_of old chain) ≡ map (places_of old) chains
    self_places = sym (map-set (places_of old) chains at chain) ∙ ap (map (places_of old)) self

    stands : places_of new chain ≡ places_of old chain
    stands = walk_frame old new chain.first chain.count (λ i p less here. valued_next old place v p lt)

    changed : Changed chain old new
    changed = record {
      size = omega (arith, length-set old place (record (slot_at old place) { value = v }));
      nexts = λ p low none. valued_next old place v p lt;
      properties = λ p low none. ap property_in (valued_other old place v p (λ e. none number (there ∙ ap (λ q. Some q) (sym e))));
    }

    low : number < length (places_of old chain)
    low = slice_get_within (places_of old chain) number place there

    at_number : slice_index_or (places_of old chain) number 0 ≡ place
    at_number = get_or_from_slice_get (places_of old chain) number place 0 there

    none : Property
    none = record { name = record { start = 0; count = 0 }; value = v }

    was : slice_index_or (properties_of old chain) number none ≡ property_in (slot_at old place)
    was = get_or-map (λ p. property_in (slot_at old p)) (places_of old chain) number 0 none low ∙ ap (λ p. property_in (slot_at old p)) at_number

    becomes : property_in (slot_at new (slice_index_or (places_of old chain) number 0)) ≡ record (slice_index_or (properties_of old chain) number none) { value = v }
    becomes =
        ap (λ p. property_in (slot_at new p)) at_number ∙ ap property_in (valued_here old place v lt)
        ∙ ap (λ (q : Property). record q { value = v }) (sym was)

    others : (i : ℕ) → i < length (places_of old chain) → i ≢ number → property_in (slot_at new (slice_index_or (places_of old chain) i 0)) ≡ property_in (slot_at old (slice_index_or (places_of old chain) i 0))
    others i less ne =
        ap property_in (valued_other old place v (slice_index_or (places_of old chain) i 0)
        (λ e. ne (rising_distinct 0 (length old) (places_of old chain) i number place mine.rising (slice_get-get_or (places_of old chain) i 0 less ∙ ap (λ q. Some q) e) there)))

    holds : properties_of new chain ≡ values
    holds =
        ap (properties_at new) stands
        ∙ map_set_one (λ p. property_in (slot_at old p)) (λ p. property_in (slot_at new p)) (places_of old chain) 0 number (record (slice_index_or (properties_of old chain) number none) { value = v }) low becomes others

-- A PROPERTY MORE

-- what is behind the push: the chain has the new slot behind its last one, and nothing else is other than before
pub record Pushed (chain chain' : Chain) (old new : List Slot) (property : Property) : Type 0 where
  pub size : length new ≡ length old + 1
  pub nexts : (p : ℕ) → p < length old → (0 < chain.count → p ≢ chain.last) → (slot_at new p).next ≡ (slot_at old p).next
  pub properties : (p : ℕ) → p < length old → property_in (slot_at new p) ≡ property_in (slot_at old p)
  pub links : (p : ℕ) → p < length old → (slot_at new p).link ≡ (slot_at old p).link
  pub made : property_in (slot_at new (length old)) ≡ property
  pub stands : places_of new chain' ≡ places_of old chain ++ length old ∷ []
  pub last : chain'.last ≡ length old
  pub count : chain'.count ≡ chain.count + 1

pub pushed_chain : (chain chain' : Chain) (old new : List Slot) (property : Property) → Pushed chain chain' old new property → IsChain old chain → IsChain new chain'
pushed_chain chain chain' old new property pushed here = record {
  rising = subst (λ places. Rising 0 (length new) places) (sym pushed.stands)
      (subst (λ to. Rising 0 to (places_of old chain ++ length old ∷ [])) (sym pushed.size) (rising_more 0 (length old) (places_of old chain) (omega arith) here.rising));
  last = λ some.
      ap (λ places. slice_get places (chain'.count - 1)) pushed.stands
      ∙ get_end (places_of old chain) (length old) (chain'.count - 1) (omega (arith, pushed.count, places_count old chain))
      ∙ ap (λ p. Some p) (sym pushed.last);
}

pub pushed_properties : (chain chain' : Chain) (old new : List Slot) (property : Property) → Pushed chain chain' old new property → IsChain old chain
    → properties_of new chain' ≡ properties_of old chain ++ property ∷ []
pushed_properties chain chain' old new property pushed here =
    ap (properties_at new) pushed.stands
    ∙ map_push (λ p. property_in (slot_at new p)) (places_of old chain) (length old)
    ∙ (λ t. properties_frame old new (places_of old chain) (λ i p there. pushed.properties p (place_within old chain i p here there)) t ++ pushed.made t ∷ [])

pub pushed_hung : (chains : List Chain) (at : ℕ) (chain chain' : Chain) (old new : List Slot) (property : Property) → slice_get chains at ≡ Some chain → AreChains chains old
    → IsChain old chain → Pushed chain chain' old new property
    → AreHung (slice_set chains at chain') new (slice_set (map (places_of old) chains) at (places_of old chain ++ length old ∷ []))
    (slice_set (map (properties_of old) chains) at (properties_of old chain ++ property ∷ []))
pushed_hung chains at chain chain' old new property is are here pushed =
    hung_after chains at chain chain' old new (places_of old chain ++ length old ∷ []) (properties_of old chain ++ property ∷ []) is are
    (record {
      size = omega (arith, pushed.size);
      nexts = λ p low none. pushed.nexts p low (λ some e. none (chain.count - 1) (here.last some ∙ ap (λ q. Some q) (sym e)));
      properties = λ p low none. pushed.properties p low;
    })
    (pushed_chain chain chain' old new property pushed here) pushed.stands (pushed_properties chain chain' old new property pushed here)
    (λ i p there low. record { number = i; is = get_front (places_of old chain) (length old) i p there low })

abbrev pub slot_for : Property → Slot
slot_for property = record { value = property.value; name = property.name; next = 0; link = 0 }

more_before : (old : List Slot) (property : Property) (p : ℕ) → p < length old → slot_at (old ++ slot_for property ∷ []) p ≡ slot_at old p
more_before old property p low = get_or_append_left old (slot_for property ∷ []) no_slot p low

more_behind : (old : List Slot) (property : Property) → slot_at (old ++ slot_for property ∷ []) (length old) ≡ slot_for property
more_behind old property = get_or_at old (slot_for property) [] no_slot (length old) refl

-- the first property of a chain
pushed_first : (chain : Chain) (old : List Slot) (property : Property) (place : ℕ) → chain.count ≡ 0 → place ≡ length old
    → Pushed chain (record { first = place; last = place; count = 1 }) old (old ++ slot_for property ∷ []) property
pushed_first chain old property place none end = record {
  size = length-append old (slot_for property ∷ []);
  nexts = λ p low other. ap (λ (s : Slot). s.next) (more_before old property p low);
  properties = λ p low. ap property_in (more_before old property p low);
  links = λ p low. ap (λ (s : Slot). s.link) (more_before old property p low);
  made = ap property_in (more_behind old property);
  stands = ap (λ p. p ∷ []) end ∙ ap (λ n. walk old chain.first n ++ length old ∷ []) (sym none);
  last = end;
  count = ap (λ n. n + 1) (sym none);
}

-- as `push` makes it: it reads the place off how many slots there are behind the push
pub first_pushed : (chain : Chain) (old new : List Slot) (property : Property) (count : ℕ) → new ≡ old ++ slot_for property ∷ [] → count ≡ length new → chain.count ≡ 0
    → Pushed chain (record { first = count - 1; last = count - 1; count = 1 }) old new property
first_pushed chain old new property count more all none =
    subst (λ slots. Pushed chain (record { first = count - 1; last = count - 1; count = 1 }) old slots property) (sym more)
    (pushed_first chain old property (count - 1) none (omega (arith, all, ap length more, length-append old (slot_for property ∷ []))))

-- the slots with one more, to which the last of a chain leads
abbrev led_on : List Slot → Chain → Property → ℕ → List Slot
led_on old chain property place = slice_set (old ++ slot_for property ∷ []) chain.last (record (slot_at (old ++ slot_for property ∷ []) chain.last) { next = place })

pushed_behind : (chain : Chain) (old : List Slot) (property : Property) (place : ℕ) → IsChain old chain → 0 < chain.count → place ≡ length old
    → Pushed chain (record { first = chain.first; last = place; count = chain.count + 1 }) old (led_on old chain property place) property
pushed_behind chain old property place here some end = record {
  size = length-set more chain.last (record (slot_at more chain.last) { next = place }) ∙ length-append old (slot_for property ∷ []);
  nexts = λ p low other. ap (λ (s : Slot). s.next) (apart_from p (other some) ∙ more_before old property p low);
  properties = λ p low. properties p low (cases_eq p chain.last);
  links = λ p low. links p low (cases_eq p chain.last);
  made = ap property_in (apart_from (length old) (λ e. absurd (omega (arith, e, last_low))) ∙ more_behind old property);
  stands = stands;
  last = end;
  count = refl;
}
  where
    more : List Slot
    more = old ++ slot_for property ∷ []

    new : List Slot
    new = led_on old chain property place

    last_low : chain.last < length old
    last_low = place_within old chain (chain.count - 1) chain.last here (here.last some)

    apart_from : (p : ℕ) → p ≢ chain.last → slot_at new p ≡ slot_at more p
    apart_from p ne = get_or-set_other more chain.last p (record (slot_at more chain.last) { next = place }) no_slot ne

    of_last : slot_at new chain.last ≡ record (slot_at more chain.last) { next = place }
    of_last = get_or-set_same more chain.last (record (slot_at more chain.last) { next = place }) no_slot (omega (arith, last_low, length-append old (slot_for property ∷ [])))

    properties : (p : ℕ) → p < length old → (p ≡ chain.last) ⊎ (p ≢ chain.last) → property_in (slot_at new p) ≡ property_in (slot_at old p)
    properties p low (inl e) =
        ap (λ q. property_in (slot_at new q)) e ∙ ap property_in of_last ∙ ap property_in (more_before old property chain.last last_low) ∙ ap (λ q. property_in (slot_at old q)) (sym e)
    properties p low (inr ne) = ap property_in (apart_from p ne ∙ more_before old property p low)

    links : (p : ℕ) → p < length old → (p ≡ chain.last) ⊎ (p ≢ chain.last) → (slot_at new p).link ≡ (slot_at old p).link
    links p low (inl e) =
        ap (λ q. (slot_at new q).link) e ∙ ap (λ (s : Slot). s.link) of_last ∙ ap (λ (s : Slot). s.link) (more_before old property chain.last last_low) ∙ ap (λ q. (slot_at old q).link) (sym e)
    links p low (inr ne) = ap (λ (s : Slot). s.link) (apart_from p ne ∙ more_before old property p low)

    before : ℕ
    before = chain.count - 1

    counted : suc before ≡ chain.count
    counted = omega (arith, some)

    same : walk new chain.first chain.count ≡ walk old chain.first chain.count
    same =
        walk_frame old new chain.first chain.count
        (λ i p less there.
        ap (λ (s : Slot). s.next)
        (apart_from p (λ e. absurd (omega (arith, less, rising_distinct 0 (length old) (places_of old chain) i (chain.count - 1) p here.rising there (here.last some ∙ ap (λ q. Some q) (sym e)))))
        ∙ more_before old property p (place_within old chain i p here there)))

    longer : walk new chain.first (suc (suc before)) ≡ walk new chain.first (suc before) ++ (slot_at new chain.last).next ∷ []
    longer = walk_longer new chain.first before chain.last (ap (λ n. slice_get (walk new chain.first n) before) counted ∙ ap (λ ps. slice_get ps before) same ∙ here.last some)

    stands : walk new chain.first (chain.count + 1) ≡ walk old chain.first chain.count ++ length old ∷ []
    stands =
        let one : chain.count + 1 ≡ suc (suc before) = omega (arith, some) in
        let on : (slot_at new chain.last).next ≡ length old = ap (λ (s : Slot). s.next) of_last ∙ end in
        ap (λ n. walk new chain.first n) one ∙ longer
        ∙ (λ t. (ap (λ n. walk new chain.first n) counted ∙ same) t ++ on t ∷ [])

pub later_pushed : (chain : Chain) (old more new : List Slot) (property : Property) (count : ℕ) → IsChain old chain → more ≡ old ++ slot_for property ∷ [] → count ≡ length more
    → chain.count ≢ 0 → new ≡ slice_set more chain.last (record (slot_at more chain.last) { next = count - 1 })
    → Pushed chain (record { first = chain.first; last = count - 1; count = chain.count + 1 }) old new property
later_pushed chain old more new property count here is all some led =
    subst (λ slots. Pushed chain (record { first = chain.first; last = count - 1; count = chain.count + 1 }) old slots property)
    (sym (led ∙ ap (λ slots. slice_set slots chain.last (record (slot_at slots chain.last) { next = count - 1 })) is))
    (pushed_behind chain old property (count - 1) here (omega (arith, some)) (omega (arith, all, ap length is, length-append old (slot_for property ∷ []))))

-- A PROPERTY LESS

-- the one before a place leads to what that place leads to
abbrev pub led_past : List Slot → ℕ → ℕ → List Slot
led_past old before next = slice_set old before (record (slot_at old before) { next = next })

past_other : (old : List Slot) (before next p : ℕ) → p ≢ before → slot_at (led_past old before next) p ≡ slot_at old p
past_other old before next p ne = get_or-set_other old before p (record (slot_at old before) { next = next }) no_slot ne

past_here : (old : List Slot) (before next : ℕ) → before < length old → slot_at (led_past old before next) before ≡ record (slot_at old before) { next = next }
past_here old before next lt = get_or-set_same old before (record (slot_at old before) { next = next }) no_slot lt

past_property : (old : List Slot) (before next p : ℕ) → before < length old → property_in (slot_at (led_past old before next) p) ≡ property_in (slot_at old p)
past_property old before next p lt = by (cases_eq p before)
  where
    by : (p ≡ before) ⊎ (p ≢ before) → property_in (slot_at (led_past old before next) p) ≡ property_in (slot_at old p)
    by (inl e) = ap (λ q. property_in (slot_at (led_past old before next) q)) e ∙ ap property_in (past_here old before next lt) ∙ ap (λ q. property_in (slot_at old q)) (sym e)
    by (inr ne) = ap property_in (past_other old before next p ne)

-- a chain without the place of that number
record Without (chain chain' : Chain) (old new : List Slot) (number : ℕ) : Type 0 where
  stands : places_of new chain' ≡ remove (places_of old chain) number
  count : chain'.count ≡ chain.count - 1
  last : 0 < chain'.count → slice_get (remove (places_of old chain) number) (chain'.count - 1) ≡ Some chain'.last

without_hung : (chains : List Chain) (at number : ℕ) (chain chain' : Chain) (old new : List Slot) → slice_get chains at ≡ Some chain → AreChains chains old → IsChain old chain
    → Changed chain old new → length old ≡ length new → ((p : ℕ) → property_in (slot_at new p) ≡ property_in (slot_at old p)) → Without chain chain' old new number
    → AreHung (slice_set chains at chain') new (slice_set (map (places_of old) chains) at (remove (places_of old chain) number))
    (slice_set (map (properties_of old) chains) at (remove (properties_of old chain) number))
without_hung chains at number chain chain' old new is are here changed size same without =
    hung_after chains at chain chain' old new (remove (places_of old chain) number) (remove (properties_of old chain) number) is are changed
    (record {
      rising = subst (λ places. Rising 0 (length new) places) (sym without.stands)
          (subst (λ to. Rising 0 to (remove (places_of old chain) number)) size (rising_remove 0 (length old) (places_of old chain) number here.rising));
      last = λ some. ap (λ places. slice_get places (chain'.count - 1)) without.stands ∙ without.last some;
    })
    without.stands
    (ap (properties_at new) without.stands ∙ properties_frame old new (remove (places_of old chain) number) (λ i p there. same p) ∙ map_remove (λ p. property_in (slot_at old p)) (places_of old chain) number)
    (λ i p there low. remove_among (places_of old chain) number i p there)

pub first_less : (chains : List Chain) (at number : ℕ) (chain : Chain) (old : List Slot) (place next : ℕ) → slice_get chains at ≡ Some chain
    → slice_get (places_of old chain) number ≡ Some place → AreChains chains old → IsChain old chain → place ≡ chain.first → next ≡ (slot_at old place).next
    → AreHung (slice_set chains at (record { first = next; last = chain.last; count = chain.count - 1 })) old
    (slice_set (map (places_of old) chains) at (remove (places_of old chain) number))
    (slice_set (map (properties_of old) chains) at (remove (properties_of old chain) number))
first_less chains at number chain old place next is there are here first on =
    without_hung chains at number chain (record { first = next; last = chain.last; count = chain.count - 1 }) old old is are here
    (record { size = omega arith; nexts = λ p low none. refl; properties = λ p low none. refl })
    refl (λ p. refl) (record { stands = stands; count = refl; last = last })
  where
    some : 0 < chain.count
    some = chain_some old chain place (record { number = number; is = there })

    counted : suc (chain.count - 1) ≡ chain.count
    counted = omega (arith, some)

    zeroth : number ≡ 0
    zeroth = place_number old chain number 0 place here there (place_first old chain place (record { number = number; is = there }) ∙ ap (λ q. Some q) (sym first))

    stands : walk old next (chain.count - 1) ≡ remove (places_of old chain) number
    stands =
        ap (λ q. walk old q (chain.count - 1)) (on ∙ ap (λ q. (slot_at old q).next) first)
        ∙ ap (λ n. remove (walk old chain.first n) 0) counted
        ∙ ap (λ k. remove (places_of old chain) k) (sym zeroth)

    last : 0 < chain.count - 1 → slice_get (remove (places_of old chain) number) (chain.count - 1 - 1) ≡ Some chain.last
    last more =
        let end : suc (chain.count - 1 - 1) ≡ chain.count - 1 = omega (arith, more) in
        remove_above (places_of old chain) number (chain.count - 1 - 1) (omega (arith, zeroth)) ∙ ap (λ k. slice_get (places_of old chain) k) end ∙ here.last some

pub later_less : (chains : List Chain) (at number : ℕ) (chain : Chain) (old : List Slot) (place before next last : ℕ) → slice_get chains at ≡ Some chain
    → slice_get (places_of old chain) number ≡ Some place → AreChains chains old → IsChain old chain → place ≢ chain.first → next ≡ (slot_at old place).next
    → slice_get (places_of old chain) (number - 1) ≡ Some before → (place ≡ chain.last → last ≡ before) → (place ≢ chain.last → last ≡ chain.last)
    → AreHung (slice_set chains at (record { first = chain.first; last = last; count = chain.count - 1 })) (led_past old before next)
    (slice_set (map (places_of old) chains) at (remove (places_of old chain) number))
    (slice_set (map (properties_of old) chains) at (remove (properties_of old chain) number))
later_less chains at number chain old place before next last is there are here later on ahead ends stays =
    without_hung chains at number chain (record { first = chain.first; last = last; count = chain.count - 1 }) old new is are here
    (record {
      size = omega (arith, size);
      nexts = λ p low none. ap (λ (s : Slot). s.next) (past_other old before next p (λ e. none (number - 1) (ahead ∙ ap (λ q. Some q) (sym e))));
      properties = λ p low none. past_property old before next p within;
    })
    size (λ p. past_property old before next p within) (record { stands = stands; count = refl; last = λ more. the_last more (cases_eq place chain.last) })
  where
    new : List Slot
    new = led_past old before next

    size : length old ≡ length new
    size = sym (length-set old before (record (slot_at old before) { next = next }))

    among : IfOneOf place (places_of old chain)
    among = record { number = number; is = there }

    some : 0 < chain.count
    some = chain_some old chain place among

    counted : suc (chain.count - 1) ≡ chain.count
    counted = omega (arith, some)

    within : before < length old
    within = place_within old chain (number - 1) before here ahead

    low : number < chain.count
    low = omega (arith, slice_get_within (places_of old chain) number place there, places_count old chain)

    least : 0 < number
    least = by (cases_eq number 0)
      where
        by : (number ≡ 0) ⊎ (number ≢ 0) → 0 < number
        by (inl e) = absurd (later (same_Some place chain.first (sym there ∙ ap (λ k. slice_get (places_of old chain) k) e ∙ place_first old chain place among)))
        by (inr ne) = omega (arith, ne)

    numbered : suc (number - 1) ≡ number
    numbered = omega (arith, least)

    stands : walk new chain.first (chain.count - 1) ≡ remove (places_of old chain) number
    stands =
        walk_without old new chain.first (chain.count - 1) (number - 1) before place
        (ap (λ n. slice_get (walk old chain.first n) (number - 1)) counted ∙ ahead)
        (ap (λ n. slice_get (walk old chain.first n) (suc (number - 1))) counted ∙ ap (λ k. slice_get (places_of old chain) k) numbered ∙ there)
        (ap (λ (s : Slot). s.next) (past_here old before next within) ∙ on)
        (λ i p ne one.
        ap (λ (s : Slot). s.next)
        (past_other old before next p
        (λ e. ne (place_number old chain i (number - 1) p here (ap (λ n. slice_get (walk old chain.first n) i) (sym counted) ∙ one) (ahead ∙ ap (λ q. Some q) (sym e))))))
        ∙ (λ t. remove (walk old chain.first (counted t)) (numbered t))

    the_last : 0 < chain.count - 1 → (place ≡ chain.last) ⊎ (place ≢ chain.last) → slice_get (remove (places_of old chain) number) (chain.count - 1 - 1) ≡ Some last
    the_last more (inl e) =
        let end : number ≡ chain.count - 1 = place_number old chain number (chain.count - 1) place here there (here.last some ∙ ap (λ q. Some q) (sym e)) in
        let one : chain.count - 1 - 1 ≡ number - 1 = omega (arith, end) in
        remove_below (places_of old chain) number (chain.count - 1 - 1) (omega (arith, end, more))
        ∙ ap (λ k. slice_get (places_of old chain) k) one ∙ ahead ∙ ap (λ q. Some q) (sym (ends e))
    the_last more (inr ne) =
        let end : suc (chain.count - 1 - 1) ≡ chain.count - 1 = omega (arith, more) in
        remove_above (places_of old chain) number (chain.count - 1 - 1) (omega (arith, low, not_end ne, more))
        ∙ ap (λ k. slice_get (places_of old chain) k) end ∙ here.last some ∙ ap (λ q. Some q) (sym (stays ne))
      where
        not_end : place ≢ chain.last → number ≢ chain.count - 1
        not_end other e = other (same_Some place chain.last (sym there ∙ ap (λ k. slice_get (places_of old chain) k) e ∙ here.last some))
