-- How an event is found among those of greater and lesser objects.
use Rattle.std.proofs.Common.{◌≡◌, ℕ, zero, suc, ◌+◌, ◌-◌, ◌/◌, ◌<◌, ◌≤◌, inl, inr, None, Some, List, [], ◌∷◌, ◌++◌, length, get_or, set, refl, sym, ap, ◌∙◌, arith}
use Rattle.std.specs.Prelude.{◌==◌}
use Rattle.std.proofs.lemmas.Bool.{cases_eq, cases_lt, cond-true, cond-false, eq-eqb, ne_eqb}
use Rattle.std.proofs.Math.Nat.{div-lt_self}
use Rattle.std.proofs.Math.Seq.{get_or-append_seam}
use Rattle.std.proofs.lemmas.List.{get_or-set_same, get_or-set_other, get_or_append_left, length-append, length-set}
use Rattle.rip_host.specs.declared.events.Event.{Event}
use Rattle.rip_host.specs.Events.{IsAscending, IsSplitAt, event_at, event_of, no_event, replaced}

-- the events from this one on are told by their places there
abbrev pub Differs : List Event → ℕ → ℕ → Type 0
Differs events object i = (event_at events i).object ≡ object → ⊥

find-none : (events : List Event) (object : ℕ) → ((i : ℕ) → i < length events → Differs events object i) → event_of events object ≡ None
find-none [] object d = refl
find-none (e ∷ es) object d =
    cond-false (e.object == object) (Some e) (event_of es object) (ne_eqb e.object object (d 0 (omega arith)))
    ∙ find-none es object (λ i h. let g : suc i < suc (length es) = omega (arith, h) in d (suc i) g)

find-at : (events : List Event) (object place : ℕ) → place < length events → ((i : ℕ) → i < place → Differs events object i) → (event_at events place).object ≡ object
    → event_of events object ≡ Some (event_at events place)
find-at [] object place h d e = let l : place < 0 = h in absurd (omega (arith, l))
find-at (x ∷ es) object zero h d e = cond-true (x.object == object) (Some x) (event_of es object) (eq-eqb x.object object e)
find-at (x ∷ es) object (suc place) h d e =
    let l : suc place < suc (length es) = h in
    let g : place < length es = omega (arith, l) in
    cond-false (x.object == object) (Some x) (event_of es object) (ne_eqb x.object object (d 0 (omega arith)))
    ∙ find-at es object place g (λ i k. let m : suc i < suc place = omega (arith, k) in d (suc i) m) e

put-none : (events : List Event) (x : Event) → ((i : ℕ) → i < length events → Differs events x.object i) → replaced x events ≡ events
put-none [] x d = refl
put-none (e ∷ es) x d =
    cond-false (e.object == x.object) (x ∷ es) (e ∷ replaced x es) (ne_eqb e.object x.object (d 0 (omega arith)))
    ∙ ap (λ l. e ∷ l) (put-none es x (λ i h. let g : suc i < suc (length es) = omega (arith, h) in d (suc i) g))

put-at : (events : List Event) (x : Event) (place : ℕ) → place < length events → ((i : ℕ) → i < place → Differs events x.object i) → (event_at events place).object ≡ x.object
    → replaced x events ≡ set events place x
put-at [] x place h d e = let l : place < 0 = h in absurd (omega (arith, l))
put-at (y ∷ es) x zero h d e = cond-true (y.object == x.object) (x ∷ es) (y ∷ replaced x es) (eq-eqb y.object x.object e)
put-at (y ∷ es) x (suc place) h d e =
    let l : suc place < suc (length es) = h in
    let g : place < length es = omega (arith, l) in
    cond-false (y.object == x.object) (x ∷ es) (y ∷ replaced x es) (ne_eqb y.object x.object (d 0 (omega arith)))
    ∙ ap (λ l. y ∷ l) (put-at es x place g (λ i k. let m : suc i < suc place = omega (arith, k) in d (suc i) m) e)

-- what comes before the split has another object
before-differs : (events : List Event) (object place : ℕ) → IsSplitAt events object place → (i : ℕ) → i < place → Differs events object i
before-differs events object place s i h e = let b = s.before i h in omega (arith, b, e)

-- so has all, where the event at the split has another
all-differ : (events : List Event) (object place : ℕ) → IsAscending events → IsSplitAt events object place → (place < length events → Differs events object place) → (i : ℕ) → i < length events → Differs events object i
all-differ events object place a s d i h e =
    elim (cases_lt i place) [
      | inl below ↦ before-differs events object place s i below e
      | inr above ↦ elim (cases_eq i place) [
        | inl same ↦ let g : place < length events = omega (arith, same, h) in d g (ap (λ k. (event_at events k).object) (sym same) ∙ e)
        | inr other ↦
            let more : place < i = omega (arith, above, other) in
            let there : place < length events = omega (arith, more, h) in
            let up = a place i more h in
            let from = s.from place (omega arith) there in
            omega (arith, up, from, e)
      ]
    ]

pub found_none : (events : List Event) (object place : ℕ) → IsAscending events → IsSplitAt events object place → (place < length events → Differs events object place) → event_of events object ≡ None
found_none events object place a s d = find-none events object (all-differ events object place a s d)

pub found_at : (events : List Event) (object place : ℕ) → IsSplitAt events object place → place < length events → (event_at events place).object ≡ object → event_of events object ≡ Some (event_at events place)
found_at events object place s h e = find-at events object place h (before-differs events object place s) e

pub kept_none : (events : List Event) (x : Event) (place : ℕ) → IsAscending events → IsSplitAt events x.object place → (place < length events → Differs events x.object place) → replaced x events ≡ events
kept_none events x place a s d = put-none events x (all-differ events x.object place a s d)

pub kept_at : (events : List Event) (x : Event) (place : ℕ) → IsSplitAt events x.object place → place < length events → (event_at events place).object ≡ x.object → replaced x events ≡ set events place x
kept_at events x place s h e = put-at events x place h (before-differs events x.object place s) e

-- the place that is sought is from the one to the other
pub record IsBetween (events : List Event) (object low high : ℕ) : Type 0 where
  pub ordered : low ≤ high
  pub within : high ≤ length events
  pub before : (i : ℕ) → i < low → (event_at events i).object < object
  pub from : (i : ℕ) → high ≤ i → i < length events → object ≤ (event_at events i).object

pub between_all : (events : List Event) (object high : ℕ) → high ≡ length events → IsBetween events object 0 high
between_all events object high e = record {
  ordered = omega arith;
  within = omega (arith, e);
  before = λ i h. absurd (omega (arith, h));
  from = λ i h k. absurd (omega (arith, h, k, e));
}

pub between_up : (events : List Event) (object low high middle : ℕ) → IsAscending events → IsBetween events object low high → middle < high → (event_at events middle).object < object
    → IsBetween events object (middle + 1) high
between_up events object low high middle a b h l = record {
  ordered = omega (arith, h);
  within = b.within;
  before = λ i k. elim (cases_lt i middle) [
    | inl below ↦ let up = a i middle below (omega (arith, h, b.within)) in omega (arith, up, l)
    | inr above ↦ let same : i ≡ middle = omega (arith, k, above) in let e : (event_at events i).object ≡ (event_at events middle).object = ap (λ j. (event_at events j).object) same in omega (arith, e, l)
  ];
  from = b.from;
}

pub between_down : (events : List Event) (object low high middle : ℕ) → IsAscending events → IsBetween events object low high → low ≤ middle → middle < high → object ≤ (event_at events middle).object
    → IsBetween events object low middle
between_down events object low high middle a b g h l = record {
  ordered = g;
  within = omega (arith, h, b.within);
  before = b.before;
  from = λ i k m. elim (cases_lt middle i) [
    | inl below ↦ let up = a middle i below m in omega (arith, up, l)
    | inr above ↦ let same : i ≡ middle = omega (arith, k, above) in let e : (event_at events i).object ≡ (event_at events middle).object = ap (λ j. (event_at events j).object) same in omega (arith, e, l)
  ];
}

pub between_none : (events : List Event) (object low high : ℕ) → IsBetween events object low high → high ≤ low → IsSplitAt events object low
between_none events object low high b h = record { before = b.before; from = λ i k m. b.from i (omega (arith, h, k)) m }

-- ORDER

same-object : (events : List Event) (x : Event) (place i : ℕ) → place < length events → (event_at events place).object ≡ x.object → (event_at (set events place x) i).object ≡ (event_at events i).object
same-object events x place i h e =
    elim (cases_eq i place) [
      | inl s ↦
          ap (λ k. (event_at (set events place x) k).object) s
          ∙ ap (λ (y : Event). y.object) (get_or-set_same events place x no_event h)
          ∙ sym e
          ∙ ap (λ k. (event_at events k).object) (sym s)
      | inr o ↦ ap (λ (y : Event). y.object) (get_or-set_other events place i x no_event o)
    ]

pub ascends_set : (events : List Event) (x : Event) (place : ℕ) → IsAscending events → place < length events → (event_at events place).object ≡ x.object → IsAscending (set events place x)
ascends_set events x place a h e = λ i j l k.
    let n : length (set events place x) ≡ length events = length-set events place x in
    let first = same-object events x place i h e in
    let second = same-object events x place j h e in
    let up = a i j l (omega (arith, k, n)) in
    omega (arith, first, second, up)

left-object : (events : List Event) (x : Event) (i : ℕ) → i < length events → (event_at (events ++ x ∷ []) i).object ≡ (event_at events i).object
left-object events x i h = ap (λ (y : Event). y.object) (get_or_append_left events (x ∷ []) no_event i h)

last-object : (events : List Event) (x : Event) (i : ℕ) → i ≡ length events → (event_at (events ++ x ∷ []) i).object ≡ x.object
last-object events x i e = ap (λ k. (event_at (events ++ x ∷ []) k).object) e ∙ ap (λ (y : Event). y.object) (get_or-append_seam events x [] no_event)

pub ascends_more : (events : List Event) (x : Event) → IsAscending events → ((k : ℕ) (d : Event) → k < length events → (get_or events k d).object < x.object) → IsAscending (events ++ x ∷ [])
ascends_more events x a b = λ i j l k.
    let n : length (events ++ x ∷ []) ≡ length events + 1 = length-append events (x ∷ []) in
    elim (cases_lt j (length events)) [
      | inl below ↦
          let first = left-object events x i (omega (arith, l, below)) in
          let second = left-object events x j below in
          let up = a i j l below in
          omega (arith, first, second, up)
      | inr past ↦
          let last : j ≡ length events = omega (arith, past, k, n) in
          let under : i < length events = omega (arith, l, last) in
          let first = left-object events x i under in
          let second = last-object events x j last in
          let up = b i no_event under in
          omega (arith, first, second, up)
    ]

-- where the place is past the end, or its event has another object, nothing is replaced
pub kept_past : (events : List Event) (x : Event) (place : ℕ) → IsAscending events → IsSplitAt events x.object place → length events ≤ place → replaced x events ≡ events
kept_past events x place a s h = kept_none events x place a s (λ k. absurd (omega (arith, h, k)))

pub kept_other : (events : List Event) (x : Event) (place : ℕ) → IsAscending events → IsSplitAt events x.object place → Differs events x.object place → replaced x events ≡ events
kept_other events x place a s d = kept_none events x place a s (λ k. d)

-- halfway between two places
pub half_between : (low high : ℕ) → low < high → low + (high - low) / 2 < high
half_between low high h =
    let positive : 0 < high - low = omega (arith, h) in
    let one : 1 < 2 = omega arith in
    let half : (high - low) / 2 < high - low = div-lt_self positive one in
    omega (arith, h, half)

-- what the search for the place of an event rests on
pub ruleset between = (between_all, between_up, between_down, between_none, half_between)

-- what an event that is put in place of another rests on
pub ruleset kept = (kept_at, kept_past, kept_other, ascends_set)

-- what is found at a place
pub ruleset found = (found_at, found_none)
