-- What a history has of a session, and that it is what the session does.
use Rattle.std.specs.Prelude.{◌≡◌, ℕ, ◌-◌, ◌==◌, Bool, true, false, nat_le, List, [], ◌∷◌, ◌++◌, ◌⊎◌, map, slice_get, Option, Some, None, unwrap_or, if◌then◌else◌}
use Rattle.std.specs.List.{list_any}
use Rattle.rip_wire.specs.Batches.{Contents}
use Rattle.rip_wire.specs.declared.ending.Ending.{Ending}
use Rattle.rip_wire.specs.declared.ending.Ending.TheVariants.{Mismatch, BadReport, Limit, Fault, Memory, Closed}
use Rattle.rip_log.specs.Entries.{Recorded, opened, admitted, served, done, closed, ended}
use Rattle.rip_history.specs.Parts.{Fact, passes, serves, finishes, Part, Given, Meaning, ReadsGivenInTurn, Lacking, MayLack, with_lack}
use Rattle.rip_history.specs.Turns.{turn_at}

-- ---- read off a history, of the session of an ordinal

-- the seed and the time of its opening
abbrev pub opening_in : ℕ → List Recorded → Option (ℕ × ℕ)
opening_in n [] = None
opening_in n (opened turn session id seed time ∷ h) = if session == n then Some (seed, time) else opening_in n h
opening_in n (admitted turn session batch ∷ h) = opening_in n h
opening_in n (served turn session batch number name args time reply ∷ h) = opening_in n h
opening_in n (done turn session batch how ∷ h) = opening_in n h
opening_in n (closed turn session ∷ h) = opening_in n h
opening_in n (ended turn status ∷ h) = opening_in n h

-- its batches, in the order of their admission
abbrev pub batches_in : ℕ → List Recorded → List Contents
batches_in n [] = []
batches_in n (opened turn session id seed time ∷ h) = batches_in n h
batches_in n (admitted turn session batch ∷ h) = if session == n then batch ∷ batches_in n h else batches_in n h
batches_in n (served turn session batch number name args time reply ∷ h) = batches_in n h
batches_in n (done turn session batch how ∷ h) = batches_in n h
batches_in n (closed turn session ∷ h) = batches_in n h
batches_in n (ended turn status ∷ h) = batches_in n h

-- the turns in which they were admitted, that of the opening, which is batch 0, the first
abbrev pub turns_in : ℕ → List Recorded → List ℕ
turns_in n [] = []
turns_in n (opened turn session id seed time ∷ h) = if session == n then turn ∷ turns_in n h else turns_in n h
turns_in n (admitted turn session batch ∷ h) = if session == n then turn ∷ turns_in n h else turns_in n h
turns_in n (served turn session batch number name args time reply ∷ h) = turns_in n h
turns_in n (done turn session batch how ∷ h) = turns_in n h
turns_in n (closed turn session ∷ h) = turns_in n h
turns_in n (ended turn status ∷ h) = turns_in n h

-- what its served calls were given
abbrev pub given_in : ℕ → List Recorded → List Given
given_in n [] = []
given_in n (opened turn session id seed time ∷ h) = given_in n h
given_in n (admitted turn session batch ∷ h) = given_in n h
given_in n (served turn session batch number name args time reply ∷ h) =
    if session == n then record { time = time; reply = reply } ∷ given_in n h else given_in n h
given_in n (done turn session batch how ∷ h) = given_in n h
given_in n (closed turn session ∷ h) = given_in n h
given_in n (ended turn status ∷ h) = given_in n h

-- what it did: the turn, the batch, and that it served a call or that the batch was done
pub record Deed : Type 0 where
  pub turn : ℕ
  pub batch : ℕ
  pub fact : Fact

abbrev pub deeds_in : ℕ → List Recorded → List Deed
deeds_in n [] = []
deeds_in n (opened turn session id seed time ∷ h) = deeds_in n h
deeds_in n (admitted turn session batch ∷ h) = deeds_in n h
deeds_in n (served turn session batch number name args time reply ∷ h) =
    if session == n then record { turn = turn; batch = batch; fact = serves number name args } ∷ deeds_in n h else deeds_in n h
deeds_in n (done turn session batch how ∷ h) =
    if session == n then record { turn = turn; batch = batch; fact = finishes how } ∷ deeds_in n h else deeds_in n h
deeds_in n (closed turn session ∷ h) = deeds_in n h
deeds_in n (ended turn status ∷ h) = deeds_in n h

-- ---- what a course says of a session

-- the turn in which the batch of a part was admitted, if it was
abbrev pub admission : List ℕ → Part → Option ℕ
admission turns p = slice_get turns p.batch

-- what has this cost of a batch that was admitted in that turn comes by the last turn
abbrev pub comes_by : ℕ → ℕ → Option ℕ → Bool
comes_by last cost None = false
comes_by last cost (Some t) = nat_le (turn_at t cost) last

-- the parts that come by the last turn: neither the first that comes later, or whose batch was not admitted, nor any behind
abbrev pub come_by : ℕ → List ℕ → List Part → List Part
come_by last turns [] = []
come_by last turns (p ∷ ps) = if comes_by last p.cost (admission turns p) then p ∷ come_by last turns ps else []

-- the deed of a part, in the turn of its cost: an event or a reply that was handled is none
abbrev pub deed_of : List ℕ → Part → Deed
deed_of turns p = record { turn = turn_at (unwrap_or (admission turns p) 0) p.cost; batch = p.batch; fact = p.fact }

abbrev pub is_deed : Fact → Bool
is_deed passes = false
is_deed (serves number name args) = true
is_deed (finishes how) = true

-- the deeds of parts
abbrev pub deeds_of : List ℕ → List Part → List Deed
deeds_of turns [] = []
deeds_of turns (p ∷ ps) = if is_deed p.fact then deed_of turns p ∷ deeds_of turns ps else deeds_of turns ps

-- the deeds by the last turn
abbrev pub deeds_by : ℕ → List ℕ → List Part → List Deed
deeds_by last turns ps = deeds_of turns (come_by last turns ps)

-- up to the last turn a session of the history did what the meaning says, from its opening, its own batches and what it
-- was given, each in the turn of its cost, and memory was wanting at one place at the most, where it may be
pub record IsSessionOf (m : Meaning) (last : ℕ) (history : List Recorded) (n : ℕ) : Type 0 where
  pub seed : ℕ
  pub time : ℕ
  pub lacking : Option Lacking
  pub opening : opening_in n history ≡ Some (seed, time)
  pub may_lack : MayLack lacking (m seed time (batches_in n history) (given_in n history))
  pub deeds : deeds_in n history ≡ deeds_by last (turns_in n history) (with_lack lacking (m seed time (batches_in n history) (given_in n history)))

-- ---- isolation

-- a deed without its turn: how many turns after the admission of its batch it came, the batch, and what was done
pub record Distant : Type 0 where
  pub distance : ℕ
  pub batch : ℕ
  pub fact : Fact

abbrev pub distant : List ℕ → Deed → Distant
distant turns d = record { distance = d.turn - unwrap_or (slice_get turns d.batch) 0; batch = d.batch; fact = d.fact }

-- what a session did, with the distances in place of the turns
abbrev pub story_in : ℕ → List Recorded → List Distant
story_in n h = map (distant (turns_in n h)) (deeds_in n h)

-- one list is a front of the other
abbrev pub IsFrontOf : {A : Type 0} → List A → List A → Type 0
IsFrontOf xs ys = (more : List _) × (ys ≡ xs ++ more)

-- one of them is a front of the other
abbrev pub Agree : {A : Type 0} → List A → List A → Type 0
Agree xs ys = IsFrontOf xs ys ⊎ IsFrontOf ys xs

-- a fact that ends a session for want of memory
abbrev pub ends_for_memory : Option Ending → Bool
ends_for_memory None = false
ends_for_memory (Some (Mismatch item number reported made)) = false
ends_for_memory (Some (BadReport item kind)) = false
ends_for_memory (Some (Limit item limit)) = false
ends_for_memory (Some (Fault item fault)) = false
ends_for_memory (Some (Memory item)) = true
ends_for_memory (Some Closed) = false

abbrev pub is_want : Fact → Bool
is_want passes = false
is_want (serves number name args) = false
is_want (finishes how) = ends_for_memory how

-- the history says that the session of an ordinal ended for want of memory
abbrev pub wants_memory : ℕ → List Recorded → Bool
wants_memory n h = list_any (λ (d : Deed). is_want d.fact) (deeds_in n h)

-- isolation: two histories, each up to its last turn, in neither of which a session wants memory, that give it the same
-- opening, the same batches and, as far as both go, the same moments and replies, have it do the same, as far as both go:
-- the same served calls, the same endings, each so many turns after the admission of its batch
abbrev pub SessionsAreAlone : Type 0
SessionsAreAlone =
    (m : Meaning) → ReadsGivenInTurn m
    → (last other_last : ℕ) (history other : List Recorded) (n k : ℕ)
    → IsSessionOf m last history n → IsSessionOf m other_last other k
    → wants_memory n history ≡ false → wants_memory k other ≡ false
    → opening_in n history ≡ opening_in k other → batches_in n history ≡ batches_in k other
    → Agree (given_in n history) (given_in k other)
    → Agree (story_in n history) (story_in k other)
