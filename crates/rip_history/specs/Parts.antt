-- What a session does, item by item, and where memory is wanting.
use Rattle.std.specs.Prelude.{◌≡◌, ℕ, suc, ◌+◌, ◌<◌, ◌≤◌, ◌==◌, ◌&&◌, ◌||◌, Bool, true, false, nat_lt, List, [], ◌∷◌, ◌++◌, length, take, Option, Some, None, is_some, if◌then◌else◌}
use Rattle.std.specs.List.{AllByRecursion, list_any}
use Rattle.rip_data.specs.Datum.{Tree}
use Rattle.rip_wire.specs.Batches.{Contents}
use Rattle.rip_wire.specs.declared.ending.Ending.{Ending}
use Rattle.rip_wire.specs.declared.ending.Ending.TheVariants.{Mismatch, BadReport, Limit, Fault, Memory, Closed}

-- what an item comes to: an event or a reply was handled; a call was served, by its number, name and args; or the batch
-- is done, and may end the session
pub data Fact : Type 0 where
  passes : Fact
  serves : ℕ → List ℕ → List Tree → Fact
  finishes : Option Ending → Fact

-- the same with its batch, the number of the item in it, from 1, and its cost: the units of that batch up to and with
-- the item. Behind the last item the batch is done, at the number one more and at the same cost, or at 1 where there
-- was no item; an item that ends the session ends the batch
pub record Part : Type 0 where
  pub batch : ℕ
  pub item : ℕ
  pub cost : ℕ
  pub fact : Fact

-- what a served call was given: the moment and the reply
pub record Given : Type 0 where
  pub time : ℕ
  pub reply : Tree

-- what a session does from its seed and time, its batches and what its served calls are given: past that, anything may
-- be given. The opening is batch 0
abbrev pub Meaning : Type 0
Meaning = ℕ → ℕ → List Contents → List Given → List Part

-- ---- facts

-- a call is served
abbrev pub serves_call : Fact → Bool
serves_call passes = false
serves_call (serves number name args) = true
serves_call (finishes how) = false

-- the batch is done
abbrev pub ends_batch : Fact → Bool
ends_batch passes = false
ends_batch (serves number name args) = false
ends_batch (finishes how) = true

-- the session ends
abbrev pub ends_session : Fact → Bool
ends_session passes = false
ends_session (serves number name args) = false
ends_session (finishes how) = is_some how

-- how many calls these parts serve
abbrev pub served_count : List Part → ℕ
served_count [] = 0
served_count (p ∷ ps) = if serves_call p.fact then suc (served_count ps) else served_count ps

-- a batch is done in these parts; the session ends in them
abbrev pub has_finished : List Part → Bool
has_finished ps = list_any (λ (p : Part). ends_batch p.fact) ps

abbrev pub has_ended : List Part → Bool
has_ended ps = list_any (λ (p : Part). ends_session p.fact) ps

-- the meaning reads what is given at served calls alone, each its own: parts in which no more calls are served than were
-- given are the same whatever is given behind
abbrev pub ReadsGivenInTurn : Meaning → Type 0
ReadsGivenInTurn m =
    (seed time : ℕ) (batches : List Contents) (given more : List Given) (n : ℕ)
    → served_count (take n (m seed time batches given)) ≤ length given
    → take n (m seed time batches given) ≡ take n (m seed time batches (given ++ more))

-- a batch more adds parts of its own, and changes none
abbrev pub BatchesAdd : Meaning → Type 0
BatchesAdd m =
    (seed time : ℕ) (batches : List Contents) (b : Contents) (given : List Given)
    → (more : List Part) × (m seed time (batches ++ b ∷ []) given ≡ m seed time batches given ++ more)
    × AllByRecursion (λ (p : Part). p.batch ≡ length batches + 1) more

-- nothing comes behind the part in which the last batch is done
abbrev pub DoneIsLast : Meaning → Type 0
DoneIsLast m =
    (seed time : ℕ) (batches : List Contents) (given : List Given) (ps : List Part) (p : Part) (qs : List Part)
    → m seed time batches given ≡ ps ++ p ∷ qs → p.batch ≡ length batches → ends_batch p.fact ≡ true → qs ≡ []

-- what is known of the meaning of a session
pub record IsLawful (m : Meaning) : Type 0 where
  pub reads : ReadsGivenInTurn m
  pub adds : BatchesAdd m
  pub last : DoneIsLast m
  pub costs : (seed time : ℕ) (batches : List Contents) (given : List Given)
      → AllByRecursion (λ (p : Part). 1 ≤ p.cost) (m seed time batches given)

-- ---- want of memory

-- memory is wanting in an item of a batch, when so many units of that batch were spent
pub record Lacking : Type 0 where
  pub batch : ℕ
  pub item : ℕ
  pub cost : ℕ

-- the part is of an earlier batch, or of an earlier item of the same
abbrev pub is_before : Lacking → Part → Bool
is_before l p = nat_lt p.batch l.batch || (p.batch == l.batch && nat_lt p.item l.item)

-- the parts before that item, and the others
abbrev pub before : Lacking → List Part → List Part
before l [] = []
before l (p ∷ ps) = if is_before l p then p ∷ before l ps else []

abbrev pub behind : Lacking → List Part → List Part
behind l [] = []
behind l (p ∷ ps) = if is_before l p then behind l ps else p ∷ ps

-- the units that a batch has spent by the last of these parts: the first unit of a batch is that of no item
abbrev pub spent : ℕ → List Part → ℕ → ℕ
spent number [] units = units
spent number (p ∷ ps) units = spent number ps (if p.batch == number then p.cost else units)

-- another call was reported than the one that the script made
abbrev pub ends_at_mismatch : Option Ending → Bool
ends_at_mismatch None = false
ends_at_mismatch (Some (Mismatch item number reported made)) = true
ends_at_mismatch (Some (BadReport item kind)) = false
ends_at_mismatch (Some (Limit item limit)) = false
ends_at_mismatch (Some (Fault item fault)) = false
ends_at_mismatch (Some (Memory item)) = false
ends_at_mismatch (Some Closed) = false

-- the item reports a call, which is served or is another than the one that the script made
abbrev pub tells_call : Fact → Bool
tells_call passes = false
tells_call (serves number name args) = true
tells_call (finishes how) = ends_at_mismatch how

-- memory may be wanting there: the session comes to that item, which reports a call, and the units are of the item
pub record IsLack (l : Lacking) (ps : List Part) : Type 0 where
  pub part : Part
  pub others : List Part
  pub comes : behind l ps ≡ part ∷ others
  pub batch : part.batch ≡ l.batch
  pub item : part.item ≡ l.item
  pub call : tells_call part.fact ≡ true
  pub lives : has_ended (before l ps) ≡ false
  pub above : spent l.batch (before l ps) 1 < l.cost
  pub within : l.cost ≤ part.cost

-- the end of the session for want of memory
abbrev pub lacking_part : Lacking → Part
lacking_part l = record { batch = l.batch; item = l.item; cost = l.cost; fact = finishes (Some (Memory l.item)) }

-- the parts where memory is wanting, if it is
abbrev pub with_lack : Option Lacking → List Part → List Part
with_lack None ps = ps
with_lack (Some l) ps = before l ps ++ lacking_part l ∷ []

-- it may be wanting there, if it is
abbrev pub MayLack : Option Lacking → List Part → Type 0
MayLack None ps = Unit {0}
MayLack (Some l) ps = IsLack l ps
