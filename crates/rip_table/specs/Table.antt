-- Sessions in the order of their opening: identifiers, values, and which have ended, in three lists of one length.
use Rattle.std.specs.Prelude.{◌≡◌, ℕ, ◌-◌, ◌≤◌, Bool, true, false, not, nat_eq, if◌then◌else◌, List, [], ◌∷◌, ◌++◌, length, position, slice_get, slice_set, count_by, Option, None, option_and_then, unwrap_or}
use Rattle.std.specs.HashSet.{IsUnique}
use Rattle.std.specs.Vec.{with_item}
use Rattle.rip_table.specs.declared.table.Table.{Table}
use Rattle.rip_table.specs.declared.refused.InsertRefused.{InsertRefused}
use Rattle.rip_table.specs.declared.refused.InsertRefused.TheVariants.{Full, Spent, Clash, Memory}

-- what stands at an ordinal, which counts from 1
abbrev pub at_ordinal : {X : Type 0} → (ℕ → Option X) → ℕ → Option X
at_ordinal f ordinal = if nat_eq ordinal 0 then None else f (ordinal - 1)

module _ {T : Type 0} where
  -- the identifiers of all sessions that were ever opened
  abbrev pub ids : Table T → List ℕ
  ids t = t.ids.keys

  -- their values
  abbrev pub values : Table T → List T
  values t = t.values.items

  -- which of them have ended
  abbrev pub ended : Table T → List Bool
  ended t = t.ended.items

  -- how many are live
  abbrev pub live_count : Table T → ℕ
  live_count t = count_by not (ended t)

  -- the most that may be live
  abbrev pub most_live : Table T → ℕ
  most_live t = t.limit

  -- what each table keeps: one length, distinct identifiers, and the limits
  pub record IsTable (t : Table T) : Type 0 where
    pub values_each : length (values t) ≡ length (ids t)
    pub ended_each : length (ended t) ≡ length (ids t)
    pub distinct : IsUnique nat_eq t.ids
    pub live : t.live ≡ live_count t
    pub few_live : live_count t ≤ most_live t
    pub few : length (ids t) ≤ 1000000

  -- ---- places

  -- the place of an identifier
  abbrev pub place_of : Table T → ℕ → Option ℕ
  place_of t id = position (nat_eq id) (ids t)

  -- the session at a place is live
  abbrev pub is_live_at : Table T → ℕ → Bool
  is_live_at t place = not (unwrap_or (slice_get (ended t) place) true)

  -- the value at a place, where the session is live
  abbrev pub live_value : Table T → ℕ → Option T
  live_value t place = if is_live_at t place then slice_get (values t) place else None

  -- the value of a session, live or ended
  abbrev pub any_session : Table T → ℕ → Option T
  any_session t id = option_and_then (slice_get (values t)) (place_of t id)

  -- the value of a live session
  abbrev pub live_session : Table T → ℕ → Option T
  live_session t id = option_and_then (live_value t) (place_of t id)

  -- ---- changes

  -- one session more, live, behind the others
  pub record Opens (old new : Table T) (id : ℕ) (v : T) : Type 0 where
    pub ids : ids new ≡ ids old ++ id ∷ []
    pub values : values new ≡ values old ++ v ∷ []
    pub ended : ended new ≡ ended old ++ false ∷ []
    pub most_live : most_live new ≡ most_live old

  -- the session at a place has ended; its value stays
  pub record Ends (old new : Table T) (place : ℕ) : Type 0 where
    pub ids : ids new ≡ ids old
    pub values : values new ≡ values old
    pub ended : ended new ≡ slice_set (ended old) place true
    pub most_live : most_live new ≡ most_live old

  -- the same sessions, and the same limit
  pub record IsSame (old new : Table T) : Type 0 where
    pub ids : ids new ≡ ids old
    pub values : values new ≡ values old
    pub ended : ended new ≡ ended old
    pub most_live : most_live new ≡ most_live old

  -- another value at a place
  abbrev pub with_value : Table T → ℕ → T → Table T
  with_value t place w = record t { values = with_item t.values place w }

  -- the value that is handed back
  abbrev pub value_of : InsertRefused T → T
  value_of (Full v) = v
  value_of (Spent v) = v
  value_of (Clash v) = v
  value_of (Memory v) = v
