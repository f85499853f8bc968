-- The words of the contracts of row functions. Each says that what is answered is a row: in the program p, at the open part
-- `at`, where x is the world that is left. A row function that may ask the host answers no row where memory is wanting.
use Rattle.std.specs.Prelude.{◌≡◌, List, Result, IfOk, MatchResult}
use Rattle.rip_base.specs.declared.memory.NoMemory.{NoMemory}
use Rattle.rip_base.specs.declared.value.Value.{Value}
use Rattle.rip_heap.specs.World.{World}
use Rattle.rip_eval_rows.specs.declared.next.Next.{Next}
use Rattle.rip_eval_rows.specs.declared.part.Part.{Part}
use Rattle.rip_eval_rows.specs.Rest.{as_row}
use Rattle.rip_eval_rows.specs.Row.{Row, Table}
use Rattle.rip_eval_rows.specs.Run.{Calling}
use Rattle.rip_eval_rows.specs.Settle.{settle}
use Rattle.rip_eval_language.specs.Reading.{Loaded}
use Rattle.rip_eval_language.specs.Table.{table}

-- what is answered is this row, whatever values are beside the frame
abbrev pub Does : Loaded → Part → Next → World → Row → Type 0
Does p at next x row = (values : List Value) → as_row (table p) at next values x ≡ row

-- the same in every world, which stays as it is
abbrev pub DoesPurely : Loaded → Part → Next → (World → Row) → Type 0
DoesPurely p at next row = (values : List Value) (w : World) → as_row (table p) at next values w ≡ row w

-- the same where these values are beside the frame
abbrev pub DoesBeside : Loaded → Part → List Value → Next → World → Row → Type 0
DoesBeside p at values next x row = as_row (table p) at next values x ≡ row

-- the same of what asks for no part, in every program and at every part
abbrev pub DoesAnywhere : Next → World → Row → Type 0
DoesAnywhere next x row = (t : Table) (at : Part) (values : List Value) → as_row t at next values x ≡ row

-- the same of what asks for no part and leaves the world, in every program, at every part and in every world
abbrev pub DoesAlways : Next → (World → Row) → Type 0
DoesAlways next row = (t : Table) (at : Part) (values : List Value) (w : World) → as_row t at next values w ≡ row w

-- what is answered is this row once the host r has answered what the row asks of it before any part, and s is the host then
abbrev pub DoesWithHost : {S : Type 0} → Calling S → Loaded → Part → Result Next NoMemory → World → S → Row → S → Type 0
DoesWithHost h p at answer x s row r =
    IfOk answer (λ next. (values : List Value) → (as_row (table p) at next values x, s) ≡ settle h row r)

-- the same where these values are beside the frame
abbrev pub DoesBesideWithHost : {S : Type 0} → Calling S → Loaded → Part → List Value → Result Next NoMemory → World → S → Row → S → Type 0
DoesBesideWithHost h p at values answer x s row r = IfOk answer (λ next. (as_row (table p) at next values x, s) ≡ settle h row r)

-- the same of what asks for no part
abbrev pub DoesAnywhereWithHost : {S : Type 0} → Calling S → Result Next NoMemory → World → S → Row → S → Type 0
DoesAnywhereWithHost h answer x s row r =
    IfOk answer (λ next. (t : Table) (at : Part) (values : List Value) → (as_row t at next values x, s) ≡ settle h row r)

-- a row that begins with calls of the host goes on with this value, or does that instead, whatever follows
abbrev pub GivesValue : {S : Type 0} → Calling S → Result Value Next → World → S → ((Value → World → Row) → Row) → S → Type 0
GivesValue h answer x s row r =
    MatchResult answer (λ v. (go : Value → World → Row) → settle h (row go) r ≡ settle h (go v x) s)
    (λ next. (go : Value → World → Row) (t : Table) (at : Part) (values : List Value) → settle h (row go) r ≡ (as_row t at next values x, s))

-- the same of a row that goes on with no value
abbrev pub GivesWorld : {S : Type 0} → Calling S → Result (Unit {0}) Next → World → S → ((World → Row) → Row) → S → Type 0
GivesWorld h answer x s row r =
    MatchResult answer (λ _. (go : World → Row) → settle h (row go) r ≡ settle h (go x) s)
    (λ next. (go : World → Row) (t : Table) (at : Part) (values : List Value) → settle h (row go) r ≡ (as_row t at next values x, s))
