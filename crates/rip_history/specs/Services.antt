-- What replies to served calls, and what comes of the replies.
use Rattle.std.specs.Prelude.{◌≡◌, ℕ, List, [], ◌∷◌, ◌++◌, map}
use Rattle.std.specs.List.{flat_map, zip}
use Rattle.rip_data.specs.Datum.{Tree}
use Rattle.rip_wire.specs.Answers.{Served}
use Rattle.rip_log.specs.Entries.{Recorded, served}
use Rattle.rip_manifest.specs.declared.function.Function.{Function}
use Rattle.rip_store.specs.Apply.{apply, fold}
use Rattle.rip_store.specs.Held.{functions_of, stored_of}
use Rattle.rip_store.specs.Kept.{IsKept}
use Rattle.rip_store.specs.declared.store.Store.{Store}
use Rattle.rip_history.specs.Parts.{Fact, passes, serves, finishes, Part, Given}

-- a call that was served: its name and args
abbrev pub Called : Type 0
Called = List ℕ × List Tree

-- what a service replies to a call, by all calls that were served before it, in order, whatever session they are of
abbrev pub Service : Type 0
Service = List Called → Called → Tree

-- the service of an application's functions: each call is applied to the store that the calls before it left
abbrev pub service_of : List Function → Service
service_of fs calls call = (apply fs (fold fs [] calls).0 call.0 call.1).1

-- a store that replies as a service after these calls: it is that of its functions, and the calls left it so
pub record RepliesAs (store : Store) (service : Service) (calls : List Called) : Type 0 where
  pub replies : service ≡ service_of (functions_of store)
  pub stored : stored_of store ≡ (fold (functions_of store) [] calls).0
  pub kept : IsKept (stored_of store)

-- ---- the served calls of parts

-- a served call: its batch, its number, its name and args
pub record Serving : Type 0 where
  pub batch : ℕ
  pub number : ℕ
  pub name : List ℕ
  pub args : List Tree

abbrev pub serving_of : ℕ → Fact → List Serving
serving_of batch passes = []
serving_of batch (serves number name args) = record { batch = batch; number = number; name = name; args = args } ∷ []
serving_of batch (finishes how) = []

-- the served calls of parts, in order
abbrev pub servings_in : List Part → List Serving
servings_in ps = flat_map (λ (p : Part). serving_of p.batch p.fact) ps

-- as the service sees them
abbrev pub called_in : List Part → List Called
called_in ps = map (λ (s : Serving). (s.name, s.args)) (servings_in ps)

-- what a service replies to calls one after another, after those before
abbrev pub replies_to : Service → List Called → List Called → List Tree
replies_to service calls [] = []
replies_to service calls (c ∷ cs) = service calls c ∷ replies_to service (calls ++ c ∷ []) cs

-- what the served calls of parts are given at this moment
abbrev pub given_by : Service → List Called → ℕ → List Part → List Given
given_by service calls moment ps = map (λ reply. record { time = moment; reply = reply }) (replies_to service calls (called_in ps))

-- the entry of a served call with what it was given, in a turn, for the session of an ordinal
abbrev pub served_entry : ℕ → ℕ → Serving × Given → Recorded
served_entry turn session (s, g) = served turn session s.batch s.number s.name s.args g.time g.reply

-- the entries of the served calls of parts
abbrev pub served_entries : ℕ → ℕ → List Part → List Given → List Recorded
served_entries turn session ps gs = map (served_entry turn session) (zip (servings_in ps) gs)

-- the same calls as they are answered
abbrev pub answered_call : Serving × Given → Served
answered_call (s, g) = record { number = s.number; time = g.time; reply = g.reply }

abbrev pub answered_calls : List Part → List Given → List Served
answered_calls ps gs = map answered_call (zip (servings_in ps) gs)
