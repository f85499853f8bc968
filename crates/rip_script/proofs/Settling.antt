-- What putting a text or a line says of the script.
use Rattle.std.proofs.Common.{◌≡◌, ℕ, List, Option, inl, inr, refl}
use Rattle.std.specs.Prelude.{Result, Ok, Err}
use Rattle.rip_outer.specs.Writing.{CountsPut, Takes}
use Rattle.rip_outer.specs.declared.writing.SinkError.{SinkError}
use Rattle.rip_outer.specs.declared.writing.SinkError.TheVariants.{Failed, Memory}
use Rattle.rip_outer.proofs.Composing.{Front-none}
use Rattle.rip_script.specs.Given.{RefusesRun, RefusesTokens, RefusesTree, refusal_line}
use Rattle.rip_script.specs.Steps.{CountsStatus, IsStop, IsWhole, Puts, PutsStop, PutsThen, Settles, status_after}
use Rattle.rip_script.specs.declared.refusal.Refusal.{Refusal}
use Rattle.rip_script.specs.declared.refusal.Refusal.TheVariants.{TooLong, NotUtf8, Lex, Parse, Early}
use Rattle.rip_script.specs.declared.refusal.Stop.{Stop}
use Rattle.rip_script.specs.declared.refusal.Stop.TheVariants as stop
use Rattle.rip_script.specs.declared.status.Status.{Status}
use Rattle.rip_script.specs.declared.status.Status.TheVariants.{Done, BadWords, BadScript, Outside, NoMemory}

-- a put that takes bytes puts them
pub takes_puts : {A : Type 0} (r : Result A SinkError) (bytes : List ℕ) (old new : Option (List ℕ)) → Takes r bytes old new → Puts r bytes old new
takes_puts (Ok done) bytes old new h = h
takes_puts (Err Failed) bytes old new h = h
takes_puts (Err Memory) bytes old new h = Front-none bytes old new h

-- a text was put, or a front of it, before the run ends
pub puts_then : {A : Type 0} (r : Result A SinkError) (due : Status) (text : List ℕ) (old new : Option (List ℕ)) → IsWhole due → Puts r text old new
    → PutsThen due (status_after r due) text old new
puts_then (Ok done) Done text old new whole h = (refl, h)
puts_then (Ok done) BadWords text old new whole h = (refl, h)
puts_then (Ok done) BadScript text old new whole h = (refl, h)
puts_then (Ok done) Outside text old new whole h = absurd whole
puts_then (Ok done) NoMemory text old new whole h = absurd whole
puts_then (Err Failed) due text old new whole h = h
puts_then (Err Memory) due text old new whole h = h

pub counts_status : {A : Type 0} (r : Result A SinkError) (due : Status) (old new : ℕ) → IsWhole due → CountsPut r old new → CountsStatus (status_after r due) old new
counts_status (Ok done) Done old new whole h = h
counts_status (Ok done) BadWords old new whole h = h
counts_status (Ok done) BadScript old new whole h = h
counts_status (Ok done) Outside old new whole h = absurd whole
counts_status (Ok done) NoMemory old new whole h = absurd whole
counts_status (Err Failed) due old new whole h = h
counts_status (Err Memory) due old new whole h = h

-- an answer was put, or a front of it
pub answer_settles : {A : Type 0} (IsAnswer : List ℕ → Type 0) (IsRefusal : Refusal → Type 0) (r : Result A SinkError) (text : List ℕ) (old new : Option (List ℕ))
    → IsAnswer text → Puts r text old new → Settles IsAnswer IsRefusal (status_after r Done) old new
answer_settles IsAnswer IsRefusal (Ok done) text old new is h = (text, is, h)
answer_settles IsAnswer IsRefusal (Err Failed) text old new is h = (text, inl is, h)
answer_settles IsAnswer IsRefusal (Err Memory) text old new is h = inr (text, inl is, h)

-- the line of a refusal was put, or a front of it
refusal_settles : (IsAnswer : List ℕ → Type 0) (IsRefusal : Refusal → Type 0) (s : Status) (refusal : Refusal) (old new : Option (List ℕ))
    → IsRefusal refusal → PutsThen BadScript s (refusal_line refusal) old new → Settles IsAnswer IsRefusal s old new
refusal_settles IsAnswer IsRefusal Done refusal old new is h = cc
refusal_settles IsAnswer IsRefusal BadWords refusal old new is h = cc
refusal_settles IsAnswer IsRefusal BadScript refusal old new is h = (refusal, is, h.1)
refusal_settles IsAnswer IsRefusal Outside refusal old new is h = (refusal_line refusal, inr (refusal, is, refl), h)
refusal_settles IsAnswer IsRefusal NoMemory refusal old new is h = inr (refusal_line refusal, inr (refusal, is, refl), h)

nothing_settles : (IsAnswer : List ℕ → Type 0) (IsRefusal : Refusal → Type 0) (s : Status) (old new : Option (List ℕ))
    → s ≡ NoMemory → new ≡ old → Settles IsAnswer IsRefusal s old new
nothing_settles IsAnswer IsRefusal Done old new e h = cc
nothing_settles IsAnswer IsRefusal BadWords old new e h = cc
nothing_settles IsAnswer IsRefusal BadScript old new e h = cc
nothing_settles IsAnswer IsRefusal Outside old new e h = cc
nothing_settles IsAnswer IsRefusal NoMemory old new e h = inl h

-- what was put for why reading stopped
pub stop_settles : (IsAnswer : List ℕ → Type 0) (IsRefusal : Refusal → Type 0) (s : Status) (why : Stop) (old new : Option (List ℕ))
    → IsStop IsRefusal why → PutsStop s why old new → Settles IsAnswer IsRefusal s old new
stop_settles IsAnswer IsRefusal s (stop.Refused refusal) old new is h = refusal_settles IsAnswer IsRefusal s refusal old new is h
stop_settles IsAnswer IsRefusal s stop.Memory old new is h = nothing_settles IsAnswer IsRefusal s old new h.0 h.1

refuses_tree : (bytes : List ℕ) (refusal : Refusal) → RefusesTokens bytes refusal → RefusesTree bytes refusal
refuses_tree bytes TooLong h = h
refuses_tree bytes NotUtf8 h = h
refuses_tree bytes (Lex place kind) h = h
refuses_tree bytes (Parse place kind) h = absurd h
refuses_tree bytes (Early place kind) h = absurd h

-- what has no tokens has no tree
pub stops_tree : (bytes : List ℕ) (why : Stop) → IsStop (RefusesTokens bytes) why → IsStop (RefusesTree bytes) why
stops_tree bytes (stop.Refused refusal) h = refuses_tree bytes refusal h
stops_tree bytes stop.Memory h = tt

refuses_run : (bytes : List ℕ) (refusal : Refusal) → RefusesTree bytes refusal → RefusesRun bytes refusal
refuses_run bytes TooLong h = h
refuses_run bytes NotUtf8 h = h
refuses_run bytes (Lex place kind) h = h
refuses_run bytes (Parse place kind) h = h
refuses_run bytes (Early place kind) h = absurd h

-- what has no tree is not run
pub stops_run : (bytes : List ℕ) (why : Stop) → IsStop (RefusesTree bytes) why → IsStop (RefusesRun bytes) why
stops_run bytes (stop.Refused refusal) h = refuses_run bytes refusal h
stops_run bytes stop.Memory h = tt
