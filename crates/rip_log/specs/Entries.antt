-- What an entry records, and its line.
use Rattle.std.specs.Prelude.{◌∷◌, ◌++◌, ℕ, List, [], codes, decimal, Option}
use Rattle.std.specs.List.{join_with_byte}
use Rattle.rip_data.specs.Datum.{Tree, tree_of, trees_in, canonical_text}
use Rattle.rip_wire.specs.Batches.{Contents, contents_of, items_text}
use Rattle.rip_wire.specs.declared.ending.Ending.{Ending}
use Rattle.rip_log.specs.Endings.{ending_words}
use Rattle.rip_log.specs.Parts.{identifier_text, name_text, args_text}
use Rattle.rip_log.specs.declared.entry.Entry.{Entry}
use Rattle.rip_log.specs.declared.entry.Entry.TheVariants as E

-- what an entry records, each in its turn and of its session, which is named by its ordinal: the opening with its
-- identifier, its seed and its time; the batch that was admitted; a call that was served, with its batch, its number, its
-- name and args, the moment and the reply; how a batch was done; that the client closed the session; the status of the run
pub data Recorded : Type 0 where
  opened : ℕ → ℕ → ℕ → ℕ → ℕ → Recorded
  admitted : ℕ → ℕ → Contents → Recorded
  served : ℕ → ℕ → ℕ → ℕ → List ℕ → List Tree → ℕ → Tree → Recorded
  done : ℕ → ℕ → ℕ → Option Ending → Recorded
  closed : ℕ → ℕ → Recorded
  ended : ℕ → ℕ → Recorded

abbrev pub recorded_of : Entry → Recorded
recorded_of (E.Opened turn session id seed time) = opened turn session id seed time
recorded_of (E.Admitted turn session batch) = admitted turn session (contents_of batch)
recorded_of (E.Served turn session batch number name args time reply) = served turn session batch number name (trees_in args) time (tree_of reply)
recorded_of (E.Done turn session batch how) = done turn session batch how
recorded_of (E.Closed turn session) = closed turn session
recorded_of (E.Ended turn status) = ended turn status

-- the words of an entry's line: T the turn, S the session's ordinal, N the batch, K the call
abbrev pub entry_words : Recorded → List (List ℕ)
-- open T S ID SEED TIME
entry_words (opened turn session id seed time) = codes "open" ∷ decimal turn ∷ decimal session ∷ identifier_text id ∷ decimal seed ∷ decimal time ∷ []
-- batch T S N ITEMS
entry_words (admitted turn session batch) = codes "batch" ∷ decimal turn ∷ decimal session ∷ decimal batch.number ∷ items_text batch.items ∷ []
-- serve T S N K NAME ARGS TIME REPLY
entry_words (served turn session batch number name args time reply) =
    codes "serve" ∷ decimal turn ∷ decimal session ∷ decimal batch ∷ decimal number ∷ name_text name ∷ args_text args ∷ decimal time ∷ canonical_text reply ∷ []
-- done T S N and how the batch ended
entry_words (done turn session batch how) = codes "done" ∷ decimal turn ∷ decimal session ∷ decimal batch ∷ ending_words how
-- close T S
entry_words (closed turn session) = codes "close" ∷ decimal turn ∷ decimal session ∷ []
-- end T STATUS
entry_words (ended turn status) = codes "end" ∷ decimal turn ∷ decimal status ∷ []

-- an entry's line: its words with a space between two, and a line feed
abbrev pub entry_text : Recorded → List ℕ
entry_text r = join_with_byte 32 (entry_words r) ++ codes "\n"
