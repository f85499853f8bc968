-- What a store keeps and replies: data that `read_datum` accepts, at no more than 4,096 places.
use Rattle.std.specs.Prelude.{ℕ, ◌≤◌, List, length, All}
use Rattle.std.specs.Map.{values_of}
use Rattle.rip_data.specs.Datum.{Tree, tree_of, array, elements_of, canonical_text, nesting, IsDatum}
use Rattle.rip_manifest.specs.declared.function.Function.{Function}
use Rattle.rip_store.specs.declared.store.Replies.{Replies}
use Rattle.rip_store.specs.Places.{Stored, IsStore}
use Rattle.rip_store.specs.Apply.{apply}

-- the datum is one whose text `read_datum` accepts: well made, of at most 8 levels, its text of at most 16,384 bytes
pub record IsAccepted (t : Tree) : Type 0 where
  pub made : IsDatum t
  pub shallow : nesting t ≤ 8
  pub short : length (canonical_text t) ≤ 16384

-- the args are a list that `read_datum` accepts
abbrev pub AreAccepted : List Tree → Type 0
AreAccepted args = IsAccepted (array (elements_of args))

-- what is known of a store at all times: its places stand in order, each once; they are at most 4,096; and each datum
-- that it keeps is accepted
pub record IsKept (s : Stored) : Type 0 where
  pub in_order : IsStore s
  pub few : length s ≤ 4096
  pub accepted : All IsAccepted (values_of s)

-- each of the three replies is accepted
pub record AreAcceptedReplies (r : Replies) : Type 0 where
  pub logged : IsAccepted (tree_of r.logged)
  pub sent : IsAccepted (tree_of r.sent)
  pub kept : IsAccepted (tree_of r.kept)

-- a call with accepted args leaves a store of which all this is known, and its reply is accepted
abbrev pub StaysKept : Type 0
StaysKept =
    (fs : List Function) (s : Stored) (name : List ℕ) (args : List Tree) → IsKept s → AreAccepted args
    → IsKept (apply fs s name args).0 × IsAccepted (apply fs s name args).1
