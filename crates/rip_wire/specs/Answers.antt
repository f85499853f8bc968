-- Answers to batches, and their bodies.
use Rattle.std.specs.Prelude.{ℕ, ◌<◌, ◌^◌, List, [], ◌∷◌, map, codes, Option, None, Some, option_map}
use Rattle.std.specs.List.{AllByRecursion}
use Rattle.serde_json.specs.Data.{Data, null, string, object, member, no_members}
use Rattle.serde_json.specs.Written.{compact_text}
use Rattle.rip_data.specs.Datum.{Tree, tree_of, data_of, IsDatum}
use Rattle.rip_wire.specs.Items.{list_of, number_value}
use Rattle.rip_wire.specs.Reasons.{reason_of, reason_word}
use Rattle.rip_wire.specs.declared.answer.Answer.{Answer}
use Rattle.rip_wire.specs.declared.answer.ServedCall.{ServedCall}
use Rattle.rip_wire.specs.declared.ending.Reason.{Reason}

-- a served call: its number, its moment, its reply
pub record Served : Type 0 where
  pub number : ℕ
  pub time : ℕ
  pub reply : Tree

abbrev pub served_of : ServedCall → Served
served_of s = record { number = s.number; time = s.time; reply = tree_of s.reply }

-- what an answer says: the number of the batch, why the session ended, if it did, and the served calls in order
pub record Said : Type 0 where
  pub number : ℕ
  pub ended : Option Reason
  pub served : List Served

-- what is said of a batch by its number, a reason if the session has ended, and served calls
abbrev pub said : ℕ → Option Reason → List ServedCall → Said
said number ended served = record { number = number; ended = ended; served = map served_of served }

abbrev pub said_of : Answer → Said
said_of a = said a.number (option_map reason_of a.ended) a.served

-- null, or the word of the reason
abbrev pub ended_value : Option Reason → Data
ended_value None = null
ended_value (Some reason) = string (reason_word reason)

-- `[K,TIME,REPLY]`
abbrev pub served_value : Served → Data
served_value s = list_of (number_value s.number ∷ number_value s.time ∷ data_of s.reply ∷ [])

-- `{"batch":N,"ended":REASON,"served":[..]}`
abbrev pub answer_value : Said → Data
answer_value a = object (member (codes "batch") (number_value a.number) (member (codes "ended") (ended_value a.ended) (member (codes "served") (list_of (map served_value a.served)) no_members)))

-- the body of an answer: that JSON with no white space
abbrev pub answer_text : Said → List ℕ
answer_text a = compact_text (answer_value a)

-- the numbers are below 2^53, and the reply is well made
pub record IsServed (s : Served) : Type 0 where
  pub number : s.number < 2 ^ 53
  pub time : s.time < 2 ^ 53
  pub reply : IsDatum s.reply

pub record IsAnswer (a : Said) : Type 0 where
  pub number : a.number < 2 ^ 53
  pub served : AllByRecursion IsServed a.served
