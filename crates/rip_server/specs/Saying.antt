-- What the bodies of answers say: private to this crate.
use Rattle.std.specs.Prelude.{ℕ, List, [], codes, Option, option_map, is_some, if◌then◌else◌}
use Rattle.serde_json.specs.Data.{Data, object, member, no_members, string}
use Rattle.rip_wire.specs.Answers.{answer_text}
use Rattle.rip_wire.specs.Reasons.{reason_of}
use Rattle.rip_wire.specs.declared.ending.Ending.{Ending}

-- `{"error":WORD}`
abbrev pub error_value : List ℕ → Data
error_value word = object (member (codes "error") (string word) no_members)

-- the body of the answer to an opening: the page, or why the session has ended
abbrev pub opened_body : List ℕ → Option Ending → List ℕ
opened_body page how = if is_some how then answer_text (record { number = 0; ended = option_map reason_of how; served = [] }) else page
