-- The answers: to a refused head, to what is decided at once, and to a batch that is done.
use Rattle.std.specs.Prelude.{ℕ, Bool, true, false, not, ◌==◌, List, [], ◌∷◌, codes, Option, Some, None, is_some, option_map, if◌then◌else◌}
use Rattle.std.specs.Int.{to_be_bytes, w128}
use Rattle.rip_http.specs.Stream.{code_of, allowed_by}
use Rattle.rip_http.specs.declared.answer.HttpAnswer.{HttpAnswer}
use Rattle.rip_http.specs.declared.answer.Opening.{Opening}
use Rattle.rip_http.specs.declared.request.Refusal.{Refusal}
use Rattle.rip_http.specs.declared.request.Refusal.TheVariants.{Head, Fields, Path, WrongMethod, Coding, NoLength, TooLarge}
use Rattle.rip_http.specs.declared.request.RefusedHead.{RefusedHead}
use Rattle.rip_wire.specs.Answers.{answer_text}
use Rattle.rip_wire.specs.Reasons.{reason_of}
use Rattle.rip_wire.specs.declared.ending.Ending.{Ending}
use Rattle.rip_log.specs.Entries.{Recorded, opened, admitted, served, done, closed, ended}
use Rattle.rip_history.specs.Requests.{Decision, answers, opens, admits, closes, error_body, served_in}

-- an answer of JSON
abbrev pub json_answer : ℕ → List ℕ → Bool → HttpAnswer
json_answer code body close = record {
  code = code;
  html = false;
  allow = None;
  opening = None;
  body = body;
  close = close;
  bare = false;
}

-- the word that tells a refusal
abbrev pub refusal_word : Refusal → List ℕ
refusal_word Head = codes "head"
refusal_word Fields = codes "fields"
refusal_word Path = codes "path"
refusal_word (WrongMethod method) = codes "method"
refusal_word Coding = codes "coding"
refusal_word NoLength = codes "length"
refusal_word TooLarge = codes "size"

-- the answer to a refused head: the connection is shut behind it. RFC 9110 9.3.2: there is no body where the method is HEAD
abbrev pub refusal_answer : RefusedHead → HttpAnswer
refusal_answer r = record {
  code = code_of r.refusal;
  html = false;
  allow = allowed_by r.refusal;
  opening = None;
  body = if r.bare then [] else error_body (refusal_word r.refusal);
  close = true;
  bare = r.bare;
}

-- the answer to what is decided, if it is answered at once
abbrev pub decided_answer : Bool → Decision → Option HttpAnswer
decided_answer close (answers code body) = Some (json_answer code body close)
decided_answer close (opens n id seed) = None
decided_answer close (admits n b) = None
decided_answer close (closes n body) = Some (json_answer 200 body close)

-- the session whose batch is to be done before the answer, if there is one
abbrev pub decided_owed : Decision → Option ℕ
decided_owed (answers code body) = None
decided_owed (opens n id seed) = Some n
decided_owed (admits n b) = Some n
decided_owed (closes n body) = None

-- the opening of a session: its identifier in 16 bytes, its seed and its time
abbrev pub opening_told : ℕ → List Recorded → Option Opening
opening_told n [] = None
opening_told n (opened turn session id seed time ∷ h) =
    if session == n then Some (record { id = to_be_bytes w128 id; seed = seed; time = time }) else opening_told n h
opening_told n (admitted turn session batch ∷ h) = opening_told n h
opening_told n (served turn session batch number name args time reply ∷ h) = opening_told n h
opening_told n (done turn session batch how ∷ h) = opening_told n h
opening_told n (closed turn session ∷ h) = opening_told n h
opening_told n (ended turn status ∷ h) = opening_told n h

-- the body that tells how a batch of a session ended, and which calls it served
abbrev pub batch_body : ℕ → ℕ → Option Ending → List Recorded → List ℕ
batch_body n number how h =
    answer_text (record { number = number; ended = option_map reason_of how; served = served_in n number h })

-- the answer to the opening of a session: the page, or that its session has ended
abbrev pub opening_answer : List ℕ → ℕ → Option Ending → List Recorded → Bool → HttpAnswer
opening_answer page n how h close = record {
  code = if is_some how then 500 else 200;
  html = not (is_some how);
  allow = None;
  opening = opening_told n h;
  body = if is_some how then answer_text (record { number = 0; ended = option_map reason_of how; served = [] }) else page;
  close = close;
  bare = false;
}

-- the answer to a batch of a session that is done; the opening is batch 0
abbrev pub batch_answer : List ℕ → ℕ → ℕ → Option Ending → List Recorded → Bool → HttpAnswer
batch_answer page n number how h close =
    if number == 0 then opening_answer page n how h close
    else json_answer 200 (batch_body n number how h) close
