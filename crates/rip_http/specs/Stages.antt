-- What a connection keeps of the message that is coming: private to this crate.
use Rattle.std.specs.Prelude.{◌≡◌, ℕ, ◌+◌, ◌<◌, ◌≤◌, List, take, drop, length, Option, Some, None}
use Rattle.httparse.specs.Spans.{IsWithin, span_bytes}
use Rattle.rip_http.specs.Heads.{after, head_at, head_end}
use Rattle.rip_http.specs.Routes.{segment_of}
use Rattle.rip_http.specs.Verdicts.{Verdict, Refuses, Goes, IsVerdict}
use Rattle.rip_http.specs.Stream.{waits, refuses, takes, IsNext}
use Rattle.rip_http.specs.declared.head.Scan.TheVariants.{Before}
use Rattle.rip_http.specs.declared.head.Sought.{Sought}
use Rattle.rip_http.specs.declared.head.Sought.TheVariants.{Open, Ended}
use Rattle.rip_http.specs.declared.verdict.Judged.{Judged}
use Rattle.rip_http.specs.declared.verdict.Judged.TheVariants.{Refused as RefusedSo, Passed}
use Rattle.rip_http.specs.declared.request.Message.{Message}
use Rattle.rip_http.specs.declared.request.RefusedHead.{RefusedHead}
use Rattle.rip_http.specs.declared.stage.Front.{Front}
use Rattle.rip_http.specs.declared.stage.Front.TheVariants.{Whole, NotYet, Refused as RefusedNow, Memory}
use Rattle.rip_http.specs.declared.stage.Stage.{Stage}
use Rattle.rip_http.specs.declared.stage.Stage.TheVariants.{Head, Body, Refused}

-- what a search for a head's end tells of the bytes
abbrev pub IsSought : List ℕ → Sought → Type 0
IsSought bytes (Open scan) = after Before bytes ≡ Some scan
IsSought bytes (Ended n) = head_end bytes ≡ Some n

-- the verdict on a head, whose target stands at a place in it
abbrev pub verdict_in : List ℕ → Judged → Verdict
verdict_in head (RefusedSo refused) = Refuses refused
verdict_in head (Passed going target) = Goes going (segment_of (span_bytes head target))

-- that place lies in the head
abbrev pub IsJudged : ℕ → Judged → Type 0
IsJudged n (RefusedSo refused) = Unit {0}
IsJudged n (Passed going target) = IsWithin n target

-- a head of this size stands whole at the front of these bytes, and this comes of it
pub record IsWhole (bytes : List ℕ) (size : ℕ) (judged : Judged) : Type 0 where
  pub within : size ≤ length bytes
  pub ends : head_end bytes ≡ Some size
  pub verdict_is : IsVerdict (take size bytes) (verdict_in (take size bytes) judged)
  pub target_is : IsJudged size judged

-- how far the message at the front of these bytes has come
abbrev pub IsStage : List ℕ → Stage → Type 0
IsStage bytes (Head scan) = (after Before bytes ≡ Some scan) × (length bytes < 8192)
IsStage bytes (Body awaited) =
    (head_end (take 8192 bytes) ≡ Some awaited.end)
    × IsVerdict (head_at bytes awaited.end) (Goes awaited.going
    (segment_of (span_bytes (head_at bytes awaited.end) awaited.target)))
    × IsWithin (length (head_at bytes awaited.end)) awaited.target
IsStage bytes (Refused refused) = (n : ℕ) × IsNext bytes (refuses n refused)

-- the refusal that a stage keeps
abbrev pub refused_of : Stage → Option RefusedHead
refused_of (Head scan) = None
refused_of (Body awaited) = None
refused_of (Refused refused) = Some refused

-- what is found at the front of these bytes
abbrev pub IsFront : List ℕ → Front → Type 0
IsFront bytes (Whole n m) = IsNext bytes (takes n m) × (n ≤ length bytes)
IsFront bytes NotYet = IsNext bytes waits
IsFront bytes (RefusedNow refused) = (n : ℕ) × IsNext bytes (refuses n refused)
IsFront bytes Memory = (n : ℕ) × (m : Message) × IsNext bytes (takes n m)

-- what a connection keeps: bytes, of which those behind the start are unread
pub record IsConn (bytes : List ℕ) (start : ℕ) (stage : Stage) : Type 0 where
  pub within : start ≤ length bytes
  pub stage_is : IsStage (drop start bytes) stage
  pub few : length bytes ≤ start + 77824
