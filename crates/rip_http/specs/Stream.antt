-- The requests of a connection: a relation between all its bytes and what is asked in them.
use Rattle.std.specs.Prelude.{◌≡◌, ℕ, ◌+◌, ◌-◌, Bool, List, [], ◌∷◌, ◌++◌, length, take, drop, Option, Some, None, unwrap_or, nat_le, if◌then◌else◌, false}
use Rattle.rip_http.specs.Heads.{head_at, head_end}
use Rattle.rip_http.specs.Verdicts.{Verdict, Refuses, Goes, IsVerdict}
use Rattle.rip_http.specs.declared.request.Method.{Method}
use Rattle.rip_http.specs.declared.request.Method.TheVariants.{Get}
use Rattle.rip_http.specs.declared.request.Refusal.{Refusal}
use Rattle.rip_http.specs.declared.request.Refusal.TheVariants.{Head, Fields, Path, WrongMethod, Coding, NoLength, TooLarge}
use Rattle.rip_http.specs.declared.request.RefusedHead.{RefusedHead}
use Rattle.rip_http.specs.declared.request.Message.{Message}

-- RFC 9110 15: the status code of a refusal
abbrev pub code_of : Refusal → ℕ
code_of Head = 400
code_of Fields = 431
code_of Path = 404
code_of (WrongMethod _) = 405
code_of Coding = 501
code_of NoLength = 411
code_of TooLarge = 413

-- RFC 9110 15.5.6: the method that a refusal names
abbrev pub allowed_by : Refusal → Option Method
allowed_by (WrongMethod method) = Some method
allowed_by Head = None
allowed_by Fields = None
allowed_by Path = None
allowed_by Coding = None
allowed_by NoLength = None
allowed_by TooLarge = None

-- what stands at the front of bytes
pub data Next : Type 0 where
  -- less than a message
  waits : Next
  -- a head that is refused, and how many bytes it has
  refuses : ℕ → RefusedHead → Next
  -- a message, and how many bytes it has
  takes : ℕ → Message → Next

-- the method that an answer to it names: that of a 405, else GET
abbrev pub allowed_at : Next → Method
allowed_at waits = Get
allowed_at (refuses n r) = unwrap_or (allowed_by r.refusal) Get
allowed_at (takes n m) = Get

-- whether the answer to it has no body: it is a refusal, and the head's method is HEAD
abbrev pub bare_at : Next → Bool
bare_at waits = false
bare_at (refuses n r) = r.bare
bare_at (takes n m) = false

-- behind a head of n bytes
abbrev pub behind : List ℕ → ℕ → Verdict → Next
behind bytes n (Refuses refused) = refuses n refused
behind bytes n (Goes going segment) =
    if nat_le (n + going.size) (length bytes)
    then takes (n + going.size) (record {
      route = going.route;
      segment = segment;
      body = take going.size (drop n bytes);
      close = going.close;
    })
    else waits

-- the end of the head is sought in the first 8,192 bytes
abbrev pub IsNextAt : Option ℕ → List ℕ → Next → Type 0
IsNextAt None bytes next =
    next ≡ (if nat_le 8192 (length bytes)
    then refuses 8192 (record { refusal = Fields; bare = false }) else waits)
IsNextAt (Some n) bytes next =
    (v : Verdict) × IsVerdict (head_at bytes n) v × (next ≡ behind bytes n v)

-- what stands at the front of these bytes
abbrev pub IsNext : List ℕ → Next → Type 0
IsNext bytes next = IsNextAt (head_end (take 8192 bytes)) bytes next

-- a message, and how many bytes of its stream it has
pub record Sent : Type 0 where
  pub message : Message
  pub size : ℕ

-- the bytes are these messages, one behind the other, and a rest
abbrev pub Splits : List ℕ → List Sent → List ℕ → Type 0
Splits bytes [] rest = bytes ≡ rest
Splits bytes (s ∷ sent) rest =
    IsNext bytes (takes s.size s.message) × Splits (drop s.size bytes) sent rest

-- where in a stream each of its messages ends, the first of which begins at n
abbrev pub ends_from : ℕ → List Sent → List ℕ
ends_from n [] = []
ends_from n (s ∷ sent) = (n + s.size) ∷ ends_from (n + s.size) sent

-- where in a stream each of its messages ends, counted in bytes from its beginning
abbrev pub ends_of : List Sent → List ℕ
ends_of = ends_from 0

-- the messages that end within the first n bytes
abbrev pub ended_within : ℕ → List Sent → List Sent
ended_within n [] = []
ended_within n (s ∷ sent) = if nat_le s.size n then s ∷ ended_within (n - s.size) sent else []

-- no message stands at the front
abbrev pub IsLast : Next → Type 0
IsLast waits = Unit {0}
IsLast (refuses n refused) = Unit {0}
IsLast (takes n m) = ⊥

-- the requests of a stream: its messages in order, each with its size, and what stands behind them,
-- of which a refused head is the last
pub record Requests (bytes : List ℕ) (sent : List Sent) (last : Next) : Type 0 where
  pub rest : List ℕ
  pub splits : Splits bytes sent rest
  pub next : IsNext rest last
  pub is_last : IsLast last

-- what is done with a connection
pub data Deed : Type 0 where
  fed : List ℕ → Deed
  took : Sent → Deed

-- these deeds, from these unread bytes, leave those
abbrev pub Does : List ℕ → List Deed → List ℕ → Type 0
Does unread [] left = unread ≡ left
Does unread (fed piece ∷ deeds) left = Does (unread ++ piece) deeds left
Does unread (took s ∷ deeds) left =
    IsNext unread (takes s.size s.message) × Does (drop s.size unread) deeds left

-- all that was fed, in order
abbrev pub all_fed : List Deed → List ℕ
all_fed [] = []
all_fed (fed piece ∷ deeds) = piece ++ all_fed deeds
all_fed (took s ∷ deeds) = all_fed deeds

-- all that was taken, in order
abbrev pub all_taken : List Deed → List Sent
all_taken [] = []
all_taken (fed piece ∷ deeds) = all_taken deeds
all_taken (took s ∷ deeds) = s ∷ all_taken deeds
