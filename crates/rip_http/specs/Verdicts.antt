-- What a head decides: that its request is refused, or where it goes.
use Rattle.std.specs.Prelude.{◌≡◌, ℕ, ◌≤◌, ◌⊎◌, Bool, true, false, bytes_eq, nat_le, List, [], ◌∷◌, length, map, Option, Some, None, Result, Ok, Err, codes}
use Rattle.std.specs.Option.{ok_or}
use Rattle.httparse.specs.Grammar.{RequestHead, ReadsRequest}
use Rattle.httparse.specs.Spans.{name_and_value}
use Rattle.rip_http.specs.Fields.{Pair, values_of, has_host, body_length, closes}
use Rattle.rip_http.specs.Routes.{path_of, segment_of, route_of, method_of, method_name}
use Rattle.rip_http.specs.declared.request.Route.{Route}
use Rattle.rip_http.specs.declared.request.Route.TheVariants.{Page, Events, Quit}
use Rattle.rip_http.specs.declared.request.Refusal.{Refusal}
use Rattle.rip_http.specs.declared.request.Refusal.TheVariants.{Head, Path, WrongMethod, Coding, NoLength, TooLarge}
use Rattle.rip_http.specs.declared.request.RefusedHead.{RefusedHead}
use Rattle.rip_http.specs.declared.request.Going.{Going}

-- the parts of a head that decide
pub record Parts : Type 0 where
  pub method : List ℕ
  pub target : List ℕ
  pub minor : ℕ
  pub fields : List Pair

-- of a head: its fields by name and value
abbrev pub parts_of : RequestHead → Parts
parts_of h = record {
  method = h.method;
  target = h.target;
  minor = h.minor;
  fields = map name_and_value h.fields;
}

infixl 10 ◌>>=◌
-- one step, and the next where it does not refuse
abbrev pub ◌>>=◌ : {A B : Type 0} → Result A Refusal → (A → Result B Refusal) → Result B Refusal
Ok a >>= f = f a
Err e >>= f = Err e

-- refused unless the test holds
abbrev pub check : Bool → Refusal → Result (Unit {0}) Refusal
check true refusal = Ok tt
check false refusal = Err refusal

-- RFC 9110 8.6: how many bytes the body has. A request for the page may do without Content-Length
abbrev pub size_of : Route → Option ℕ → Result ℕ Refusal
size_of route (Some n) = Ok n
size_of Page None = Ok 0
size_of Events None = Err NoLength
size_of Quit None = Err NoLength

-- RFC 9112 6.1: no transfer coding is taken
abbrev pub has_no_coding : List (List ℕ) → Bool
has_no_coding [] = true
has_no_coding (coding ∷ more) = false

-- the refusals of a head in their order, or where the request goes
abbrev pub decide : Parts → Result Going Refusal
decide p = do
  _ ← check (has_host p.minor (values_of (codes "host") p.fields)) Head
  length ← body_length (values_of (codes "content-length") p.fields)
  route ← ok_or (route_of (path_of p.target)) Path
  _ ← check (bytes_eq p.method (method_name (method_of route))) (WrongMethod (method_of route))
  _ ← check (has_no_coding (values_of (codes "transfer-encoding") p.fields)) Coding
  size ← size_of route length
  _ ← check (nat_le size 65536) TooLarge
  Ok (record { route = route; size = size; close = closes p.minor p.fields })

-- what comes of a head: a refusal, which is answered bare where the method is HEAD, or a request
-- with its segment
pub data Verdict : Type 0 where
  Refuses : RefusedHead → Verdict
  Goes : Going → List ℕ → Verdict

-- by what its parts decide
abbrev pub verdict_by : Parts → Result Going Refusal → Verdict
verdict_by p (Err refusal) =
    Refuses (record { refusal = refusal; bare = bytes_eq p.method (codes "HEAD") })
verdict_by p (Ok going) = Goes going (segment_of p.target)

-- what comes of a head with these parts
abbrev pub verdict_of : Parts → Verdict
verdict_of p = verdict_by p (decide p)

-- all the bytes are this head, and it has at most 64 fields
abbrev pub IsHead : List ℕ → RequestHead → Type 0
IsHead bytes h = ReadsRequest bytes h [] × (length h.fields ≤ 64)

-- bytes that are no head are refused; a head is judged by its parts
abbrev pub IsVerdict : List ℕ → Verdict → Type 0
IsVerdict bytes v =
    (((h : RequestHead) → ¬ IsHead bytes h)
    × (v ≡ Refuses (record { refusal = Head; bare = false })))
    ⊎ ((h : RequestHead) × IsHead bytes h × (v ≡ verdict_of (parts_of h)))
