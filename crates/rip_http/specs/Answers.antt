-- The bytes of an answer (RFC 9112, sections 4 to 6; RFC 9110, section 15).
use Rattle.std.specs.Prelude.{◌≡◌, ℕ, ◌<◌, ◌^◌, ◌==◌, Bool, true, false, IsTrue, List, [], ◌∷◌, ◌++◌, length, Option, Some, None, All, if◌then◌else◌, codes, decimal}
use Rattle.uuid.specs.Text.{hyphenated_text, lower}
use Rattle.rip_http.specs.Routes.{method_name}
use Rattle.rip_http.specs.declared.request.Method.{Method}
use Rattle.rip_http.specs.declared.answer.Opening.{Opening}
use Rattle.rip_http.specs.declared.answer.HttpAnswer.{HttpAnswer}

-- RFC 9110 15: the phrase of a status code; those that are never sent have none
abbrev pub phrase : ℕ → List ℕ
phrase code =
    if code == 200 then codes "OK"
    else if code == 400 then codes "Bad Request"
    else if code == 404 then codes "Not Found"
    else if code == 405 then codes "Method Not Allowed"
    else if code == 409 then codes "Conflict"
    else if code == 410 then codes "Gone"
    else if code == 411 then codes "Length Required"
    else if code == 413 then codes "Content Too Large"
    else if code == 431 then codes "Request Header Fields Too Large"
    else if code == 500 then codes "Internal Server Error"
    else if code == 501 then codes "Not Implemented"
    else if code == 503 then codes "Service Unavailable"
    else []

-- a line, ended by CR LF
abbrev pub line : List ℕ → List ℕ
line text = text ++ 13 ∷ 10 ∷ []

-- RFC 9112 5: a field line
abbrev pub field : List ℕ → List ℕ → List ℕ
field name value = line (name ++ (codes ": " ++ value))

-- RFC 9112 4: the status line
abbrev pub status_line : ℕ → List ℕ
status_line code = line (codes "HTTP/1.1 " ++ (decimal code ++ 32 ∷ phrase code))

-- the type of the body: the page, or JSON
abbrev pub content_type : Bool → List ℕ
content_type true = codes "text/html; charset=utf-8"
content_type false = codes "application/json"

-- RFC 9110 10.2.1: the method that the route takes
abbrev pub allow_line : Option Method → List ℕ
allow_line None = []
allow_line (Some method) = field (codes "Allow") (method_name method)

-- RFC 9562 4: an identifier, hyphenated and in small letters
unfoldable pub identifier_text : List ℕ → List ℕ
identifier_text id = hyphenated_text lower id

-- the session that was opened: its identifier, the seed of its random numbers, its time
abbrev pub opened_lines : Opening → List ℕ
opened_lines o =
    field (codes "Ripley-Session") (identifier_text o.id)
    ++ (field (codes "Ripley-Seed") (decimal o.seed)
    ++ field (codes "Ripley-Time") (decimal o.time))

-- in an answer to an opening alone
abbrev pub opening_lines : Option Opening → List ℕ
opening_lines None = []
opening_lines (Some o) = opened_lines o

-- RFC 9110 8.6; an answer to HEAD has none
abbrev pub length_line : HttpAnswer → List ℕ
length_line a = if a.bare then [] else field (codes "Content-Length") (decimal (length a.body))

-- RFC 9112 9.6: the connection is shut behind the answer
abbrev pub close_line : Bool → List ℕ
close_line true = field (codes "Connection") (codes "close")
close_line false = []

-- RFC 9110 9.3.2: an answer to HEAD has no body
abbrev pub body_of : HttpAnswer → List ℕ
body_of a = if a.bare then [] else a.body

-- the bytes of an answer
abbrev pub answer_text : HttpAnswer → List ℕ
answer_text a =
    status_line a.code
    ++ field (codes "Content-Type") (content_type a.html)
    ++ allow_line a.allow
    ++ opening_lines a.opening
    ++ length_line a
    ++ close_line a.close
    ++ line []
    ++ body_of a

-- the numbers of an opening are in range (RFC 9562, 4: an identifier has 16 bytes)
pub record IsOpening (o : Opening) : Type 0 where
  pub long : length o.id ≡ 16
  pub bytes_in_range : All (λ b. b < 256) o.id
  pub seed : o.seed < 2 ^ 32
  pub time : o.time < 2 ^ 64

-- of an opening, if there is one
abbrev pub IsNoneOrOpening : Option Opening → Type 0
IsNoneOrOpening None = Unit {0}
IsNoneOrOpening (Some o) = IsOpening o

-- an answer whose numbers are in range, and which has no body where none is written
pub record IsAnswer (a : HttpAnswer) : Type 0 where
  pub code : a.code < 2 ^ 16
  pub opening : IsNoneOrOpening a.opening
  pub size : length a.body < 2 ^ 64
  pub bodiless : IsTrue a.bare → a.body ≡ []

-- two such answers with the same bytes are equal
abbrev pub AnswersTellApart : Type 0
AnswersTellApart =
    (a b : HttpAnswer) → IsAnswer a → IsAnswer b → answer_text a ≡ answer_text b → a ≡ b
