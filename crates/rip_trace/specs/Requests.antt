-- The bytes of a request that a line stands for (RFC 9112).
use Rattle.std.specs.Prelude.{ℕ, zero, suc, ◌-◌, ◌*◌, List, [], ◌∷◌, ◌++◌, length, take, drop, codes, decimal, get_or}
use Rattle.std.specs.Int.{to_be_bytes, w64}
use Rattle.uuid.specs.Parts.{with_version, with_variant}
use Rattle.uuid.specs.Text.{hyphenated_text, lower}
use Rattle.uuid.specs.declared.Version.TheVariants.{Random}
use Rattle.uuid.specs.declared.Variant.TheVariants.{RFC4122}
use Rattle.rip_trace.specs.Lines.{Asked, page, report, quit}

-- RFC 9562 5.4: the identifier of version 4 whose 16 bytes are two words, big-endian, with version and variant set
abbrev pub identifier : ℕ → ℕ → List ℕ
identifier first second = with_version (with_variant (to_be_bytes w64 first ++ to_be_bytes w64 second) RFC4122) Random

-- the word that is drawn at this place, counted from 1: the one that the trace gives, and behind its last the place itself
abbrev pub drawn : List ℕ → ℕ → ℕ
drawn words place = get_or words (place - 1) place

-- the identifier of a session, by its ordinal: each opening draws three words, and the first two make it
abbrev pub identifier_of : List ℕ → ℕ → List ℕ
identifier_of words s = identifier (drawn words (3 * s - 2)) (drawn words (3 * s - 1))

-- RFC 9112 2.1: a line, ended by CR LF
abbrev pub line : List ℕ → List ℕ
line text = text ++ 13 ∷ 10 ∷ []

-- what stands behind the method and the path, without a body
abbrev pub no_body : List ℕ
no_body = line (codes " HTTP/1.1") ++ (line (codes "Host: a") ++ line [])

-- and before a body of so many bytes
abbrev pub fields_of : ℕ → List ℕ
fields_of size = line (codes " HTTP/1.1") ++ (line (codes "Host: a") ++ (line (codes "Content-Length: " ++ decimal size) ++ line []))

-- and with this body
abbrev pub with_body : List ℕ → List ℕ
with_body body = fields_of (length body) ++ body

-- the bytes of a request, where the trace gives these words
unfoldable pub request : List ℕ → Asked → List ℕ
request words page = codes "GET /" ++ no_body
request words (report s body) = codes "POST /e/" ++ (hyphenated_text lower (identifier_of words s) ++ with_body body)
request words (quit s) = codes "POST /q/" ++ (hyphenated_text lower (identifier_of words s) ++ with_body [])

-- bytes in pieces of 4,096, of which the last may be shorter; so many pieces at most
unfoldable pub pieces_up_to : ℕ → List ℕ → List (List ℕ)
pieces_up_to zero bytes = []
pieces_up_to (suc most) [] = []
pieces_up_to (suc most) (b ∷ bytes) = take 4096 (b ∷ bytes) ∷ pieces_up_to most (drop 4096 (b ∷ bytes))

-- bytes in pieces of 4,096, of which the last may be shorter
abbrev pub in_pieces : List ℕ → List (List ℕ)
in_pieces bytes = pieces_up_to (length bytes) bytes
