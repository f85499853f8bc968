-- What the fields of a head say (RFC 9110, section 5; RFC 9112, sections 3.2, 6.2 and 9.6).
use Rattle.std.specs.Prelude.{ℕ, ◌==◌, Bool, true, false, ◌&&◌, ◌||◌, nat_le, List, [], ◌∷◌, length, map, Option, Some, None, Result, Ok, Err, if◌then◌else◌, codes}
use Rattle.std.specs.List.{list_all, list_any, slice_split}
use Rattle.std.specs.Str.{str_eq_ignore_ascii_case}
use Rattle.std.specs.Char.{is_ascii_digit}
use Rattle.std.specs.Str.Parse.{digits_value}
use Rattle.httparse.specs.Grammar.{trim_ows}
use Rattle.httparse.specs.Spans.{header_bytes}
use Rattle.httparse.specs.declared.spans.HeaderSpan.{HeaderSpan}
use Rattle.rip_http.specs.declared.request.Refusal.{Refusal}
use Rattle.rip_http.specs.declared.request.Refusal.TheVariants.{Head}

-- a field: its name, and its value without the white space around it
abbrev pub Pair : Type 0
Pair = List ℕ × List ℕ

-- the fields that these spans of a head cover
abbrev pub pairs : List ℕ → List HeaderSpan → List Pair
pairs head fields = map (header_bytes head) fields

-- the values of the fields of this name, in any case, in order
abbrev pub values_of : List ℕ → List Pair → List (List ℕ)
values_of name [] = []
values_of name (f ∷ fields) =
    if str_eq_ignore_ascii_case f.0 name then f.1 ∷ values_of name fields else values_of name fields

-- RFC 9112 3.2: one Host field, which a request of version 1.0 may lack
abbrev pub has_host : ℕ → List (List ℕ) → Bool
has_host minor [] = minor == 0
has_host minor (host ∷ []) = true
has_host minor (host ∷ next ∷ more) = false

-- 1 to 19 digits and nothing else
abbrev pub is_length : List ℕ → Bool
is_length value =
    nat_le 1 (length value) && (nat_le (length value) 19 && list_all is_ascii_digit value)

-- the number that 1 to 19 digits write
abbrev pub length_in : List ℕ → Option ℕ
length_in value = if is_length value then Some (digits_value 10 value) else None

-- RFC 9112 6.2, 6.3: no Content-Length field, or one that is a length
abbrev pub body_length : List (List ℕ) → Result (Option ℕ) Refusal
body_length [] = Ok None
body_length (value ∷ []) = elim (length_in value) [ None ↦ Err Head | Some n ↦ Ok (Some n) ]
body_length (value ∷ next ∷ more) = Err Head

-- RFC 9110 5.6.1: the members of a list, between its commas and without the white space around them
abbrev pub members : List ℕ → List (List ℕ)
members value = map trim_ows (slice_split (λ b. b == 44) value)

-- RFC 9112 9.6: the list has the option close
abbrev pub lists_close : List ℕ → Bool
lists_close value =
    list_any (λ option. str_eq_ignore_ascii_case option (codes "close")) (members value)

-- the connection is to be shut behind the answer: version 1.0, or a Connection field lists close
abbrev pub closes : ℕ → List Pair → Bool
closes minor fields = minor == 0 || list_any lists_close (values_of (codes "connection") fields)
