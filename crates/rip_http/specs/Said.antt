-- What one pass over the fields of a head tells: private to this crate.
use Rattle.std.specs.Prelude.{◌≡◌, ℕ, Bool, true, false, List, Option, Some, None, Result, Ok, Err, codes}
use Rattle.std.specs.Str.{str_eq_ignore_ascii_case}
use Rattle.rip_http.specs.Fields.{Pair, values_of, has_host, length_in, body_length, closes}
use Rattle.rip_http.specs.Verdicts.{has_no_coding}
use Rattle.rip_http.specs.declared.request.Refusal.{Refusal}
use Rattle.rip_http.specs.declared.request.Refusal.TheVariants.{Head}
use Rattle.rip_http.specs.declared.field.Kind.{Kind}
use Rattle.rip_http.specs.declared.field.Kind.TheVariants.{Host, Connection, Length, Coding, Other}
use Rattle.rip_http.specs.declared.field.Said.{Said}

-- which of the four known names this is, in any case
pub record Names (name : List ℕ) (host connection length coding : Bool) : Type 0 where
  pub host_is : str_eq_ignore_ascii_case name (codes "host") ≡ host
  pub connection_is : str_eq_ignore_ascii_case name (codes "connection") ≡ connection
  pub length_is : str_eq_ignore_ascii_case name (codes "content-length") ≡ length
  pub coding_is : str_eq_ignore_ascii_case name (codes "transfer-encoding") ≡ coding

-- the field of this name
abbrev pub IsKind : List ℕ → Kind → Type 0
IsKind name Host = Names name true false false false
IsKind name Connection = Names name false true false false
IsKind name Length = Names name false false true false
IsKind name Coding = Names name false false false true
IsKind name Other = Names name false false false false

-- the length behind one more Content-Length field: there may be one, which is a length
abbrev pub next_length : Result (Option ℕ) Refusal → List ℕ → Result (Option ℕ) Refusal
next_length (Ok None) value = elim (length_in value) [ None ↦ Err Head | Some n ↦ Ok (Some n) ]
next_length (Ok (Some n)) value = Err Head
next_length (Err refusal) value = Err Head

-- what the fields of a head of this version say
pub record IsSaid (minor : ℕ) (fields : List Pair) (said : Said) : Type 0 where
  pub host_is : said.host ≡ has_host minor (values_of (codes "host") fields)
  pub length_is : said.length ≡ body_length (values_of (codes "content-length") fields)
  pub uncoded_is : said.uncoded ≡ has_no_coding (values_of (codes "transfer-encoding") fields)
  pub close_is : said.close ≡ closes minor fields
