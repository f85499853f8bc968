-- The name, the callback and the text of a call.
use Rattle.std.proofs.Common.{◌≡◌, ℕ, ◌+◌, ◌-◌, ◌<◌, ◌≤◌, nat_le, Bool, true, false, cond, ◌&&◌, IsTrue, Option, None, Some, List, [], ◌∷◌, ◌++◌, length, refl, sym, ap, ap₂, ◌∙◌, arith, length-append, true≢false, inl, inr}
use Rattle.std.specs.Prelude.{is_some, slice_get}
use Rattle.std.specs.List.{list_all}
use Rattle.std.proofs.lemmas.Bool.{cases_lt, lt-leb, le-ltb}
use Rattle.std.proofs.lemmas.Option.{slice_get_within}
use Rattle.json.specs.Print.{escape_byte, escape, quoted}
use Rattle.json.proofs.Printed.Strings.{escape_byte_plain}
use Rattle.rip_values.specs.declared.builtin.Builtin.{Builtin}
use Rattle.rip_values.specs.Builtins.{builtins}
use Rattle.rip_data.specs.Datum.{utf8_of}
use Rattle.rip_heap.specs.World.{World, Object, code_of, first_object, object_at}
use Rattle.rip_ops.specs.Calls.{builtin_of}
use Rattle.rip_wire.specs.Names.{is_name_letter, IsName}
use Rattle.rip_wire.proofs.TextLemmas.{AreAscii, utf8_of-ascii}
use Rattle.rip_host.specs.Listening.{is_built_in_function, is_function_object}
use Rattle.rip_host.specs.Ripley.{is_call_name}

-- NAMES

both : (a b : Bool) → a && b ≡ true → (a ≡ true) × (b ≡ true)
both true b h = (refl, h)
both false b h = absurd (true≢false (sym h))

at_least : (a b : ℕ) → nat_le a b ≡ true → a ≤ b
at_least a b h = elim (cases_lt b a) [
  | inl less ↦ absurd (true≢false (sym h ∙ lt-leb a b less))
  | inr fits ↦ fits
]

is_name : (t : List ℕ) → is_call_name t ≡ true → IsName t
is_name t h =
    let first = both (nat_le 1 (length t) && nat_le (length t) 64) (list_all is_name_letter t) h in
    let second = both (nat_le 1 (length t)) (nat_le (length t) 64) first.0 in
    record { not_empty = at_least 1 (length t) second.0; short = at_least (length t) 64 second.1; letters = first.1 }

letter_ascii : (u : ℕ) → IsTrue (is_name_letter u) → u < 128
letter_ascii u h = grind arith

letter_plain : (u : ℕ) → IsTrue (is_name_letter u) → escape_byte u ≡ u ∷ []
letter_plain u h = escape_byte_plain u (λ e. grind arith) (λ e. grind arith) (grind arith)

letters_ascii : (us : List ℕ) → IsTrue (list_all is_name_letter us) → AreAscii us
letters_ascii [] h = tt
letters_ascii (u ∷ us) h = let p = both (is_name_letter u) (list_all is_name_letter us) h in (letter_ascii u p.0, letters_ascii us p.1)

letters_plain : (us : List ℕ) → IsTrue (list_all is_name_letter us) → escape us ≡ us
letters_plain [] h = refl
letters_plain (u ∷ us) h = let p = both (is_name_letter u) (list_all is_name_letter us) h in ap₂ (λ a b. a ++ b) (letter_plain u p.0) (letters_plain us p.1)

-- a name is written as it is
pub name_fits : (t : List ℕ) → is_call_name t ≡ true → length (quoted (utf8_of t)) ≤ 73
name_fits t h =
    let n = is_name t h in
    let same : escape (utf8_of t) ≡ t = ap escape (utf8_of-ascii t (letters_ascii t n.letters)) ∙ letters_plain t n.letters in
    omega (arith, n.short, ap length same, length-append (escape (utf8_of t)) (34 ∷ []))

-- CALLBACKS

few : length builtins ≤ 128
unfolding builtins
few = omega arith

-- a function is an object of the heap or a built-in
pub callable : (w : World) (n : ℕ) → is_function_object w n (builtin_of n) ≡ true → n < first_object + length w.objects
callable w n h = elim (cases_lt n 128) [
  | inl low ↦ omega (arith, low)
  | inr high ↦
      let at : object_at w n ≡ slice_get w.objects (n - 128) = ap (λ b. cond b None (slice_get w.objects (n - 128))) (le-ltb n 128 high) in
      by (slice_get w.objects (n - 128)) refl (slice_get builtins n) refl high (ap (λ o. cond (is_some (code_of o)) true (is_built_in_function (builtin_of n))) (sym at) ∙ h)
]
  where
    by : (o : Option Object) → slice_get w.objects (n - 128) ≡ o → (b : Option Builtin) → slice_get builtins n ≡ b → 128 ≤ n → cond (is_some (code_of (slice_get w.objects (n - 128)))) true (is_built_in_function (builtin_of n)) ≡ true → n < 128 + length w.objects
    by (Some o) e b f high h = omega (arith, slice_get_within w.objects (n - 128) o e, high)
    by None e (Some b) f high h = absurd (omega (arith, slice_get_within builtins n b f, few, high))
    by None e None f high h =
        let no : false ≡ true = sym (ap is_built_in_function f) ∙ sym (ap (λ o. cond (is_some (code_of o)) true (is_built_in_function (builtin_of n))) e) ∙ h in cc
