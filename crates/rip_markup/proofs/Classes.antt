-- Which classes of units exclude each other.
use Rattle.std.proofs.Common.{◌≡◌, ℕ, true, false, ◌||◌, ◌==◌, arith}
use Rattle.std.proofs.lemmas.Bool.{or_parts, not-true, or_left}
use Rattle.std.proofs.lemmas.Bool.Decides.{nat_tests}
use Rattle.rip_markup.specs.Units.{is_space, is_letter, is_digit, is_name_unit, is_attribute_unit, is_quote, is_unquoted}

pub letter_not_space : (c : ℕ) → is_letter c ≡ true → is_space c ≡ false
unfolding is_letter is_space
letter_not_space c e = grind (arith, nat_tests)

pub unquoted_not_quote : (c : ℕ) → is_unquoted c ≡ true → is_quote c ≡ false
unfolding is_unquoted
unquoted_not_quote c e = let a = or_parts _ _ (not-true _ e) in let b = or_parts _ _ a.0 in b.1

pub letter_name : (c : ℕ) → is_letter c ≡ true → is_name_unit c ≡ true
unfolding is_name_unit
letter_name c e = or_left (is_letter c || is_digit c) (c == 45) (or_left (is_letter c) (is_digit c) e)

pub letter_attribute : (c : ℕ) → is_letter c ≡ true → is_attribute_unit c ≡ true
unfolding is_attribute_unit
letter_attribute c e = or_left _ _ (letter_name c e)
