-- The longest run of units that pass a test.
use Rattle.std.proofs.Common.{◌≡◌, ℕ, suc, ◌≤◌, Bool, true, false, not, List, [], ◌∷◌, ◌++◌, length, take, drop, take_while, refl, sym, ap, ◌∙◌, arith, one-add}
use Rattle.std.specs.List.{list_all, prefix_len}
use Rattle.std.proofs.lemmas.Bool.{and_parts, and_from, cond-true, cond-false}
use Rattle.rip_lexer.specs.Units.{is_line_end}
use Rattle.rip_lexer.specs.Gap.{ends_line}

-- a run, one unit on
pub run_more : (p : ℕ → Bool) (c : ℕ) (rest : List ℕ) → p c ≡ true → prefix_len p (c ∷ rest) ≡ suc (prefix_len p rest)
run_more p c rest passes = cond-true (p c) _ _ passes ∙ one-add (prefix_len p rest)

pub run_none : (p : ℕ → Bool) (c : ℕ) (rest : List ℕ) → p c ≡ false → prefix_len p (c ∷ rest) ≡ 0
run_none p c rest fails = cond-false (p c) _ _ fails

-- each unit of a run passes
pub run_all : (p : ℕ → Bool) (units : List ℕ) → list_all p (take (prefix_len p units) units) ≡ true
run_all p [] = refl
run_all p (c ∷ rest) = all_by p c rest (p c) refl (run_all p rest)
  where
    all_by : (p : ℕ → Bool) (c : ℕ) (rest : List ℕ) (b : Bool) → p c ≡ b → list_all p (take (prefix_len p rest) rest) ≡ true → list_all p (take (prefix_len p (c ∷ rest)) (c ∷ rest)) ≡ true
    all_by p c rest true passes below = ap (λ n. list_all p (take n (c ∷ rest))) (run_more p c rest passes) ∙ and_from (p c) _ passes below
    all_by p c rest false fails below = ap (λ n. list_all p (take n (c ∷ rest))) (run_none p c rest fails)

-- a run within the units is as long as they say
pub length_run : (p : ℕ → Bool) (units : List ℕ) → length (take_while p units) ≡ prefix_len p units
length_run p [] = refl
length_run p (c ∷ rest) = long_by (p c) refl (length_run p rest)
  where
    long_by : (b : Bool) → p c ≡ b → length (take (prefix_len p rest) rest) ≡ prefix_len p rest → length (take (prefix_len p (c ∷ rest)) (c ∷ rest)) ≡ prefix_len p (c ∷ rest)
    long_by true passes below = ap (λ n. length (take n (c ∷ rest))) (run_more p c rest passes) ∙ ap suc below ∙ sym (run_more p c rest passes)
    long_by false fails below = ap (λ n. length (take n (c ∷ rest))) (run_none p c rest fails) ∙ sym (run_none p c rest fails)

-- units that all pass and stand in front are fails more than the run
pub run_bound : (p : ℕ → Bool) (front more : List ℕ) → list_all p front ≡ true → length front ≤ prefix_len p (front ++ more)
run_bound p [] more all = omega arith
run_bound p (c ∷ front) more all =
    let parts = and_parts (p c) _ all in
    omega (arith, run_more p c (front ++ more) parts.0, run_bound p front more parts.1)

-- the run of units that pass is those in front, where what follows doesn't pass or isn't there
pub line_is : (body rest : List ℕ) → list_all (λ c. not (is_line_end c)) body ≡ true → ends_line rest ≡ true → take_while (λ c. not (is_line_end c)) (body ++ rest) ≡ body
line_is [] [] all ends = refl
line_is [] (c ∷ rest) all ends = ap (λ n. take n (c ∷ rest)) (run_none (λ c. not (is_line_end c)) c rest (ap not ends))
line_is (c ∷ body) rest all ends =
    let parts = and_parts (not (is_line_end c)) _ all in
    ap (λ n. take n (c ∷ (body ++ rest))) (run_more (λ c. not (is_line_end c)) c (body ++ rest) parts.0) ∙ ap (λ units. c ∷ units) (line_is body rest parts.1 ends)

-- behind the units before a line end stands one, or nothing
pub line_ends : (units : List ℕ) → ends_line (drop (prefix_len (λ c. not (is_line_end c)) units) units) ≡ true
line_ends [] = refl
line_ends (c ∷ rest) = ends_by (is_line_end c) refl (line_ends rest)
  where
    ends_by : (b : Bool) → is_line_end c ≡ b → ends_line (drop (prefix_len (λ c. not (is_line_end c)) rest) rest) ≡ true → ends_line (drop (prefix_len (λ c. not (is_line_end c)) (c ∷ rest)) (c ∷ rest)) ≡ true
    ends_by true passes below = ap (λ n. ends_line (drop n (c ∷ rest))) (run_none (λ c. not (is_line_end c)) c rest (ap not passes)) ∙ passes
    ends_by false fails below = ap (λ n. ends_line (drop n (c ∷ rest))) (run_more (λ c. not (is_line_end c)) c rest (ap not fails)) ∙ below
