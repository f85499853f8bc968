-- The longest run of units that pass a test.
use Rattle.std.proofs.Common.{◌≡◌, ℕ, suc, Bool, true, false, List, [], ◌∷◌, ◌++◌, length, take, drop, take_while, refl, sym, ap, ◌∙◌, one-add, eqb-true, take-append-drop}
use Rattle.std.specs.Prelude.{◌==◌}
use Rattle.std.specs.List.{list_all, prefix_len}
use Rattle.std.proofs.lemmas.Bool.{and_parts, and_from, cond-true, cond-false, false≢true}
use Rattle.rip_base.specs.Units.{begins}
use Rattle.rip_markup.specs.Scans.{behind}

-- a run, one unit on
pub run_more : (p : ℕ → Bool) (c : ℕ) (rest : List ℕ) → p c ≡ true → prefix_len p (c ∷ rest) ≡ suc (prefix_len p rest)
run_more p c rest passes = cond-true (p c) _ _ passes ∙ one-add (prefix_len p rest)

pub run_none : (p : ℕ → Bool) (c : ℕ) (rest : List ℕ) → p c ≡ false → prefix_len p (c ∷ rest) ≡ 0
run_none p c rest fails = cond-false (p c) _ _ fails

-- each unit of a run passes
pub run_all : (p : ℕ → Bool) (units : List ℕ) → list_all p (take_while p units) ≡ true
run_all p [] = refl
run_all p (c ∷ rest) = all_by p c rest (p c) refl (run_all p rest)
  where
    all_by : (p : ℕ → Bool) (c : ℕ) (rest : List ℕ) (b : Bool) → p c ≡ b → list_all p (take (prefix_len p rest) rest) ≡ true → list_all p (take (prefix_len p (c ∷ rest)) (c ∷ rest)) ≡ true
    all_by p c rest true passes below = ap (λ n. list_all p (take n (c ∷ rest))) (run_more p c rest passes) ∙ and_from (p c) _ passes below
    all_by p c rest false fails below = ap (λ n. list_all p (take n (c ∷ rest))) (run_none p c rest fails)

-- behind the longest run stands no unit that passes
pub run_stops : (p : ℕ → Bool) (units : List ℕ) → begins p (behind p units) ≡ false
run_stops p [] = refl
run_stops p (c ∷ rest) = stops_by (p c) refl (run_stops p rest)
  where
    stops_by : (b : Bool) → p c ≡ b → begins p (behind p rest) ≡ false → begins p (behind p (c ∷ rest)) ≡ false
    stops_by true passes below = ap (λ n. begins p (drop n (c ∷ rest))) (run_more p c rest passes) ∙ below
    stops_by false fails below = ap (λ n. begins p (drop n (c ∷ rest))) (run_none p c rest fails) ∙ fails

-- the units are the run and what stands behind it
pub run_splits : (p : ℕ → Bool) (units : List ℕ) → units ≡ take_while p units ++ behind p units
run_splits p units = sym (take-append-drop (prefix_len p units) units)

-- the units in front are the run, where all of them pass and what follows begins with none that does
pub run_len : (p : ℕ → Bool) (front rest : List ℕ) → list_all p front ≡ true → begins p rest ≡ false → prefix_len p (front ++ rest) ≡ length front
run_len p [] [] all stops = refl
run_len p [] (c ∷ rest) all stops = run_none p c rest stops
run_len p (c ∷ front) rest all stops =
    let parts = and_parts (p c) _ all in
    run_more p c (front ++ rest) parts.0 ∙ ap suc (run_len p front rest parts.1 stops)

take_front : (front rest : List ℕ) → take (length front) (front ++ rest) ≡ front
take_front [] rest = refl
take_front (c ∷ front) rest = ap (λ u. c ∷ u) (take_front front rest)

drop_front : (front rest : List ℕ) → drop (length front) (front ++ rest) ≡ rest
drop_front [] rest = refl
drop_front (c ∷ front) rest = drop_front front rest

pub run_is : (p : ℕ → Bool) (front rest : List ℕ) → list_all p front ≡ true → begins p rest ≡ false → take_while p (front ++ rest) ≡ front
run_is p front rest all stops = ap (λ n. take n (front ++ rest)) (run_len p front rest all stops) ∙ take_front front rest

pub behind_is : (p : ℕ → Bool) (front rest : List ℕ) → list_all p front ≡ true → begins p rest ≡ false → behind p (front ++ rest) ≡ rest
behind_is p front rest all stops = ap (λ n. drop n (front ++ rest)) (run_len p front rest all stops) ∙ drop_front front rest

-- units that begin with one that passes do so with more behind them
pub begins-append : (p : ℕ → Bool) (front rest : List ℕ) → begins p front ≡ true → begins p (front ++ rest) ≡ true
begins-append p [] rest b = absurd (false≢true b)
begins-append p (c ∷ front) rest b = b

-- a run of units that begin with one that passes begins with it
pub run_begins : (p : ℕ → Bool) (units : List ℕ) → begins p units ≡ true → begins p (take_while p units) ≡ true
run_begins p [] b = b
run_begins p (c ∷ rest) b = ap (λ n. begins p (take n (c ∷ rest))) (run_more p c rest b) ∙ b

-- a run by one test begins as the units do by another, whose units pass the first
pub run_begins_by : (p q : ℕ → Bool) (units : List ℕ) → ((c : ℕ) → q c ≡ true → p c ≡ true) → begins q units ≡ true → begins q (take_while p units) ≡ true
run_begins_by p q [] sub b = b
run_begins_by p q (c ∷ rest) sub b = ap (λ n. begins q (take n (c ∷ rest))) (run_more p c rest (sub c b)) ∙ b

-- units that begin with a unit by one test don't by another that excludes it
pub begins_not : (p q : ℕ → Bool) (units : List ℕ) → ((c : ℕ) → q c ≡ true → p c ≡ false) → begins q units ≡ true → begins p units ≡ false
begins_not p q [] sub b = refl
begins_not p q (c ∷ rest) sub b = sub c b

-- units that begin with this one
pub head_is : (q : ℕ) (units : List ℕ) → begins (λ c. c == q) units ≡ true → units ≡ q ∷ drop 1 units
head_is q [] b = absurd (false≢true b)
head_is q (c ∷ rest) b = ap (λ d. d ∷ rest) (eqb-true c q b)
