-- Numerals with a space behind them.
use Rattle.std.proofs.Common.{◌≡◌, ◌≢◌, ℕ, suc, ◌<◌, ◌^◌, ◌&&◌, List, [], ◌∷◌, ◌++◌, Bool, true, false, decimal, refl, sym, subst, ◌∙◌, arith}
use Rattle.std.specs.Char.{is_ascii_digit}
use Rattle.std.specs.List.{list_all, AllByRecursion}
use Rattle.std.proofs.lemmas.Fmt.{decimal_injective}
use Rattle.rip_words.proofs.NumeralsLemmas.{decimal_passes}
use Rattle.rip_trace.specs.Spaces.{HasNoSpace}

abbrev pub NoSpace : List ℕ → Type 0
NoSpace bs = AllByRecursion (λ b. b ≢ 32) bs

pub no_space : (bs : List ℕ) → HasNoSpace bs → NoSpace bs
no_space [] h = tt
no_space (b ∷ bs) h = (h 0 (omega arith), no_space bs (λ k low. h (suc k) (omega arith)))

pub both_true : (a b : Bool) → a && b ≡ true → (a ≡ true) × (b ≡ true)
both_true true b h = (refl, h)
both_true false b h = cc

digit_no_space : (d : ℕ) → is_ascii_digit d ≡ true → d ≢ 32
digit_no_space d h e = grind arith

digits_no_space : (ds : List ℕ) → list_all is_ascii_digit ds ≡ true → NoSpace ds
digits_no_space [] h = tt
digits_no_space (d ∷ ds) h =
    let parts = both_true (is_ascii_digit d) (list_all is_ascii_digit ds) h in
    (digit_no_space d parts.0, digits_no_space ds parts.1)

pub decimal_no_space : (n : ℕ) → n < 2 ^ 64 → NoSpace (decimal n)
decimal_no_space n h = digits_no_space (decimal n) (decimal_passes n h)

first_byte : (x y : ℕ) (a b : List ℕ) → x ∷ a ≡ y ∷ b → x ≡ y
first_byte x y a b e = cc

rest_bytes : (x y : ℕ) (a b : List ℕ) → x ∷ a ≡ y ∷ b → a ≡ b
rest_bytes x y a b e = cc

more_bytes : (x y : ℕ) (a b : List ℕ) → x ≡ y → a ≡ b → x ∷ a ≡ y ∷ b
more_bytes x y a b e f = cc

-- two texts, each cut at its first space
pub space_cut : (a b r s : List ℕ) → NoSpace a → NoSpace b → a ++ 32 ∷ r ≡ b ++ 32 ∷ s → (a ≡ b) × (r ≡ s)
space_cut [] [] r s h g e = (refl, rest_bytes 32 32 r s e)
space_cut [] (y ∷ b) r s h g e = absurd (g.0 (sym (first_byte 32 y r (b ++ 32 ∷ s) e)))
space_cut (x ∷ a) [] r s h g e = absurd (h.0 (first_byte x 32 (a ++ 32 ∷ r) s e))
space_cut (x ∷ a) (y ∷ b) r s h g e =
    let same = space_cut a b r s h.1 g.1 (rest_bytes x y (a ++ 32 ∷ r) (b ++ 32 ∷ s) e) in
    (more_bytes x y a b (first_byte x y (a ++ 32 ∷ r) (b ++ 32 ∷ s) e) same.0, same.1)

pub space_within : (a r : List ℕ) → NoSpace (a ++ 32 ∷ r) → ⊥
space_within [] r h = h.0 refl
space_within (x ∷ a) r h = space_within a r h.1

pub no_space_there : (bytes : List ℕ) → HasNoSpace bytes → (n : ℕ) (rest : List ℕ) → n < 2 ^ 64 → bytes ≡ decimal n ++ 32 ∷ rest → ⊥
no_space_there bytes h n rest small e = space_within (decimal n) rest (subst NoSpace e (no_space bytes h))

pub other_numeral : (bytes front behind : List ℕ) → bytes ≡ front ++ 32 ∷ behind → HasNoSpace front → ((n : ℕ) → n < 2 ^ 64 → front ≡ decimal n → ⊥) → (n : ℕ) (rest : List ℕ) → n < 2 ^ 64 → bytes ≡ decimal n ++ 32 ∷ rest → ⊥
other_numeral bytes front behind is h none n rest small e =
    none n small (space_cut front (decimal n) behind rest (no_space front h) (decimal_no_space n small) (sym is ∙ e)).0

-- two numerals with a space behind them
pub numeral_same : (m n : ℕ) (r s : List ℕ) → m < 2 ^ 64 → n < 2 ^ 64 → decimal m ++ 32 ∷ r ≡ decimal n ++ 32 ∷ s → (m ≡ n) × (r ≡ s)
numeral_same m n r s hm hn e =
    let cut = space_cut (decimal m) (decimal n) r s (decimal_no_space m hm) (decimal_no_space n hn) e in
    (decimal_injective m n hm hn cut.0, cut.1)
