-- The words of the command line.
use Rattle.std.proofs.Common.{◌≡◌, ◌≢◌, ℕ, zero, suc, ◌<◌, ◌≤◌, ◌^◌, ◌⊎◌, inl, inr, List, [], ◌∷◌, ◌++◌, ◌-◌, map, length, take, drop, get_or, codes, decimal, refl, sym, ap, subst, ◌∙◌, arith}
use Rattle.std.proofs.Math.Seq.{take-length}
use Rattle.std.proofs.lemmas.Fmt.{decimal_injective}
use Rattle.std.proofs.lemmas.List.{append_cancel_left}
use Rattle.rip_words.specs.Commands.{Task, checks, replays, serves, drives, generates, IsTurns, IsOption, IsTask, TaskIsOne}

-- ---- numbers

pub long_number : (word : List ℕ) → ((n : ℕ) → n < 2 ^ 64 → word ≡ decimal n → ⊥) → (n : ℕ) → n < 2 ^ 32 → word ≡ decimal n → ⊥
long_number word none n small e = none n (omega (arith, small)) e

pub late_number : (word : List ℕ) (number : ℕ) → word ≡ decimal number → number < 2 ^ 64 → 2 ^ 32 ≤ number → (n : ℕ) → n < 2 ^ 32 → word ≡ decimal n → ⊥
late_number word number is low late n small e = omega (arith, small, late, decimal_injective n number (omega (arith, small)) low (sym e ∙ is))

turns_long : (turns : ℕ) → turns < 2 ^ 53 → turns < 2 ^ 64
turns_long turns h = omega (arith, h)

turns_same : (word : List ℕ) (m n : ℕ) → IsTurns word m → IsTurns word n → m ≡ n
turns_same word m n a b =
    decimal_injective m n (turns_long m a.bounded) (turns_long n b.bounded) (append_cancel_left (codes "--turns=") (decimal m) (decimal n) (sym a.spelled ∙ b.spelled))

pub other_turns : (word digits : List ℕ) (number : ℕ) → word ≡ codes "--turns=" ++ digits → digits ≡ decimal number → number < 2 ^ 64 → (number < 1) ⊎ (2 ^ 53 ≤ number) → (turns : ℕ) → IsTurns word turns → ⊥
other_turns word digits number is spelled low wrong turns t = no wrong
  where
    same : turns ≡ number
    same = decimal_injective turns number (turns_long turns t.bounded) low (append_cancel_left (codes "--turns=") (decimal turns) (decimal number) (sym t.spelled ∙ is ∙ ap (λ (x : List ℕ). codes "--turns=" ++ x) spelled))

    no : (number < 1) ⊎ (2 ^ 53 ≤ number) → ⊥
    no (inl none) = omega (arith, none, same, t.from_one)
    no (inr many) = omega (arith, many, same, t.bounded)

-- ---- lists of words

same_first : {X : Type 0} (a b : X) (r s : List X) → a ∷ r ≡ b ∷ s → a ≡ b
same_first a b r s e = cc

same_rest : {X : Type 0} (a b : X) (r s : List X) → a ∷ r ≡ b ∷ s → r ≡ s
same_rest a b r s e = cc

some_word : {X : Type 0} (a : X) (r : List X) → [] ≡ a ∷ r → ⊥
some_word a r e = cc

-- two options behind words
options_same : (ws : List (List ℕ)) (usual m n : ℕ) → IsOption ws usual m → IsOption ws usual n → m ≡ n
options_same ws usual m n (inl a) (inl b) = a.1 ∙ sym b.1
options_same ws usual m n (inl a) (inr b) = absurd (some_word b.0 [] (sym a.0 ∙ b.1))
options_same ws usual m n (inr a) (inl b) = absurd (some_word a.0 [] (sym b.0 ∙ a.1))
options_same ws usual m n (inr a) (inr b) = turns_same a.0 m n a.2 (subst (λ w. IsTurns w n) (same_first b.0 a.0 [] [] (sym b.1 ∙ a.1)) b.2)

-- the words behind some
abbrev pub rest_of : {X : Type 0} → ℕ → List X → List X
rest_of n ws = take (length ws - n) (drop n ws)

whole : {X : Type 0} (n : ℕ) (ws : List X) → n ≡ length ws → take n ws ≡ ws
whole n ws e = ap (λ k. take k ws) e ∙ take-length ws

pub behind_one : {X : Type 0} (f : X → List ℕ) (ws : List X) (c : X) → 1 ≤ length ws → c ≡ get_or ws 0 c → map f ws ≡ f c ∷ map f (rest_of 1 ws)
behind_one f [] c low e = absurd (omega (arith, low))
behind_one f (w ∷ ws) c low e = ap (λ x. f x ∷ map f ws) (sym e) ∙ ap (λ x. f c ∷ map f x) (sym (whole (length (w ∷ ws) - 1) ws (omega arith)))

pub behind_three : {X : Type 0} (f : X → List ℕ) (ws : List X) (a b c : List ℕ) (x : List (List ℕ)) → map f ws ≡ a ∷ b ∷ c ∷ x → map f (rest_of 3 ws) ≡ x
behind_three f [] a b c x e = absurd (some_word a (b ∷ c ∷ x) e)
behind_three f (u ∷ []) a b c x e = absurd (some_word b (c ∷ x) (same_rest (f u) a [] (b ∷ c ∷ x) e))
behind_three f (u ∷ v ∷ []) a b c x e = absurd (some_word c x (same_rest (f v) b [] (c ∷ x) (same_rest (f u) a (f v ∷ []) (b ∷ c ∷ x) e)))
behind_three f (u ∷ v ∷ w ∷ ws) a b c x e =
    ap (map f) (whole (length (u ∷ v ∷ w ∷ ws) - 3) ws (omega arith)) ∙ same_rest (f w) c (map f ws) x (same_rest (f v) b (f w ∷ map f ws) (c ∷ x) (same_rest (f u) a (f v ∷ f w ∷ map f ws) (b ∷ c ∷ x) e))

-- the words behind a command and its names
pub behind_names : (f : List ℕ) (ws x : List (List ℕ)) (a b c : List ℕ) → f ∷ ws ≡ f ∷ a ∷ b ∷ c ∷ x → ws ≡ a ∷ b ∷ c ∷ x
behind_names f ws x a b c e = same_rest f f ws (a ∷ b ∷ c ∷ x) e

-- the first word
first : Task → List ℕ
first (checks page app) = codes "check"
first (replays page app trace turns) = codes "replay"
first (serves page app address turns) = codes "serve"
first (drives page app gestures) = codes "drive"
first (generates n) = codes "generate"

first_same : (ws : List (List ℕ)) (t : Task) → IsTask ws t → get_or ws 0 [] ≡ first t
unfolding first
first_same ws (checks page app) h = ap (λ (x : List (List ℕ)). get_or x 0 []) h
first_same ws (replays page app trace turns) h = ap (λ (x : List (List ℕ)). get_or x 0 []) h.1
first_same ws (serves page app address turns) h = ap (λ (x : List (List ℕ)). get_or x 0 []) h.1
first_same ws (drives page app gestures) h = ap (λ (x : List (List ℕ)). get_or x 0 []) h
first_same ws (generates n) h = ap (λ (x : List (List ℕ)). get_or x 0 []) h.0

-- the first byte of a word
byte : List ℕ → ℕ
byte w = get_or w 0 0

pub only_replays : (ws rest : List (List ℕ)) → ws ≡ codes "replay" ∷ rest → ((page app third : List ℕ) (turns : ℕ) → IsTask (codes "replay" ∷ rest) (replays page app third turns) → ⊥) → (t : Task) → IsTask ws t → ⊥
unfolding first
only_replays ws rest is none (checks page app) h = omega (arith, ap (λ (x : List ℕ). get_or x 0 0) (sym (first_same ws (checks page app) h) ∙ ap (λ (x : List (List ℕ)). get_or x 0 []) is))
only_replays ws rest is none (replays page app trace turns) h = none page app trace turns (subst (λ (x : List (List ℕ)). IsTask x (replays page app trace turns)) is h)
only_replays ws rest is none (serves page app address turns) h = omega (arith, ap (λ (x : List ℕ). get_or x 0 0) (sym (first_same ws (serves page app address turns) h) ∙ ap (λ (x : List (List ℕ)). get_or x 0 []) is))
only_replays ws rest is none (drives page app gestures) h = omega (arith, ap (λ (x : List ℕ). get_or x 0 0) (sym (first_same ws (drives page app gestures) h) ∙ ap (λ (x : List (List ℕ)). get_or x 0 []) is))
only_replays ws rest is none (generates n) h = omega (arith, ap (λ (x : List ℕ). get_or x 0 0) (sym (first_same ws (generates n) h) ∙ ap (λ (x : List (List ℕ)). get_or x 0 []) is))

pub only_serves : (ws rest : List (List ℕ)) → ws ≡ codes "serve" ∷ rest → ((page app third : List ℕ) (turns : ℕ) → IsTask (codes "serve" ∷ rest) (serves page app third turns) → ⊥) → (t : Task) → IsTask ws t → ⊥
unfolding first
only_serves ws rest is none (checks page app) h = omega (arith, ap (λ (x : List ℕ). get_or x 0 0) (sym (first_same ws (checks page app) h) ∙ ap (λ (x : List (List ℕ)). get_or x 0 []) is))
only_serves ws rest is none (replays page app trace turns) h = omega (arith, ap (λ (x : List ℕ). get_or x 0 0) (sym (first_same ws (replays page app trace turns) h) ∙ ap (λ (x : List (List ℕ)). get_or x 0 []) is))
only_serves ws rest is none (serves page app address turns) h = none page app address turns (subst (λ (x : List (List ℕ)). IsTask x (serves page app address turns)) is h)
only_serves ws rest is none (drives page app gestures) h = omega (arith, ap (λ (x : List ℕ). get_or x 0 0) (sym (first_same ws (drives page app gestures) h) ∙ ap (λ (x : List (List ℕ)). get_or x 0 []) is))
only_serves ws rest is none (generates n) h = omega (arith, ap (λ (x : List ℕ). get_or x 0 0) (sym (first_same ws (generates n) h) ∙ ap (λ (x : List (List ℕ)). get_or x 0 []) is))

-- ---- words ask for one thing

pub tasks : TaskIsOne
unfolding first
tasks ws (checks page1 app1) (checks page2 app2) h g = let e = sym h ∙ g in cc
tasks ws (checks page1 app1) (replays page2 app2 trace2 turns2) h g = absurd (omega (arith, ap (λ (x : List ℕ). get_or x 0 0) (sym (first_same ws (checks page1 app1) h) ∙ first_same ws (replays page2 app2 trace2 turns2) g)))
tasks ws (checks page1 app1) (serves page2 app2 address2 turns2) h g = absurd (omega (arith, ap (λ (x : List ℕ). get_or x 0 0) (sym (first_same ws (checks page1 app1) h) ∙ first_same ws (serves page2 app2 address2 turns2) g)))
tasks ws (checks page1 app1) (drives page2 app2 gestures2) h g = absurd (omega (arith, ap (λ (x : List ℕ). get_or x 0 0) (sym (first_same ws (checks page1 app1) h) ∙ first_same ws (drives page2 app2 gestures2) g)))
tasks ws (checks page1 app1) (generates n2) h g = absurd (omega (arith, ap (λ (x : List ℕ). get_or x 0 0) (sym (first_same ws (checks page1 app1) h) ∙ first_same ws (generates n2) g)))
tasks ws (replays page1 app1 trace1 turns1) (checks page2 app2) h g = absurd (omega (arith, ap (λ (x : List ℕ). get_or x 0 0) (sym (first_same ws (replays page1 app1 trace1 turns1) h) ∙ first_same ws (checks page2 app2) g)))
tasks ws (replays page1 app1 trace1 turns1) (replays page2 app2 trace2 turns2) h g =
    let e = sym h.1 ∙ g.1 in
    let rest : h.0 ≡ g.0 = cc in
    let turns : turns1 ≡ turns2 = options_same g.0 1000000000 turns1 turns2 (subst (λ (x : List (List ℕ)). IsOption x 1000000000 turns1) rest h.2) g.2 in
    cc
tasks ws (replays page1 app1 trace1 turns1) (serves page2 app2 address2 turns2) h g = absurd (omega (arith, ap (λ (x : List ℕ). get_or x 0 0) (sym (first_same ws (replays page1 app1 trace1 turns1) h) ∙ first_same ws (serves page2 app2 address2 turns2) g)))
tasks ws (replays page1 app1 trace1 turns1) (drives page2 app2 gestures2) h g = absurd (omega (arith, ap (λ (x : List ℕ). get_or x 0 0) (sym (first_same ws (replays page1 app1 trace1 turns1) h) ∙ first_same ws (drives page2 app2 gestures2) g)))
tasks ws (replays page1 app1 trace1 turns1) (generates n2) h g = absurd (omega (arith, ap (λ (x : List ℕ). get_or x 0 0) (sym (first_same ws (replays page1 app1 trace1 turns1) h) ∙ first_same ws (generates n2) g)))
tasks ws (serves page1 app1 address1 turns1) (checks page2 app2) h g = absurd (omega (arith, ap (λ (x : List ℕ). get_or x 0 0) (sym (first_same ws (serves page1 app1 address1 turns1) h) ∙ first_same ws (checks page2 app2) g)))
tasks ws (serves page1 app1 address1 turns1) (replays page2 app2 trace2 turns2) h g = absurd (omega (arith, ap (λ (x : List ℕ). get_or x 0 0) (sym (first_same ws (serves page1 app1 address1 turns1) h) ∙ first_same ws (replays page2 app2 trace2 turns2) g)))
tasks ws (serves page1 app1 address1 turns1) (serves page2 app2 address2 turns2) h g =
    let e = sym h.1 ∙ g.1 in
    let rest : h.0 ≡ g.0 = cc in
    let turns : turns1 ≡ turns2 = options_same g.0 9007199254740991 turns1 turns2 (subst (λ (x : List (List ℕ)). IsOption x 9007199254740991 turns1) rest h.2) g.2 in
    cc
tasks ws (serves page1 app1 address1 turns1) (drives page2 app2 gestures2) h g = absurd (omega (arith, ap (λ (x : List ℕ). get_or x 0 0) (sym (first_same ws (serves page1 app1 address1 turns1) h) ∙ first_same ws (drives page2 app2 gestures2) g)))
tasks ws (serves page1 app1 address1 turns1) (generates n2) h g = absurd (omega (arith, ap (λ (x : List ℕ). get_or x 0 0) (sym (first_same ws (serves page1 app1 address1 turns1) h) ∙ first_same ws (generates n2) g)))
tasks ws (drives page1 app1 gestures1) (checks page2 app2) h g = absurd (omega (arith, ap (λ (x : List ℕ). get_or x 0 0) (sym (first_same ws (drives page1 app1 gestures1) h) ∙ first_same ws (checks page2 app2) g)))
tasks ws (drives page1 app1 gestures1) (replays page2 app2 trace2 turns2) h g = absurd (omega (arith, ap (λ (x : List ℕ). get_or x 0 0) (sym (first_same ws (drives page1 app1 gestures1) h) ∙ first_same ws (replays page2 app2 trace2 turns2) g)))
tasks ws (drives page1 app1 gestures1) (serves page2 app2 address2 turns2) h g = absurd (omega (arith, ap (λ (x : List ℕ). get_or x 0 0) (sym (first_same ws (drives page1 app1 gestures1) h) ∙ first_same ws (serves page2 app2 address2 turns2) g)))
tasks ws (drives page1 app1 gestures1) (drives page2 app2 gestures2) h g = let e = sym h ∙ g in cc
tasks ws (drives page1 app1 gestures1) (generates n2) h g = absurd (omega (arith, ap (λ (x : List ℕ). get_or x 0 0) (sym (first_same ws (drives page1 app1 gestures1) h) ∙ first_same ws (generates n2) g)))
tasks ws (generates n1) (checks page2 app2) h g = absurd (omega (arith, ap (λ (x : List ℕ). get_or x 0 0) (sym (first_same ws (generates n1) h) ∙ first_same ws (checks page2 app2) g)))
tasks ws (generates n1) (replays page2 app2 trace2 turns2) h g = absurd (omega (arith, ap (λ (x : List ℕ). get_or x 0 0) (sym (first_same ws (generates n1) h) ∙ first_same ws (replays page2 app2 trace2 turns2) g)))
tasks ws (generates n1) (serves page2 app2 address2 turns2) h g = absurd (omega (arith, ap (λ (x : List ℕ). get_or x 0 0) (sym (first_same ws (generates n1) h) ∙ first_same ws (serves page2 app2 address2 turns2) g)))
tasks ws (generates n1) (drives page2 app2 gestures2) h g = absurd (omega (arith, ap (λ (x : List ℕ). get_or x 0 0) (sym (first_same ws (generates n1) h) ∙ first_same ws (drives page2 app2 gestures2) g)))
tasks ws (generates n1) (generates n2) h g = ap generates (decimal_injective n1 n2 (omega (arith, h.1)) (omega (arith, g.1)) (same_first (decimal n1) (decimal n2) [] [] (same_rest (codes "generate") (codes "generate") (decimal n1 ∷ []) (decimal n2 ∷ []) (sym h.0 ∙ g.0))))
