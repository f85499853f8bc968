-- What a line asks for.
use Rattle.std.proofs.Common.{◌≡◌, ◌≢◌, ℕ, ◌<◌, ◌^◌, List, ◌∷◌, ◌++◌, get_or, codes, decimal, refl, sym, ap, ◌∙◌, arith}
use Rattle.std.proofs.lemmas.Fmt.{decimal_injective}
use Rattle.std.proofs.lemmas.List.{append_cancel_left}
use Rattle.rip_trace.specs.Lines.{Asked, page, report, quit}
use Rattle.rip_trace.specs.Spelling.{IsAsked, IsSession}
use Rattle.rip_trace.proofs.Spaces.{numeral_same}

short : (s : ℕ) → IsSession s → s < 2 ^ 64
short s h = let small : s < 2 ^ 32 = h.small in omega (arith, small)

-- the first byte of what is asked
first : Asked → ℕ
first page = 103
first (report s body) = 101
first (quit s) = 113

first_same : (asks : List ℕ) (a : Asked) → IsAsked asks a → get_or asks 0 0 ≡ first a
unfolding first
first_same asks page h = ap (λ (x : List ℕ). get_or x 0 0) h
first_same asks (report s body) h = ap (λ (x : List ℕ). get_or x 0 0) h.0
first_same asks (quit s) h = ap (λ (x : List ℕ). get_or x 0 0) h.0

pub only_report : (asks rest : List ℕ) → asks ≡ codes "e " ++ rest → ((s : ℕ) (body : List ℕ) → IsSession s → rest ≡ decimal s ++ 32 ∷ body → ⊥) → (a : Asked) → IsAsked asks a → ⊥
unfolding first
only_report asks rest is none page h = omega (arith, first_same asks page h, ap (λ (x : List ℕ). get_or x 0 0) is)
only_report asks rest is none (report s body) h = none s body h.1 (append_cancel_left (codes "e ") rest (decimal s ++ 32 ∷ body) (sym is ∙ h.0))
only_report asks rest is none (quit s) h = omega (arith, first_same asks (quit s) h, ap (λ (x : List ℕ). get_or x 0 0) is)

pub only_quit : (asks rest : List ℕ) → asks ≡ codes "q " ++ rest → ((s : ℕ) → IsSession s → rest ≡ decimal s → ⊥) → (a : Asked) → IsAsked asks a → ⊥
unfolding first
only_quit asks rest is none page h = omega (arith, first_same asks page h, ap (λ (x : List ℕ). get_or x 0 0) is)
only_quit asks rest is none (report s body) h = omega (arith, first_same asks (report s body) h, ap (λ (x : List ℕ). get_or x 0 0) is)
only_quit asks rest is none (quit s) h = none s h.1 (append_cancel_left (codes "q ") rest (decimal s) (sym is ∙ h.0))

pub no_asked : (asks : List ℕ) → asks ≢ codes "get" → ((rest : List ℕ) → asks ≢ codes "e " ++ rest) → ((rest : List ℕ) → asks ≢ codes "q " ++ rest) → (a : Asked) → IsAsked asks a → ⊥
no_asked asks no_get no_report no_quit page h = no_get h
no_asked asks no_get no_report no_quit (report s body) h = no_report (decimal s ++ 32 ∷ body) h.0
no_asked asks no_get no_report no_quit (quit s) h = no_quit (decimal s) h.0

report_from : (s t : ℕ) (b c : List ℕ) → s ≡ t → b ≡ c → report s b ≡ report t c
report_from s t b c e f = cc

quit_from : (s t : ℕ) → s ≡ t → quit s ≡ quit t
quit_from s t e = cc

-- bytes ask for one thing at most
pub asked_one : (asks : List ℕ) (a b : Asked) → IsAsked asks a → IsAsked asks b → a ≡ b
unfolding first
asked_one asks page page h g = refl
asked_one asks (report s b) (report t c) h g =
    let same = numeral_same s t b c (short s h.1) (short t g.1) (append_cancel_left (codes "e ") (decimal s ++ 32 ∷ b) (decimal t ++ 32 ∷ c) (sym h.0 ∙ g.0)) in
    report_from s t b c same.0 same.1
asked_one asks (quit s) (quit t) h g =
    quit_from s t (decimal_injective s t (short s h.1) (short t g.1) (append_cancel_left (codes "q ") (decimal s) (decimal t) (sym h.0 ∙ g.0)))
asked_one asks page (report t c) h g = absurd (omega (arith, first_same asks page h, first_same asks (report t c) g))
asked_one asks page (quit t) h g = absurd (omega (arith, first_same asks page h, first_same asks (quit t) g))
asked_one asks (report s b) page h g = absurd (omega (arith, first_same asks (report s b) h, first_same asks page g))
asked_one asks (report s b) (quit t) h g = absurd (omega (arith, first_same asks (report s b) h, first_same asks (quit t) g))
asked_one asks (quit s) page h g = absurd (omega (arith, first_same asks (quit s) h, first_same asks page g))
asked_one asks (quit s) (report t c) h g = absurd (omega (arith, first_same asks (quit s) h, first_same asks (report t c) g))
