-- The machine reads lists with commas between their parts.
use Rattle.std.proofs.Common.{◌≡◌, ℕ, ◌+◌, Bool, true, false, ◌||◌, List, ◌∷◌, Option, Some, refl, sym, ap, ◌∙◌, subst, ◌⊎◌, inl, inr}
use Rattle.rip_grammar.specs.declared.word.Word.TheVariants as W
use Rattle.rip_grammar.specs.declared.word.Lexeme.{Lexeme}
use Rattle.rip_grammar.specs.declared.event.Event.{Event}
use Rattle.rip_automaton.specs.declared.frame.Frame.{Frame}
use Rattle.rip_automaton.specs.declared.mode.Mode.{Mode}
use Rattle.rip_grammar.specs.Phrases.{Phrase, Nothing, More, CommaMore, spell}
use Rattle.rip_grammar.specs.Grammar.{IsMade, is_nothing, is_comma_list, may_be_commas}
use Rattle.rip_grammar.specs.Events.{emit, width}
use Rattle.rip_automaton.specs.States.{State, At}
use Rattle.rip_automaton.specs.Machine.{go}
use Rattle.rip_automaton.proofs.Stepping.{false_true, and_left, and_right, bool}
use Rattle.rip_automaton.proofs.Roles.{Own, Each}

-- a list of one such phrase or more, with commas between them
abbrev pub Parts : (Phrase → Type 0) → Phrase → Type 0
Parts P (More l d) = (is_nothing l ≡ true) × P d
Parts P (CommaMore l c d) = Parts P l × P d
Parts P _ = ⊥

pub parts : (p : Phrase → Bool) (l : Phrase) → is_comma_list p l ≡ true → Parts (λ d. p d ≡ true) l
parts p (More l d) e = (and_left (is_nothing l) (p d) e, and_right (is_nothing l) (p d) e)
parts p (CommaMore l c d) e = (parts p l (and_left (is_comma_list p l) (p d) e), and_right (is_comma_list p l) (p d) e)
parts p _ e = false_true e

-- the last of them, and how many stand before it
abbrev pub last : Phrase → Phrase
last (More l d) = d
last (CommaMore l c d) = d
last d = d

abbrev pub before : Phrase → ℕ
before (More l d) = width l
before (CommaMore l c d) = width l
before _ = 0

pub counted : (P : Phrase → Type 0) (l : Phrase) → Parts P l → width l ≡ before l + 1
counted P (More l d) e = refl
counted P (CommaMore l c d) e = refl
counted P _ e = absurd e

pub is_empty : (l : Phrase) → is_nothing l ≡ true → l ≡ Nothing
is_empty Nothing e = refl
is_empty _ e = absurd (false_true e)

-- How the machine reads such a list: what is wanted of the first part and of the later ones, the open form by the count
-- of parts, what a lexeme does behind a part, and which lexemes may stand there.
pub record Rules (P : Phrase → Type 0) (first later : Mode) (frame : ℕ → Frame) (st : List Frame) (done : Phrase → ℕ → List Event → Lexeme → Option State) (E : Phrase → Lexeme → Type 0) : Type 0 where
  pub at_first : (d : Phrase) (out : List Event) (t : Lexeme) (r : List Lexeme) → Own d → P d → IsMade d (t ∷ r) → E d t
      → go (Some (At first (frame 0 ∷ st) out)) (spell d (t ∷ r)) ≡ go (done d 0 (emit d out) t) r
  pub at_later : (d : Phrase) (n : ℕ) (out : List Event) (t : Lexeme) (r : List Lexeme) → Own d → P d → IsMade d (t ∷ r) → E d t
      → go (Some (At later (frame n ∷ st) out)) (spell d (t ∷ r)) ≡ go (done d n (emit d out) t) r
  pub comma : (d : Phrase) (n : ℕ) (out : List Event) (c : Lexeme) → c.word ≡ W.Comma → done d n out c ≡ Some (At later (frame (n + 1) ∷ st) out)
  pub separates : (d : Phrase) (c : Lexeme) → c.word ≡ W.Comma → E d c

pub list_told : (P : Phrase → Type 0) (first later : Mode) (frame : ℕ → Frame) (st : List Frame) (done : Phrase → ℕ → List Event → Lexeme → Option State) (E : Phrase → Lexeme → Type 0)
    → Rules P first later frame st done E → (l : Phrase) (out : List Event) (t : Lexeme) (r : List Lexeme) → Each l → Parts P l → IsMade l (t ∷ r) → E (last l) t
    → go (Some (At first (frame 0 ∷ st) out)) (spell l (t ∷ r)) ≡ go (done (last l) (before l) (emit l out) t) r
list_told P first later frame st done E rules (More l d) out t r each p m e =
    subst (λ (k : Phrase). go (Some (At first (frame 0 ∷ st) out)) (spell k (spell d (t ∷ r))) ≡ go (done d (width k) (emit d (emit k out)) t) r) (sym (is_empty l p.0))
    (rules.at_first d out t r each.1 p.1 m.1 e)
list_told P first later frame st done E rules (CommaMore l c d) out t r each p m e =
    list_told P first later frame st done E rules l out c (spell d (t ∷ r)) each.0 p.0 m.0 (rules.separates (last l) c m.1)
    ∙ ap (λ (s : Option State). go s (spell d (t ∷ r))) (rules.comma (last l) (before l) (emit l out) c m.1 ∙ ap (λ (n : ℕ). Some (At later (frame n ∷ st) (emit l out))) (sym (counted P l p.0)))
    ∙ rules.at_later d (width l) (emit l out) t r each.1 p.1 m.2 e
list_told P first later frame st done E rules _ out t r each p m e = absurd p

-- a list that may be empty
pub commas : (Q : Phrase → Type 0) (p : Phrase → Bool) (l : Phrase) → may_be_commas p l ≡ true → Q Nothing → (is_comma_list p l ≡ true → Q l) → Q l
commas Q p l e empty some = by_nothing (bool (is_nothing l))
  where
    by_nothing : ((is_nothing l ≡ true) ⊎ (is_nothing l ≡ false)) → Q l
    by_nothing (inl h) = subst Q (sym (is_empty l h)) empty
    by_nothing (inr h) = some (sym (ap (λ (b : Bool). b || is_comma_list p l) h) ∙ e)
