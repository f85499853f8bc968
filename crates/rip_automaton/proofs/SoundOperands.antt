-- What the machine reads where an operand is wanted is so.
use Rattle.std.proofs.Common.{◌≡◌, ℕ, ◌≤◌, min, nat_le, Bool, true, false, cond, List, ◌∷◌, Option, None, refl, sym, ap, ◌∙◌, arith}
use Rattle.rip_grammar.specs.declared.word.Word.{Word}
use Rattle.rip_grammar.specs.declared.word.Word.TheVariants as W
use Rattle.rip_grammar.specs.declared.word.Lexeme.{Lexeme}
use Rattle.rip_grammar.specs.declared.event.Head.TheVariants as H
use Rattle.rip_grammar.specs.declared.event.Event.{Event}
use Rattle.rip_automaton.specs.declared.frame.Frame.{Frame}
use Rattle.rip_automaton.specs.declared.mode.Shape.{Shape}
use Rattle.rip_grammar.specs.Words.{is_single, is_prefix, is_identifier_name}
use Rattle.rip_grammar.specs.Phrases.{Phrase, Single, Member, Postfix, Prefix, Infix, Conditional, Assignment, spell}
use Rattle.rip_grammar.specs.Levels.{level, binds}
use Rattle.rip_grammar.specs.Semicolons.{ends_postfix, has_bare_in}
use Rattle.rip_grammar.specs.Grammar.{IsMade, holds}
use Rattle.rip_grammar.specs.Events.{emit, node_behind}
use Rattle.rip_automaton.specs.States.{State}
use Rattle.rip_automaton.specs.Operands.{opening, operand, member}
use Rattle.rip_automaton.specs.Frames.{top_floor}
use Rattle.rip_automaton.proofs.Open.{takes_operand, is_new, top, shape, Open, Read, BehindPoint, Step, First}
use Rattle.rip_automaton.proofs.Shaping.{in_postfix_of}
use Rattle.rip_automaton.proofs.Floors.{fit_of, le_true, binds_most}

-- a step that a test decides
pub step_if : (w r : List Lexeme) (b : Bool) (s : Option State) → (b ≡ true → Step w r s) → Step w r (cond b s None)
step_if w r true s so = so refl
step_if w r false s so = tt

pub step_either : (w r : List Lexeme) (b : Bool) (s u : Option State) → (b ≡ true → Step w r s) → (b ≡ false → Step w r u) → Step w r (cond b s u)
step_either w r true s u so other = so refl
step_either w r false s u so other = other refl

pub opening_sound : (x : Word) (st : List Frame) (out : List Event) (t : Lexeme) (w r : List Lexeme) → t.word ≡ x → top takes_operand st ≡ true → Open st w out (t ∷ r)
    → Step w r (opening x st out t)
opening_sound W.OpenParenthesis st out t w r is hole opened = (refl, record { o = t; start = refl; word = is; hole = hole; below = opened })
opening_sound W.OpenBracket st out t w r is hole opened =
    (t.start, 0, st, refl, record { o = t; prior = First; was = out; start = refl; word = is; hole = hole; before = tt; counted = refl; told = refl; below = opened })
opening_sound W.OpenBrace st out t w r is hole opened =
    (t.start, 0, st, refl, record { o = t; prior = First; was = out; start = refl; word = is; hole = hole; before = tt; counted = refl; told = refl; below = opened })
opening_sound W.Function st out t w r is hole opened = (t, refl, is, hole, opened)
opening_sound W.New st out t w r is hole opened = (refl, record { o = t; start = refl; word = is; bars = refl; hole = hole; below = opened })
opening_sound _ st out t w r is hole opened = tt

le_of : (a b : ℕ) → nat_le a b ≡ true → a ≤ b
le_of a b h = grind (arith, h)

weaker : (n m k : ℕ) → n ≤ m → m ≤ k → nat_le n k ≡ true
weaker n m k less h = le_true n k (omega arith)

-- what holds as tightly as a call ends in no postfix operator
loose_never : (n : ℕ) → n ≤ 13 → nat_le 17 n ≡ true → ⊥
loose_never n few h = grind (arith, few, h)

tight_never : (d : Phrase) → holds 17 d ≡ true → ends_postfix d ≡ true → ⊥
tight_never (Postfix e o) tight h = let never : false ≡ true = tight in cc
tight_never (Prefix o e) tight h = let never : false ≡ true = tight in cc
tight_never (Infix a o b) tight h = loose_never (binds o.word) (binds_most o.word) tight
tight_never (Conditional a q b c d) tight h = let never : false ≡ true = tight in cc
tight_never (Assignment a o b) tight h = let never : false ≡ true = tight in cc
tight_never d tight h = cc

-- what holds as tightly as a call, or tighter behind `new`, was read
pub tight_read : (sh : Shape) (st : List Frame) (w : List Lexeme) (out : List Event) (r : List Lexeme) (d : Phrase) (was : List Event)
    → sh ≡ shape d → holds 17 d ≡ true → (top is_new st ≡ true → holds 18 d ≡ true) → has_bare_in d ≡ false → top takes_operand st ≡ true → IsMade d r
    → out ≡ emit d was → Open st w was (spell d r) → Read sh st w out r
tight_read sh st w out r d was shaped tight behind_new bare hole made told around = record {
  operand = record {
    d = d;
    was = was;
    shaped = shaped;
    fits = fit_of st d hole (le_of _ _ tight) behind_new;
    bare = λ barred. bare;
    hole = hole;
    made = made;
    told = told;
    around = around;
  };
  tight = weaker 15 17 (level d) (omega arith) (le_of _ _ tight);
  primary = λ plain. tight;
  behind_new = behind_new;
  behind_postfix = λ is. absurd (tight_never d tight (sym (in_postfix_of sh d shaped) ∙ is));
}

pub operand_sound : (st : List Frame) (out : List Event) (t : Lexeme) (w r : List Lexeme) → top takes_operand st ≡ true → Open st w out (t ∷ r) → Step w r (operand st out t)
operand_sound st out t w r hole opened =
    step_either w r (is_prefix t.word) _ _
    (λ prefixed. step_if w r (nat_le (top_floor st) 14) _ (λ loose.
    (refl, record { o = t; start = refl; word = refl; before_operand = prefixed; fits = le_of _ _ loose; bars = refl; hole = hole; below = opened })))
    (λ other. step_either w r (is_single t.word) _ _
    (λ single. tight_read _ st w _ r (Single t) out refl refl (λ new. refl) refl hole single refl opened)
    (λ rest. opening_sound t.word st out t w r refl hole opened))

-- a member or an element, on a base that holds tightly
min_holds : (n m : ℕ) → n ≤ 18 → n ≤ m → nat_le n (min 18 m) ≡ true
min_holds n m low high = le_true n (min 18 m) (omega arith)

pub at_least : (n : ℕ) (b : Phrase) → n ≤ 18 → holds n b ≡ true → nat_le n (min 18 (level b)) ≡ true
at_least n b low h = min_holds n (level b) low (le_of _ _ h)

-- the name of a member
pub member_sound : (st : List Frame) (out : List Event) (t : Lexeme) (w r : List Lexeme) → BehindPoint st w out (t ∷ r) → Step w r (member st out t)
member_sound st out t w r h = step_if w r (is_identifier_name t.word) _ (λ named.
    tight_read _ st w _ r (Member h.base h.p t) h.was refl (at_least 17 h.base (omega arith) h.tight) (λ new. at_least 18 h.base (omega arith) (h.tighter new)) refl h.hole
    (h.tight, h.made, h.word, named) (ap (λ events. node_behind (H.Member t) 1 ∷ events) h.told) h.around)
