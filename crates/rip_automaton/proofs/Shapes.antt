-- What the machine knows of an operand that was read, and what stands in an open form.
use Rattle.std.proofs.Common.{◌≡◌, ◌==◌, ℕ, ◌<◌, ◌≤◌, nat_le, min, Bool, true, false, ◌||◌, cond, List, [], ◌∷◌, Option, None, refl, sym, ◌∙◌, arith}
use Rattle.rip_grammar.specs.declared.word.Lexeme.{Lexeme}
use Rattle.rip_grammar.specs.declared.event.Event.{Event}
use Rattle.rip_automaton.specs.declared.frame.Pending.{Pending}
use Rattle.rip_automaton.specs.declared.frame.Pending.TheVariants as P
use Rattle.rip_automaton.specs.declared.frame.Frame.{Frame}
use Rattle.rip_automaton.specs.declared.frame.Frame.TheVariants as F
use Rattle.rip_automaton.specs.declared.mode.Shape.{Shape}
use Rattle.rip_automaton.specs.declared.mode.Shape.TheVariants as S
use Rattle.rip_grammar.specs.Words.{is_name, is_step}
use Rattle.rip_grammar.specs.Phrases.{Phrase, More, CommaMore, Single, Parenthesized, Member, Index, New, Postfix, Prefix, Infix, Conditional, Assignment, Initialised, Bindings}
use Rattle.rip_grammar.specs.Levels.{level, binds, is_target}
use Rattle.rip_grammar.specs.Semicolons.{ends_postfix, has_bare_in}
use Rattle.rip_grammar.specs.Grammar.{IsMade}
use Rattle.rip_automaton.specs.Frames.{may_be_target, in_postfix, single_shape, closed, enclosed, pending_level, may_end, told, top_floor}
use Rattle.rip_automaton.specs.States.{State}
use Rattle.rip_automaton.specs.Continuations.{reduce}
use Rattle.rip_automaton.proofs.Stepping.{false_true, cond_true, cond_false, at_least, is_at_least, is_below, Binding, binding}

-- the shape of an expression
abbrev pub shape : Phrase → Shape
shape (Single t) = single_shape t.word
shape (Parenthesized o e c) = enclosed (shape e)
shape (Member b p n) = S.Target
shape (Index b o e c) = S.Target
shape (Postfix e o) = S.Postfix
shape (New w f) = closed (shape f)
shape (Prefix o e) = closed (shape e)
shape (Infix a o b) = closed (shape b)
shape (Conditional a q b c d) = closed (shape d)
shape (Assignment a o b) = closed (shape b)
shape _ = S.Plain

closed_target : (s : Shape) → may_be_target (closed s) ≡ false
closed_target S.Postfix = refl
closed_target S.Target = refl
closed_target S.Plain = refl

pub closed_postfix : (s : Shape) → in_postfix (closed s) ≡ in_postfix s
closed_postfix S.Postfix = refl
closed_postfix S.Target = refl
closed_postfix S.Plain = refl

enclosed_target : (s : Shape) → may_be_target (enclosed s) ≡ may_be_target s
enclosed_target S.Postfix = refl
enclosed_target S.Target = refl
enclosed_target S.Plain = refl

enclosed_postfix : (s : Shape) → in_postfix (enclosed s) ≡ false
enclosed_postfix S.Postfix = refl
enclosed_postfix S.Target = refl
enclosed_postfix S.Plain = refl

single_target : (b : Bool) → may_be_target (cond b S.Target S.Plain) ≡ b
single_target true = refl
single_target false = refl

single_postfix : (b : Bool) → in_postfix (cond b S.Target S.Plain) ≡ false
single_postfix true = refl
single_postfix false = refl

-- it tells targets
pub target_shape : (d : Phrase) → may_be_target (shape d) ≡ is_target d
target_shape (Single t) = single_target (is_name t.word)
target_shape (Parenthesized o e c) = enclosed_target (shape e) ∙ target_shape e
target_shape (New w f) = closed_target (shape f)
target_shape (Prefix o e) = closed_target (shape e)
target_shape (Infix a o b) = closed_target (shape b)
target_shape (Conditional a q b c d) = closed_target (shape d)
target_shape (Assignment a o b) = closed_target (shape b)
target_shape _ = refl

-- what holds as tightly as `new` ends in no postfix operator
pub tight : (d : Phrase) → 16 ≤ level d → ends_postfix d ≡ false
tight (Postfix e o) h = absurd (omega arith)
tight (Prefix o e) h = absurd (omega arith)
tight (Infix a o b) h = let k : binds o.word ≤ 13 = (binding o.word).most in absurd (omega arith)
tight (Conditional a q b c d) h = absurd (omega arith)
tight (Assignment a o b) h = absurd (omega arith)
tight _ h = refl

-- what holds as tightly as an operator before an operand has no bare `in`
pub tight_bare : (d : Phrase) → 14 ≤ level d → has_bare_in d ≡ false
tight_bare (Infix a o b) h = let k : binds o.word ≤ 13 = (binding o.word).most in absurd (omega arith)
tight_bare (Conditional a q b c d) h = absurd (omega arith)
tight_bare (Assignment a o b) h = absurd (omega arith)
tight_bare (More l d) h = absurd (omega arith)
tight_bare (CommaMore l c d) h = absurd (omega arith)
tight_bare (Bindings v l) h = absurd (omega arith)
tight_bare (Initialised n q e) h = absurd (omega arith)
tight_bare _ h = refl

-- what `new` stands before
pub constructed : (n : ℕ) → (nat_le 18 n || n == 16) ≡ true → 16 ≤ n
constructed n e = constructed_by (nat_le 18 n) refl e
  where
    constructed_by : (b : Bool) → nat_le 18 n ≡ b → (b || n == 16) ≡ true → 16 ≤ n
    constructed_by true h e = let k : 18 ≤ n = at_least 18 n h in omega arith
    constructed_by false h e = let k : n ≡ 16 = grind arith in omega arith

-- it tells what ends in a postfix operator
pub postfix_shape : (d : Phrase) (r : List Lexeme) → IsMade d r → in_postfix (shape d) ≡ ends_postfix d
postfix_shape (Single t) r m = single_postfix (is_name t.word)
postfix_shape (Parenthesized o e c) r m = enclosed_postfix (shape e)
postfix_shape (New w f) r m = closed_postfix (shape f) ∙ postfix_shape f r m.2 ∙ tight f (constructed (level f) m.1)
postfix_shape (Prefix o e) r m = closed_postfix (shape e) ∙ postfix_shape e r m.3
postfix_shape (Infix a o b) r m = closed_postfix (shape b) ∙ postfix_shape b r m.4
postfix_shape (Conditional a q b c d) r m = closed_postfix (shape d) ∙ postfix_shape d r m.7
postfix_shape (Assignment a o b) r m = closed_postfix (shape b) ∙ postfix_shape b r m.4
postfix_shape _ r m = refl

-- a target holds as tightly as a call
pub target_level : (d : Phrase) (r : List Lexeme) → is_target d ≡ true → IsMade d r → 17 ≤ level d
target_level (Single t) r e m = omega arith
target_level (Parenthesized o v c) r e m = omega arith
target_level (Member b p n) r e m = let k : 17 ≤ level b = at_least 17 (level b) m.0 in omega arith
target_level (Index b o v c) r e m = let k : 17 ≤ level b = at_least 17 (level b) m.0 in omega arith
target_level _ r e m = absurd (false_true e)

-- the innermost open form is a `new` without arguments
abbrev pub new_top : List Frame → Bool
new_top (F.Operator (P.New place) b ∷ st) = true
new_top _ = false

-- an expression of this level may stand in the innermost open form: a call may not stand behind `new`
pub record Fits (st : List Frame) (n : ℕ) : Type 0 where
  pub least : top_floor st ≤ n
  pub other : new_top st ≡ true → n ≡ 17 → ⊥

pub new_floor : (st : List Frame) → new_top st ≡ true → top_floor st ≡ 16
new_floor [] e = absurd (false_true e)
new_floor (F.Operator (P.New place) b ∷ st) e = refl
new_floor (F.Operator (P.Infix w) b ∷ st) e = absurd (false_true e)
new_floor (F.Operator (P.Prefix place w) b ∷ st) e = absurd (false_true e)
new_floor (F.Operator (P.Assignment w) b ∷ st) e = absurd (false_true e)
new_floor (F.Operator P.Choice b ∷ st) e = absurd (false_true e)
new_floor (f ∷ st) e = absurd (false_true e)

-- what holds more tightly stands there too
pub fits_up : (st : List Frame) (n m : ℕ) → Fits st n → n ≤ m → n ≤ 15 → Fits st m
fits_up st n m fits up small = record {
  least = let k : top_floor st ≤ n = fits.least in omega arith;
  other = λ e _. let k : top_floor st ≡ 16 = new_floor st e in let l : top_floor st ≤ n = fits.least in absurd (omega arith);
}

pub fits_member : (st : List Frame) (n : ℕ) → Fits st (min 18 n) → 17 ≤ n → Fits st n
fits_member st n fits h = record {
  least = let k : top_floor st ≤ min 18 n = fits.least in omega arith;
  other = λ e same. fits.other e (omega arith);
}

-- a frame that is no operator takes what holds as tightly as its floor
pub fits_plain : (st : List Frame) (n : ℕ) → new_top st ≡ false → top_floor st ≤ n → Fits st n
fits_plain st n e h = record { least = h; other = λ t _. false_true (sym e ∙ t) }

-- operators that hold less tightly stay open
step_floor : (b : Bool) → 14 ≤ cond b 17 14
step_floor true = omega arith
step_floor false = omega arith

stays : (n : ℕ) (sh : Shape) (o : Pending) (b : Bool) (st : List Frame) (out : List Event) (next : Shape → List Frame → List Event → Option State)
    → pending_level o < n → reduce n sh (F.Operator o b ∷ st) out next ≡ next sh (F.Operator o b ∷ st) out
stays n sh o b st out next h = cond_false (nat_le n (pending_level o)) (cond (may_end o sh) (reduce n (closed sh) st (told o ∷ out) next) None) (next sh (F.Operator o b ∷ st) out) (is_below n (pending_level o) h)

pub stops : (n : ℕ) (sh : Shape) (st : List Frame) (out : List Event) (next : Shape → List Frame → List Event → Option State)
    → Binding n → 0 < n → top_floor st ≤ n → reduce n sh st out next ≡ next sh st out
stops n sh [] out next b h f = refl
stops n sh (F.Operator (P.Infix w) c ∷ st) out next b h f = stays n sh (P.Infix w) c st out next (omega arith)
stops n sh (F.Operator (P.Prefix place w) c ∷ st) out next b h f = let k : 14 ≤ cond (is_step w) 17 14 = step_floor (is_step w) in let l : n ≤ 13 = b.most in absurd (omega arith)
stops n sh (F.Operator (P.New place) c ∷ st) out next b h f = let l : n ≤ 13 = b.most in absurd (omega arith)
stops n sh (F.Operator (P.Assignment w) c ∷ st) out next b h f = let g : 1 < n → 4 ≤ n = b.gap in stays n sh (P.Assignment w) c st out next (omega arith)
stops n sh (F.Operator P.Choice c ∷ st) out next b h f = let g : 1 < n → 4 ≤ n = b.gap in stays n sh P.Choice c st out next (omega arith)
stops n sh (f ∷ st) out next b h k = refl

-- an operator that holds as tightly ends
pub ends : (n : ℕ) (sh : Shape) (o : Pending) (b : Bool) (st : List Frame) (out : List Event) (next : Shape → List Frame → List Event → Option State)
    → n ≤ pending_level o → may_end o sh ≡ true → reduce n sh (F.Operator o b ∷ st) out next ≡ reduce n (closed sh) st (told o ∷ out) next
ends n sh o b st out next h e = cond_true _ _ _ (is_at_least n (pending_level o) h) ∙ cond_true _ _ _ e
