-- What the machine makes of open operators is so.
use Rattle.std.proofs.Common.{◌≡◌, ℕ, ◌+◌, ◌<◌, ◌≤◌, nat_le, Bool, true, false, not, ◌||◌, ◌==◌, cond, List, [], ◌∷◌, Option, refl, sym, ap, ◌∙◌, subst, arith}
use Rattle.rip_grammar.specs.declared.word.Word.{Word}
use Rattle.rip_grammar.specs.declared.word.Lexeme.{Lexeme}
use Rattle.rip_grammar.specs.declared.event.Head.TheVariants as H
use Rattle.rip_grammar.specs.declared.event.Event.{Event}
use Rattle.rip_automaton.specs.declared.frame.Pending.{Pending}
use Rattle.rip_automaton.specs.declared.frame.Pending.TheVariants as P
use Rattle.rip_automaton.specs.declared.frame.Frame.{Frame}
use Rattle.rip_automaton.specs.declared.frame.Frame.TheVariants as F
use Rattle.rip_automaton.specs.declared.mode.Shape.{Shape}
use Rattle.rip_automaton.specs.declared.mode.Shape.TheVariants as S
use Rattle.rip_grammar.specs.Words.{is_in, is_step, is_prefix, is_assignment}
use Rattle.rip_grammar.specs.Phrases.{Phrase, New, Postfix, Prefix, Infix, Conditional, Assignment}
use Rattle.rip_grammar.specs.Levels.{level, binds, is_target}
use Rattle.rip_grammar.specs.Semicolons.{ends_postfix, has_bare_in}
use Rattle.rip_grammar.specs.Grammar.{is_constructed}
use Rattle.rip_grammar.specs.Events.{emit, node_at, node_behind}
use Rattle.rip_automaton.specs.States.{State}
use Rattle.rip_automaton.specs.Frames.{closed, pending_level, may_end, told, top_floor, top_bars}
use Rattle.rip_automaton.specs.Continuations.{reduce}
use Rattle.rip_automaton.proofs.Open.{takes_operand, top, fit, Open, Operand, Step}
use Rattle.rip_automaton.proofs.Shaping.{may_be_target_of, closed_of}
use Rattle.rip_automaton.proofs.Floors.{le_true, binds_most}
use Rattle.rip_automaton.proofs.SoundOperands.{step_if, step_either}

-- an operator that holds so tightly, or no operator, is the innermost open form
abbrev pub stops : ℕ → List Frame → Bool
stops n (F.Operator o b ∷ st) = not (nat_le n (pending_level o))
stops n st = true

-- what is read when the operators have ended that hold at least so tightly
pub record Reduced (n : ℕ) (bars : Bool) (sh : Shape) (st : List Frame) (w : List Lexeme) (out : List Event) (q : List Lexeme) : Type 0 where
  pub operand : Operand sh st w out q
  pub tight : n ≤ level operand.d
  pub stopped : stops n st ≡ true
  pub same : top_bars st ≡ bars

le_of : (a b : ℕ) → nat_le a b ≡ true → a ≤ b
le_of a b h = grind (arith, h)

floor_14 : (step : Bool) → 14 ≤ cond step 17 14
floor_14 true = omega arith
floor_14 false = omega arith

-- what holds as tightly as a form asks for fits it
pub fits_at : (st : List Frame) (d : Phrase) (n : ℕ) → top takes_operand st ≡ true → n ≤ 15 → top_floor st ≤ n → level d ≡ n → fit st d ≡ true
fits_at [] d n hole few floors is = cc
fits_at (F.Operator (P.Prefix place w) b ∷ st) d n hole few floors is =
    let least : 14 ≤ cond (is_step w) 17 14 = floor_14 (is_step w) in le_true 14 (level d) (omega arith)
fits_at (F.Operator (P.New place) b ∷ st) d n hole few floors is = absurd (omega arith)
fits_at (f ∷ st) d n hole few floors is = le_true _ _ (omega arith)

-- a `new` without arguments fits each form
new_fits : (st : List Frame) (d : Phrase) → top takes_operand st ≡ true → level d ≡ 16 → fit st d ≡ true
new_fits [] d hole is = cc
new_fits (F.Operator (P.Infix w) b ∷ st) d hole is = let most : binds w ≤ 13 = binds_most w in le_true _ _ (omega arith)
new_fits (F.Operator (P.Prefix place w) b ∷ st) d hole is = le_true 14 (level d) (omega arith)
new_fits (F.Operator (P.New place) b ∷ st) d hole is = ap (λ n. nat_le 18 n || n == 16) is
new_fits (F.Operator (P.Assignment w) b ∷ st) d hole is = le_true 2 (level d) (omega arith)
new_fits (F.Operator P.Choice b ∷ st) d hole is = le_true 2 (level d) (omega arith)
new_fits (f ∷ st) d hole is = le_true _ _ (omega arith)

-- what has ended in an operator's last operand
pub record Closed (o : Pending) (b : Bool) (sh : Shape) (st : List Frame) (w : List Lexeme) (out : List Event) (q : List Lexeme) : Type 0 where
  pub operand : Operand (closed sh) st w (told o ∷ out) q
  pub at : level operand.d ≡ pending_level o
  pub bars : b ≡ top_bars st

or_false : (x y : Bool) → x ≡ false → y ≡ false → (x || y) ≡ false
or_false true y h g = cc
or_false false y h g = g

or_false_3 : (x y z : Bool) → (x || y) ≡ false → z ≡ false → (x || y || z) ≡ false
or_false_3 true y z h g = cc
or_false_3 false true z h g = cc
or_false_3 false false z h g = g

-- an operator between two operands
close_infix : (x : Word) (b : Bool) (sh : Shape) (st : List Frame) (w : List Lexeme) (out : List Event) (q : List Lexeme) → Operand sh (F.Operator (P.Infix x) b ∷ st) w out q
    → Closed (P.Infix x) b sh st w out q
close_infix x b sh st w out q e =
    let h = e.around in
    let most : binds x ≤ 13 = binds_most x in
    let right : binds x + 1 ≤ level e.d = le_of _ _ e.fits in
    let right-word : binds h.o.word + 1 ≤ level e.d = subst (λ v. binds v + 1 ≤ level e.d) (sym h.word) right in
    record {
      operand = record {
        d = Infix h.a h.o e.d;
        was = h.was;
        shaped = closed_of sh e.d e.shaped;
        fits = fits_at st (Infix h.a h.o e.d) (binds x) h.hole (omega arith) h.fits (ap binds h.word);
        bare = λ barred. subst (λ v. (is_in v || has_bare_in h.a || has_bare_in e.d) ≡ false) (sym h.word)
            (or_false_3 (is_in x) (has_bare_in h.a) (has_bare_in e.d) (h.bare barred) (e.bare (h.bars ∙ barred)));
        hole = h.hole;
        made = (subst (λ v. 0 < binds v) (sym h.word) h.binding, subst (λ v. binds v ≤ level h.a) (sym h.word) h.left, omega arith, h.made, e.made);
        told = ap (λ v. node_behind (H.Infix v) 2 ∷ out) (sym h.word) ∙ ap (λ events. node_behind (H.Infix h.o.word) 2 ∷ events) (e.told ∙ ap (emit e.d) h.told);
        around = h.below;
      };
      at = ap binds h.word;
      bars = h.bars;
    }

-- an operator before its operand
close_prefix : (place : ℕ) (x : Word) (b : Bool) (sh : Shape) (st : List Frame) (w : List Lexeme) (out : List Event) (q : List Lexeme) → Operand sh (F.Operator (P.Prefix place x) b ∷ st) w out q
    → may_end (P.Prefix place x) sh ≡ true → Closed (P.Prefix place x) b sh st w out q
close_prefix place x b sh st w out q e may =
    let h = e.around in
    record {
      operand = record {
        d = Prefix h.o e.d;
        was = e.was;
        shaped = closed_of sh e.d e.shaped;
        fits = fits_at st (Prefix h.o e.d) 14 h.hole (omega arith) h.fits refl;
        bare = λ barred. refl;
        hole = h.hole;
        made = (
          ap is_prefix h.word ∙ h.before_operand,
          e.fits,
          subst (λ v. (not (is_step v) || is_target e.d) ≡ true) (sym h.word) (ap (λ t. not (is_step x) || t) (sym (may_be_target_of sh e.d e.shaped)) ∙ may),
          e.made,
        );
        told = ap (λ p. node_at p (H.Prefix x) 1 ∷ out) (sym h.start) ∙ ap (λ v. node_at h.o.start (H.Prefix v) 1 ∷ out) (sym h.word)
            ∙ ap (λ events. node_at h.o.start (H.Prefix h.o.word) 1 ∷ events) e.told;
        around = h.below;
      };
      at = refl;
      bars = h.bars;
    }

-- what `new` may stand before ends in no postfix operator
never_constructed : (n : ℕ) → n ≤ 13 → (nat_le 18 n || n == 16) ≡ true → ⊥
never_constructed n few h = grind (arith, few, h)

constructed_plain : (d : Phrase) → is_constructed d ≡ true → ends_postfix d ≡ false
constructed_plain (Postfix e o) h = cc
constructed_plain (Prefix o e) h = cc
constructed_plain (Infix a o b) h = absurd (never_constructed (binds o.word) (binds_most o.word) h)
constructed_plain (Conditional a q b c d) h = cc
constructed_plain (Assignment a o b) h = cc
constructed_plain d h = refl

-- a `new` without arguments
close_new : (place : ℕ) (b : Bool) (sh : Shape) (st : List Frame) (w : List Lexeme) (out : List Event) (q : List Lexeme) → Operand sh (F.Operator (P.New place) b ∷ st) w out q
    → Closed (P.New place) b sh st w out q
close_new place b sh st w out q e =
    let h = e.around in
    record {
      operand = record {
        d = New h.o e.d;
        was = e.was;
        shaped = closed_of sh e.d e.shaped ∙ ap (λ p. cond p S.Postfix S.Plain) (constructed_plain e.d e.fits);
        fits = new_fits st (New h.o e.d) h.hole refl;
        bare = λ barred. refl;
        hole = h.hole;
        made = (h.word, e.fits, e.made);
        told = ap (λ p. node_at p H.New 1 ∷ out) (sym h.start) ∙ ap (λ events. node_at h.o.start H.New 1 ∷ events) e.told;
        around = h.below;
      };
      at = refl;
      bars = h.bars;
    }

-- an assignment
close_assignment : (x : Word) (b : Bool) (sh : Shape) (st : List Frame) (w : List Lexeme) (out : List Event) (q : List Lexeme) → Operand sh (F.Operator (P.Assignment x) b ∷ st) w out q
    → Closed (P.Assignment x) b sh st w out q
close_assignment x b sh st w out q e =
    let h = e.around in
    record {
      operand = record {
        d = Assignment h.a h.o e.d;
        was = h.was;
        shaped = closed_of sh e.d e.shaped;
        fits = fits_at st (Assignment h.a h.o e.d) 2 h.hole (omega arith) h.fits refl;
        bare = λ barred. e.bare (h.bars ∙ barred);
        hole = h.hole;
        made = (h.target, h.made, ap is_assignment h.word ∙ h.assigns, e.fits, e.made);
        told = ap (λ v. node_behind (H.Assignment v) 2 ∷ out) (sym h.word) ∙ ap (λ events. node_behind (H.Assignment h.o.word) 2 ∷ events) (e.told ∙ ap (emit e.d) h.told);
        around = h.below;
      };
      at = refl;
      bars = h.bars;
    }

-- a choice
close_choice : (b : Bool) (sh : Shape) (st : List Frame) (w : List Lexeme) (out : List Event) (q : List Lexeme) → Operand sh (F.Operator P.Choice b ∷ st) w out q
    → Closed P.Choice b sh st w out q
close_choice b sh st w out q e =
    let h = e.around in
    record {
      operand = record {
        d = Conditional h.a h.q h.m h.c e.d;
        was = h.was;
        shaped = closed_of sh e.d e.shaped;
        fits = fits_at st (Conditional h.a h.q h.m h.c e.d) 3 h.hole (omega arith) h.fits refl;
        bare = λ barred. or_false (has_bare_in h.a) (has_bare_in e.d) (h.bare barred) (e.bare (h.bars ∙ barred));
        hole = h.hole;
        made = (h.test, h.made-a, h.question, h.middle, h.made-m, h.colon, e.fits, e.made);
        told = ap (λ events. node_behind H.Conditional 3 ∷ events) (e.told ∙ ap (emit e.d) h.told);
        around = h.below;
      };
      at = refl;
      bars = h.bars;
    }

closing : (o : Pending) (b : Bool) (sh : Shape) (st : List Frame) (w : List Lexeme) (out : List Event) (q : List Lexeme) → Operand sh (F.Operator o b ∷ st) w out q
    → may_end o sh ≡ true → Closed o b sh st w out q
closing (P.Infix x) b sh st w out q e may = close_infix x b sh st w out q e
closing (P.Prefix place x) b sh st w out q e may = close_prefix place x b sh st w out q e may
closing (P.New place) b sh st w out q e may = close_new place b sh st w out q e
closing (P.Assignment x) b sh st w out q e may = close_assignment x b sh st w out q e
closing P.Choice b sh st w out q e may = close_choice b sh st w out q e

-- how an open operator bars a bare `in`
operator_bars : (o : Pending) (b : Bool) (st : List Frame) (w : List Lexeme) (out : List Event) (q : List Lexeme) → Open (F.Operator o b ∷ st) w out q → b ≡ top_bars st
operator_bars (P.Infix x) b st w out q h = h.bars
operator_bars (P.Prefix place x) b st w out q h = h.bars
operator_bars (P.New place) b st w out q h = h.bars
operator_bars (P.Assignment x) b st w out q h = h.bars
operator_bars P.Choice b st w out q h = h.bars

-- the operators end that hold so tightly, and what follows is so
pub reduce_sound : (n : ℕ) (bars : Bool) (sh : Shape) (st : List Frame) (out : List Event) (next : Shape → List Frame → List Event → Option State) (w q r : List Lexeme)
    → top_bars st ≡ bars → (e : Operand sh st w out q) → n ≤ level e.d
    → ((shape-after : Shape) (below : List Frame) (events : List Event) → Reduced n bars shape-after below w events q → Step w r (next shape-after below events))
    → Step w r (reduce n sh st out next)
reduce_sound n bars sh [] out next w q r same e tight go_on = cc
reduce_sound n bars sh (F.Operator o b ∷ st) out next w q r same e tight go_on =
    step_either w r (nat_le n (pending_level o)) _ _
    (λ high. step_if w r (may_end o sh) _ (λ may.
    let c = closing o b sh st w out q e may in
    reduce_sound n bars (closed sh) st (told o ∷ out) next w q r (sym c.bars ∙ same) c.operand (subst (λ m. n ≤ m) (sym c.at) (le_of _ _ high)) go_on))
    (λ low. go_on sh (F.Operator o b ∷ st) out (record { operand = e; tight = tight; stopped = ap not low; same = same }))
reduce_sound n bars sh st out next w q r same e tight go_on = go_on sh st out (record { operand = e; tight = tight; stopped = refl; same = same })
