-- What the machine reads of arguments, elements, entries and members is so.
use Rattle.std.proofs.Common.{◌≡◌, ℕ, ◌+◌, Bool, true, false, List, ◌∷◌, Some, refl, sym, ap, ◌∙◌, subst, arith}
use Rattle.rip_grammar.specs.declared.word.Word.{Word}
use Rattle.rip_grammar.specs.declared.word.Word.TheVariants as W
use Rattle.rip_grammar.specs.declared.word.Lexeme.{Lexeme}
use Rattle.rip_grammar.specs.declared.event.Head.TheVariants as H
use Rattle.rip_grammar.specs.declared.event.Event.{Event}
use Rattle.rip_automaton.specs.declared.frame.Invocation.{Invocation}
use Rattle.rip_automaton.specs.declared.frame.Invocation.TheVariants as I
use Rattle.rip_automaton.specs.declared.frame.Frame.{Frame}
use Rattle.rip_automaton.specs.declared.frame.Frame.TheVariants as F
use Rattle.rip_automaton.specs.declared.mode.Mode.TheVariants as M
use Rattle.rip_automaton.specs.declared.mode.Shape.{Shape}
use Rattle.rip_automaton.specs.declared.mode.Shape.TheVariants as S
use Rattle.rip_grammar.specs.Words.{is_key}
use Rattle.rip_grammar.specs.Phrases.{Phrase, Nothing, More, CommaMore, Trailing, Array, Object, Entry, NewCall, Call, spell}
use Rattle.rip_grammar.specs.Grammar.{IsMade, holds, is_assigned, is_entry, is_comma_list, may_be_commas, may_end_in_comma}
use Rattle.rip_grammar.specs.Events.{width, emit, node_at, node_behind}
use Rattle.rip_automaton.specs.States.{At}
use Rattle.rip_automaton.specs.Operands.{arguments_end, no_argument, argument_by, argument, elements_end, element_by, element, entry_begins, entries_end, key_by, key, entry_colon_by, entry_colon}
use Rattle.rip_automaton.specs.Continuations.{arguments_by, elements_by, entries_by}
use Rattle.rip_automaton.proofs.Open.{Operand, InKey, takes_operand, is_new, top, Open, Holds, Step, Prior, First, Behind, listed, with_next, spell_prior, IsPrior, InLiteral}
use Rattle.rip_automaton.proofs.OpenLists.{next_spell, next_emit, next_width, next_made, next_list, may_be, may_end}
use Rattle.rip_automaton.proofs.SoundOperands.{step_if, operand_sound, tight_read}

-- ARGUMENTS

-- what is told of a node whose children are counted
pub counted_told : (told : ℕ → List Event → List Event) (n m : ℕ) (out was : List Event) → n ≡ m → out ≡ was → told n out ≡ told m was
counted_told told n m out was same is = ap (λ k. told k out) same ∙ ap (told m) is

-- so many arguments of a call end before `)`
call_ends : (count : ℕ) (st : List Frame) (out : List Event) (t : Lexeme) (w r : List Lexeme) (f : Phrase) (o : Lexeme) (l : Phrase) (was : List Event)
    → t.word ≡ W.CloseParenthesis → o.word ≡ W.OpenParenthesis → holds 17 f ≡ true → top is_new st ≡ false → top takes_operand st ≡ true → IsMade f (o ∷ spell l (t ∷ r))
    → may_be_commas is_assigned l ≡ true → IsMade l (t ∷ r) → width l ≡ count → out ≡ emit l (emit f was) → Open st w was (spell f (o ∷ spell l (t ∷ r)))
    → Step w r (arguments_end I.Call count st out)
call_ends count st out t w r f o l was is word tight no_new hole made-f list made counted told around =
    tight_read _ st w _ r (Call f o l t) was refl refl (λ new. let never : true ≡ false = sym new ∙ no_new in cc) refl hole
    (tight, made-f, word, list, made, is)
    (counted_told (λ n events. node_behind H.Call (1 + n) ∷ events) count (width l) out _ (sym counted) told)
    around

new_ends : (place count : ℕ) (st : List Frame) (out : List Event) (t : Lexeme) (w r : List Lexeme) (n : Lexeme) (f : Phrase) (o : Lexeme) (l : Phrase) (was : List Event)
    → t.word ≡ W.CloseParenthesis → n.start ≡ place → n.word ≡ W.New → o.word ≡ W.OpenParenthesis → holds 18 f ≡ true → top takes_operand st ≡ true → IsMade f (o ∷ spell l (t ∷ r))
    → may_be_commas is_assigned l ≡ true → IsMade l (t ∷ r) → width l ≡ count → out ≡ emit l (emit f was) → Open st w was (n ∷ spell f (o ∷ spell l (t ∷ r)))
    → Step w r (arguments_end (I.New place) count st out)
new_ends place count st out t w r n f o l was is start new word tight hole made-f list made counted told around =
    tight_read _ st w _ r (NewCall n f o l t) was refl refl (λ behind. refl) refl hole
    (new, tight, made-f, word, list, made, is)
    (ap (λ p. node_at p H.New (1 + count) ∷ out) (sym start)
    ∙ counted_told (λ k events. node_at n.start H.New (1 + k) ∷ events) count (width l) out _ (sym counted) told)
    around

-- a list with commas is not of no part
wide : (p : Phrase → Bool) (l : Phrase) → is_comma_list p l ≡ true → width l ≡ 0 → ⊥
wide p (More a d) list counted = omega arith
wide p (CommaMore a c d) list counted = omega arith
wide p l list counted = cc

-- what the list so far is, and what is told of it, when a part more ends it
pub next_told : (prior : Prior) (d : Phrase) (out before was : List Event) → out ≡ emit d before → before ≡ emit (listed prior) was → out ≡ emit (with_next prior d) was
next_told prior d out before was told earlier = told ∙ ap (emit d) earlier ∙ next_emit prior d was

pub next_count : (prior : Prior) (d : Phrase) (count : ℕ) → width (listed prior) ≡ count → width (with_next prior d) ≡ count + 1
next_count prior d count counted = next_width prior d ∙ ap (λ n. n + 1) counted

-- a call has no argument
no_call_argument : (st : List Frame) (out : List Event) (t : Lexeme) (w r : List Lexeme) → t.word ≡ W.CloseParenthesis
    → (f : Phrase) (o : Lexeme) (prior : Prior) (was : List Event) → o.word ≡ W.OpenParenthesis → holds 17 f ≡ true → top is_new st ≡ false → top takes_operand st ≡ true
    → IsMade f (o ∷ spell_prior prior (t ∷ r)) → IsPrior is_assigned prior (t ∷ r) → width (listed prior) ≡ 0 → out ≡ emit (listed prior) (emit f was)
    → Open st w was (spell f (o ∷ spell_prior prior (t ∷ r))) → Step w r (arguments_end I.Call 0 st out)
no_call_argument st out t w r is f o First was word tight no_new hole made before counted told below =
    call_ends 0 st out t w r f o Nothing was is word tight no_new hole made refl tt refl told below
no_call_argument st out t w r is f o (Behind l c) was word tight no_new hole made before counted told below = absurd (wide is_assigned l before.0 counted)

no_new_argument : (place : ℕ) (st : List Frame) (out : List Event) (t : Lexeme) (w r : List Lexeme) → t.word ≡ W.CloseParenthesis
    → (n : Lexeme) (f : Phrase) (o : Lexeme) (prior : Prior) (was : List Event) → n.start ≡ place → n.word ≡ W.New → o.word ≡ W.OpenParenthesis → holds 18 f ≡ true → top takes_operand st ≡ true
    → IsMade f (o ∷ spell_prior prior (t ∷ r)) → IsPrior is_assigned prior (t ∷ r) → width (listed prior) ≡ 0 → out ≡ emit (listed prior) (emit f was)
    → Open st w was (n ∷ spell f (o ∷ spell_prior prior (t ∷ r))) → Step w r (arguments_end (I.New place) 0 st out)
no_new_argument place st out t w r is n f o First was start new word tight hole made before counted told below =
    new_ends place 0 st out t w r n f o Nothing was is start new word tight hole made refl tt refl told below
no_new_argument place st out t w r is n f o (Behind l c) was start new word tight hole made before counted told below = absurd (wide is_assigned l before.0 counted)

no_argument_sound : (invocation : Invocation) (st : List Frame) (out : List Event) (t : Lexeme) (w r : List Lexeme) → t.word ≡ W.CloseParenthesis
    → Open (F.Arguments invocation 0 ∷ st) w out (t ∷ r) → Step w r (no_argument (F.Arguments invocation 0 ∷ st) out)
no_argument_sound I.Call st out t w r is h = no_call_argument st out t w r is h.f h.o h.prior h.was h.word h.tight h.no_new h.hole h.made h.before h.counted h.told h.below
no_argument_sound (I.New place) st out t w r is h =
    no_new_argument place st out t w r is h.n h.f h.o h.prior h.was h.start h.new_word h.word h.tight h.hole h.made h.before h.counted h.told h.below

argument_by_sound : (x : Word) (invocation : Invocation) (st : List Frame) (out : List Event) (t : Lexeme) (w r : List Lexeme) → t.word ≡ x
    → Open (F.Arguments invocation 0 ∷ st) w out (t ∷ r) → Step w r (argument_by x (F.Arguments invocation 0 ∷ st) out t)
argument_by_sound W.CloseParenthesis invocation st out t w r is h = no_argument_sound invocation st out t w r is h
argument_by_sound _ invocation st out t w r is h = operand_sound (F.Arguments invocation 0 ∷ st) out t w r refl h

pub argument_sound : (st : List Frame) (out : List Event) (t : Lexeme) (w r : List Lexeme) → Holds M.Argument st w out (t ∷ r) → Step w r (argument st out t)
argument_sound st out t w r h =
    subst (λ s. Open s w out (t ∷ r) → Step w r (argument s out t)) (sym h.2) (argument_by_sound t.word h.0 h.1 out t w r refl) h.3

-- behind one argument more
pub arguments_by_sound : (x : Word) (invocation : Invocation) (count : ℕ) (sh : Shape) (st : List Frame) (out : List Event) (t : Lexeme) (w r : List Lexeme) → t.word ≡ x
    → Operand sh (F.Arguments invocation count ∷ st) w out (t ∷ r) → Step w r (arguments_by x invocation (count + 1) st out)
arguments_by_sound W.Comma I.Call count sh st out t w r is e =
    let h = e.around in (
      refl,
      record {
        f = h.f;
        o = h.o;
        prior = Behind (with_next h.prior e.d) t;
        was = h.was;
        word = h.word;
        tight = h.tight;
        no_new = h.no_new;
        hole = h.hole;
        made = subst (λ q. IsMade h.f (h.o ∷ q)) (next_spell h.prior e.d (t ∷ r)) h.made;
        before = (next_list is_assigned h.prior e.d _ h.before e.fits, next_made is_assigned h.prior e.d (t ∷ r) h.before e.made, is);
        counted = next_count h.prior e.d count h.counted;
        told = next_told h.prior e.d out e.was _ e.told h.told;
        below = subst (λ q. Open st w h.was (spell h.f (h.o ∷ q))) (next_spell h.prior e.d (t ∷ r)) h.below;
      },
    )
arguments_by_sound W.Comma (I.New place) count sh st out t w r is e =
    let h = e.around in (
      refl,
      record {
        n = h.n;
        f = h.f;
        o = h.o;
        prior = Behind (with_next h.prior e.d) t;
        was = h.was;
        start = h.start;
        new_word = h.new_word;
        word = h.word;
        tight = h.tight;
        hole = h.hole;
        made = subst (λ q. IsMade h.f (h.o ∷ q)) (next_spell h.prior e.d (t ∷ r)) h.made;
        before = (next_list is_assigned h.prior e.d _ h.before e.fits, next_made is_assigned h.prior e.d (t ∷ r) h.before e.made, is);
        counted = next_count h.prior e.d count h.counted;
        told = next_told h.prior e.d out e.was _ e.told h.told;
        below = subst (λ q. Open st w h.was (h.n ∷ spell h.f (h.o ∷ q))) (next_spell h.prior e.d (t ∷ r)) h.below;
      },
    )
arguments_by_sound W.CloseParenthesis I.Call count sh st out t w r is e =
    let h = e.around in
    call_ends (count + 1) st out t w r h.f h.o (with_next h.prior e.d) h.was is h.word h.tight h.no_new h.hole
    (subst (λ q. IsMade h.f (h.o ∷ q)) (next_spell h.prior e.d (t ∷ r)) h.made)
    (may_be is_assigned (with_next h.prior e.d) (next_list is_assigned h.prior e.d _ h.before e.fits))
    (next_made is_assigned h.prior e.d (t ∷ r) h.before e.made)
    (next_count h.prior e.d count h.counted)
    (next_told h.prior e.d out e.was _ e.told h.told)
    (subst (λ q. Open st w h.was (spell h.f (h.o ∷ q))) (next_spell h.prior e.d (t ∷ r)) h.below)
arguments_by_sound W.CloseParenthesis (I.New place) count sh st out t w r is e =
    let h = e.around in
    new_ends place (count + 1) st out t w r h.n h.f h.o (with_next h.prior e.d) h.was is h.start h.new_word h.word h.tight h.hole
    (subst (λ q. IsMade h.f (h.o ∷ q)) (next_spell h.prior e.d (t ∷ r)) h.made)
    (may_be is_assigned (with_next h.prior e.d) (next_list is_assigned h.prior e.d _ h.before e.fits))
    (next_made is_assigned h.prior e.d (t ∷ r) h.before e.made)
    (next_count h.prior e.d count h.counted)
    (next_told h.prior e.d out e.was _ e.told h.told)
    (subst (λ q. Open st w h.was (h.n ∷ spell h.f (h.o ∷ q))) (next_spell h.prior e.d (t ∷ r)) h.below)
arguments_by_sound _ invocation count sh st out t w r is e = tt

-- LITERALS

-- an array literal or an object literal goes on behind a comma
literal_goes_on : (word : Word) (p : Phrase → Bool) (place count : ℕ) (st : List Frame) (out before : List Event) (t : Lexeme) (w r : List Lexeme) (d : Phrase) → t.word ≡ W.Comma
    → p d ≡ true → IsMade d (t ∷ r) → out ≡ emit d before → InLiteral word p place count st (Open st w) before (spell d (t ∷ r))
    → InLiteral word p place (count + 1) st (Open st w) out r
literal_goes_on word p place count st out before t w r d is so made told h = record {
  o = h.o;
  prior = Behind (with_next h.prior d) t;
  was = h.was;
  start = h.start;
  word = h.word;
  hole = h.hole;
  before = (next_list p h.prior d _ h.before so, next_made p h.prior d (t ∷ r) h.before made, is);
  counted = next_count h.prior d count h.counted;
  told = next_told h.prior d out before _ told h.told;
  below = subst (λ q. Open st w h.was (h.o ∷ q)) (next_spell h.prior d (t ∷ r)) h.below;
}

-- an array ends
array_ends : (place count : ℕ) (st : List Frame) (out : List Event) (t : Lexeme) (w r : List Lexeme) (o : Lexeme) (l : Phrase) (was : List Event) → t.word ≡ W.CloseBracket
    → o.start ≡ place → o.word ≡ W.OpenBracket → top takes_operand st ≡ true → may_end_in_comma is_assigned l ≡ true → IsMade l (t ∷ r) → width l ≡ count → out ≡ emit l was
    → Open st w was (o ∷ spell l (t ∷ r)) → Step w r (Some (At (M.After S.Plain) st (node_at place H.Array count ∷ out)))
array_ends place count st out t w r o l was is start word hole list made counted told around =
    tight_read _ st w _ r (Array o l t) was refl refl (λ behind. refl) refl hole (word, list, made, is)
    (ap (λ p. node_at p H.Array count ∷ out) (sym start) ∙ counted_told (λ k events. node_at o.start H.Array k ∷ events) count (width l) out _ (sym counted) told)
    around

object_ends : (place count : ℕ) (st : List Frame) (out : List Event) (t : Lexeme) (w r : List Lexeme) (o : Lexeme) (l : Phrase) (was : List Event) → t.word ≡ W.CloseBrace
    → o.start ≡ place → o.word ≡ W.OpenBrace → top takes_operand st ≡ true → may_end_in_comma is_entry l ≡ true → IsMade l (t ∷ r) → width l ≡ count → out ≡ emit l was
    → Open st w was (o ∷ spell l (t ∷ r)) → Step w r (Some (At (M.After S.Plain) st (node_at place H.Object count ∷ out)))
object_ends place count st out t w r o l was is start word hole list made counted told around =
    tight_read _ st w _ r (Object o l t) was refl refl (λ behind. refl) refl hole (word, list, made, is)
    (ap (λ p. node_at p H.Object count ∷ out) (sym start) ∙ counted_told (λ k events. node_at o.start H.Object k ∷ events) count (width l) out _ (sym counted) told)
    around

-- the list of a literal that ends at once or behind a comma
abbrev whole_list : Prior → Phrase
whole_list First = Nothing
whole_list (Behind l c) = Trailing l c

whole_spell : (prior : Prior) (r : List Lexeme) → spell_prior prior r ≡ spell (whole_list prior) r
whole_spell First r = refl
whole_spell (Behind l c) r = refl

whole_made : (p : Phrase → Bool) (prior : Prior) (r : List Lexeme) → IsPrior p prior r → IsMade (whole_list prior) r
whole_made p First r before = tt
whole_made p (Behind l c) r before = (before.1, before.2)

whole_ends : (p : Phrase → Bool) (prior : Prior) (r : List Lexeme) → IsPrior p prior r → may_end_in_comma p (whole_list prior) ≡ true
whole_ends p First r before = refl
whole_ends p (Behind l c) r before = before.0

whole_width : (prior : Prior) → width (whole_list prior) ≡ width (listed prior)
whole_width First = refl
whole_width (Behind l c) = refl

whole_emit : (prior : Prior) (out : List Event) → emit (listed prior) out ≡ emit (whole_list prior) out
whole_emit First out = refl
whole_emit (Behind l c) out = refl

elements_end_sound : (place count : ℕ) (st : List Frame) (out : List Event) (t : Lexeme) (w r : List Lexeme) → t.word ≡ W.CloseBracket
    → InLiteral W.OpenBracket is_assigned place count st (Open st w) out (t ∷ r) → Step w r (elements_end (F.Elements place count ∷ st) out)
elements_end_sound place count st out t w r is h =
    array_ends place count st out t w r h.o (whole_list h.prior) h.was is h.start h.word h.hole (whole_ends is_assigned h.prior _ h.before) (whole_made is_assigned h.prior _ h.before)
    (whole_width h.prior ∙ h.counted) (h.told ∙ whole_emit h.prior h.was) (subst (λ q. Open st w h.was (h.o ∷ q)) (whole_spell h.prior (t ∷ r)) h.below)

entries_end_sound : (place count : ℕ) (st : List Frame) (out : List Event) (t : Lexeme) (w r : List Lexeme) → t.word ≡ W.CloseBrace
    → InLiteral W.OpenBrace is_entry place count st (Open st w) out (t ∷ r) → Step w r (entries_end (F.Object place count ∷ st) out)
entries_end_sound place count st out t w r is h =
    object_ends place count st out t w r h.o (whole_list h.prior) h.was is h.start h.word h.hole (whole_ends is_entry h.prior _ h.before) (whole_made is_entry h.prior _ h.before)
    (whole_width h.prior ∙ h.counted) (h.told ∙ whole_emit h.prior h.was) (subst (λ q. Open st w h.was (h.o ∷ q)) (whole_spell h.prior (t ∷ r)) h.below)

element_by_sound : (x : Word) (place count : ℕ) (st : List Frame) (out : List Event) (t : Lexeme) (w r : List Lexeme) → t.word ≡ x
    → Open (F.Elements place count ∷ st) w out (t ∷ r) → Step w r (element_by x (F.Elements place count ∷ st) out t)
element_by_sound W.CloseBracket place count st out t w r is h = elements_end_sound place count st out t w r is h
element_by_sound _ place count st out t w r is h = operand_sound (F.Elements place count ∷ st) out t w r refl h

pub element_sound : (st : List Frame) (out : List Event) (t : Lexeme) (w r : List Lexeme) → Holds M.Element st w out (t ∷ r) → Step w r (element st out t)
element_sound st out t w r h =
    subst (λ s. Open s w out (t ∷ r) → Step w r (element s out t)) (sym h.3) (element_by_sound t.word h.0 h.1 h.2 out t w r refl) h.4

-- behind one element more
pub elements_by_sound : (x : Word) (place count : ℕ) (sh : Shape) (st : List Frame) (out : List Event) (t : Lexeme) (w r : List Lexeme) → t.word ≡ x
    → Operand sh (F.Elements place count ∷ st) w out (t ∷ r) → Step w r (elements_by x place (count + 1) st out)
elements_by_sound W.Comma place count sh st out t w r is e = (place, count + 1, st, refl, literal_goes_on W.OpenBracket is_assigned place count st out e.was t w r e.d is e.fits e.made e.told e.around)
elements_by_sound W.CloseBracket place count sh st out t w r is e =
    let h = e.around in
    array_ends place (count + 1) st out t w r h.o (with_next h.prior e.d) h.was is h.start h.word h.hole (may_end is_assigned h.prior e.d _ h.before e.fits) (next_made is_assigned h.prior e.d _ h.before e.made)
    (next_count h.prior e.d count h.counted) (next_told h.prior e.d out e.was _ e.told h.told) (subst (λ q. Open st w h.was (h.o ∷ q)) (next_spell h.prior e.d (t ∷ r)) h.below)
elements_by_sound _ place count sh st out t w r is e = tt

-- a key, or `}`
entry_begins_sound : (place count : ℕ) (st : List Frame) (out : List Event) (t : Lexeme) (w r : List Lexeme) → is_key t.word ≡ true
    → InLiteral W.OpenBrace is_entry place count st (Open st w) out (t ∷ r) → Step w r (entry_begins (F.Object place count ∷ st) out t)
entry_begins_sound place count st out t w r is h = (place, count, t, st, refl, (is, h))

key_by_sound : (x : Word) (place count : ℕ) (st : List Frame) (out : List Event) (t : Lexeme) (w r : List Lexeme) → t.word ≡ x
    → Open (F.Object place count ∷ st) w out (t ∷ r) → Step w r (key_by x (F.Object place count ∷ st) out t)
key_by_sound W.CloseBrace place count st out t w r is h = entries_end_sound place count st out t w r is h
key_by_sound x place count st out t w r is h = step_if w r (is_key x) (entry_begins (F.Object place count ∷ st) out t) (λ key. entry_begins_sound place count st out t w r (ap is_key is ∙ key) h)

pub key_sound : (st : List Frame) (out : List Event) (t : Lexeme) (w r : List Lexeme) → Holds M.Key st w out (t ∷ r) → Step w r (key st out t)
key_sound st out t w r h =
    subst (λ s. Open s w out (t ∷ r) → Step w r (key s out t)) (sym h.3) (key_by_sound t.word h.0 h.1 h.2 out t w r refl) h.4

-- the `:` behind a key
entry_colon_by_sound : (x : Word) (place count : ℕ) (k : Lexeme) (st : List Frame) (out : List Event) (t : Lexeme) (w r : List Lexeme) → t.word ≡ x
    → InKey place count k st (Open st w) out (t ∷ r) → Step w r (entry_colon_by x (F.Entry place count k ∷ st) out)
entry_colon_by_sound W.Colon place count k st out t w r is h = (refl, record { c = t; colon = is; key = h.0; literal = h.1 })
entry_colon_by_sound _ place count k st out t w r is h = tt

pub entry_colon_sound : (st : List Frame) (out : List Event) (t : Lexeme) (w r : List Lexeme) → Holds M.EntryColon st w out (t ∷ r) → Step w r (entry_colon st out t)
entry_colon_sound st out t w r h =
    subst (λ s. Step w r (entry_colon s out t)) (sym h.4) (entry_colon_by_sound t.word h.0 h.1 h.2 h.3 out t w r refl h.5)

-- an entry, when its value is read
entry_ends : (place count : ℕ) (k : Lexeme) (sh : Shape) (st : List Frame) (out : List Event) (q w : List Lexeme) → Operand sh (F.Entry place count k ∷ st) w out q
    → (d : Phrase) × (before : List Event) × (is_entry d ≡ true) × IsMade d q × (node_at k.start (H.Entry k) 1 ∷ out ≡ emit d before)
    × InLiteral W.OpenBrace is_entry place count st (Open st w) before (spell d q)
entry_ends place count k sh st out q w e =
    let h = e.around in
    (Entry k h.c e.d, e.was, refl, (h.key, h.colon, e.fits, e.made), ap (λ events. node_at k.start (H.Entry k) 1 ∷ events) e.told, h.literal)

-- behind one entry more
pub entries_by_sound : (x : Word) (place count : ℕ) (k : Lexeme) (sh : Shape) (st : List Frame) (out : List Event) (t : Lexeme) (w r : List Lexeme) → t.word ≡ x
    → Operand sh (F.Entry place count k ∷ st) w out (t ∷ r) → Step w r (entries_by x place (count + 1) st (node_at k.start (H.Entry k) 1 ∷ out))
entries_by_sound W.Comma place count k sh st out t w r is e =
    let d = entry_ends place count k sh st out (t ∷ r) w e in
    (place, count + 1, st, refl, literal_goes_on W.OpenBrace is_entry place count st _ d.1 t w r d.0 is d.2 d.3 d.4 d.5)
entries_by_sound W.CloseBrace place count k sh st out t w r is e =
    let d = entry_ends place count k sh st out (t ∷ r) w e in
    let h = d.5 in
    object_ends place (count + 1) st _ t w r h.o (with_next h.prior d.0) h.was is h.start h.word h.hole (may_end is_entry h.prior d.0 _ h.before d.2) (next_made is_entry h.prior d.0 _ h.before d.3)
    (next_count h.prior d.0 count h.counted) (next_told h.prior d.0 _ d.1 _ d.4 h.told) (subst (λ q. Open st w h.was (h.o ∷ q)) (next_spell h.prior d.0 (t ∷ r)) h.below)
entries_by_sound _ place count k sh st out t w r is e = tt
