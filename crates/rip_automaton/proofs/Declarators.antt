-- The machine reads declarators, in `var` and in the init of a `for`.
use Rattle.std.proofs.Common.{◌≡◌, ℕ, ◌+◌, ◌≤◌, Bool, true, false, List, ◌∷◌, Option, Some, refl, sym, ap, ◌∙◌, subst, ◌⊎◌, inl, inr, arith}
use Rattle.rip_grammar.specs.declared.word.Word.{Word}
use Rattle.rip_grammar.specs.declared.word.Word.TheVariants as W
use Rattle.rip_grammar.specs.declared.word.Lexeme.{Lexeme}
use Rattle.rip_grammar.specs.declared.event.Head.TheVariants as H
use Rattle.rip_grammar.specs.declared.event.Event.{Event}
use Rattle.rip_grammar.specs.declared.event.Event.TheVariants as E
use Rattle.rip_automaton.specs.declared.frame.VarRole.{VarRole}
use Rattle.rip_automaton.specs.declared.frame.VarRole.TheVariants as V
use Rattle.rip_automaton.specs.declared.frame.Frame.{Frame}
use Rattle.rip_automaton.specs.declared.frame.Frame.TheVariants as F
use Rattle.rip_automaton.specs.declared.mode.Mode.TheVariants as M
use Rattle.rip_automaton.specs.declared.mode.Shape.{Shape}
use Rattle.rip_grammar.specs.Words.{is_comma}
use Rattle.rip_grammar.specs.Phrases.{Ending, Written, Inserted, Phrase, Absent, More, CommaMore, Var, Declarator, Initialised, Bindings, spell, spell_ending}
use Rattle.rip_grammar.specs.Levels.{level}
use Rattle.rip_grammar.specs.Semicolons.{IsEnded, continues, continues_name, continues_behind, is_inserted, ends_postfix, has_bare_in}
use Rattle.rip_grammar.specs.Grammar.{IsMade, is_expression, is_declarator, is_comma_list, is_init}
use Rattle.rip_grammar.specs.Events.{node_at, emit}
use Rattle.rip_automaton.specs.Frames.{in_postfix, bars_in}
use Rattle.rip_automaton.specs.States.{State, At}
use Rattle.rip_automaton.specs.Statements.{start, ended}
use Rattle.rip_automaton.specs.Headers.{declared, after_name, after_name_by}
use Rattle.rip_automaton.specs.Continuations.{after}
use Rattle.rip_automaton.specs.Machine.{feed, go}
use Rattle.rip_automaton.proofs.Stepping.{at_word, false_true, cond_true, cond_false, or_left, or_right, and_left, and_right, bool, at_least, is_at_least, turn}
use Rattle.rip_automaton.proofs.Shapes.{shape, postfix_shape}
use Rattle.rip_automaton.proofs.Leaving.{Leaves, leaves_word, is_ender, leaves_ender, leaves_inserted, inserted, leaves_operators, finish_inserted, finish_written}
use Rattle.rip_automaton.proofs.Beginnings.{is_beginning, expression_begins, init_begins}
use Rattle.rip_automaton.proofs.Roles.{AsExpression, AsElement, AsDeclarator, AsInit, Each, EndsDeclarator, Separated, Ended, Broken, is_init_role}
use Rattle.rip_automaton.proofs.CommaLists.{Parts, last, before, counted, Rules, list_told}

-- a name alone
name_broken : (w : Word) (n : Lexeme) (st : List Frame) (out : List Event) (t : Lexeme) → continues_name w ≡ false
    → after_name_by w n st out t ≡ declared (is_inserted continues_name t) st (node_at n.start (H.Declarator n) 0 ∷ out) t
name_broken W.Assign n st out t e = absurd (false_true (sym e))
name_broken _ n st out t e = refl

name_ends : (n : Lexeme) (st : List Frame) (out : List Event) (t : Lexeme) → EndsDeclarator continues_name t
    → after_name n st out t ≡ declared (is_inserted continues_name t) st (node_at n.start (H.Declarator n) 0 ∷ out) t
name_ends n st out t (Separated e) = at_word (λ u. after_name n st out u ≡ declared (is_inserted continues_name u) st (node_at n.start (H.Declarator n) 0 ∷ out) u) t W.Comma e refl
name_ends n st out t (Ended e) = at_word (λ u. after_name n st out u ≡ declared (is_inserted continues_name u) st (node_at n.start (H.Declarator n) 0 ∷ out) u) t W.Semicolon e refl
name_ends n st out t (Broken e) = name_broken t.word n st out t (inserted continues_name t e).ends

pub declarator_told : (n : Lexeme) → AsDeclarator (Declarator n)
declarator_told n e role place count st out t r m bare end =
    ap (λ (s : Option State). go s (t ∷ r)) (at_word (λ u. feed (Some (At M.DeclaratorName (F.Declarators role place count ∷ st) out)) u ≡ Some (At (M.AfterName u) (F.Declarators role place count ∷ st) out)) n W.Name m refl)
    ∙ ap (λ (s : Option State). go s r) (name_ends n (F.Declarators role place count ∷ st) out t end)

-- a name and a value
role_bars : (role : VarRole) (place count : ℕ) → bars_in (F.Declarators role place count) ≡ is_init_role role
role_bars V.Statement place count = refl
role_bars V.Init place count = refl

value_leaves : (d : Phrase) (t : Lexeme) → 2 ≤ level d → EndsDeclarator (continues (ends_postfix d)) t → Leaves (level d) (ends_postfix d) t
value_leaves d t h (Separated e) = leaves_word (level d) (ends_postfix d) t W.Comma e (omega arith)
value_leaves d t h (Ended e) = leaves_ender (level d) (ends_postfix d) t (ap is_ender e)
value_leaves d t h (Broken e) = leaves_inserted (level d) (ends_postfix d) t (inserted (continues (ends_postfix d)) t e)

value_ends : (sh : Shape) (n : Lexeme) (b : Bool) (st : List Frame) (out : List Event) (t : Lexeme) → EndsDeclarator (continues (in_postfix sh)) t
    → after sh (F.Initialised n b ∷ st) out t ≡ declared (is_inserted (continues (in_postfix sh)) t) st (node_at n.start (H.Declarator n) 1 ∷ out) t
value_ends sh n b st out t (Separated e) = at_word (λ u. after sh (F.Initialised n b ∷ st) out u ≡ declared (is_inserted (continues (in_postfix sh)) u) st (node_at n.start (H.Declarator n) 1 ∷ out) u) t W.Comma e refl
value_ends sh n b st out t (Ended e) = at_word (λ u. after sh (F.Initialised n b ∷ st) out u ≡ declared (is_inserted (continues (in_postfix sh)) u) st (node_at n.start (H.Declarator n) 1 ∷ out) u) t W.Semicolon e refl
value_ends sh n b st out t (Broken e) = leaves_operators sh (F.Initialised n b ∷ st) out t (inserted (continues (in_postfix sh)) t e)

value_told : (d : Phrase) (n : Lexeme) (b p : Bool) (st : List Frame) (out : List Event) (t : Lexeme) → in_postfix (shape d) ≡ p → EndsDeclarator (continues p) t
    → after (shape d) (F.Initialised n b ∷ st) out t ≡ declared (is_inserted (continues p) t) st (node_at n.start (H.Declarator n) 1 ∷ out) t
value_told d n b p st out t same end = subst (λ (q : Bool). EndsDeclarator (continues q) t → after (shape d) (F.Initialised n b ∷ st) out t ≡ declared (is_inserted (continues q) t) st (node_at n.start (H.Declarator n) 1 ∷ out) t) same
    (λ k. value_ends (shape d) n b st out t k) end

pub initialised_told : (n q : Lexeme) (d : Phrase) → AsExpression d → AsDeclarator (Initialised n q d)
initialised_told n q d td e role place count st out t r m bare end =
    let frame = F.Declarators role place count in
    let high : 2 ≤ level d = at_least 2 (level d) m.2 in
    ap (λ (s : Option State). go s (q ∷ spell d (t ∷ r))) (at_word (λ u. feed (Some (At M.DeclaratorName (frame ∷ st) out)) u ≡ Some (At (M.AfterName u) (frame ∷ st) out)) n W.Name m.0 refl)
    ∙ ap (λ (s : Option State). go s (spell d (t ∷ r))) (at_word (λ u. feed (Some (At (M.AfterName n) (frame ∷ st) out)) u ≡ Some (At M.Operand (F.Initialised n (bars_in frame) ∷ frame ∷ st) out)) q W.Assign m.1 refl)
    ∙ td (is_at_least 1 (level d) (omega arith)) (F.Initialised n (bars_in frame) ∷ frame ∷ st) out t r m.3 (record { least = high; other = λ f _. false_true f })
    (λ h. bare (sym (role_bars role place count) ∙ h)) (value_leaves d t high end)
    ∙ ap (λ (s : Option State). go s r) (value_told d n (bars_in frame) (ends_postfix d) (frame ∷ st) (emit d out) t (postfix_shape d (t ∷ r) m.3) end)

-- declarators
abbrev DeclaratorPart : VarRole → Phrase → Type 0
DeclaratorPart role d = (is_declarator d ≡ true) × (is_init_role role ≡ true → has_bare_in d ≡ false)

declarator_parts : (role : VarRole) (l : Phrase) → is_comma_list is_declarator l ≡ true → (is_init_role role ≡ true → has_bare_in l ≡ false) → Parts (DeclaratorPart role) l
declarator_parts role (More l d) e bare = (and_left _ (is_declarator d) e, (and_right _ (is_declarator d) e, λ h. or_right (has_bare_in l) (has_bare_in d) (bare h)))
declarator_parts role (CommaMore l c d) e bare =
    (declarator_parts role l (and_left (is_comma_list is_declarator l) (is_declarator d) e) (λ h. or_left (has_bare_in l) (has_bare_in d) (bare h)), (and_right (is_comma_list is_declarator l) (is_declarator d) e, λ h. or_right (has_bare_in l) (has_bare_in d) (bare h)))
declarator_parts role _ e bare = absurd (false_true e)

declarator_rules : (role : VarRole) (place : ℕ) (st : List Frame)
    → Rules (DeclaratorPart role) M.DeclaratorName M.DeclaratorName (λ n. F.Declarators role place n) st
    (λ d n out t. declared (is_inserted (continues_behind d) t) (F.Declarators role place n ∷ st) out t) (λ d t. EndsDeclarator (continues_behind d) t)
declarator_rules role place st = record {
  at_first = λ d out t r own h m e. own.declarator h.0 role place 0 st out t r m h.1 e;
  at_later = λ d n out t r own h m e. own.declarator h.0 role place n st out t r m h.1 e;
  comma = λ d n out c e. cond_true (is_comma c.word) _ _ (ap is_comma e);
  separates = λ d c e. Separated e;
}

-- the last declarator is what the words behind a list continue
last_declarator : (role : VarRole) (l : Phrase) → Parts (DeclaratorPart role) l → is_declarator (last l) ≡ true
last_declarator role (More l d) p = p.1.0
last_declarator role (CommaMore l c d) p = p.1.0
last_declarator role _ p = absurd p

behind_last : (role : VarRole) (l : Phrase) (w : Word) → Parts (DeclaratorPart role) l → continues_behind l w ≡ continues_behind (last l) w
behind_last role (More l d) w p = refl
behind_last role (CommaMore l c d) w p = refl
behind_last role _ w p = absurd p

ended_last : (role : VarRole) (l : Phrase) (t : Lexeme) → Parts (DeclaratorPart role) l → is_inserted (continues_behind l) t ≡ true → is_inserted (continues_behind (last l)) t ≡ true
ended_last role (More l d) t p e = e
ended_last role (CommaMore l c d) t p e = e
ended_last role _ t p e = absurd p

-- a comma continues each of them
comma_continues : (d : Phrase) → is_declarator d ≡ true → continues_behind d W.Comma ≡ true
comma_continues (Declarator n) e = refl
comma_continues (Initialised n q v) e = refl
comma_continues _ e = absurd (false_true e)

is_a_comma : (w : Word) → is_comma w ≡ true → w ≡ W.Comma
is_a_comma W.Comma e = refl
is_a_comma _ e = absurd (false_true e)

no_comma : (d : Phrase) (t : Lexeme) → is_declarator d ≡ true → continues_behind d t.word ≡ false → is_comma t.word ≡ false
no_comma d t h e = by_test (bool (is_comma t.word))
  where
    by_test : ((is_comma t.word ≡ true) ⊎ (is_comma t.word ≡ false)) → is_comma t.word ≡ false
    by_test (inl c) = absurd (false_true (sym e ∙ ap (continues_behind d) (is_a_comma t.word c) ∙ comma_continues d h))
    by_test (inr c) = c

-- `var`
var_ends : (z : Ending) (place : ℕ) (st : List Frame) (l : Phrase) (out : List Event) (t : Lexeme) (r : List Lexeme) → Each l → Parts (DeclaratorPart V.Statement) l → IsMade l (spell_ending z (t ∷ r)) → IsEnded (continues_behind l) z (t ∷ r)
    → go (Some (At M.DeclaratorName (F.Declarators V.Statement place 0 ∷ st) out)) (spell l (spell_ending z (t ∷ r))) ≡ go (ended st (node_at place H.Var (before l + 1) ∷ emit l out) t) r
var_ends (Written v) place st l out t r each p m e =
    list_told _ _ _ _ _ _ _ (declarator_rules V.Statement place st) l out v (t ∷ r) each p m (Ended e)
    ∙ ap (λ (s : Option State). go s (t ∷ r)) (cond_false (is_comma v.word) _ _ (ap is_comma e) ∙ finish_written _ st (node_at place H.Var (before l + 1) ∷ emit l out) v e)
var_ends Inserted place st l out t r each p m e =
    let breaks = ended_last V.Statement l t p e in
    let rest = inserted (continues_behind (last l)) t breaks in
    list_told _ _ _ _ _ _ _ (declarator_rules V.Statement place st) l out t r each p m (Broken breaks)
    ∙ ap (λ (s : Option State). go s r) (cond_false (is_comma t.word) _ _ (no_comma (last l) t (last_declarator V.Statement l p) rest.ends)
    ∙ finish_inserted (is_inserted (continues_behind (last l)) t) st (node_at place H.Var (before l + 1) ∷ emit l out) t rest.other breaks)

pub var_told : (v : Lexeme) (l : Phrase) (z : Ending) → Each l → AsElement (Var v l z)
var_told v l z each e st out t r m declares other =
    let p = declarator_parts V.Statement l m.1 (λ h. false_true h) in
    ap (λ (s : Option State). go s (spell l (spell_ending z (t ∷ r)))) (at_word (λ u. start st out u ≡ Some (At M.DeclaratorName (F.Declarators V.Statement u.start 0 ∷ st) out)) v W.Var m.0 refl)
    ∙ var_ends z v.start st l out t r each p m.2 m.3
    ∙ ap (λ (n : ℕ). go (ended st (node_at v.start H.Var n ∷ emit l out) t) r) (sym (counted _ l p))

-- `var` in the init of a `for`
pub bindings_told : (v : Lexeme) (l : Phrase) → Each l → AsInit (Bindings v l)
bindings_told v l each e place st out t r m bare end =
    let p = declarator_parts V.Init l m.1 (λ h. bare) in
    ap (λ (s : Option State). go s (spell l (t ∷ r)))
    (at_word (λ u. feed (Some (At M.ForInit (F.ForInit place ∷ st) out)) u ≡ Some (At M.DeclaratorName (F.Declarators V.Init u.start 0 ∷ F.ForInit place ∷ st) out)) v W.Var m.0 refl)
    ∙ list_told _ _ _ _ _ _ _ (declarator_rules V.Init v.start (F.ForInit place ∷ st)) l out t r each p m.2 (Ended end)
    ∙ ap (λ (s : Option State). go s r)
    (at_word (λ u. declared (is_inserted (continues_behind (last l)) u) (F.Declarators V.Init v.start (before l) ∷ F.ForInit place ∷ st) (emit l out) u
    ≡ Some (At M.ForTest (F.ForTest place ∷ st) (node_at v.start H.Bindings (before l + 1) ∷ emit l out))) t W.Semicolon end refl
    ∙ ap (λ (n : ℕ). Some (At M.ForTest (F.ForTest place ∷ st) (node_at v.start H.Bindings n ∷ emit l out))) (sym (counted _ l p)))

-- no init, and an expression
pub absent_init_told : AsInit Absent
absent_init_told e place st out t r m bare end = ap (λ (s : Option State). go s r)
    (at_word (λ u. feed (Some (At M.ForInit (F.ForInit place ∷ st) out)) u ≡ Some (At M.ForTest (F.ForTest place ∷ st) (E.Absent ∷ out))) t W.Semicolon end refl)

pub expression_init_told : (d : Phrase) → is_init d ≡ is_expression d → AsExpression d → AsInit d
expression_init_told d same td e place st out t r m bare end =
    let h : is_expression d ≡ true = sym same ∙ e in
    let some : 1 ≤ level d = at_least 1 (level d) h in
    turn (λ u. is_beginning u.word ≡ true) (Some (At M.ForInit (F.ForInit place ∷ st) out)) (Some (At M.Operand (F.ForInit place ∷ st) out))
    (λ u b. init_begins u.word (F.ForInit place ∷ st) out u b) (spell d (t ∷ r)) (expression_begins d (t ∷ r) h m)
    ∙ td h (F.ForInit place ∷ st) out t r m (record { least = some; other = λ f _. false_true f }) (λ _. bare) (leaves_ender (level d) (ends_postfix d) t (ap is_ender end))
    ∙ ap (λ (s : Option State). go s r)
    (at_word (λ u. after (shape d) (F.ForInit place ∷ st) (emit d out) u ≡ Some (At M.ForTest (F.ForTest place ∷ st) (emit d out))) t W.Semicolon end refl)
