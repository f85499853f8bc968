-- The shape of a script's tree: children follow their parents, parameters stand below functions alone, and declarations
-- below functions and scripts alone.
use Rattle.std.proofs.Common.{◌≡◌, ℕ, zero, suc, ◌+◌, ◌<◌, ◌≤◌, Bool, true, false, ◌||◌, ltb, ltb-true, ltb-false, List, [], ◌∷◌, ◌++◌, length, Option, Some, None, refl, sym, ap, ◌∙◌, subst, arith}
use Rattle.rip_tree.specs.Branches.{Branch, Plant, branch_of, links_of}
use Rattle.rip_tree.specs.declared.form.Form.{Form}
use Rattle.rip_tree.specs.declared.form.Form.TheVariants as F
use Rattle.rip_grammar.specs.declared.word.Lexeme.{Lexeme}
use Rattle.rip_grammar.specs.Phrases.{Phrase, Absent, Nothing, More, CommaMore, Trailing, Single, Array, Object, Entry, Parenthesized, Member, Index, New, NewCall, Call, Postfix, Prefix, Infix, Conditional, Assignment, Block, Var, Declarator, Initialised, Empty, Expression, If, IfElse, DoWhile, While, For, Bindings, Continue, Break, Return, Switch, Case, Default, Throw, Try, Catch, Finally, Function, Declaration, Parameter, spell}
use Rattle.rip_grammar.specs.Levels.{level, binds}
use Rattle.rip_grammar.specs.Grammar.{is_assigned, is_entry, is_statement, is_element, is_declarator, is_clause, IsMade, IsScript}
use Rattle.rip_parser.specs.Shows.{Row, Shown, IsNode, IsNodeOf, IsLeaf, IsAbsent, Then, Shows, ShowsScript, infix_form, prefix_form, postfix_form, assignment_form}
use Rattle.rip_early.specs.Around.{form_of}
use Rattle.rip_law_syntax.proofs.ScopingPassing.{is_plain, is_listed, is_below, may_have, Within, plain_listed, plain_held, passes, passes_below, holds_tells, level_tells, expression_tells, assigned_tells, target_tells, constructed_tells, statement_tells, element_tells, block_tells, entry_tells, declarator_tells, clause_tells, maybe_tells, init_tells, catch_tells, finally_tells, list_tells, comma_list_tells, commas_tells, ending_tells, is_plain_if, infix_plain, prefix_plain, postfix_plain, assignment_plain, single_plain}

-- ROWS

-- the nodes of a row have numbers from the low one up to the high one, and forms that pass the test
abbrev pub RowPasses : (Form → Bool) → Plant → ℕ → ℕ → Row → Type 0
RowPasses ok t low high [] = Unit {0}
RowPasses ok t low high (None ∷ row) = RowPasses ok t low high row
RowPasses ok t low high (Some c ∷ row) = (low ≤ c) × (c < high) × (ok (form_of t c) ≡ true) × RowPasses ok t low high row

row_wider : (ok : Form → Bool) (t : Plant) (low high less more : ℕ) (row : Row) → less ≤ low → high ≤ more → RowPasses ok t low high row → RowPasses ok t less more row
row_wider ok t low high less more [] below above is = tt
row_wider ok t low high less more (None ∷ row) below above is = row_wider ok t low high less more row below above is
row_wider ok t low high less more (Some c ∷ row) below above is =
    let from : low ≤ c = is.0 in let to : c < high = is.1 in (omega arith, omega arith, is.2, row_wider ok t low high less more row below above is.3)

row_weaker : (p q : Form → Bool) (t : Plant) (low high : ℕ) (row : Row) → Within p q → RowPasses p t low high row → RowPasses q t low high row
row_weaker p q t low high [] within is = tt
row_weaker p q t low high (None ∷ row) within is = row_weaker p q t low high row within is
row_weaker p q t low high (Some c ∷ row) within is = (is.0, is.1, within (form_of t c) is.2, row_weaker p q t low high row within is.3)

row_append : (ok : Form → Bool) (t : Plant) (low high : ℕ) (front back : Row) → RowPasses ok t low high front → RowPasses ok t low high back → RowPasses ok t low high (front ++ back)
row_append ok t low high [] back first second = second
row_append ok t low high (None ∷ front) back first second = row_append ok t low high front back first second
row_append ok t low high (Some c ∷ front) back first second = (first.0, first.1, first.2, row_append ok t low high front back first.3 second)

-- the children of a node follow it, and have forms that it may have below it
abbrev pub Fits : Plant → ℕ → ℕ → Type 0
Fits t total id = RowPasses (may_have (form_of t id)) t (id + 1) total (links_of t.branches id)

-- what is shown fits
record Fine (ok : Form → Bool) (t : Plant) (total : ℕ) (row : Row) (high low : ℕ) : Type 0 where
  ordered : low ≤ high
  passes : RowPasses ok t low high row
  fits : (id : ℕ) → low ≤ id → id < high → Fits t total id

abbrev Sound : (Form → Bool) → Plant → Shown → Type 0
Sound ok t P = (total : ℕ) (row : Row) (high low : ℕ) → high ≤ total → P row high low → Fine ok t total row high low

-- BRANCHES

links_there : (bs : List Branch) (id : ℕ) (b : Branch) → branch_of bs id ≡ Some b → links_of bs id ≡ b.children
links_there [] id b is = absurd (let h : None ≡ Some b = is in cc)
links_there (x ∷ bs) zero b is = let same : x ≡ b = cc in ap (λ y. y.children) same
links_there (x ∷ bs) (suc id) b is = links_there bs id b is

form_there : (bs : List Branch) (units : List ℕ) (id : ℕ) (b : Branch) → branch_of bs id ≡ Some b → form_of (record { branches = bs; units = units }) id ≡ b.node.form
form_there [] units id b is = absurd (let h : None ≡ Some b = is in cc)
form_there (x ∷ bs) units zero b is = let same : x ≡ b = cc in ap (λ y. y.node.form) same
form_there (x ∷ bs) units (suc id) b is = form_there bs units id b is

-- PARTS

leaf_sound : (ok : Form → Bool) (t : Plant) → Sound ok t IsLeaf
leaf_sound ok t total row high low room is = record {
  ordered = omega (arith, is.1);
  passes = subst (RowPasses ok t low high) (sym is.0) tt;
  fits = λ id from to. absurd (omega (arith, is.1));
}

absent_sound : (ok : Form → Bool) (t : Plant) → Sound ok t IsAbsent
absent_sound ok t total row high low room is = record {
  ordered = omega (arith, is.1);
  passes = subst (RowPasses ok t low high) (sym is.0) tt;
  fits = λ id from to. absurd (omega (arith, is.1));
}

then_sound : (ok : Form → Bool) (t : Plant) (P Q : Shown) → Sound ok t P → Sound ok t Q → Sound ok t (Then P Q)
then_sound ok t P Q first second total row high low room is =
    let front = is.0 in
    let back = is.1 in
    let middle = is.2 in
    let a = first total front high middle room is.4 in
    let above : middle ≤ high = a.ordered in
    let b = second total back middle low (omega arith) is.5 in
    let below : low ≤ middle = b.ordered in
    record {
      ordered = omega arith;
      passes = subst (RowPasses ok t low high) (sym is.3)
          (row_append ok t low high front back (row_wider ok t middle high low high front below (omega arith) a.passes) (row_wider ok t low middle low high back (omega arith) above b.passes));
      fits = λ id from to. by id from to (ltb id middle) refl a b;
    }
  where
    by : (id : ℕ) → low ≤ id → id < high → (less : Bool) → ltb id is.2 ≡ less → Fine ok t total is.0 high is.2 → Fine ok t total is.1 is.2 low → Fits t total id
    by id from to true less a b = b.fits id from (ltb-true id is.2 less)
    by id from to false less a b = a.fits id (ltb-false id is.2 less) to

node_sound : (ok below : Form → Bool) (t : Plant) (place : ℕ) (form : Form) (P : Shown) → ok form ≡ true → Within below (may_have form) → Sound below t P → Sound ok t (IsNode t place form P)
node_sound ok below t place form P here within sound total row high low room is =
    let children = is.0 in
    let b = sound total children high (low + 1) room is.3 in
    let above : low + 1 ≤ high = b.ordered in
    let own : form_of t low ≡ form = form_there t.branches t.units low _ is.2 in
    let links : links_of t.branches low ≡ children = links_there t.branches low _ is.2 in
    let fit : Fits t total low =
    subst (λ f. RowPasses (may_have f) t (low + 1) total (links_of t.branches low)) (sym own)
    (subst (λ cs. RowPasses (may_have form) t (low + 1) total cs) (sym links)
    (row_wider (may_have form) t (low + 1) high (low + 1) total children (omega arith) room (row_weaker below (may_have form) t (low + 1) high children within b.passes))) in
    record {
      ordered = omega arith;
      passes = subst (RowPasses ok t low high) (sym is.1) (omega arith, omega arith, ap ok own ∙ here, tt);
      fits = λ id from to. by id from to (ltb low id) refl b fit;
    }
  where
    by : (id : ℕ) → low ≤ id → id < high → (more : Bool) → ltb low id ≡ more → Fine below t total is.0 high (low + 1) → Fits t total low → Fits t total id
    by id from to true more b fit = let past : low < id = ltb-true low id more in b.fits id (omega arith) to
    by id from to false more b fit = let not_past : id ≤ low = ltb-false low id more in subst (Fits t total) (let e : low ≡ id = omega arith in e) fit

-- a node of a form that stands anywhere, whose children have such forms
plain_sound : (ok : Form → Bool) (t : Plant) (place : ℕ) (form : Form) (P : Shown) → ok form ≡ true → Sound is_plain t P → Sound ok t (IsNode t place form P)
plain_sound ok t place form P here sound = node_sound ok is_plain t place form P here (plain_held form) sound

operator_sound : (ok : Form → Bool) (t : Plant) (place : ℕ) (form : Option Form) (P : Shown) → Within is_plain ok → is_plain_if form ≡ true → Sound is_plain t P → Sound ok t (IsNodeOf t place form P)
operator_sound ok t place form P plain here sound total row high low room is =
    plain_sound ok t place is.0 P (plain is.0 (ap is_plain_if (sym is.1) ∙ here)) sound total row high low room is.2

-- PHRASES

left : (a b : Bool) → a ≡ true → (a || b) ≡ true
left true b e = refl
left false b e = cc

right : (a b : Bool) → b ≡ true → (a || b) ≡ true
right true b e = refl
right false b e = e

module _ (script : List ℕ) (t : Plant) where
  -- what a phrase shows
  abbrev S : Phrase → Shown
  S d = Shows script t d

  two : (d e : Phrase) → Sound is_plain t (S d) → Sound is_plain t (S e) → Sound is_plain t (Then (S d) (S e))
  two d e a b = then_sound is_plain t (S d) (S e) a b

  three : (d e f : Phrase) → Sound is_plain t (S d) → Sound is_plain t (S e) → Sound is_plain t (S f) → Sound is_plain t (Then (S d) (Then (S e) (S f)))
  three d e f a b c = then_sound is_plain t (S d) (Then (S e) (S f)) a (two e f b c)

  sound : (d : Phrase) (r : List Lexeme) → IsMade d r → (ok : Form → Bool) → Within (passes d) ok → Sound ok t (S d)
  sound Absent r m ok all = absent_sound ok t
  sound Nothing r m ok all = leaf_sound ok t
  sound (More l d) r m ok all = then_sound ok t (S l) (S d) (sound l (spell d r) m.0 ok (λ f e. all f (left (passes l f) (passes d f) e))) (sound d r m.1 ok (λ f e. all f (right (passes l f) (passes d f) e)))
  sound (CommaMore l c d) r m ok all = then_sound ok t (S l) (S d) (sound l (c ∷ spell d r) m.0 ok (λ f e. all f (left (passes l f) (passes d f) e))) (sound d r m.2 ok (λ f e. all f (right (passes l f) (passes d f) e)))
  sound (Trailing l c) r m ok all = sound l (c ∷ r) m.0 ok all
  sound (Single s) r m ok all = λ total row high low room is. plain_sound ok t s.start is.0 IsLeaf (all is.0 (single_plain script t.units s s.word is.0 is.1)) (leaf_sound is_plain t) total row high low room is.2
  sound (Array o l c) r m ok all = plain_sound ok t _ F.Array (S l) (all F.Array refl) (sound l (c ∷ r) m.2 is_plain (ending_tells is_assigned assigned_tells l m.1))
  sound (Object o l c) r m ok all = plain_sound ok t _ F.Object (S l) (all F.Object refl) (sound l (c ∷ r) m.2 is_plain (ending_tells is_entry entry_tells l m.1))
  sound (Entry k c e) r m ok all = λ total row high low room is. plain_sound ok t k.start (F.Entry is.0) (S e) (all (F.Entry is.0) refl) (sound e r m.3 is_plain (assigned_tells e m.2)) total row high low room is.2
  sound (Parenthesized o e c) r m ok all = sound e (c ∷ r) m.2 ok (λ f h. all f (expression_tells e m.1 f h))
  sound (Member b p n) r m ok all = plain_sound ok t _ (F.Member _) (S b) (all (F.Member _) refl) (sound b (p ∷ n ∷ r) m.1 is_plain (holds_tells 17 (omega arith) b m.0))
  sound (Index b o e c) r m ok all = plain_sound ok t _ F.Index (Then (S b) (S e)) (all F.Index refl) (two b e (sound b _ m.1 is_plain (holds_tells 17 (omega arith) b m.0)) (sound e _ m.4 is_plain (expression_tells e m.3)))
  sound (New w g) r m ok all = plain_sound ok t _ F.New (S g) (all F.New refl) (sound g r m.2 is_plain (constructed_tells g m.1))
  sound (NewCall w g o l c) r m ok all = plain_sound ok t _ F.New (Then (S g) (S l)) (all F.New refl) (two g l (sound g _ m.2 is_plain (holds_tells 18 (omega arith) g m.1)) (sound l _ m.5 is_plain (commas_tells is_assigned assigned_tells l m.4)))
  sound (Call g o l c) r m ok all = plain_sound ok t _ F.Call (Then (S g) (S l)) (all F.Call refl) (two g l (sound g _ m.1 is_plain (holds_tells 17 (omega arith) g m.0)) (sound l _ m.4 is_plain (commas_tells is_assigned assigned_tells l m.3)))
  sound (Postfix e o) r m ok all = operator_sound ok t _ (postfix_form o.word) (S e) all (postfix_plain o.word) (sound e _ m.2 is_plain (holds_tells 16 (omega arith) e m.0))
  sound (Prefix o e) r m ok all = operator_sound ok t _ (prefix_form o.word) (S e) all (prefix_plain o.word) (sound e _ m.3 is_plain (holds_tells 14 (omega arith) e m.1))
  sound (Infix a o b) r m ok all =
      let some : 0 < binds o.word = m.0 in
      let looser : binds o.word ≤ level a = m.1 in
      let tighter : binds o.word < level b = m.2 in
      operator_sound ok t _ (infix_form o.word) (Then (S a) (S b)) all (infix_plain o.word) (two a b (sound a _ m.3 is_plain (level_tells a (omega arith))) (sound b _ m.4 is_plain (level_tells b (omega arith))))
  sound (Conditional a q b c d) r m ok all = plain_sound ok t _ F.Conditional (Then (S a) (Then (S b) (S d))) (all F.Conditional refl) (three a b d (sound a _ m.1 is_plain (holds_tells 4 (omega arith) a m.0)) (sound b _ m.4 is_plain (assigned_tells b m.3)) (sound d _ m.7 is_plain (assigned_tells d m.6)))
  sound (Assignment a o b) r m ok all = operator_sound ok t _ (assignment_form o.word) (Then (S a) (S b)) all (assignment_plain o.word) (two a b (sound a _ m.1 is_plain (target_tells a m.0)) (sound b _ m.4 is_plain (assigned_tells b m.3)))
  sound (Block o l c) r m ok all = plain_sound ok t _ F.Block (S l) (all F.Block refl) (sound l _ m.2 is_plain (list_tells is_plain is_statement (λ f e. e) statement_tells l m.1))
  sound (Var v l z) r m ok all = plain_sound ok t _ F.Var (S l) (all F.Var refl) (sound l _ m.2 is_plain (comma_list_tells is_declarator declarator_tells l m.1))
  sound (Declarator n) r m ok all = plain_sound ok t _ (F.Declarator _) IsLeaf (all (F.Declarator _) refl) (leaf_sound is_plain t)
  sound (Initialised n q e) r m ok all = plain_sound ok t _ (F.Declarator _) (S e) (all (F.Declarator _) refl) (sound e _ m.3 is_plain (assigned_tells e m.2))
  sound (Empty s) r m ok all = plain_sound ok t _ F.Empty IsLeaf (all F.Empty refl) (leaf_sound is_plain t)
  sound (Expression e z) r m ok all = plain_sound ok t _ F.Expression (S e) (all F.Expression refl) (sound e _ m.2 is_plain (expression_tells e m.0))
  sound (If i o e c s) r m ok all = plain_sound ok t _ F.If (Then (S e) (S s)) (all F.If refl) (two e s (sound e _ m.3 is_plain (expression_tells e m.2)) (sound s _ m.6 is_plain (statement_tells s m.5)))
  sound (IfElse i o e c s l u) r m ok all = plain_sound ok t _ F.If (Then (S e) (Then (S s) (S u))) (all F.If refl) (three e s u (sound e _ m.3 is_plain (expression_tells e m.2)) (sound s _ m.6 is_plain (statement_tells s m.5)) (sound u _ m.9 is_plain (statement_tells u m.8)))
  sound (DoWhile d s w o e c z) r m ok all = plain_sound ok t _ F.DoWhile (Then (S s) (S e)) (all F.DoWhile refl) (two s e (sound s _ m.2 is_plain (statement_tells s m.1)) (sound e _ m.6 is_plain (expression_tells e m.5)))
  sound (While w o e c s) r m ok all = plain_sound ok t _ F.While (Then (S e) (S s)) (all F.While refl) (two e s (sound e _ m.3 is_plain (expression_tells e m.2)) (sound s _ m.6 is_plain (statement_tells s m.5)))
  sound (For g o i p e q u c s) r m ok all = plain_sound ok t _ F.For (Then (S i) (Then (S e) (Then (S u) (S s)))) (all F.For refl)
      (then_sound is_plain t (S i) (Then (S e) (Then (S u) (S s))) (sound i _ m.4 is_plain (init_tells i m.2))
      (three e u s (sound e _ m.7 is_plain (maybe_tells e m.6)) (sound u _ m.10 is_plain (maybe_tells u m.9)) (sound s _ m.13 is_plain (statement_tells s m.12))))
  sound (Bindings v l) r m ok all = plain_sound ok t _ F.Bindings (S l) (all F.Bindings refl) (sound l _ m.2 is_plain (comma_list_tells is_declarator declarator_tells l m.1))
  sound (Continue s z) r m ok all = plain_sound ok t _ F.Continue IsLeaf (all F.Continue refl) (leaf_sound is_plain t)
  sound (Break s z) r m ok all = plain_sound ok t _ F.Break IsLeaf (all F.Break refl) (leaf_sound is_plain t)
  sound (Return s e z) r m ok all = plain_sound ok t _ F.Return (S e) (all F.Return refl) (sound e _ m.3 is_plain (maybe_tells e m.1))
  sound (Switch s o e c b l d) r m ok all = plain_sound ok t _ F.Switch (Then (S e) (S l)) (all F.Switch refl) (two e l (sound e _ m.3 is_plain (expression_tells e m.2)) (sound l _ m.8 is_plain (list_tells is_plain is_clause (λ f h. h) clause_tells l m.6)))
  sound (Case w e c l) r m ok all = plain_sound ok t _ F.Case (Then (S e) (S l)) (all F.Case refl) (two e l (sound e _ m.2 is_plain (expression_tells e m.1)) (sound l _ m.5 is_plain (list_tells is_plain is_statement (λ f h. h) statement_tells l m.4)))
  sound (Default w c l) r m ok all = plain_sound ok t _ F.Default (S l) (all F.Default refl) (sound l _ m.3 is_plain (list_tells is_plain is_statement (λ f h. h) statement_tells l m.2))
  sound (Throw s e z) r m ok all = plain_sound ok t _ F.Throw (S e) (all F.Throw refl) (sound e _ m.3 is_plain (expression_tells e m.1))
  sound (Try s b h g) r m ok all = plain_sound ok t _ F.Try (Then (S b) (Then (S h) (S g))) (all F.Try refl) (three b h g (sound b _ m.2 is_plain (block_tells b m.1)) (sound h _ m.4 is_plain (catch_tells h m.3)) (sound g _ m.6 is_plain (finally_tells g m.5)))
  sound (Catch w o n c b) r m ok all = plain_sound ok t _ (F.Catch _) (S b) (all (F.Catch _) refl) (sound b _ m.5 is_plain (block_tells b m.4))
  sound (Finally w b) r m ok all = sound b _ m.2 ok (λ f h. all f (block_tells b m.1 f h))
  sound (Function g n o l c b s d) r m ok all = node_sound ok is_below t _ (F.Function _) (Then (S l) (S s)) (all (F.Function _) refl) (λ f e. e)
      (then_sound is_below t (S l) (S s) (sound l _ m.5 is_below (passes_below l)) (sound s _ m.9 is_below (passes_below s)))
  sound (Declaration g n o l c b s d) r m ok all = node_sound ok is_below t _ (F.FunctionDeclaration _) (Then (S l) (S s)) (all (F.FunctionDeclaration _) refl) (λ f e. e)
      (then_sound is_below t (S l) (S s) (sound l _ m.4 is_below (passes_below l)) (sound s _ m.8 is_below (passes_below s)))
  sound (Parameter n) r m ok all = plain_sound ok t _ (F.Parameter _) IsLeaf (all (F.Parameter _) refl) (leaf_sound is_plain t)

-- THE TREE

-- the root is the script, and each node has the children that it may have
pub record IsShaped (t : Plant) : Type 0 where
  pub root : form_of t 0 ≡ F.Script
  pub some : 0 < length t.branches
  pub fits : (id : ℕ) → id < length t.branches → Fits t (length t.branches) id

pub shaped : (script : List ℕ) (t : Plant) (lexemes : List Lexeme) (body : Phrase) → IsScript lexemes body → ShowsScript script t body → IsShaped t
shaped script t lexemes body is shows =
    let fine = node_sound (λ f. true) is_listed t 0 F.Script (Shows script t body) refl (λ f e. e)
    (sound script t body (is.end ∷ []) is.made is_listed (list_tells is_listed is_element plain_listed element_tells body is.list))
    (length t.branches) (Some 0 ∷ []) (length t.branches) 0 (omega arith) shows.root in
    let own = fine.passes in
    record {
      root = form_there t.branches t.units 0 _ shows.root.2;
      some = own.1;
      fits = λ id below. fine.fits id (omega arith) below;
    }
