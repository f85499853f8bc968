-- What is told of a phrase makes the nodes that it shows.
use Rattle.std.proofs.Common.{◌≡◌, ℕ, ◌+◌, ◌<◌, ◌≤◌, true, List, [], ◌∷◌, ◌++◌, length, Option, Some, None, refl, sym, ap, ◌∙◌, subst, arith}
use Rattle.std.specs.Prelude.{max}
use Rattle.std.proofs.lemmas.Bool.{and_parts}
use Rattle.rip_lexer.specs.declared.token.Token.{Token}
use Rattle.rip_tree.specs.declared.form.Form.{Form}
use Rattle.rip_tree.specs.declared.form.Form.TheVariants as F
use Rattle.rip_tree.specs.Branches.{Plant}
use Rattle.rip_grammar.specs.declared.word.Lexeme.{Lexeme}
use Rattle.rip_grammar.specs.declared.event.Head.{Head}
use Rattle.rip_grammar.specs.declared.event.Head.TheVariants as H
use Rattle.rip_grammar.specs.declared.event.Event.{Event}
use Rattle.rip_grammar.specs.declared.event.Event.TheVariants as E
use Rattle.rip_grammar.specs.Phrases.{Phrase, Absent, Nothing, More, CommaMore, Trailing, Single, Array, Object, Entry, Parenthesized, Member, Index, New, NewCall, Call, Postfix, Prefix, Infix, Conditional, Assignment, Block, Var, Declarator, Initialised, Empty, Expression, If, IfElse, DoWhile, While, For, Bindings, Continue, Break, Return, Switch, Case, Default, Throw, Try, Catch, Finally, Function, Declaration, Parameter, spell, spell_ending}
use Rattle.rip_grammar.specs.Levels.{level, binds}
use Rattle.rip_grammar.specs.Events.{width, label, emit}
use Rattle.rip_grammar.specs.Depths.{levels}
use Rattle.rip_grammar.specs.Grammar.{is_assigned, is_statement, is_element, is_entry, is_parameter, is_declarator, is_clause, IsMade}
use Rattle.rip_parser.specs.declared.part.Part.{Part}
use Rattle.rip_parser.specs.Shows.{Row, piece_of, place_of, head_of, label_of, item_count, Shown, IsNode, IsLeaf, IsAbsent, Then, Shows}
use Rattle.rip_parser.specs.Building.{State, IsFormOf, IsReadable, HasForm, place_over, is_part, plain_form}
use Rattle.rip_parser.proofs.Courses.{Builds}
use Rattle.rip_parser.proofs.Made.{Anywhere, over}
use Rattle.rip_parser.proofs.Told.{Told, told-none, told-absent, told-both, told-node, told-wrapped, told-at}
use Rattle.rip_parser.proofs.Following.{Each, behind}
use Rattle.rip_parser.proofs.Shapes.{is_one, is_flat, one-flat, one-width, level-one, holds-one, holds-some, target-one, target-some, statement-one, element-one, block-one, entry-one, parameter-one, declarator-one, clause-one, may_be_expression-one, init-one, catch-one, finally-one, constructed-one, list-flat, comma_list-flat, commas-flat, elements-flat, parameters-count, begins-own, prefix-form, infix-form, postfix-form, assignment-form}

-- an expression begins at its place
abbrev pub Begins : Phrase → ℕ → Type 0
Begins d p = 0 < level d → p ≡ place_of d

-- the lexeme can be read in the script
abbrev pub Reads : List ℕ → List Token → Lexeme → Type 0
Reads script tokens t = IsReadable script tokens t t.word

-- a node of this form, where its form is told outright
plain : (P : Shown) (tree : Plant) (here : ℕ) (form made : Form) (row : Row) (high low : ℕ) → Some form ≡ Some made → IsNode tree here made P row high low → IsNode tree here form P row high low
plain P tree here form made row high low is node = let same : made ≡ form = cc in subst (λ f. IsNode tree here f P row high low) same node

-- the first of parts begins where they begin
pub keeps-first : (At : ℕ → Type 0) (ps qs : List Part) → length ps ≡ 1 → At (place_over None ps) → At (place_over None (ps ++ qs))
keeps-first At [] qs one at = absurd (omega arith)
keeps-first At (p ∷ ps) qs one at = at

-- the form of a function, its parameters counted
pub function-form : (n l : Phrase) → item_count l ≡ width l → plain_form (H.Function (label n) (width l)) ≡ Some (F.Function (head_of (label_of n) l))
function-form (Single t) l count = ap (λ k. Some (F.Function (record { name = Some (piece_of t); parameters = k }))) (sym count)
function-form n l count = ap (λ k. Some (F.Function (record { name = None; parameters = k }))) (sym count)

-- the levels of the parts of a `for`, and of a function
regroup : (a b c d : ℕ) → 1 + max a (max b (max c d)) ≡ 1 + max (max a b) (max c d)
regroup a b c d = omega arith

none-of : (a b : ℕ) → a ≡ 0 → 1 + max a b ≡ 1 + b
none-of a b none = omega arith

-- levels of operands
pub tighter : (n a : ℕ) → 0 < n → n ≤ a → 0 < a
tighter n a some below = omega arith

pub looser : (n a : ℕ) → n < a → n ≤ a
looser n a below = omega arith

module _ (script : List ℕ) (tokens : List Token) (total : ℕ) where
  -- the row of a phrase
  abbrev Row-of : Phrase → Plant → Shown
  Row-of d tree = Shows script tree d

  abbrev pub Numbered : Phrase → ℕ → List Event → Option State → Type 0
  Numbered d n told after = Told script tokens total (Row-of d) n (levels d) (Begins d) told after

  one : (d : Phrase) (told : List Event) (after : Option State) → is_one d ≡ true → Numbered d (width d) told after → Numbered d 1 told after
  one d told after is numbered = subst (λ n. Numbered d n told after) (one-width d is) numbered

  deep : (P : Plant → Shown) (n a b : ℕ) (At : ℕ → Type 0) (told : List Event) (after : Option State) → a ≡ b → Told script tokens total P n a At told after → Told script tokens total P n b At told after
  deep P n a b At told after is t = subst (λ k. Told script tokens total P n k At told after) is t

  first : (d : Phrase) (Q : Plant → Shown) (n b : ℕ) (Bt : ℕ → Type 0) (told between : List Event) (after : Option State) → (q : Told script tokens total Q n b Bt between after) → Numbered d 1 told q.0
      → Told script tokens total (λ tree. Then (Row-of d tree) (Q tree)) (1 + n) (max (levels d) b) (Begins d) told after
  first d Q n b Bt told between after q p =
      told-both script tokens total (Row-of d) Q 1 n (levels d) b (Begins d) Bt (Begins d) told between after (keeps-first (Begins d)) q p

  -- a node at a lexeme of its own
  own : (P Q : Plant → Shown) (place : ℕ) (head : Head) (n d : ℕ) (At Ct : ℕ → Type 0) (told parts : List Event) (after : Option State) → HasForm script tokens head
      → ((p : ℕ) → p ≡ place → Ct p)
      → ((tree : Plant) (form : Form) (row : Row) (high low : ℕ) → IsFormOf script tree.units head form → IsNode tree place form (P tree) row high low → Q tree row high low)
      → (b : Builds script tokens total (E.Node (Some place) head n ∷ parts) after) → Told script tokens total P n d At told b.0
      → Told script tokens total Q 1 (over (is_part head) d) Ct told after
  own P Q place head n d At Ct told parts after form at shown b p =
      told-at script tokens total Q 1 (over (is_part head) d) (λ k. k ≡ place) Ct told after at (told-node script tokens total P Q (Some place) place head n d At told parts after form (λ ps begins. refl) shown b p)

  -- a node that begins with its first part
  front : (a : Phrase) (P Q : Plant → Shown) (head : Head) (n d : ℕ) (Ct : ℕ → Type 0) (told parts : List Event) (after : Option State) → HasForm script tokens head → 0 < level a
      → ((p : ℕ) → p ≡ place_of a → Ct p)
      → ((tree : Plant) (form : Form) (row : Row) (high low : ℕ) → IsFormOf script tree.units head form → IsNode tree (place_of a) form (P tree) row high low → Q tree row high low)
      → (b : Builds script tokens total (E.Node None head n ∷ parts) after) → Told script tokens total P n d (Begins a) told b.0
      → Told script tokens total Q 1 (over (is_part head) d) Ct told after
  front a P Q head n d Ct told parts after form some at shown b p =
      told-at script tokens total Q 1 (over (is_part head) d) (λ k. k ≡ place_of a) Ct told after at (told-node script tokens total P Q None (place_of a) head n d (Begins a) told parts after form (λ ps begins. begins some) shown b p)

  -- what is told of a phrase makes its row of nodes, behind what was made before
  pub numbers : (d : Phrase) (r : List Lexeme) (told : List Event) (after : Option State) → is_flat d ≡ true → IsMade d r → Each (Reads script tokens) (spell d r) → Builds script tokens total (emit d told) after → Numbered d (width d) told after
  numbers Absent r told after flat m reads b = told-at script tokens total (λ tree. IsAbsent) 1 0 Anywhere (Begins Absent) told after (λ p at some. absurd (omega arith)) (told-absent script tokens total told after b)
  numbers Nothing r told after flat m reads b = told-at script tokens total (λ tree. IsLeaf) 0 0 Anywhere (Begins Nothing) told after (λ p at some. absurd (omega arith)) (told-none script tokens total told after b)
  numbers (More l d) r told after flat m reads b =
      let parts = and_parts (is_flat l) (is_one d) flat in
      let D = one d (emit l told) after parts.1 (numbers d r (emit l told) after (one-flat d parts.1) m.1 (behind (Reads script tokens) l (spell d r) reads) b) in
      let L = numbers l (spell d r) told D.0 parts.0 m.0 reads D.1 in
      told-both script tokens total (Row-of l) (Row-of d) (width l) 1 (levels l) (levels d) (Begins l) (Begins d) (Begins (More l d)) told (emit l told) after (λ ps qs long at some. absurd (omega arith)) D L
  numbers (CommaMore l c d) r told after flat m reads b =
      let parts = and_parts (is_flat l) (is_one d) flat in
      let D = one d (emit l told) after parts.1 (numbers d r (emit l told) after (one-flat d parts.1) m.2 (behind (Reads script tokens) l (c ∷ spell d r) reads).1 b) in
      let L = numbers l (c ∷ spell d r) told D.0 parts.0 m.0 reads D.1 in
      told-both script tokens total (Row-of l) (Row-of d) (width l) 1 (levels l) (levels d) (Begins l) (Begins d) (Begins (CommaMore l c d)) told (emit l told) after (λ ps qs long at some. absurd (omega arith)) D L
  numbers (Trailing l c) r told after flat m reads b =
      told-at script tokens total (Row-of l) (width l) (levels l) (Begins l) (Begins (Trailing l c)) told after (λ p at some. absurd (omega arith)) (numbers l (c ∷ r) told after flat m.0 reads b)
  numbers (Single t) r told after flat m reads b =
      own (λ tree. IsLeaf) (Row-of (Single t)) t.start (H.Single t) 0 0 Anywhere (Begins (Single t)) told told after (m, reads.0) (λ p at some. at) (λ tree form row high low is node. (form, is, node)) b (told-none script tokens total told b.0 b.1)
  numbers (Parenthesized o e c) r told after flat m reads b =
      let e1 = holds-one 1 (omega arith) e m.1 in
      let E0 = one e told b.0 e1 (numbers e (c ∷ r) told b.0 (one-flat e e1) m.2 reads.1 b.1) in
      told-at script tokens total (Row-of e) 1 (1 + levels e) (λ p. p ≡ o.start) (Begins (Parenthesized o e c)) told after (λ p at some. at) (told-wrapped script tokens total (Row-of e) (levels e) o.start (Begins e) told (emit e told) after b E0)
  numbers (Finally w d) r told after flat m reads b =
      let d1 = block-one d m.1 in
      told-at script tokens total (Row-of d) 1 (levels d) (Begins d) (Begins (Finally w d)) told after (λ p at some. absurd (omega arith)) (one d told after d1 (numbers d r told after (one-flat d d1) m.2 reads.1 b))
  numbers (Array o l c) r told after flat m reads b =
      let l-told = numbers l (c ∷ r) told b.0 (elements-flat is_assigned (holds-one 2 (omega arith)) l m.1) m.2 reads.1 b.1 in
      own (Row-of l) (Row-of (Array o l c)) o.start H.Array (width l) (levels l) (Begins l) (Begins (Array o l c)) told (emit l told) after (F.Array, refl) (λ p at some. at) (λ tree made row high low is node. plain (Row-of l tree) tree o.start F.Array made row high low is node) b l-told
  numbers (Object o l c) r told after flat m reads b =
      let l-told = numbers l (c ∷ r) told b.0 (elements-flat is_entry entry-one l m.1) m.2 reads.1 b.1 in
      own (Row-of l) (Row-of (Object o l c)) o.start H.Object (width l) (levels l) (Begins l) (Begins (Object o l c)) told (emit l told) after (F.Object, refl) (λ p at some. at) (λ tree made row high low is node. plain (Row-of l tree) tree o.start F.Object made row high low is node) b l-told
  numbers (Entry k c e) r told after flat m reads b =
      let e1 = holds-one 2 (omega arith) e m.2 in
      let e-told = one e told b.0 e1 (numbers e r told b.0 (one-flat e e1) m.3 reads.1.1 b.1) in
      own (Row-of e) (Row-of (Entry k c e)) k.start (H.Entry k) 1 (levels e) (Begins e) (Begins (Entry k c e)) told (emit e told) after reads.0 (λ p at some. absurd (omega arith)) (λ tree made row high low is node. (is.0, is.1, subst (λ x. IsNode tree k.start x (Row-of e tree) row high low) is.2 node)) b e-told
  numbers (Member b p n) r told after flat m reads built =
      let b1 = holds-one 17 (omega arith) b m.0 in
      let b-told = one b told built.0 b1 (numbers b (p ∷ n ∷ r) told built.0 (one-flat b b1) m.1 reads built.1) in
      front b (Row-of b) (Row-of (Member b p n)) (H.Member n) 1 (levels b) (Begins (Member b p n)) told (emit b told) after ((F.Member (piece_of n)), refl) (holds-some 17 b (omega arith) m.0) (λ p0 at some. at ∙ sym (begins-own b (p ∷ n ∷ r) (p ∷ n ∷ []) m.1 (holds-some 17 b (omega arith) m.0))) (λ tree made row high low is node. plain (Row-of b tree) tree (place_of b) (F.Member (piece_of n)) made row high low is node) built b-told
  numbers (Index b o e c) r told after flat m reads built =
      let e1 = holds-one 1 (omega arith) e m.3 in
      let e-told = one e (emit b told) built.0 e1 (numbers e (c ∷ r) (emit b told) built.0 (one-flat e e1) m.4 ((behind (Reads script tokens) b (o ∷ spell e (c ∷ r)) reads).1) built.1) in
      let b1 = holds-one 17 (omega arith) b m.0 in
      let b-told = one b told e-told.0 b1 (numbers b (o ∷ spell e (c ∷ r)) told e-told.0 (one-flat b b1) m.1 reads e-told.1) in
      let b-on = first b (Row-of e) 1 (levels e) (Begins e) told (emit b told) built.0 e-told b-told in
      front b (λ tree. Then (Row-of b tree) (Row-of e tree)) (Row-of (Index b o e c)) H.Index (1 + 1) (max (levels b) (levels e)) (Begins (Index b o e c)) told (emit e (emit b told)) after (F.Index, refl) (holds-some 17 b (omega arith) m.0) (λ p0 at some. at ∙ sym (begins-own b (o ∷ spell e (c ∷ r)) (o ∷ spell e (c ∷ [])) m.1 (holds-some 17 b (omega arith) m.0))) (λ tree made row high low is node. plain (Then (Row-of b tree) (Row-of e tree)) tree (place_of b) F.Index made row high low is node) built b-on
  numbers (New w f) r told after flat m reads b =
      let f1 = constructed-one f m.1 in
      let f-told = one f told b.0 f1 (numbers f r told b.0 (one-flat f f1) m.2 reads.1 b.1) in
      own (Row-of f) (Row-of (New w f)) w.start H.New 1 (levels f) (Begins f) (Begins (New w f)) told (emit f told) after (F.New, refl) (λ p at some. at) (λ tree made row high low is node. plain (Row-of f tree) tree w.start F.New made row high low is node) b f-told
  numbers (NewCall w f o l c) r told after flat m reads b =
      let l-told = numbers l (c ∷ r) (emit f told) b.0 (commas-flat is_assigned (holds-one 2 (omega arith)) l m.4) m.5 ((behind (Reads script tokens) f (o ∷ spell l (c ∷ r)) reads.1).1) b.1 in
      let f1 = holds-one 18 (omega arith) f m.1 in
      let f-told = one f told l-told.0 f1 (numbers f (o ∷ spell l (c ∷ r)) told l-told.0 (one-flat f f1) m.2 reads.1 l-told.1) in
      let f-on = first f (Row-of l) (width l) (levels l) (Begins l) told (emit f told) b.0 l-told f-told in
      own (λ tree. Then (Row-of f tree) (Row-of l tree)) (Row-of (NewCall w f o l c)) w.start H.New (1 + (width l)) (max (levels f) (levels l)) (Begins f) (Begins (NewCall w f o l c)) told (emit l (emit f told)) after (F.New, refl) (λ p at some. at) (λ tree made row high low is node. plain (Then (Row-of f tree) (Row-of l tree)) tree w.start F.New made row high low is node) b f-on
  numbers (Call f o l c) r told after flat m reads b =
      let l-told = numbers l (c ∷ r) (emit f told) b.0 (commas-flat is_assigned (holds-one 2 (omega arith)) l m.3) m.4 ((behind (Reads script tokens) f (o ∷ spell l (c ∷ r)) reads).1) b.1 in
      let f1 = holds-one 17 (omega arith) f m.0 in
      let f-told = one f told l-told.0 f1 (numbers f (o ∷ spell l (c ∷ r)) told l-told.0 (one-flat f f1) m.1 reads l-told.1) in
      let f-on = first f (Row-of l) (width l) (levels l) (Begins l) told (emit f told) b.0 l-told f-told in
      front f (λ tree. Then (Row-of f tree) (Row-of l tree)) (Row-of (Call f o l c)) H.Call (1 + (width l)) (max (levels f) (levels l)) (Begins (Call f o l c)) told (emit l (emit f told)) after (F.Call, refl) (holds-some 17 f (omega arith) m.0) (λ p0 at some. at ∙ sym (begins-own f (o ∷ spell l (c ∷ r)) (o ∷ spell l (c ∷ [])) m.1 (holds-some 17 f (omega arith) m.0))) (λ tree made row high low is node. plain (Then (Row-of f tree) (Row-of l tree)) tree (place_of f) F.Call made row high low is node) b f-on
  numbers (Postfix e o) r told after flat m reads b =
      let e1 = holds-one 16 (omega arith) e m.0 in
      let e-told = one e told b.0 e1 (numbers e (o ∷ r) told b.0 (one-flat e e1) m.2 reads b.1) in
      front e (Row-of e) (Row-of (Postfix e o)) (H.Postfix o.word) 1 (levels e) (Begins (Postfix e o)) told (emit e told) after (postfix-form o.word m.3) (holds-some 16 e (omega arith) m.0) (λ p0 at some. at ∙ sym (begins-own e (o ∷ r) (o ∷ []) m.2 (holds-some 16 e (omega arith) m.0))) (λ tree made row high low is node. (made, is, node)) b e-told
  numbers (Prefix o e) r told after flat m reads b =
      let e1 = holds-one 14 (omega arith) e m.1 in
      let e-told = one e told b.0 e1 (numbers e r told b.0 (one-flat e e1) m.3 reads.1 b.1) in
      own (Row-of e) (Row-of (Prefix o e)) o.start (H.Prefix o.word) 1 (levels e) (Begins e) (Begins (Prefix o e)) told (emit e told) after (prefix-form o.word m.0) (λ p at some. at) (λ tree made row high low is node. (made, is, node)) b e-told
  numbers (Infix a o b) r told after flat m reads built =
      let b1 = level-one b (tighter (binds o.word) (level b) m.0 (looser (binds o.word) (level b) m.2)) in
      let b-told = one b (emit a told) built.0 b1 (numbers b r (emit a told) built.0 (one-flat b b1) m.4 ((behind (Reads script tokens) a (o ∷ spell b r) reads).1) built.1) in
      let a1 = level-one a (tighter (binds o.word) (level a) m.0 m.1) in
      let a-told = one a told b-told.0 a1 (numbers a (o ∷ spell b r) told b-told.0 (one-flat a a1) m.3 reads b-told.1) in
      let a-on = first a (Row-of b) 1 (levels b) (Begins b) told (emit a told) built.0 b-told a-told in
      front a (λ tree. Then (Row-of a tree) (Row-of b tree)) (Row-of (Infix a o b)) (H.Infix o.word) (1 + 1) (max (levels a) (levels b)) (Begins (Infix a o b)) told (emit b (emit a told)) after (infix-form o.word m.0) (tighter (binds o.word) (level a) m.0 m.1) (λ p0 at some. at ∙ sym (begins-own a (o ∷ spell b r) (o ∷ spell b []) m.3 (tighter (binds o.word) (level a) m.0 m.1))) (λ tree made row high low is node. (made, is, node)) built a-on
  numbers (Conditional a q b c d) r told after flat m reads built =
      let d1 = holds-one 2 (omega arith) d m.6 in
      let d-told = one d (emit b (emit a told)) built.0 d1 (numbers d r (emit b (emit a told)) built.0 (one-flat d d1) m.7 ((behind (Reads script tokens) b (c ∷ spell d r) ((behind (Reads script tokens) a (q ∷ spell b (c ∷ spell d r)) reads).1)).1) built.1) in
      let b1 = holds-one 2 (omega arith) b m.3 in
      let b-told = one b (emit a told) d-told.0 b1 (numbers b (c ∷ spell d r) (emit a told) d-told.0 (one-flat b b1) m.4 ((behind (Reads script tokens) a (q ∷ spell b (c ∷ spell d r)) reads).1) d-told.1) in
      let b-on = first b (Row-of d) 1 (levels d) (Begins d) (emit a told) (emit b (emit a told)) built.0 d-told b-told in
      let a1 = holds-one 4 (omega arith) a m.0 in
      let a-told = one a told b-on.0 a1 (numbers a (q ∷ spell b (c ∷ spell d r)) told b-on.0 (one-flat a a1) m.1 reads b-on.1) in
      let a-on = first a (λ tree. Then (Row-of b tree) (Row-of d tree)) (1 + 1) (max (levels b) (levels d)) (Begins b) told (emit a told) built.0 b-on a-told in
      front a (λ tree. Then (Row-of a tree) (Then (Row-of b tree) (Row-of d tree))) (Row-of (Conditional a q b c d)) H.Conditional (1 + (1 + 1)) (max (levels a) (max (levels b) (levels d))) (Begins (Conditional a q b c d)) told (emit d (emit b (emit a told))) after (F.Conditional, refl) (holds-some 4 a (omega arith) m.0) (λ p0 at some. at ∙ sym (begins-own a (q ∷ spell b (c ∷ spell d r)) (q ∷ spell b (c ∷ spell d [])) m.1 (holds-some 4 a (omega arith) m.0))) (λ tree made row high low is node. plain (Then (Row-of a tree) (Then (Row-of b tree) (Row-of d tree))) tree (place_of a) F.Conditional made row high low is node) built a-on
  numbers (Assignment a o b) r told after flat m reads built =
      let b1 = holds-one 2 (omega arith) b m.3 in
      let b-told = one b (emit a told) built.0 b1 (numbers b r (emit a told) built.0 (one-flat b b1) m.4 ((behind (Reads script tokens) a (o ∷ spell b r) reads).1) built.1) in
      let a1 = target-one a m.0 in
      let a-told = one a told b-told.0 a1 (numbers a (o ∷ spell b r) told b-told.0 (one-flat a a1) m.1 reads b-told.1) in
      let a-on = first a (Row-of b) 1 (levels b) (Begins b) told (emit a told) built.0 b-told a-told in
      front a (λ tree. Then (Row-of a tree) (Row-of b tree)) (Row-of (Assignment a o b)) (H.Assignment o.word) (1 + 1) (max (levels a) (levels b)) (Begins (Assignment a o b)) told (emit b (emit a told)) after (assignment-form o.word m.2) (target-some a (o ∷ spell b r) m.1 m.0) (λ p0 at some. at ∙ sym (begins-own a (o ∷ spell b r) (o ∷ spell b []) m.1 (target-some a (o ∷ spell b r) m.1 m.0))) (λ tree made row high low is node. (made, is, node)) built a-on
  numbers (Block o l c) r told after flat m reads b =
      let l-told = numbers l (c ∷ r) told b.0 (list-flat is_statement statement-one l m.1) m.2 reads.1 b.1 in
      own (Row-of l) (Row-of (Block o l c)) o.start H.Block (width l) (levels l) (Begins l) (Begins (Block o l c)) told (emit l told) after (F.Block, refl) (λ p at some. absurd (omega arith)) (λ tree made row high low is node. plain (Row-of l tree) tree o.start F.Block made row high low is node) b l-told
  numbers (Var v l z) r told after flat m reads b =
      let l-told = numbers l (spell_ending z r) told b.0 (comma_list-flat is_declarator declarator-one l m.1) m.2 reads.1 b.1 in
      own (Row-of l) (Row-of (Var v l z)) v.start H.Var (width l) (levels l) (Begins l) (Begins (Var v l z)) told (emit l told) after (F.Var, refl) (λ p at some. absurd (omega arith)) (λ tree made row high low is node. plain (Row-of l tree) tree v.start F.Var made row high low is node) b l-told
  numbers (Declarator n) r told after flat m reads b =
      own (λ tree. IsLeaf) (Row-of (Declarator n)) n.start (H.Declarator n) 0 0 Anywhere (Begins (Declarator n)) told told after ((F.Declarator (piece_of n)), refl) (λ p at some. absurd (omega arith)) (λ tree made row high low is node. plain IsLeaf tree n.start (F.Declarator (piece_of n)) made row high low is node) b (told-none script tokens total told b.0 b.1)
  numbers (Initialised n q e) r told after flat m reads b =
      let e1 = holds-one 2 (omega arith) e m.2 in
      let e-told = one e told b.0 e1 (numbers e r told b.0 (one-flat e e1) m.3 reads.1.1 b.1) in
      own (Row-of e) (Row-of (Initialised n q e)) n.start (H.Declarator n) 1 (levels e) (Begins e) (Begins (Initialised n q e)) told (emit e told) after ((F.Declarator (piece_of n)), refl) (λ p at some. absurd (omega arith)) (λ tree made row high low is node. plain (Row-of e tree) tree n.start (F.Declarator (piece_of n)) made row high low is node) b e-told
  numbers (Empty t) r told after flat m reads b =
      own (λ tree. IsLeaf) (Row-of (Empty t)) t.start H.Empty 0 0 Anywhere (Begins (Empty t)) told told after (F.Empty, refl) (λ p at some. absurd (omega arith)) (λ tree made row high low is node. plain IsLeaf tree t.start F.Empty made row high low is node) b (told-none script tokens total told b.0 b.1)
  numbers (Expression e z) r told after flat m reads b =
      let e1 = holds-one 1 (omega arith) e m.0 in
      let e-told = one e told b.0 e1 (numbers e (spell_ending z r) told b.0 (one-flat e e1) m.2 reads b.1) in
      front e (Row-of e) (Row-of (Expression e z)) H.Expression 1 (levels e) (Begins (Expression e z)) told (emit e told) after (F.Expression, refl) (holds-some 1 e (omega arith) m.0) (λ p at some. absurd (omega arith)) (λ tree made row high low is node. plain (Row-of e tree) tree (place_of e) F.Expression made row high low is node) b e-told
  numbers (If i o e c s) r told after flat m reads b =
      let s1 = statement-one s m.5 in
      let s-told = one s (emit e told) b.0 s1 (numbers s r (emit e told) b.0 (one-flat s s1) m.6 ((behind (Reads script tokens) e (c ∷ spell s r) reads.1.1).1) b.1) in
      let e1 = holds-one 1 (omega arith) e m.2 in
      let e-told = one e told s-told.0 e1 (numbers e (c ∷ spell s r) told s-told.0 (one-flat e e1) m.3 reads.1.1 s-told.1) in
      let e-on = first e (Row-of s) 1 (levels s) (Begins s) told (emit e told) b.0 s-told e-told in
      own (λ tree. Then (Row-of e tree) (Row-of s tree)) (Row-of (If i o e c s)) i.start H.If (1 + 1) (max (levels e) (levels s)) (Begins e) (Begins (If i o e c s)) told (emit s (emit e told)) after (F.If, refl) (λ p at some. absurd (omega arith)) (λ tree made row high low is node. plain (Then (Row-of e tree) (Row-of s tree)) tree i.start F.If made row high low is node) b e-on
  numbers (IfElse i o e c s l u) r told after flat m reads b =
      let u1 = statement-one u m.8 in
      let u-told = one u (emit s (emit e told)) b.0 u1 (numbers u r (emit s (emit e told)) b.0 (one-flat u u1) m.9 ((behind (Reads script tokens) s (l ∷ spell u r) ((behind (Reads script tokens) e (c ∷ spell s (l ∷ spell u r)) reads.1.1).1)).1) b.1) in
      let s1 = statement-one s m.5 in
      let s-told = one s (emit e told) u-told.0 s1 (numbers s (l ∷ spell u r) (emit e told) u-told.0 (one-flat s s1) m.6 ((behind (Reads script tokens) e (c ∷ spell s (l ∷ spell u r)) reads.1.1).1) u-told.1) in
      let s-on = first s (Row-of u) 1 (levels u) (Begins u) (emit e told) (emit s (emit e told)) b.0 u-told s-told in
      let e1 = holds-one 1 (omega arith) e m.2 in
      let e-told = one e told s-on.0 e1 (numbers e (c ∷ spell s (l ∷ spell u r)) told s-on.0 (one-flat e e1) m.3 reads.1.1 s-on.1) in
      let e-on = first e (λ tree. Then (Row-of s tree) (Row-of u tree)) (1 + 1) (max (levels s) (levels u)) (Begins s) told (emit e told) b.0 s-on e-told in
      own (λ tree. Then (Row-of e tree) (Then (Row-of s tree) (Row-of u tree))) (Row-of (IfElse i o e c s l u)) i.start H.If (1 + (1 + 1)) (max (levels e) (max (levels s) (levels u))) (Begins e) (Begins (IfElse i o e c s l u)) told (emit u (emit s (emit e told))) after (F.If, refl) (λ p at some. absurd (omega arith)) (λ tree made row high low is node. plain (Then (Row-of e tree) (Then (Row-of s tree) (Row-of u tree))) tree i.start F.If made row high low is node) b e-on
  numbers (DoWhile d s w o e c z) r told after flat m reads b =
      let e1 = holds-one 1 (omega arith) e m.5 in
      let e-told = one e (emit s told) b.0 e1 (numbers e (c ∷ spell_ending z r) (emit s told) b.0 (one-flat e e1) m.6 (((behind (Reads script tokens) s (w ∷ o ∷ spell e (c ∷ spell_ending z r)) reads.1).1).1) b.1) in
      let s1 = statement-one s m.1 in
      let s-told = one s told e-told.0 s1 (numbers s (w ∷ o ∷ spell e (c ∷ spell_ending z r)) told e-told.0 (one-flat s s1) m.2 reads.1 e-told.1) in
      let s-on = first s (Row-of e) 1 (levels e) (Begins e) told (emit s told) b.0 e-told s-told in
      own (λ tree. Then (Row-of s tree) (Row-of e tree)) (Row-of (DoWhile d s w o e c z)) d.start H.DoWhile (1 + 1) (max (levels s) (levels e)) (Begins s) (Begins (DoWhile d s w o e c z)) told (emit e (emit s told)) after (F.DoWhile, refl) (λ p at some. absurd (omega arith)) (λ tree made row high low is node. plain (Then (Row-of s tree) (Row-of e tree)) tree d.start F.DoWhile made row high low is node) b s-on
  numbers (While w o e c s) r told after flat m reads b =
      let s1 = statement-one s m.5 in
      let s-told = one s (emit e told) b.0 s1 (numbers s r (emit e told) b.0 (one-flat s s1) m.6 ((behind (Reads script tokens) e (c ∷ spell s r) reads.1.1).1) b.1) in
      let e1 = holds-one 1 (omega arith) e m.2 in
      let e-told = one e told s-told.0 e1 (numbers e (c ∷ spell s r) told s-told.0 (one-flat e e1) m.3 reads.1.1 s-told.1) in
      let e-on = first e (Row-of s) 1 (levels s) (Begins s) told (emit e told) b.0 s-told e-told in
      own (λ tree. Then (Row-of e tree) (Row-of s tree)) (Row-of (While w o e c s)) w.start H.While (1 + 1) (max (levels e) (levels s)) (Begins e) (Begins (While w o e c s)) told (emit s (emit e told)) after (F.While, refl) (λ p at some. absurd (omega arith)) (λ tree made row high low is node. plain (Then (Row-of e tree) (Row-of s tree)) tree w.start F.While made row high low is node) b e-on
  numbers (For f o i p e q u c s) r told after flat m reads b =
      let s1 = statement-one s m.12 in
      let s-told = one s (emit u (emit e (emit i told))) b.0 s1 (numbers s r (emit u (emit e (emit i told))) b.0 (one-flat s s1) m.13 ((behind (Reads script tokens) u (c ∷ spell s r) ((behind (Reads script tokens) e (q ∷ spell u (c ∷ spell s r)) ((behind (Reads script tokens) i (p ∷ spell e (q ∷ spell u (c ∷ spell s r))) reads.1.1).1)).1)).1) b.1) in
      let u1 = may_be_expression-one u m.9 in
      let u-told = one u (emit e (emit i told)) s-told.0 u1 (numbers u (c ∷ spell s r) (emit e (emit i told)) s-told.0 (one-flat u u1) m.10 ((behind (Reads script tokens) e (q ∷ spell u (c ∷ spell s r)) ((behind (Reads script tokens) i (p ∷ spell e (q ∷ spell u (c ∷ spell s r))) reads.1.1).1)).1) s-told.1) in
      let u-on = first u (Row-of s) 1 (levels s) (Begins s) (emit e (emit i told)) (emit u (emit e (emit i told))) b.0 s-told u-told in
      let e1 = may_be_expression-one e m.6 in
      let e-told = one e (emit i told) u-on.0 e1 (numbers e (q ∷ spell u (c ∷ spell s r)) (emit i told) u-on.0 (one-flat e e1) m.7 ((behind (Reads script tokens) i (p ∷ spell e (q ∷ spell u (c ∷ spell s r))) reads.1.1).1) u-on.1) in
      let e-on = first e (λ tree. Then (Row-of u tree) (Row-of s tree)) (1 + 1) (max (levels u) (levels s)) (Begins u) (emit i told) (emit e (emit i told)) b.0 u-on e-told in
      let i1 = init-one i m.2 in
      let i-told = one i told e-on.0 i1 (numbers i (p ∷ spell e (q ∷ spell u (c ∷ spell s r))) told e-on.0 (one-flat i i1) m.4 reads.1.1 e-on.1) in
      let i-on = first i (λ tree. Then (Row-of e tree) (Then (Row-of u tree) (Row-of s tree))) (1 + (1 + 1)) (max (levels e) (max (levels u) (levels s))) (Begins e) told (emit i told) b.0 e-on i-told in
      deep (Row-of (For f o i p e q u c s)) 1 (1 + (max (levels i) (max (levels e) (max (levels u) (levels s))))) (levels (For f o i p e q u c s)) (Begins (For f o i p e q u c s)) told after (regroup (levels i) (levels e) (levels u) (levels s)) (own (λ tree. Then (Row-of i tree) (Then (Row-of e tree) (Then (Row-of u tree) (Row-of s tree)))) (Row-of (For f o i p e q u c s)) f.start H.For (1 + (1 + (1 + 1))) (max (levels i) (max (levels e) (max (levels u) (levels s)))) (Begins i) (Begins (For f o i p e q u c s)) told (emit s (emit u (emit e (emit i told)))) after (F.For, refl) (λ p at some. absurd (omega arith)) (λ tree made row high low is node. plain (Then (Row-of i tree) (Then (Row-of e tree) (Then (Row-of u tree) (Row-of s tree)))) tree f.start F.For made row high low is node) b i-on)
  numbers (Bindings v l) r told after flat m reads b =
      let l-told = numbers l r told b.0 (comma_list-flat is_declarator declarator-one l m.1) m.2 reads.1 b.1 in
      own (Row-of l) (Row-of (Bindings v l)) v.start H.Bindings (width l) (levels l) (Begins l) (Begins (Bindings v l)) told (emit l told) after (F.Bindings, refl) (λ p at some. absurd (omega arith)) (λ tree made row high low is node. plain (Row-of l tree) tree v.start F.Bindings made row high low is node) b l-told
  numbers (Continue t z) r told after flat m reads b =
      own (λ tree. IsLeaf) (Row-of (Continue t z)) t.start H.Continue 0 0 Anywhere (Begins (Continue t z)) told told after (F.Continue, refl) (λ p at some. absurd (omega arith)) (λ tree made row high low is node. plain IsLeaf tree t.start F.Continue made row high low is node) b (told-none script tokens total told b.0 b.1)
  numbers (Break t z) r told after flat m reads b =
      own (λ tree. IsLeaf) (Row-of (Break t z)) t.start H.Break 0 0 Anywhere (Begins (Break t z)) told told after (F.Break, refl) (λ p at some. absurd (omega arith)) (λ tree made row high low is node. plain IsLeaf tree t.start F.Break made row high low is node) b (told-none script tokens total told b.0 b.1)
  numbers (Return t e z) r told after flat m reads b =
      let e1 = may_be_expression-one e m.1 in
      let e-told = one e told b.0 e1 (numbers e (spell_ending z r) told b.0 (one-flat e e1) m.3 reads.1 b.1) in
      own (Row-of e) (Row-of (Return t e z)) t.start H.Return 1 (levels e) (Begins e) (Begins (Return t e z)) told (emit e told) after (F.Return, refl) (λ p at some. absurd (omega arith)) (λ tree made row high low is node. plain (Row-of e tree) tree t.start F.Return made row high low is node) b e-told
  numbers (Switch s o e c b l d) r told after flat m reads built =
      let l-told = numbers l (d ∷ r) (emit e told) built.0 (list-flat is_clause clause-one l m.6) m.8 (((behind (Reads script tokens) e (c ∷ b ∷ spell l (d ∷ r)) reads.1.1).1).1) built.1 in
      let e1 = holds-one 1 (omega arith) e m.2 in
      let e-told = one e told l-told.0 e1 (numbers e (c ∷ b ∷ spell l (d ∷ r)) told l-told.0 (one-flat e e1) m.3 reads.1.1 l-told.1) in
      let e-on = first e (Row-of l) (width l) (levels l) (Begins l) told (emit e told) built.0 l-told e-told in
      own (λ tree. Then (Row-of e tree) (Row-of l tree)) (Row-of (Switch s o e c b l d)) s.start H.Switch (1 + (width l)) (max (levels e) (levels l)) (Begins e) (Begins (Switch s o e c b l d)) told (emit l (emit e told)) after (F.Switch, refl) (λ p at some. absurd (omega arith)) (λ tree made row high low is node. plain (Then (Row-of e tree) (Row-of l tree)) tree s.start F.Switch made row high low is node) built e-on
  numbers (Case w e c l) r told after flat m reads b =
      let l-told = numbers l r (emit e told) b.0 (list-flat is_statement statement-one l m.4) m.5 ((behind (Reads script tokens) e (c ∷ spell l r) reads.1).1) b.1 in
      let e1 = holds-one 1 (omega arith) e m.1 in
      let e-told = one e told l-told.0 e1 (numbers e (c ∷ spell l r) told l-told.0 (one-flat e e1) m.2 reads.1 l-told.1) in
      let e-on = first e (Row-of l) (width l) (levels l) (Begins l) told (emit e told) b.0 l-told e-told in
      own (λ tree. Then (Row-of e tree) (Row-of l tree)) (Row-of (Case w e c l)) w.start H.Case (1 + (width l)) (max (levels e) (levels l)) (Begins e) (Begins (Case w e c l)) told (emit l (emit e told)) after (F.Case, refl) (λ p at some. absurd (omega arith)) (λ tree made row high low is node. plain (Then (Row-of e tree) (Row-of l tree)) tree w.start F.Case made row high low is node) b e-on
  numbers (Default w c l) r told after flat m reads b =
      let l-told = numbers l r told b.0 (list-flat is_statement statement-one l m.2) m.3 reads.1.1 b.1 in
      own (Row-of l) (Row-of (Default w c l)) w.start H.Default (width l) (levels l) (Begins l) (Begins (Default w c l)) told (emit l told) after (F.Default, refl) (λ p at some. absurd (omega arith)) (λ tree made row high low is node. plain (Row-of l tree) tree w.start F.Default made row high low is node) b l-told
  numbers (Throw t e z) r told after flat m reads b =
      let e1 = holds-one 1 (omega arith) e m.1 in
      let e-told = one e told b.0 e1 (numbers e (spell_ending z r) told b.0 (one-flat e e1) m.3 reads.1 b.1) in
      own (Row-of e) (Row-of (Throw t e z)) t.start H.Throw 1 (levels e) (Begins e) (Begins (Throw t e z)) told (emit e told) after (F.Throw, refl) (λ p at some. absurd (omega arith)) (λ tree made row high low is node. plain (Row-of e tree) tree t.start F.Throw made row high low is node) b e-told
  numbers (Try t b h f) r told after flat m reads built =
      let f1 = finally-one f m.5 in
      let f-told = one f (emit h (emit b told)) built.0 f1 (numbers f r (emit h (emit b told)) built.0 (one-flat f f1) m.6 (behind (Reads script tokens) h (spell f r) (behind (Reads script tokens) b (spell h (spell f r)) reads.1)) built.1) in
      let h1 = catch-one h m.3 in
      let h-told = one h (emit b told) f-told.0 h1 (numbers h (spell f r) (emit b told) f-told.0 (one-flat h h1) m.4 (behind (Reads script tokens) b (spell h (spell f r)) reads.1) f-told.1) in
      let h-on = first h (Row-of f) 1 (levels f) (Begins f) (emit b told) (emit h (emit b told)) built.0 f-told h-told in
      let b1 = block-one b m.1 in
      let b-told = one b told h-on.0 b1 (numbers b (spell h (spell f r)) told h-on.0 (one-flat b b1) m.2 reads.1 h-on.1) in
      let b-on = first b (λ tree. Then (Row-of h tree) (Row-of f tree)) (1 + 1) (max (levels h) (levels f)) (Begins h) told (emit b told) built.0 h-on b-told in
      own (λ tree. Then (Row-of b tree) (Then (Row-of h tree) (Row-of f tree))) (Row-of (Try t b h f)) t.start H.Try (1 + (1 + 1)) (max (levels b) (max (levels h) (levels f))) (Begins b) (Begins (Try t b h f)) told (emit f (emit h (emit b told))) after (F.Try, refl) (λ p at some. absurd (omega arith)) (λ tree made row high low is node. plain (Then (Row-of b tree) (Then (Row-of h tree) (Row-of f tree))) tree t.start F.Try made row high low is node) built b-on
  numbers (Catch w o n c b) r told after flat m reads built =
      let b1 = block-one b m.4 in
      let b-told = one b told built.0 b1 (numbers b r told built.0 (one-flat b b1) m.5 reads.1.1.1.1 built.1) in
      own (Row-of b) (Row-of (Catch w o n c b)) w.start (H.Catch n) 1 (levels b) (Begins b) (Begins (Catch w o n c b)) told (emit b told) after ((F.Catch (piece_of n)), refl) (λ p at some. absurd (omega arith)) (λ tree made row high low is node. plain (Row-of b tree) tree w.start (F.Catch (piece_of n)) made row high low is node) built b-told
  numbers (Function f n o l c b s d) r told after flat m reads built =
      let s-told = numbers s (d ∷ r) (emit l told) built.0 (list-flat is_element element-one s m.8) m.9 (((behind (Reads script tokens) l (c ∷ b ∷ spell s (d ∷ r)) ((behind (Reads script tokens) n (o ∷ spell l (c ∷ b ∷ spell s (d ∷ r))) reads.1).1)).1).1) built.1 in
      let l-told = numbers l (c ∷ b ∷ spell s (d ∷ r)) told s-told.0 (commas-flat is_parameter parameter-one l m.4) m.5 ((behind (Reads script tokens) n (o ∷ spell l (c ∷ b ∷ spell s (d ∷ r))) reads.1).1) s-told.1 in
      let l-on = told-both script tokens total (Row-of l) (Row-of s) (width l) (width s) (levels l) (levels s) (Begins l) (Begins s) Anywhere told (emit l told) built.0 (λ ps qs long at. tt) s-told l-told in
      let counts = parameters-count l m.4 in
      deep (Row-of (Function f n o l c b s d)) 1 (1 + (max (levels l) (levels s))) (levels (Function f n o l c b s d)) (Begins (Function f n o l c b s d)) told after (none-of (levels l) (levels s) counts.1) (own (λ tree. Then (Row-of l tree) (Row-of s tree)) (Row-of (Function f n o l c b s d)) f.start (H.Function (label n) (width l)) (width l + (width s)) (max (levels l) (levels s)) Anywhere (Begins (Function f n o l c b s d)) told (emit s (emit l told)) after (F.Function (head_of (label_of n) l), function-form n l counts.0) (λ p at some. at) (λ tree made row high low is node. plain (Then (Row-of l tree) (Row-of s tree)) tree f.start (F.Function (head_of (label_of n) l)) made row high low (sym (function-form n l counts.0) ∙ is) node) built l-on)
  numbers (Declaration f n o l c b s d) r told after flat m reads built =
      let s-told = numbers s (d ∷ r) (emit l told) built.0 (list-flat is_element element-one s m.7) m.8 (((behind (Reads script tokens) l (c ∷ b ∷ spell s (d ∷ r)) reads.1.1.1).1).1) built.1 in
      let l-told = numbers l (c ∷ b ∷ spell s (d ∷ r)) told s-told.0 (commas-flat is_parameter parameter-one l m.3) m.4 reads.1.1.1 s-told.1 in
      let l-on = told-both script tokens total (Row-of l) (Row-of s) (width l) (width s) (levels l) (levels s) (Begins l) (Begins s) Anywhere told (emit l told) built.0 (λ ps qs long at. tt) s-told l-told in
      let counts = parameters-count l m.3 in
      let form-is : plain_form (H.Declaration n (width l)) ≡ Some (F.FunctionDeclaration (head_of (Some (piece_of n)) l)) = ap (λ k. Some (F.FunctionDeclaration (record { name = Some (piece_of n); parameters = k }))) (sym counts.0) in
      deep (Row-of (Declaration f n o l c b s d)) 1 (1 + (max (levels l) (levels s))) (levels (Declaration f n o l c b s d)) (Begins (Declaration f n o l c b s d)) told after (none-of (levels l) (levels s) counts.1) (own (λ tree. Then (Row-of l tree) (Row-of s tree)) (Row-of (Declaration f n o l c b s d)) f.start (H.Declaration n (width l)) (width l + (width s)) (max (levels l) (levels s)) Anywhere (Begins (Declaration f n o l c b s d)) told (emit s (emit l told)) after ((F.FunctionDeclaration (head_of (Some (piece_of n)) l)), form-is) (λ p at some. absurd (omega arith)) (λ tree made row high low is node. plain (Then (Row-of l tree) (Row-of s tree)) tree f.start (F.FunctionDeclaration (head_of (Some (piece_of n)) l)) made row high low (sym form-is ∙ is) node) built l-on)
  numbers (Parameter n) r told after flat m reads b =
      own (λ tree. IsLeaf) (Row-of (Parameter n)) n.start (H.Parameter n) 0 0 Anywhere (Begins (Parameter n)) told told after ((F.Parameter (piece_of n)), refl) (λ p at some. absurd (omega arith)) (λ tree made row high low is node. plain IsLeaf tree n.start (F.Parameter (piece_of n)) made row high low is node) b (told-none script tokens total told b.0 b.1)
