-- A tree that shows a phrase has the nodes that are told of it, by number.
use Rattle.std.proofs.Common.{◌≡◌, ℕ, ◌+◌, ◌<◌, true, List, [], ◌∷◌, ◌++◌, length, Option, Some, None, refl, sym, ap, ◌∙◌, subst, arith, append_assoc, append-nil, length-append}
use Rattle.std.proofs.lemmas.Bool.{and_parts}
use Rattle.rip_tree.specs.declared.form.Form.{Form}
use Rattle.rip_tree.specs.declared.form.Form.TheVariants as F
use Rattle.rip_tree.specs.Branches.{Plant, branch_of}
use Rattle.rip_grammar.specs.declared.word.Lexeme.{Lexeme}
use Rattle.rip_grammar.specs.declared.event.Head.{Head}
use Rattle.rip_grammar.specs.declared.event.Head.TheVariants as H
use Rattle.rip_grammar.specs.declared.event.Event.{Event}
use Rattle.rip_grammar.specs.declared.event.Event.TheVariants as E
use Rattle.rip_grammar.specs.Phrases.{Phrase, Absent, Nothing, More, CommaMore, Trailing, Single, Array, Object, Entry, Parenthesized, Member, Index, New, NewCall, Call, Postfix, Prefix, Infix, Conditional, Assignment, Block, Var, Declarator, Initialised, Empty, Expression, If, IfElse, DoWhile, While, For, Bindings, Continue, Break, Return, Switch, Case, Default, Throw, Try, Catch, Finally, Function, Declaration, Parameter, spell, spell_ending}
use Rattle.rip_grammar.specs.Levels.{level, binds}
use Rattle.rip_grammar.specs.Events.{width, label, emit}
use Rattle.rip_grammar.specs.Grammar.{is_assigned, is_statement, is_element, is_entry, is_parameter, is_declarator, is_clause, IsMade}
use Rattle.rip_parser.specs.declared.part.Part.{Part}
use Rattle.rip_parser.specs.Shows.{Row, Shown, piece_of, place_of, head_of, label_of, item_count, IsNode, IsLeaf, IsAbsent, Then, Shows}
use Rattle.rip_parser.specs.Building.{IsFormOf, numbers, place_over, absent, plain_form}
use Rattle.rip_parser.proofs.Made.{Anywhere, only}
use Rattle.rip_parser.proofs.Parts.{numbers-append}
use Rattle.rip_parser.proofs.Numbers.{Begins, keeps-first, function-form, tighter, looser}
use Rattle.rip_parser.proofs.Shapes.{is_one, is_flat, one-flat, one-width, level-one, holds-one, holds-some, target-one, target-some, statement-one, element-one, block-one, entry-one, parameter-one, declarator-one, clause-one, may_be_expression-one, init-one, catch-one, finally-one, constructed-one, list-flat, comma_list-flat, commas-flat, elements-flat, parameters-count, begins-own}

-- a part that begins at this place
abbrev pub placed : ℕ → Part → Part
placed place part = record part { place = place }

-- the part that is the node with this number
abbrev pub node_part : ℕ → ℕ → Part
node_part id place = record { number = Some id; place = place; levels = 0 }

-- the nodes of the tree from this number on are those that are told, the latest the first of them, and no node has taken
-- these parts yet
abbrev pub IsOf : List ℕ → Plant → List Event → List Part → ℕ → Type 0
IsOf script tree [] parts low = (parts ≡ []) × (low ≡ length tree.branches)
IsOf script tree (E.Absent ∷ told) parts low = (before : List Part) × IsOf script tree told before low × (parts ≡ before ++ absent ∷ [])
IsOf script tree (E.Parenthesized place ∷ told) parts low = (before : List Part) × (part : Part) × IsOf script tree told (before ++ part ∷ []) low × (parts ≡ before ++ placed place part ∷ [])
IsOf script tree (E.Node place head count ∷ told) parts low = (before : List Part) × (below : List Part) × (form : Form) × IsOf script tree told (before ++ below) (low + 1)
    × (length below ≡ count) × IsFormOf script tree.units head form
    × (branch_of tree.branches low ≡ Some record { node = record { place = place_over place below; form = form }; children = numbers below })
    × (parts ≡ before ++ node_part low (place_over place below) ∷ [])

module _ (script : List ℕ) (tree : Plant) where
  -- where such a row is shown behind what is told, it is so of what is then told: so many parts, which begin so
  abbrev pub Fits-on : Shown → ℕ → (ℕ → Type 0) → (List Event → List Event) → Type 0
  Fits-on P count At tell = (told : List Event) (before : List Part) (row : Row) (high low : ℕ) → IsOf script tree told before high → P row high low
      → (parts : List Part) × (numbers parts ≡ row) × (length parts ≡ count) × At (place_over None parts) × IsOf script tree (tell told) (before ++ parts) low

  fits-none : Fits-on IsLeaf 0 Anywhere (λ told. told)
  fits-none told before row high low so p =
      ([], sym p.0, refl, tt, subst (λ ps. IsOf script tree told ps low) (sym (append-nil before)) (subst (λ k. IsOf script tree told before k) p.1 so))

  fits-absent : Fits-on IsAbsent 1 Anywhere (λ told. E.Absent ∷ told)
  fits-absent told before row high low so p = (absent ∷ [], sym p.0, refl, tt, (before, subst (λ k. IsOf script tree told before k) p.1 so, refl))

  fits-both : (P Q : Shown) (m n : ℕ) (At Bt Ct : ℕ → Type 0) (f g : List Event → List Event) → ((ps qs : List Part) → length ps ≡ m → At (place_over None ps) → Ct (place_over None (ps ++ qs)))
      → Fits-on P m At f → Fits-on Q n Bt g → Fits-on (Then P Q) (m + n) Ct (λ told. g (f told))
  fits-both P Q m n At Bt Ct f g at p q told before row high low so (front, back, middle, is, one, other) =
      let a = p told before front high middle so one in
      let b = q (f told) (before ++ a.0) back middle low a.4 other in (
        a.0 ++ b.0,
        numbers-append a.0 b.0 ∙ ap (λ r. r ++ numbers b.0) a.1 ∙ ap (λ r. front ++ r) b.1 ∙ sym is,
        length-append a.0 b.0 ∙ ap (λ k. k + length b.0) a.2 ∙ ap (λ k. m + k) b.2,
        at a.0 b.0 a.2 a.3,
        subst (λ ps. IsOf script tree (g (f told)) ps low) (append_assoc before a.0 b.0) b.4,
      )

  -- a node with a form of this head
  abbrev Headed : ℕ → Head → Shown → Shown
  Headed place head P row high low = (form : Form) × IsFormOf script tree.units head form × IsNode tree place form P row high low

  fits-node : (P : Shown) (place : Option ℕ) (here : ℕ) (head : Head) (n : ℕ) (At Ct : ℕ → Type 0) (f : List Event → List Event) → ((parts : List Part) → At (place_over None parts) → place_over place parts ≡ here)
      → ((p : ℕ) → p ≡ here → Ct p) → Fits-on P n At f → Fits-on (Headed here head P) 1 Ct (λ told. E.Node place head n ∷ f told)
  fits-node P place here head n At Ct f at begins p told before row high low so (form, is, (children, row-is, found, below)) =
      let a = p told before children high (low + 1) so below in
      let place-is : place_over place a.0 ≡ here = at a.0 a.3 in
      let found-so = found ∙ ap (λ k. Some record { node = record { place = k; form = form }; children = children }) (sym place-is)
      ∙ ap (λ cs. Some record { node = record { place = place_over place a.0; form = form }; children = cs }) (sym a.1) in (
        node_part low (place_over place a.0) ∷ [],
        sym row-is,
        refl,
        begins (place_over place a.0) place-is,
        (before, a.0, form, a.4, a.2, is, found-so, refl),
      )

  fits-wrapped : (P : Shown) (place : ℕ) (At Ct : ℕ → Type 0) (f : List Event → List Event) → ((p : ℕ) → p ≡ place → Ct p) → Fits-on P 1 At f → Fits-on P 1 Ct (λ told. E.Parenthesized place ∷ f told)
  fits-wrapped P place At Ct f begins p told before row high low so shown =
      let a = p told before row high low so shown in
      let one = only a.0 a.2 in (
        placed place one.0 ∷ [],
        sym (ap numbers one.1) ∙ a.1,
        refl,
        begins place refl,
        (before, one.0, subst (λ ps. IsOf script tree (f told) (before ++ ps) low) one.1 a.4, refl),
      )

  fits-at : (P : Shown) (n : ℕ) (At Bt : ℕ → Type 0) (f : List Event → List Event) → ((p : ℕ) → At p → Bt p) → Fits-on P n At f → Fits-on P n Bt f
  fits-at P n At Bt f at p told before row high low so shown = let a = p told before row high low so shown in (a.0, a.1, a.2, at (place_over None a.0) a.3, a.4)

  fits-into : (P Q : Shown) (n : ℕ) (At : ℕ → Type 0) (f : List Event → List Event) → ((row : Row) (high low : ℕ) → Q row high low → P row high low) → Fits-on P n At f → Fits-on Q n At f
  fits-into P Q n At f into p told before row high low so shown = p told before row high low so (into row high low shown)

  -- what a phrase shows
  abbrev S : Phrase → Shown
  S d = Shows script tree d

  -- what is told of it fits
  abbrev Fit : Phrase → ℕ → Type 0
  Fit d n = Fits-on (S d) n (Begins d) (emit d)

  one : (d : Phrase) → is_one d ≡ true → Fit d (width d) → Fit d 1
  one d is fit = subst (λ n. Fit d n) (one-width d is) fit

  first : (d : Phrase) (Q : Shown) (n : ℕ) (Bt : ℕ → Type 0) (g : List Event → List Event) → Fit d 1 → Fits-on Q n Bt g → Fits-on (Then (S d) Q) (1 + n) (Begins d) (λ told. g (emit d told))
  first d Q n Bt g p q = fits-both (S d) Q 1 n (Begins d) Bt (Begins d) (emit d) g (keeps-first (Begins d)) p q

  -- a node at a lexeme of its own, with this form
  own : (P : Shown) (place : ℕ) (form : Form) (head : Head) (n : ℕ) (At Ct : ℕ → Type 0) (f : List Event → List Event) → IsFormOf script tree.units head form → ((p : ℕ) → p ≡ place → Ct p)
      → Fits-on P n At f → Fits-on (IsNode tree place form P) 1 Ct (λ told. E.Node (Some place) head n ∷ f told)
  own P place form head n At Ct f is begins p =
      fits-into (Headed place head P) (IsNode tree place form P) 1 Ct (λ told. E.Node (Some place) head n ∷ f told) (λ row high low node. (form, is, node))
      (fits-node P (Some place) place head n At Ct f (λ parts at. refl) begins p)

  -- a node that begins with its first part
  front-of : (a : Phrase) (P : Shown) (head : Head) (n : ℕ) (Ct : ℕ → Type 0) (f : List Event → List Event) → 0 < level a → ((p : ℕ) → p ≡ place_of a → Ct p)
      → Fits-on P n (Begins a) f → Fits-on (Headed (place_of a) head P) 1 Ct (λ told. E.Node None head n ∷ f told)
  front-of a P head n Ct f some begins p = fits-node P None (place_of a) head n (Begins a) Ct f (λ parts at. at some) begins p

  front : (a : Phrase) (P : Shown) (form : Form) (head : Head) (n : ℕ) (Ct : ℕ → Type 0) (f : List Event → List Event) → IsFormOf script tree.units head form → 0 < level a → ((p : ℕ) → p ≡ place_of a → Ct p)
      → Fits-on P n (Begins a) f → Fits-on (IsNode tree (place_of a) form P) 1 Ct (λ told. E.Node None head n ∷ f told)
  front a P form head n Ct f is some begins p =
      fits-into (Headed (place_of a) head P) (IsNode tree (place_of a) form P) 1 Ct (λ told. E.Node None head n ∷ f told) (λ row high low node. (form, is, node))
      (front-of a P head n Ct f some begins p)

  -- what is told of a phrase is so of a tree that shows it, behind what was told before
  pub fits : (d : Phrase) (r : List Lexeme) → is_flat d ≡ true → IsMade d r → Fit d (width d)
  fits Absent r flat m = fits-at IsAbsent 1 Anywhere (Begins Absent) (emit Absent) (λ p at some. absurd (omega arith)) fits-absent
  fits Nothing r flat m = fits-at IsLeaf 0 Anywhere (Begins Nothing) (emit Nothing) (λ p at some. absurd (omega arith)) fits-none
  fits (More l d) r flat m =
      let parts = and_parts (is_flat l) (is_one d) flat in
      fits-both (S l) (S d) (width l) 1 (Begins l) (Begins d) (Begins (More l d)) (emit l) (emit d) (λ ps qs long at some. absurd (omega arith))
      (fits l (spell d r) parts.0 m.0) (one d parts.1 (fits d r (one-flat d parts.1) m.1))
  fits (CommaMore l c d) r flat m =
      let parts = and_parts (is_flat l) (is_one d) flat in
      fits-both (S l) (S d) (width l) 1 (Begins l) (Begins d) (Begins (CommaMore l c d)) (emit l) (emit d) (λ ps qs long at some. absurd (omega arith))
      (fits l (c ∷ spell d r) parts.0 m.0) (one d parts.1 (fits d r (one-flat d parts.1) m.2))
  fits (Trailing l c) r flat m =
      fits-at (S l) (width l) (Begins l) (Begins (Trailing l c)) (emit l) (λ p at some. absurd (omega arith)) (fits l (c ∷ r) flat m.0)
  fits (Single t) r flat m = fits-node IsLeaf (Some t.start) t.start (H.Single t) 0 Anywhere (Begins (Single t)) (λ told. told) (λ parts at. refl) (λ p at some. at) fits-none
  fits (Parenthesized o e c) r flat m =
      let e1 = holds-one 1 (omega arith) e m.1 in
      fits-wrapped (S e) o.start (Begins e) (Begins (Parenthesized o e c)) (emit e) (λ p at some. at) (one e e1 (fits e (c ∷ r) (one-flat e e1) m.2))
  fits (Finally w d) r flat m =
      let d1 = block-one d m.1 in
      fits-at (S d) 1 (Begins d) (Begins (Finally w d)) (emit d) (λ p at some. absurd (omega arith)) (one d d1 (fits d r (one-flat d d1) m.2))
  fits (Array o l c) r flat m =
      own (S l) o.start F.Array H.Array (width l) (Begins l) (Begins (Array o l c)) (emit l) refl (λ p at some. at) (fits l (c ∷ r) (elements-flat is_assigned (holds-one 2 (omega arith)) l m.1) m.2)
  fits (Object o l c) r flat m =
      own (S l) o.start F.Object H.Object (width l) (Begins l) (Begins (Object o l c)) (emit l) refl (λ p at some. at) (fits l (c ∷ r) (elements-flat is_entry entry-one l m.1) m.2)
  fits (Entry k c e) r flat m =
      let e1 = holds-one 2 (omega arith) e m.2 in
      fits-into (Headed k.start (H.Entry k) (S e)) (S (Entry k c e)) 1 (Begins (Entry k c e)) (emit (Entry k c e)) (λ row high low shown. (F.Entry shown.0, (shown.0, shown.1, refl), shown.2))
      (fits-node (S e) (Some k.start) k.start (H.Entry k) 1 (Begins e) (Begins (Entry k c e)) (emit e) (λ parts at. refl) (λ p at some. absurd (omega arith)) (one e e1 (fits e r (one-flat e e1) m.3)))
  fits (Member b p n) r flat m =
      let b1 = holds-one 17 (omega arith) b m.0 in
      let some = holds-some 17 b (omega arith) m.0 in
      front b (S b) (F.Member (piece_of n)) (H.Member n) 1 (Begins (Member b p n)) (emit b) refl some (λ k at own. at ∙ sym (begins-own b (p ∷ n ∷ r) (p ∷ n ∷ []) m.1 some))
      (one b b1 (fits b (p ∷ n ∷ r) (one-flat b b1) m.1))
  fits (Index b o e c) r flat m =
      let b1 = holds-one 17 (omega arith) b m.0 in
      let e1 = holds-one 1 (omega arith) e m.3 in
      let some = holds-some 17 b (omega arith) m.0 in
      front b (Then (S b) (S e)) F.Index H.Index 2 (Begins (Index b o e c)) (λ told. emit e (emit b told)) refl some (λ k at own. at ∙ sym (begins-own b (o ∷ spell e (c ∷ r)) (o ∷ spell e (c ∷ [])) m.1 some))
      (first b (S e) 1 (Begins e) (emit e) (one b b1 (fits b (o ∷ spell e (c ∷ r)) (one-flat b b1) m.1)) (one e e1 (fits e (c ∷ r) (one-flat e e1) m.4)))
  fits (New w f) r flat m =
      let f1 = constructed-one f m.1 in
      own (S f) w.start F.New H.New 1 (Begins f) (Begins (New w f)) (emit f) refl (λ p at some. at) (one f f1 (fits f r (one-flat f f1) m.2))
  fits (NewCall w f o l c) r flat m =
      let f1 = holds-one 18 (omega arith) f m.1 in
      own (Then (S f) (S l)) w.start F.New H.New (1 + width l) (Begins f) (Begins (NewCall w f o l c)) (λ told. emit l (emit f told)) refl (λ p at some. at)
      (first f (S l) (width l) (Begins l) (emit l) (one f f1 (fits f (o ∷ spell l (c ∷ r)) (one-flat f f1) m.2)) (fits l (c ∷ r) (commas-flat is_assigned (holds-one 2 (omega arith)) l m.4) m.5))
  fits (Call f o l c) r flat m =
      let f1 = holds-one 17 (omega arith) f m.0 in
      let some = holds-some 17 f (omega arith) m.0 in
      front f (Then (S f) (S l)) F.Call H.Call (1 + width l) (Begins (Call f o l c)) (λ told. emit l (emit f told)) refl some (λ k at own. at ∙ sym (begins-own f (o ∷ spell l (c ∷ r)) (o ∷ spell l (c ∷ [])) m.1 some))
      (first f (S l) (width l) (Begins l) (emit l) (one f f1 (fits f (o ∷ spell l (c ∷ r)) (one-flat f f1) m.1)) (fits l (c ∷ r) (commas-flat is_assigned (holds-one 2 (omega arith)) l m.3) m.4))
  fits (Postfix e o) r flat m =
      let e1 = holds-one 16 (omega arith) e m.0 in
      let some = holds-some 16 e (omega arith) m.0 in
      front-of e (S e) (H.Postfix o.word) 1 (Begins (Postfix e o)) (emit e) some (λ k at own. at ∙ sym (begins-own e (o ∷ r) (o ∷ []) m.2 some)) (one e e1 (fits e (o ∷ r) (one-flat e e1) m.2))
  fits (Prefix o e) r flat m =
      let e1 = holds-one 14 (omega arith) e m.1 in
      fits-node (S e) (Some o.start) o.start (H.Prefix o.word) 1 (Begins e) (Begins (Prefix o e)) (emit e) (λ parts at. refl) (λ p at some. at) (one e e1 (fits e r (one-flat e e1) m.3))
  fits (Infix a o b) r flat m =
      let some = tighter (binds o.word) (level a) m.0 m.1 in
      let a1 = level-one a some in
      let b1 = level-one b (tighter (binds o.word) (level b) m.0 (looser (binds o.word) (level b) m.2)) in
      front-of a (Then (S a) (S b)) (H.Infix o.word) 2 (Begins (Infix a o b)) (λ told. emit b (emit a told)) some (λ k at own. at ∙ sym (begins-own a (o ∷ spell b r) (o ∷ spell b []) m.3 some))
      (first a (S b) 1 (Begins b) (emit b) (one a a1 (fits a (o ∷ spell b r) (one-flat a a1) m.3)) (one b b1 (fits b r (one-flat b b1) m.4)))
  fits (Conditional a q b c d) r flat m =
      let a1 = holds-one 4 (omega arith) a m.0 in
      let b1 = holds-one 2 (omega arith) b m.3 in
      let d1 = holds-one 2 (omega arith) d m.6 in
      let some = holds-some 4 a (omega arith) m.0 in
      front a (Then (S a) (Then (S b) (S d))) F.Conditional H.Conditional 3 (Begins (Conditional a q b c d)) (λ told. emit d (emit b (emit a told))) refl some
      (λ k at own. at ∙ sym (begins-own a (q ∷ spell b (c ∷ spell d r)) (q ∷ spell b (c ∷ spell d [])) m.1 some))
      (first a (Then (S b) (S d)) 2 (Begins b) (λ told. emit d (emit b told)) (one a a1 (fits a (q ∷ spell b (c ∷ spell d r)) (one-flat a a1) m.1))
      (first b (S d) 1 (Begins d) (emit d) (one b b1 (fits b (c ∷ spell d r) (one-flat b b1) m.4)) (one d d1 (fits d r (one-flat d d1) m.7))))
  fits (Assignment a o b) r flat m =
      let a1 = target-one a m.0 in
      let b1 = holds-one 2 (omega arith) b m.3 in
      let some = target-some a (o ∷ spell b r) m.1 m.0 in
      front-of a (Then (S a) (S b)) (H.Assignment o.word) 2 (Begins (Assignment a o b)) (λ told. emit b (emit a told)) some (λ k at own. at ∙ sym (begins-own a (o ∷ spell b r) (o ∷ spell b []) m.1 some))
      (first a (S b) 1 (Begins b) (emit b) (one a a1 (fits a (o ∷ spell b r) (one-flat a a1) m.1)) (one b b1 (fits b r (one-flat b b1) m.4)))
  fits (Block o l c) r flat m =
      own (S l) o.start F.Block H.Block (width l) (Begins l) (Begins (Block o l c)) (emit l) refl (λ p at some. absurd (omega arith)) (fits l (c ∷ r) (list-flat is_statement statement-one l m.1) m.2)
  fits (Var v l z) r flat m =
      own (S l) v.start F.Var H.Var (width l) (Begins l) (Begins (Var v l z)) (emit l) refl (λ p at some. absurd (omega arith)) (fits l (spell_ending z r) (comma_list-flat is_declarator declarator-one l m.1) m.2)
  fits (Declarator n) r flat m =
      own IsLeaf n.start (F.Declarator (piece_of n)) (H.Declarator n) 0 Anywhere (Begins (Declarator n)) (λ told. told) refl (λ p at some. absurd (omega arith)) fits-none
  fits (Initialised n q e) r flat m =
      let e1 = holds-one 2 (omega arith) e m.2 in
      own (S e) n.start (F.Declarator (piece_of n)) (H.Declarator n) 1 (Begins e) (Begins (Initialised n q e)) (emit e) refl (λ p at some. absurd (omega arith)) (one e e1 (fits e r (one-flat e e1) m.3))
  fits (Empty t) r flat m = own IsLeaf t.start F.Empty H.Empty 0 Anywhere (Begins (Empty t)) (λ told. told) refl (λ p at some. absurd (omega arith)) fits-none
  fits (Expression e z) r flat m =
      let e1 = holds-one 1 (omega arith) e m.0 in
      front e (S e) F.Expression H.Expression 1 (Begins (Expression e z)) (emit e) refl (holds-some 1 e (omega arith) m.0) (λ p at some. absurd (omega arith)) (one e e1 (fits e (spell_ending z r) (one-flat e e1) m.2))
  fits (If i o e c s) r flat m =
      let e1 = holds-one 1 (omega arith) e m.2 in
      let s1 = statement-one s m.5 in
      own (Then (S e) (S s)) i.start F.If H.If 2 (Begins e) (Begins (If i o e c s)) (λ told. emit s (emit e told)) refl (λ p at some. absurd (omega arith))
      (first e (S s) 1 (Begins s) (emit s) (one e e1 (fits e (c ∷ spell s r) (one-flat e e1) m.3)) (one s s1 (fits s r (one-flat s s1) m.6)))
  fits (IfElse i o e c s l u) r flat m =
      let e1 = holds-one 1 (omega arith) e m.2 in
      let s1 = statement-one s m.5 in
      let u1 = statement-one u m.8 in
      own (Then (S e) (Then (S s) (S u))) i.start F.If H.If 3 (Begins e) (Begins (IfElse i o e c s l u)) (λ told. emit u (emit s (emit e told))) refl (λ p at some. absurd (omega arith))
      (first e (Then (S s) (S u)) 2 (Begins s) (λ told. emit u (emit s told)) (one e e1 (fits e (c ∷ spell s (l ∷ spell u r)) (one-flat e e1) m.3))
      (first s (S u) 1 (Begins u) (emit u) (one s s1 (fits s (l ∷ spell u r) (one-flat s s1) m.6)) (one u u1 (fits u r (one-flat u u1) m.9))))
  fits (DoWhile d s w o e c z) r flat m =
      let s1 = statement-one s m.1 in
      let e1 = holds-one 1 (omega arith) e m.5 in
      own (Then (S s) (S e)) d.start F.DoWhile H.DoWhile 2 (Begins s) (Begins (DoWhile d s w o e c z)) (λ told. emit e (emit s told)) refl (λ p at some. absurd (omega arith))
      (first s (S e) 1 (Begins e) (emit e) (one s s1 (fits s (w ∷ o ∷ spell e (c ∷ spell_ending z r)) (one-flat s s1) m.2)) (one e e1 (fits e (c ∷ spell_ending z r) (one-flat e e1) m.6)))
  fits (While w o e c s) r flat m =
      let e1 = holds-one 1 (omega arith) e m.2 in
      let s1 = statement-one s m.5 in
      own (Then (S e) (S s)) w.start F.While H.While 2 (Begins e) (Begins (While w o e c s)) (λ told. emit s (emit e told)) refl (λ p at some. absurd (omega arith))
      (first e (S s) 1 (Begins s) (emit s) (one e e1 (fits e (c ∷ spell s r) (one-flat e e1) m.3)) (one s s1 (fits s r (one-flat s s1) m.6)))
  fits (For f o i p e q u c s) r flat m =
      let i1 = init-one i m.2 in
      let e1 = may_be_expression-one e m.6 in
      let u1 = may_be_expression-one u m.9 in
      let s1 = statement-one s m.12 in
      own (Then (S i) (Then (S e) (Then (S u) (S s)))) f.start F.For H.For 4 (Begins i) (Begins (For f o i p e q u c s)) (λ told. emit s (emit u (emit e (emit i told)))) refl (λ p at some. absurd (omega arith))
      (first i (Then (S e) (Then (S u) (S s))) 3 (Begins e) (λ told. emit s (emit u (emit e told))) (one i i1 (fits i (p ∷ spell e (q ∷ spell u (c ∷ spell s r))) (one-flat i i1) m.4))
      (first e (Then (S u) (S s)) 2 (Begins u) (λ told. emit s (emit u told)) (one e e1 (fits e (q ∷ spell u (c ∷ spell s r)) (one-flat e e1) m.7))
      (first u (S s) 1 (Begins s) (emit s) (one u u1 (fits u (c ∷ spell s r) (one-flat u u1) m.10)) (one s s1 (fits s r (one-flat s s1) m.13)))))
  fits (Bindings v l) r flat m =
      own (S l) v.start F.Bindings H.Bindings (width l) (Begins l) (Begins (Bindings v l)) (emit l) refl (λ p at some. absurd (omega arith)) (fits l r (comma_list-flat is_declarator declarator-one l m.1) m.2)
  fits (Continue t z) r flat m = own IsLeaf t.start F.Continue H.Continue 0 Anywhere (Begins (Continue t z)) (λ told. told) refl (λ p at some. absurd (omega arith)) fits-none
  fits (Break t z) r flat m = own IsLeaf t.start F.Break H.Break 0 Anywhere (Begins (Break t z)) (λ told. told) refl (λ p at some. absurd (omega arith)) fits-none
  fits (Return t e z) r flat m =
      let e1 = may_be_expression-one e m.1 in
      own (S e) t.start F.Return H.Return 1 (Begins e) (Begins (Return t e z)) (emit e) refl (λ p at some. absurd (omega arith)) (one e e1 (fits e (spell_ending z r) (one-flat e e1) m.3))
  fits (Switch s o e c b l d) r flat m =
      let e1 = holds-one 1 (omega arith) e m.2 in
      own (Then (S e) (S l)) s.start F.Switch H.Switch (1 + width l) (Begins e) (Begins (Switch s o e c b l d)) (λ told. emit l (emit e told)) refl (λ p at some. absurd (omega arith))
      (first e (S l) (width l) (Begins l) (emit l) (one e e1 (fits e (c ∷ b ∷ spell l (d ∷ r)) (one-flat e e1) m.3)) (fits l (d ∷ r) (list-flat is_clause clause-one l m.6) m.8))
  fits (Case w e c l) r flat m =
      let e1 = holds-one 1 (omega arith) e m.1 in
      own (Then (S e) (S l)) w.start F.Case H.Case (1 + width l) (Begins e) (Begins (Case w e c l)) (λ told. emit l (emit e told)) refl (λ p at some. absurd (omega arith))
      (first e (S l) (width l) (Begins l) (emit l) (one e e1 (fits e (c ∷ spell l r) (one-flat e e1) m.2)) (fits l r (list-flat is_statement statement-one l m.4) m.5))
  fits (Default w c l) r flat m =
      own (S l) w.start F.Default H.Default (width l) (Begins l) (Begins (Default w c l)) (emit l) refl (λ p at some. absurd (omega arith)) (fits l r (list-flat is_statement statement-one l m.2) m.3)
  fits (Throw t e z) r flat m =
      let e1 = holds-one 1 (omega arith) e m.1 in
      own (S e) t.start F.Throw H.Throw 1 (Begins e) (Begins (Throw t e z)) (emit e) refl (λ p at some. absurd (omega arith)) (one e e1 (fits e (spell_ending z r) (one-flat e e1) m.3))
  fits (Try t b h f) r flat m =
      let b1 = block-one b m.1 in
      let h1 = catch-one h m.3 in
      let f1 = finally-one f m.5 in
      own (Then (S b) (Then (S h) (S f))) t.start F.Try H.Try 3 (Begins b) (Begins (Try t b h f)) (λ told. emit f (emit h (emit b told))) refl (λ p at some. absurd (omega arith))
      (first b (Then (S h) (S f)) 2 (Begins h) (λ told. emit f (emit h told)) (one b b1 (fits b (spell h (spell f r)) (one-flat b b1) m.2))
      (first h (S f) 1 (Begins f) (emit f) (one h h1 (fits h (spell f r) (one-flat h h1) m.4)) (one f f1 (fits f r (one-flat f f1) m.6))))
  fits (Catch w o n c b) r flat m =
      let b1 = block-one b m.4 in
      own (S b) w.start (F.Catch (piece_of n)) (H.Catch n) 1 (Begins b) (Begins (Catch w o n c b)) (emit b) refl (λ p at some. absurd (omega arith)) (one b b1 (fits b r (one-flat b b1) m.5))
  fits (Function f n o l c b s d) r flat m =
      let counts = parameters-count l m.4 in
      own (Then (S l) (S s)) f.start (F.Function (head_of (label_of n) l)) (H.Function (label n) (width l)) (width l + width s) Anywhere (Begins (Function f n o l c b s d)) (λ told. emit s (emit l told))
      (function-form n l counts.0) (λ p at some. at)
      (fits-both (S l) (S s) (width l) (width s) (Begins l) (Begins s) Anywhere (emit l) (emit s) (λ ps qs long at. tt)
      (fits l (c ∷ b ∷ spell s (d ∷ r)) (commas-flat is_parameter parameter-one l m.4) m.5) (fits s (d ∷ r) (list-flat is_element element-one s m.8) m.9))
  fits (Declaration f n o l c b s d) r flat m =
      let counts = parameters-count l m.3 in
      own (Then (S l) (S s)) f.start (F.FunctionDeclaration (head_of (Some (piece_of n)) l)) (H.Declaration n (width l)) (width l + width s) Anywhere (Begins (Declaration f n o l c b s d)) (λ told. emit s (emit l told))
      (ap (λ k. Some (F.FunctionDeclaration (record { name = Some (piece_of n); parameters = k }))) (sym counts.0)) (λ p at some. absurd (omega arith))
      (fits-both (S l) (S s) (width l) (width s) (Begins l) (Begins s) Anywhere (emit l) (emit s) (λ ps qs long at. tt)
      (fits l (c ∷ b ∷ spell s (d ∷ r)) (commas-flat is_parameter parameter-one l m.3) m.4) (fits s (d ∷ r) (list-flat is_element element-one s m.7) m.8))
  fits (Parameter n) r flat m = own IsLeaf n.start (F.Parameter (piece_of n)) (H.Parameter n) 0 Anywhere (Begins (Parameter n)) (λ told. told) refl (λ p at some. absurd (omega arith)) fits-none
