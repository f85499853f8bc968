-- The place that is found in what is told of a script is that of the first node that is too deep.
use Rattle.std.proofs.Common.{◌≡◌, ℕ, zero, suc, ◌+◌, ◌<◌, ◌≤◌, nat_le, Bool, true, false, ◌&&◌, cond, List, [], ◌∷◌, ◌++◌, Option, Some, None, refl, sym, ap, ◌∙◌, subst, arith}
use Rattle.std.specs.Prelude.{min, max, if◌then◌else◌, unwrap_or}
use Rattle.std.proofs.lemmas.Bool.{and_parts}
use Rattle.rip_grammar.specs.declared.word.Lexeme.{Lexeme}
use Rattle.rip_grammar.specs.declared.event.Head.{Head}
use Rattle.rip_grammar.specs.declared.event.Head.TheVariants as H
use Rattle.rip_grammar.specs.declared.event.Event.{Event}
use Rattle.rip_grammar.specs.declared.event.Event.TheVariants as E
use Rattle.rip_grammar.specs.Phrases.{Phrase, Absent, Nothing, More, CommaMore, Trailing, Single, Array, Object, Entry, Parenthesized, Member, Index, New, NewCall, Call, Postfix, Prefix, Infix, Conditional, Assignment, Block, Var, Declarator, Initialised, Empty, Expression, If, IfElse, DoWhile, While, For, Bindings, Continue, Break, Return, Switch, Case, Default, Throw, Try, Catch, Finally, Function, Declaration, Parameter, spell, spell_ending}
use Rattle.rip_grammar.specs.Levels.{level, binds}
use Rattle.rip_grammar.specs.Events.{width, label, emit}
use Rattle.rip_grammar.specs.Depths.{levels, depth}
use Rattle.rip_grammar.specs.Grammar.{IsScript, IsMade, is_expression, is_assigned, is_statement, is_element, is_entry, is_parameter, is_declarator, is_clause, holds}
use Rattle.rip_parser.specs.declared.deepest.Standing.{Standing}
use Rattle.rip_parser.specs.declared.deepest.Standing.TheVariants as S
use Rattle.rip_parser.specs.declared.deepest.Around.{Around}
use Rattle.rip_parser.specs.Shows.{place_of, first_place}
use Rattle.rip_parser.specs.Parsed.{IsTooDeepAt}
use Rattle.rip_parser.specs.Building.{is_part}
use Rattle.rip_parser.specs.TooDeep.{first_of, from, first_deep, first_too_deep}
use Rattle.rip_parser.specs.Search.{Search, pushed, below_one_more, is_deep, noted, standing_in, standing_within, parenthesis_noted, take_at, search, found}
use Rattle.rip_parser.proofs.Shapes.{TellsOne, level-one, is_one, is_flat, one-flat, one-width, holds-one, holds-some, target-one, target-some, statement-one, element-one, block-one, entry-one, parameter-one, declarator-one, clause-one, may_be_expression-one, init-one, catch-one, finally-one, constructed-one, list-flat, comma_list-flat, commas-flat, elements-flat, begins-own}

first_of-some : (a : Option ℕ) (p : ℕ) (f : Option ℕ) → a ≡ Some p → first_of a f ≡ Some p
first_of-some a p f is = ap (λ x. first_of x f) is

first_of-assoc : (a b c : Option ℕ) → first_of a (first_of b c) ≡ first_of (first_of a b) c
first_of-assoc None b c = refl
first_of-assoc (Some p) b c = refl

-- PARTS

abbrev at : Option ℕ → List Around → Search
at first around = record { first = first; around = around }

-- the place that is noted, behind parts of which `w` is the first node that is too deep, below so many levels, and `v`
-- the place where they begin
abbrev within : (ℕ → Option ℕ) → Option ℕ → Standing → Option ℕ → Option ℕ
within w v (S.Below n) first = first_of (w n) first
within w v S.Deep first = first_of v first
within w v S.Known first = first

-- what is told of so many parts is read so, wherever they stand
abbrev Reads : ℕ → (List Event → List Event) → (ℕ → Option ℕ) → Option ℕ → Type 0
Reads n e w v = (k : ℕ) (c : Standing) (around : List Around) (first : Option ℕ) (told : List Event)
    → search (e told) (at first (pushed (k + n) c around)) ≡ search told (at (within w v c first) (pushed k c around))

-- the same number of parts
counted : (told : List Event) (first : Option ℕ) (c : Standing) (around : List Around) (n m : ℕ) → n ≡ m → search told (at first (pushed n c around)) ≡ search told (at first (pushed m c around))
counted told first c around n m is = ap (λ k. search told (at first (pushed k c around))) is

within-none : (c : Standing) (first : Option ℕ) → within (λ n. None) None c first ≡ first
within-none (S.Below n) first = refl
within-none S.Deep first = refl
within-none S.Known first = refl

within-both : (wa wb : ℕ → Option ℕ) (va vb : Option ℕ) (c : Standing) (first : Option ℕ)
    → within wa va c (within wb vb c first) ≡ within (λ n. first_of (wa n) (wb n)) (first_of va vb) c first
within-both wa wb va vb (S.Below n) first = first_of-assoc (wa n) (wb n) first
within-both wa wb va vb S.Deep first = first_of-assoc va vb first
within-both wa wb va vb S.Known first = refl

add-zero-right : (k : ℕ) → k + 0 ≡ k
add-zero-right k = omega arith

reads-none : Reads 0 (λ told. told) (λ n. None) None
reads-none k c around first told = counted told first c around (k + 0) k (add-zero-right k) ∙ ap (λ f. search told (at f (pushed k c around))) (sym (within-none c first))

one-more : (k : ℕ) → k + 1 ≡ suc k
one-more k = omega arith

reads-absent : Reads 1 (λ told. E.Absent ∷ told) (λ n. None) None
reads-absent k c around first told =
    counted (E.Absent ∷ told) first c around (k + 1) (suc k) (one-more k) ∙ ap (λ f. search told (at f (pushed k c around))) (sym (within-none c first))

regroup : (k n m : ℕ) → k + (n + m) ≡ k + n + m
regroup k n m = omega arith

reads-both : (n m : ℕ) (ea eb : List Event → List Event) (wa wb : ℕ → Option ℕ) (va vb : Option ℕ) → Reads n ea wa va → Reads m eb wb vb
    → Reads (n + m) (λ told. eb (ea told)) (λ k. first_of (wa k) (wb k)) (first_of va vb)
reads-both n m ea eb wa wb va vb a b k c around first told =
    counted (eb (ea told)) first c around (k + (n + m)) (k + n + m) (regroup k n m)
    ∙ b (k + n) c around first (ea told)
    ∙ a k c around (within wb vb c first) told
    ∙ ap (λ f. search told (at f (pushed k c around))) (within-both wa wb va vb c first)

-- NODES

at-most : (a b : ℕ) → a ≤ b → nat_le a b ≡ true
at-most a b h = grind (arith, h)

not-test : (a b : ℕ) → nat_le a b ≡ false → b < a
not-test a b h = grind (arith, h)

from-test : (a b : ℕ) → nat_le a b ≡ true → a ≤ b
from-test a b h = grind (arith, h)

more-levels : (n : ℕ) → 200 ≤ n → 200 ≤ n + 1
more-levels n h = omega arith

not_less : (n : ℕ) → nat_le 200 n ≡ false → min (n + 1) 200 ≡ n + 1
not_less n h = grind (arith, h)

own-below : (b : Bool) (n p : ℕ) (w : ℕ → Option ℕ) (v first : Option ℕ) → nat_le 200 n ≡ b
    → within w v (standing_in b (Some p) (S.Below n) false) (noted b (Some p) first) ≡ first_of (if b then Some p else w (n + 1)) first
own-below true n p w v first is = refl
own-below false n p w v first is = ap (λ k. first_of (w k) first) (not_less n is)

own-within : (w : ℕ → Option ℕ) (v : Option ℕ) (p : ℕ) (c : Standing) (first : Option ℕ)
    → within w v (standing_in (is_deep c false) (Some p) c false) (noted (is_deep c false) (Some p) first) ≡ within (λ n. from n p (w (n + 1))) (Some p) c first
own-within w v p (S.Below n) first = own-below (nat_le 200 n) n p w v first refl
own-within w v p S.Deep first = refl
own-within w v p S.Known first = refl

front-below : (b : Bool) (n p : ℕ) (w : ℕ → Option ℕ) (v first : Option ℕ) → nat_le 200 n ≡ b → v ≡ Some p
    → within w v (standing_in b None (S.Below n) false) (noted b None first) ≡ first_of (if b then Some p else w (n + 1)) first
front-below true n p w v first is begins = first_of-some v p first begins
front-below false n p w v first is begins = ap (λ k. first_of (w k) first) (not_less n is)

front-within : (w : ℕ → Option ℕ) (v : Option ℕ) (p : ℕ) (c : Standing) (first : Option ℕ) → v ≡ Some p
    → within w v (standing_in (is_deep c false) None c false) (noted (is_deep c false) None first) ≡ within (λ n. from n p (w (n + 1))) v c first
front-within w v p (S.Below n) first begins = front-below (nat_le 200 n) n p w v first refl begins
front-within w v p S.Deep first begins = refl
front-within w v p S.Known first begins = refl

part-within : (w : ℕ → Option ℕ) (v : Option ℕ) (p : ℕ) (c : Standing) (first : Option ℕ)
    → within w v (standing_in (is_deep c true) (Some p) c true) (noted (is_deep c true) (Some p) first) ≡ within w (Some p) c first
part-within w v p (S.Below n) first = refl
part-within w v p S.Deep first = refl
part-within w v p S.Known first = refl

zero-more : (n : ℕ) → n ≡ 0 + n
zero-more n = omega arith

-- a node over parts that are read
node-reads : (place : Option ℕ) (head : Head) (n : ℕ) (e : List Event → List Event) (w : ℕ → Option ℕ) (v : Option ℕ) (u : ℕ → Option ℕ) (x : Option ℕ) → Reads n e w v
    → ((c : Standing) (first : Option ℕ) → within w v (standing_in (is_deep c (is_part head)) place c (is_part head)) (noted (is_deep c (is_part head)) place first) ≡ within u x c first)
    → Reads 1 (λ told. E.Node place head n ∷ e told) u x
node-reads place head n e w v u x parts seen k c around first told =
    counted (E.Node place head n ∷ e told) first c around (k + 1) (suc k) (one-more k)
    ∙ counted (e told) (noted (is_deep c (is_part head)) place first) (standing_in (is_deep c (is_part head)) place c (is_part head)) (pushed k c around) n (0 + n) (zero-more n)
    ∙ parts 0 (standing_in (is_deep c (is_part head)) place c (is_part head)) (pushed k c around) (noted (is_deep c (is_part head)) place first) told
    ∙ ap (λ f. search told (at f (pushed k c around))) (seen c first)

own : (p : ℕ) (head : Head) (n : ℕ) (e : List Event → List Event) (w : ℕ → Option ℕ) (v : Option ℕ) → is_part head ≡ false → Reads n e w v
    → Reads 1 (λ told. E.Node (Some p) head n ∷ e told) (λ k. from k p (w (k + 1))) (Some p)
own p head n e w v whole parts = node-reads (Some p) head n e w v (λ k. from k p (w (k + 1))) (Some p) parts (λ c first.
    subst (λ b. within w v (standing_in (is_deep c b) (Some p) c b) (noted (is_deep c b) (Some p) first) ≡ within (λ k. from k p (w (k + 1))) (Some p) c first) (sym whole) (own-within w v p c first))

front : (p : ℕ) (head : Head) (n : ℕ) (e : List Event → List Event) (w : ℕ → Option ℕ) (v : Option ℕ) → is_part head ≡ false → v ≡ Some p → Reads n e w v
    → Reads 1 (λ told. E.Node None head n ∷ e told) (λ k. from k p (w (k + 1))) v
front p head n e w v whole begins parts = node-reads None head n e w v (λ k. from k p (w (k + 1))) v parts (λ c first.
    subst (λ b. within w v (standing_in (is_deep c b) None c b) (noted (is_deep c b) None first) ≡ within (λ k. from k p (w (k + 1))) v c first) (sym whole) (front-within w v p c first begins))

part : (p : ℕ) (head : Head) (n : ℕ) (e : List Event → List Event) (w : ℕ → Option ℕ) (v : Option ℕ) → is_part head ≡ true → Reads n e w v
    → Reads 1 (λ told. E.Node (Some p) head n ∷ e told) w (Some p)
part p head n e w v partial parts = node-reads (Some p) head n e w v w (Some p) parts (λ c first.
    subst (λ b. within w v (standing_in (is_deep c b) (Some p) c b) (noted (is_deep c b) (Some p) first) ≡ within w (Some p) c first) (sym partial) (part-within w v p c first))

-- WHAT A PHRASE BEGINS WITH

-- the place of the first part of a phrase that is there
abbrev begins : Phrase → Option ℕ
begins Absent = None
begins Nothing = None
begins (More l d) = first_of (begins l) (begins d)
begins (CommaMore l c d) = first_of (begins l) (begins d)
begins (Trailing l c) = begins l
begins (Parenthesized o e c) = Some o.start
begins (Single t) = Some t.start
begins (Finally w b) = begins b
begins (Array o l c) = Some o.start
begins (Object o l c) = Some o.start
begins (Entry k c e) = Some k.start
begins (Member b p n) = begins b
begins (Index b o e c) = (first_of (begins b) (begins e))
begins (New w f) = Some w.start
begins (NewCall w f o l c) = Some w.start
begins (Call f o l c) = (first_of (begins f) (begins l))
begins (Postfix e o) = begins e
begins (Prefix o e) = Some o.start
begins (Infix a o b) = (first_of (begins a) (begins b))
begins (Conditional a q b c d) = (first_of (begins a) (first_of (begins b) (begins d)))
begins (Assignment a o b) = (first_of (begins a) (begins b))
begins (Block o l c) = Some o.start
begins (Var v l z) = Some v.start
begins (Declarator n) = Some n.start
begins (Initialised n q e) = Some n.start
begins (Empty t) = Some t.start
begins (Expression e z) = begins e
begins (If i o e c s) = Some i.start
begins (IfElse i o e c s l u) = Some i.start
begins (DoWhile d s w o e c z) = Some d.start
begins (While w o e c s) = Some w.start
begins (For f o i p e q u c s) = Some f.start
begins (Bindings v l) = Some v.start
begins (Continue t z) = Some t.start
begins (Break t z) = Some t.start
begins (Return t e z) = Some t.start
begins (Switch s o e c b l d) = Some s.start
begins (Case w e c l) = Some w.start
begins (Default w c l) = Some w.start
begins (Throw t e z) = Some t.start
begins (Try t b h f) = Some t.start
begins (Catch w o n c b) = Some w.start
begins (Function f n o l c b s d) = Some f.start
begins (Declaration f n o l c b s d) = Some f.start
begins (Parameter n) = Some n.start

tighter : (n a : ℕ) → 0 < n → n ≤ a → 0 < a
tighter n a some below = omega arith

looser : (n a : ℕ) → n < a → n ≤ a
looser n a below = omega arith

-- an expression begins at its place
behind-first : (a : Phrase) (r s : List Lexeme) (v : Option ℕ) → IsMade a r → 0 < level a → begins a ≡ Some (place_of a) → first_of (begins a) v ≡ Some (first_place (spell a s))
behind-first a r s v m some is = first_of-some (begins a) (place_of a) v is ∙ ap Some (sym (begins-own a r s m some))

at-first : (a : Phrase) (r s : List Lexeme) → IsMade a r → 0 < level a → begins a ≡ Some (place_of a) → begins a ≡ Some (first_place (spell a s))
at-first a r s m some is = is ∙ ap Some (sym (begins-own a r s m some))

begins_at : (d : Phrase) (r : List Lexeme) → IsMade d r → 0 < level d → begins d ≡ Some (place_of d)
begins_at (Single t) r m some = refl
begins_at (Array o l c) r m some = refl
begins_at (Object o l c) r m some = refl
begins_at (Parenthesized o e c) r m some = refl
begins_at (Function f n o l c b s d) r m some = refl
begins_at (New w f) r m some = refl
begins_at (NewCall w f o l c) r m some = refl
begins_at (Prefix o e) r m some = refl
begins_at (Member b p n) r m some =
    let own : 0 < level b = holds-some 17 b (omega arith) m.0 in at-first b (p ∷ n ∷ r) (p ∷ n ∷ []) m.1 own (begins_at b (p ∷ n ∷ r) m.1 own)
begins_at (Index b o e c) r m some =
    let own : 0 < level b = holds-some 17 b (omega arith) m.0 in
    behind-first b (o ∷ spell e (c ∷ r)) (o ∷ spell e (c ∷ [])) (begins e) m.1 own (begins_at b (o ∷ spell e (c ∷ r)) m.1 own)
begins_at (Call f o l c) r m some =
    let own : 0 < level f = holds-some 17 f (omega arith) m.0 in
    behind-first f (o ∷ spell l (c ∷ r)) (o ∷ spell l (c ∷ [])) (begins l) m.1 own (begins_at f (o ∷ spell l (c ∷ r)) m.1 own)
begins_at (Postfix e o) r m some =
    let own : 0 < level e = holds-some 16 e (omega arith) m.0 in at-first e (o ∷ r) (o ∷ []) m.2 own (begins_at e (o ∷ r) m.2 own)
begins_at (Infix a o b) r m some =
    let own : 0 < level a = tighter (binds o.word) (level a) m.0 m.1 in
    behind-first a (o ∷ spell b r) (o ∷ spell b []) (begins b) m.3 own (begins_at a (o ∷ spell b r) m.3 own)
begins_at (Conditional a q b c d) r m some =
    let own : 0 < level a = holds-some 4 a (omega arith) m.0 in
    behind-first a (q ∷ spell b (c ∷ spell d r)) (q ∷ spell b (c ∷ spell d [])) (first_of (begins b) (begins d)) m.1 own (begins_at a (q ∷ spell b (c ∷ spell d r)) m.1 own)
begins_at (Assignment a o b) r m some =
    let own : 0 < level a = target-some a (o ∷ spell b r) m.1 m.0 in
    behind-first a (o ∷ spell b r) (o ∷ spell b []) (begins b) m.1 own (begins_at a (o ∷ spell b r) m.1 own)
begins_at d r m some = absurd (omega arith)

-- PARENTHESES

from-deep : (n p : ℕ) (inner : Option ℕ) → 200 ≤ n → from n p inner ≡ Some p
from-deep n p inner deep = ap (λ b. if b then Some p else inner) (at-most 200 n deep)

-- below the greatest depth more levels change nothing
same_deep : (d : Phrase) (n m : ℕ) → 200 ≤ n → 200 ≤ m → first_deep n d ≡ first_deep m d
same_deep Absent n m many more = refl
same_deep Nothing n m many more = refl
same_deep (More l d) n m many more = ap (λ q. first_of q (first_deep n d)) (same_deep l n m many more) ∙ ap (first_of (first_deep m l)) (same_deep d n m many more)
same_deep (CommaMore l c d) n m many more = ap (λ q. first_of q (first_deep n d)) (same_deep l n m many more) ∙ ap (first_of (first_deep m l)) (same_deep d n m many more)
same_deep (Trailing l c) n m many more = same_deep l n m many more
same_deep (Entry k c e) n m many more = same_deep e n m many more
same_deep (Declarator name) n m many more = refl
same_deep (Initialised name q e) n m many more = same_deep e n m many more
same_deep (Bindings v l) n m many more = same_deep l n m many more
same_deep (Case w e c l) n m many more = ap (λ q. first_of q (first_deep n l)) (same_deep e n m many more) ∙ ap (first_of (first_deep m e)) (same_deep l n m many more)
same_deep (Default w c l) n m many more = same_deep l n m many more
same_deep (Catch w o name c b) n m many more = same_deep b n m many more
same_deep (Finally w b) n m many more = same_deep b n m many more
same_deep (Parameter name) n m many more = refl
same_deep (Parenthesized o e c) n m many more = same_deep e (n + 1) (m + 1) (more-levels n many) (more-levels m more)
same_deep (Single t) n m many more = from-deep n t.start None many ∙ sym (from-deep m t.start None more)
same_deep (Array o l c) n m many more = from-deep n o.start (first_deep (n + 1) l) many ∙ sym (from-deep m o.start (first_deep (m + 1) l) more)
same_deep (Object o l c) n m many more = from-deep n o.start (first_deep (n + 1) l) many ∙ sym (from-deep m o.start (first_deep (m + 1) l) more)
same_deep (Member b p name) n m many more = from-deep n (place_of b) (first_deep (n + 1) b) many ∙ sym (from-deep m (place_of b) (first_deep (m + 1) b) more)
same_deep (Index b o e c) n m many more = from-deep n (place_of b) (first_of (first_deep (n + 1) b) (first_deep (n + 1) e)) many ∙ sym (from-deep m (place_of b) (first_of (first_deep (m + 1) b) (first_deep (m + 1) e)) more)
same_deep (New w f) n m many more = from-deep n w.start (first_deep (n + 1) f) many ∙ sym (from-deep m w.start (first_deep (m + 1) f) more)
same_deep (NewCall w f o l c) n m many more = from-deep n w.start (first_of (first_deep (n + 1) f) (first_deep (n + 1) l)) many ∙ sym (from-deep m w.start (first_of (first_deep (m + 1) f) (first_deep (m + 1) l)) more)
same_deep (Call f o l c) n m many more = from-deep n (place_of f) (first_of (first_deep (n + 1) f) (first_deep (n + 1) l)) many ∙ sym (from-deep m (place_of f) (first_of (first_deep (m + 1) f) (first_deep (m + 1) l)) more)
same_deep (Postfix e o) n m many more = from-deep n (place_of e) (first_deep (n + 1) e) many ∙ sym (from-deep m (place_of e) (first_deep (m + 1) e) more)
same_deep (Prefix o e) n m many more = from-deep n o.start (first_deep (n + 1) e) many ∙ sym (from-deep m o.start (first_deep (m + 1) e) more)
same_deep (Infix a o b) n m many more = from-deep n (place_of a) (first_of (first_deep (n + 1) a) (first_deep (n + 1) b)) many ∙ sym (from-deep m (place_of a) (first_of (first_deep (m + 1) a) (first_deep (m + 1) b)) more)
same_deep (Conditional a q b c d) n m many more = from-deep n (place_of a) (first_of (first_deep (n + 1) a) (first_of (first_deep (n + 1) b) (first_deep (n + 1) d))) many ∙ sym (from-deep m (place_of a) (first_of (first_deep (m + 1) a) (first_of (first_deep (m + 1) b) (first_deep (m + 1) d))) more)
same_deep (Assignment a o b) n m many more = from-deep n (place_of a) (first_of (first_deep (n + 1) a) (first_deep (n + 1) b)) many ∙ sym (from-deep m (place_of a) (first_of (first_deep (m + 1) a) (first_deep (m + 1) b)) more)
same_deep (Block o l c) n m many more = from-deep n o.start (first_deep (n + 1) l) many ∙ sym (from-deep m o.start (first_deep (m + 1) l) more)
same_deep (Var v l z) n m many more = from-deep n v.start (first_deep (n + 1) l) many ∙ sym (from-deep m v.start (first_deep (m + 1) l) more)
same_deep (Empty t) n m many more = from-deep n t.start None many ∙ sym (from-deep m t.start None more)
same_deep (Expression e z) n m many more = from-deep n (place_of e) (first_deep (n + 1) e) many ∙ sym (from-deep m (place_of e) (first_deep (m + 1) e) more)
same_deep (If i o e c s) n m many more = from-deep n i.start (first_of (first_deep (n + 1) e) (first_deep (n + 1) s)) many ∙ sym (from-deep m i.start (first_of (first_deep (m + 1) e) (first_deep (m + 1) s)) more)
same_deep (IfElse i o e c s l u) n m many more = from-deep n i.start (first_of (first_deep (n + 1) e) (first_of (first_deep (n + 1) s) (first_deep (n + 1) u))) many ∙ sym (from-deep m i.start (first_of (first_deep (m + 1) e) (first_of (first_deep (m + 1) s) (first_deep (m + 1) u))) more)
same_deep (DoWhile d s w o e c z) n m many more = from-deep n d.start (first_of (first_deep (n + 1) s) (first_deep (n + 1) e)) many ∙ sym (from-deep m d.start (first_of (first_deep (m + 1) s) (first_deep (m + 1) e)) more)
same_deep (While w o e c s) n m many more = from-deep n w.start (first_of (first_deep (n + 1) e) (first_deep (n + 1) s)) many ∙ sym (from-deep m w.start (first_of (first_deep (m + 1) e) (first_deep (m + 1) s)) more)
same_deep (For f o i p e q u c s) n m many more = from-deep n f.start (first_of (first_deep (n + 1) i) (first_of (first_deep (n + 1) e) (first_of (first_deep (n + 1) u) (first_deep (n + 1) s)))) many ∙ sym (from-deep m f.start (first_of (first_deep (m + 1) i) (first_of (first_deep (m + 1) e) (first_of (first_deep (m + 1) u) (first_deep (m + 1) s)))) more)
same_deep (Continue t z) n m many more = from-deep n t.start None many ∙ sym (from-deep m t.start None more)
same_deep (Break t z) n m many more = from-deep n t.start None many ∙ sym (from-deep m t.start None more)
same_deep (Return t e z) n m many more = from-deep n t.start (first_deep (n + 1) e) many ∙ sym (from-deep m t.start (first_deep (m + 1) e) more)
same_deep (Switch s o e c b l d) n m many more = from-deep n s.start (first_of (first_deep (n + 1) e) (first_deep (n + 1) l)) many ∙ sym (from-deep m s.start (first_of (first_deep (m + 1) e) (first_deep (m + 1) l)) more)
same_deep (Throw t e z) n m many more = from-deep n t.start (first_deep (n + 1) e) many ∙ sym (from-deep m t.start (first_deep (m + 1) e) more)
same_deep (Try t b h f) n m many more = from-deep n t.start (first_of (first_deep (n + 1) b) (first_of (first_deep (n + 1) h) (first_deep (n + 1) f))) many ∙ sym (from-deep m t.start (first_of (first_deep (m + 1) b) (first_of (first_deep (m + 1) h) (first_deep (m + 1) f))) more)
same_deep (Function f name o l c b s d) n m many more = from-deep n f.start (first_of (first_deep (n + 1) l) (first_deep (n + 1) s)) many ∙ sym (from-deep m f.start (first_of (first_deep (m + 1) l) (first_deep (m + 1) s)) more)
same_deep (Declaration f name o l c b s d) n m many more = from-deep n f.start (first_of (first_deep (n + 1) l) (first_deep (n + 1) s)) many ∙ sym (from-deep m f.start (first_of (first_deep (m + 1) l) (first_deep (m + 1) s)) more)

steady-by : (b : Bool) (e : Phrase) (n : ℕ) → nat_le 200 n ≡ b → first_deep (min (n + 1) 200) e ≡ first_deep (n + 1) e
steady-by true e n is = let deep : 200 ≤ n = from-test 200 n is in same_deep e (min (n + 1) 200) (n + 1) (omega arith) (omega arith)
steady-by false e n is = ap (λ k. first_deep k e) (not_less n is)

steady : (e : Phrase) (n : ℕ) → first_deep (below_one_more n) e ≡ first_deep (n + 1) e
steady e n = steady-by (nat_le 200 n) e n refl

wrapped-within : (e : Phrase) (v : Option ℕ) (p : ℕ) (c : Standing) (first : Option ℕ)
    → within (λ n. first_deep n e) v (standing_within c) (parenthesis_noted c p first) ≡ within (λ n. first_deep (n + 1) e) (Some p) c first
wrapped-within e v p (S.Below n) first = ap (λ x. first_of x first) (steady e n)
wrapped-within e v p S.Deep first = refl
wrapped-within e v p S.Known first = refl

wrapped : (p : ℕ) (e : Phrase) (v : Option ℕ) → Reads 1 (emit e) (λ n. first_deep n e) v → Reads 1 (λ told. E.Parenthesized p ∷ emit e told) (λ n. first_deep (n + 1) e) (Some p)
wrapped p e v parts k c around first told =
    counted (E.Parenthesized p ∷ emit e told) first c around (k + 1) (suc k) (one-more k)
    ∙ parts 0 (standing_within c) (pushed k c around) (parenthesis_noted c p first) told
    ∙ ap (λ f. search told (at f (pushed k c around))) (wrapped-within e v p c first)

-- EACH PHRASE

one : (d : Phrase) → is_one d ≡ true → Reads (width d) (emit d) (λ n. first_deep n d) (begins d) → Reads 1 (emit d) (λ n. first_deep n d) (begins d)
one d is parts = subst (λ n. Reads n (emit d) (λ k. first_deep k d) (begins d)) (one-width d is) parts

read : (d : Phrase) (r : List Lexeme) → is_flat d ≡ true → IsMade d r → Reads (width d) (emit d) (λ n. first_deep n d) (begins d)
read Absent r flat m = reads-absent
read Nothing r flat m = reads-none
read (More l d) r flat m =
    let parts = and_parts (is_flat l) (is_one d) flat in
    reads-both (width l) 1 (emit l) (emit d) (λ n. first_deep n l) (λ n. first_deep n d) (begins l) (begins d) (read l (spell d r) parts.0 m.0) (one d parts.1 (read d r (one-flat d parts.1) m.1))
read (CommaMore l c d) r flat m =
    let parts = and_parts (is_flat l) (is_one d) flat in
    reads-both (width l) 1 (emit l) (emit d) (λ n. first_deep n l) (λ n. first_deep n d) (begins l) (begins d) (read l (c ∷ spell d r) parts.0 m.0) (one d parts.1 (read d r (one-flat d parts.1) m.2))
read (Trailing l c) r flat m = read l (c ∷ r) flat m.0
read (Single t) r flat m = own t.start (H.Single t) 0 (λ told. told) (λ n. None) None refl reads-none
read (Parenthesized o e c) r flat m =
    let e1 = holds-one 1 (omega arith) e m.1 in wrapped o.start e (begins e) (one e e1 (read e (c ∷ r) (one-flat e e1) m.2))
read (Finally w b) r flat m = let b1 = block-one b m.1 in one b b1 (read b r (one-flat b b1) m.2)
read (Array o l c) r flat m = own o.start H.Array (width l) (emit l) (λ n. first_deep n l) (begins l) refl (read l (c ∷ r) (elements-flat is_assigned (holds-one 2 (omega arith)) l m.1) m.2)
read (Object o l c) r flat m = own o.start H.Object (width l) (emit l) (λ n. first_deep n l) (begins l) refl (read l (c ∷ r) (elements-flat is_entry entry-one l m.1) m.2)
read (Entry k c e) r flat m = part k.start (H.Entry k) 1 (emit e) (λ n. first_deep n e) (begins e) refl (one e (holds-one 2 (omega arith) e m.2) (read e r (one-flat e (holds-one 2 (omega arith) e m.2)) m.3))
read (Member b p n) r flat m = front (place_of b) (H.Member n) 1 (emit b) (λ lev. first_deep lev b) (begins b) refl (begins_at b (p ∷ n ∷ r) m.1 (holds-some 17 b (omega arith) m.0)) (one b (holds-one 17 (omega arith) b m.0) (read b (p ∷ n ∷ r) (one-flat b (holds-one 17 (omega arith) b m.0)) m.1))
read (Index b o e c) r flat m = front (place_of b) H.Index (1 + 1) (λ told. emit e (emit b told)) (λ n. first_of (first_deep n b) (first_deep n e)) (first_of (begins b) (begins e)) refl (first_of-some (begins b) (place_of b) (begins e) (begins_at b (o ∷ spell e (c ∷ r)) m.1 (holds-some 17 b (omega arith) m.0))) (reads-both 1 1 (emit b) (emit e) (λ n. first_deep n b) (λ n. first_deep n e) (begins b) (begins e) (one b (holds-one 17 (omega arith) b m.0) (read b (o ∷ spell e (c ∷ r)) (one-flat b (holds-one 17 (omega arith) b m.0)) m.1)) (one e (holds-one 1 (omega arith) e m.3) (read e (c ∷ r) (one-flat e (holds-one 1 (omega arith) e m.3)) m.4)))
read (New w f) r flat m = own w.start H.New 1 (emit f) (λ n. first_deep n f) (begins f) refl (one f (constructed-one f m.1) (read f r (one-flat f (constructed-one f m.1)) m.2))
read (NewCall w f o l c) r flat m = own w.start H.New (1 + (width l)) (λ told. emit l (emit f told)) (λ n. first_of (first_deep n f) (first_deep n l)) (first_of (begins f) (begins l)) refl (reads-both 1 (width l) (emit f) (emit l) (λ n. first_deep n f) (λ n. first_deep n l) (begins f) (begins l) (one f (holds-one 18 (omega arith) f m.1) (read f (o ∷ spell l (c ∷ r)) (one-flat f (holds-one 18 (omega arith) f m.1)) m.2)) (read l (c ∷ r) (commas-flat is_assigned (holds-one 2 (omega arith)) l m.4) m.5))
read (Call f o l c) r flat m = front (place_of f) H.Call (1 + (width l)) (λ told. emit l (emit f told)) (λ n. first_of (first_deep n f) (first_deep n l)) (first_of (begins f) (begins l)) refl (first_of-some (begins f) (place_of f) (begins l) (begins_at f (o ∷ spell l (c ∷ r)) m.1 (holds-some 17 f (omega arith) m.0))) (reads-both 1 (width l) (emit f) (emit l) (λ n. first_deep n f) (λ n. first_deep n l) (begins f) (begins l) (one f (holds-one 17 (omega arith) f m.0) (read f (o ∷ spell l (c ∷ r)) (one-flat f (holds-one 17 (omega arith) f m.0)) m.1)) (read l (c ∷ r) (commas-flat is_assigned (holds-one 2 (omega arith)) l m.3) m.4))
read (Postfix e o) r flat m = front (place_of e) (H.Postfix o.word) 1 (emit e) (λ n. first_deep n e) (begins e) refl (begins_at e (o ∷ r) m.2 (holds-some 16 e (omega arith) m.0)) (one e (holds-one 16 (omega arith) e m.0) (read e (o ∷ r) (one-flat e (holds-one 16 (omega arith) e m.0)) m.2))
read (Prefix o e) r flat m = own o.start (H.Prefix o.word) 1 (emit e) (λ n. first_deep n e) (begins e) refl (one e (holds-one 14 (omega arith) e m.1) (read e r (one-flat e (holds-one 14 (omega arith) e m.1)) m.3))
read (Infix a o b) r flat m = front (place_of a) (H.Infix o.word) (1 + 1) (λ told. emit b (emit a told)) (λ n. first_of (first_deep n a) (first_deep n b)) (first_of (begins a) (begins b)) refl (first_of-some (begins a) (place_of a) (begins b) (begins_at a (o ∷ spell b r) m.3 (tighter (binds o.word) (level a) m.0 m.1))) (reads-both 1 1 (emit a) (emit b) (λ n. first_deep n a) (λ n. first_deep n b) (begins a) (begins b) (one a (level-one a (tighter (binds o.word) (level a) m.0 m.1)) (read a (o ∷ spell b r) (one-flat a (level-one a (tighter (binds o.word) (level a) m.0 m.1))) m.3)) (one b (level-one b (tighter (binds o.word) (level b) m.0 (looser (binds o.word) (level b) m.2))) (read b r (one-flat b (level-one b (tighter (binds o.word) (level b) m.0 (looser (binds o.word) (level b) m.2)))) m.4)))
read (Conditional a q b c d) r flat m = front (place_of a) H.Conditional (1 + (1 + 1)) (λ told. emit d (emit b (emit a told))) (λ n. first_of (first_deep n a) (first_of (first_deep n b) (first_deep n d))) (first_of (begins a) (first_of (begins b) (begins d))) refl (first_of-some (begins a) (place_of a) (first_of (begins b) (begins d)) (begins_at a (q ∷ spell b (c ∷ spell d r)) m.1 (holds-some 4 a (omega arith) m.0))) (reads-both 1 (1 + 1) (emit a) (λ told. emit d (emit b told)) (λ n. first_deep n a) (λ n. first_of (first_deep n b) (first_deep n d)) (begins a) (first_of (begins b) (begins d)) (one a (holds-one 4 (omega arith) a m.0) (read a (q ∷ spell b (c ∷ spell d r)) (one-flat a (holds-one 4 (omega arith) a m.0)) m.1)) (reads-both 1 1 (emit b) (emit d) (λ n. first_deep n b) (λ n. first_deep n d) (begins b) (begins d) (one b (holds-one 2 (omega arith) b m.3) (read b (c ∷ spell d r) (one-flat b (holds-one 2 (omega arith) b m.3)) m.4)) (one d (holds-one 2 (omega arith) d m.6) (read d r (one-flat d (holds-one 2 (omega arith) d m.6)) m.7))))
read (Assignment a o b) r flat m = front (place_of a) (H.Assignment o.word) (1 + 1) (λ told. emit b (emit a told)) (λ n. first_of (first_deep n a) (first_deep n b)) (first_of (begins a) (begins b)) refl (first_of-some (begins a) (place_of a) (begins b) (begins_at a (o ∷ spell b r) m.1 (target-some a (o ∷ spell b r) m.1 m.0))) (reads-both 1 1 (emit a) (emit b) (λ n. first_deep n a) (λ n. first_deep n b) (begins a) (begins b) (one a (target-one a m.0) (read a (o ∷ spell b r) (one-flat a (target-one a m.0)) m.1)) (one b (holds-one 2 (omega arith) b m.3) (read b r (one-flat b (holds-one 2 (omega arith) b m.3)) m.4)))
read (Block o l c) r flat m = own o.start H.Block (width l) (emit l) (λ n. first_deep n l) (begins l) refl (read l (c ∷ r) (list-flat is_statement statement-one l m.1) m.2)
read (Var v l z) r flat m = own v.start H.Var (width l) (emit l) (λ n. first_deep n l) (begins l) refl (read l (spell_ending z r) (comma_list-flat is_declarator declarator-one l m.1) m.2)
read (Declarator n) r flat m = part n.start (H.Declarator n) 0 (λ told. told) (λ lev. None) None refl reads-none
read (Initialised n q e) r flat m = part n.start (H.Declarator n) 1 (emit e) (λ lev. first_deep lev e) (begins e) refl (one e (holds-one 2 (omega arith) e m.2) (read e r (one-flat e (holds-one 2 (omega arith) e m.2)) m.3))
read (Empty t) r flat m = own t.start H.Empty 0 (λ told. told) (λ n. None) None refl reads-none
read (Expression e z) r flat m = front (place_of e) H.Expression 1 (emit e) (λ n. first_deep n e) (begins e) refl (begins_at e (spell_ending z r) m.2 (holds-some 1 e (omega arith) m.0)) (one e (holds-one 1 (omega arith) e m.0) (read e (spell_ending z r) (one-flat e (holds-one 1 (omega arith) e m.0)) m.2))
read (If i o e c s) r flat m = own i.start H.If (1 + 1) (λ told. emit s (emit e told)) (λ n. first_of (first_deep n e) (first_deep n s)) (first_of (begins e) (begins s)) refl (reads-both 1 1 (emit e) (emit s) (λ n. first_deep n e) (λ n. first_deep n s) (begins e) (begins s) (one e (holds-one 1 (omega arith) e m.2) (read e (c ∷ spell s r) (one-flat e (holds-one 1 (omega arith) e m.2)) m.3)) (one s (statement-one s m.5) (read s r (one-flat s (statement-one s m.5)) m.6)))
read (IfElse i o e c s l u) r flat m = own i.start H.If (1 + (1 + 1)) (λ told. emit u (emit s (emit e told))) (λ n. first_of (first_deep n e) (first_of (first_deep n s) (first_deep n u))) (first_of (begins e) (first_of (begins s) (begins u))) refl (reads-both 1 (1 + 1) (emit e) (λ told. emit u (emit s told)) (λ n. first_deep n e) (λ n. first_of (first_deep n s) (first_deep n u)) (begins e) (first_of (begins s) (begins u)) (one e (holds-one 1 (omega arith) e m.2) (read e (c ∷ spell s (l ∷ spell u r)) (one-flat e (holds-one 1 (omega arith) e m.2)) m.3)) (reads-both 1 1 (emit s) (emit u) (λ n. first_deep n s) (λ n. first_deep n u) (begins s) (begins u) (one s (statement-one s m.5) (read s (l ∷ spell u r) (one-flat s (statement-one s m.5)) m.6)) (one u (statement-one u m.8) (read u r (one-flat u (statement-one u m.8)) m.9))))
read (DoWhile d s w o e c z) r flat m = own d.start H.DoWhile (1 + 1) (λ told. emit e (emit s told)) (λ n. first_of (first_deep n s) (first_deep n e)) (first_of (begins s) (begins e)) refl (reads-both 1 1 (emit s) (emit e) (λ n. first_deep n s) (λ n. first_deep n e) (begins s) (begins e) (one s (statement-one s m.1) (read s (w ∷ o ∷ spell e (c ∷ spell_ending z r)) (one-flat s (statement-one s m.1)) m.2)) (one e (holds-one 1 (omega arith) e m.5) (read e (c ∷ spell_ending z r) (one-flat e (holds-one 1 (omega arith) e m.5)) m.6)))
read (While w o e c s) r flat m = own w.start H.While (1 + 1) (λ told. emit s (emit e told)) (λ n. first_of (first_deep n e) (first_deep n s)) (first_of (begins e) (begins s)) refl (reads-both 1 1 (emit e) (emit s) (λ n. first_deep n e) (λ n. first_deep n s) (begins e) (begins s) (one e (holds-one 1 (omega arith) e m.2) (read e (c ∷ spell s r) (one-flat e (holds-one 1 (omega arith) e m.2)) m.3)) (one s (statement-one s m.5) (read s r (one-flat s (statement-one s m.5)) m.6)))
read (For f o i p e q u c s) r flat m = own f.start H.For (1 + (1 + (1 + 1))) (λ told. emit s (emit u (emit e (emit i told)))) (λ n. first_of (first_deep n i) (first_of (first_deep n e) (first_of (first_deep n u) (first_deep n s)))) (first_of (begins i) (first_of (begins e) (first_of (begins u) (begins s)))) refl (reads-both 1 (1 + (1 + 1)) (emit i) (λ told. emit s (emit u (emit e told))) (λ n. first_deep n i) (λ n. first_of (first_deep n e) (first_of (first_deep n u) (first_deep n s))) (begins i) (first_of (begins e) (first_of (begins u) (begins s))) (one i (init-one i m.2) (read i (p ∷ spell e (q ∷ spell u (c ∷ spell s r))) (one-flat i (init-one i m.2)) m.4)) (reads-both 1 (1 + 1) (emit e) (λ told. emit s (emit u told)) (λ n. first_deep n e) (λ n. first_of (first_deep n u) (first_deep n s)) (begins e) (first_of (begins u) (begins s)) (one e (may_be_expression-one e m.6) (read e (q ∷ spell u (c ∷ spell s r)) (one-flat e (may_be_expression-one e m.6)) m.7)) (reads-both 1 1 (emit u) (emit s) (λ n. first_deep n u) (λ n. first_deep n s) (begins u) (begins s) (one u (may_be_expression-one u m.9) (read u (c ∷ spell s r) (one-flat u (may_be_expression-one u m.9)) m.10)) (one s (statement-one s m.12) (read s r (one-flat s (statement-one s m.12)) m.13)))))
read (Bindings v l) r flat m = part v.start H.Bindings (width l) (emit l) (λ n. first_deep n l) (begins l) refl (read l r (comma_list-flat is_declarator declarator-one l m.1) m.2)
read (Continue t z) r flat m = own t.start H.Continue 0 (λ told. told) (λ n. None) None refl reads-none
read (Break t z) r flat m = own t.start H.Break 0 (λ told. told) (λ n. None) None refl reads-none
read (Return t e z) r flat m = own t.start H.Return 1 (emit e) (λ n. first_deep n e) (begins e) refl (one e (may_be_expression-one e m.1) (read e (spell_ending z r) (one-flat e (may_be_expression-one e m.1)) m.3))
read (Switch s o e c b l d) r flat m = own s.start H.Switch (1 + (width l)) (λ told. emit l (emit e told)) (λ n. first_of (first_deep n e) (first_deep n l)) (first_of (begins e) (begins l)) refl (reads-both 1 (width l) (emit e) (emit l) (λ n. first_deep n e) (λ n. first_deep n l) (begins e) (begins l) (one e (holds-one 1 (omega arith) e m.2) (read e (c ∷ b ∷ spell l (d ∷ r)) (one-flat e (holds-one 1 (omega arith) e m.2)) m.3)) (read l (d ∷ r) (list-flat is_clause clause-one l m.6) m.8))
read (Case w e c l) r flat m = part w.start H.Case (1 + (width l)) (λ told. emit l (emit e told)) (λ n. first_of (first_deep n e) (first_deep n l)) (first_of (begins e) (begins l)) refl (reads-both 1 (width l) (emit e) (emit l) (λ n. first_deep n e) (λ n. first_deep n l) (begins e) (begins l) (one e (holds-one 1 (omega arith) e m.1) (read e (c ∷ spell l r) (one-flat e (holds-one 1 (omega arith) e m.1)) m.2)) (read l r (list-flat is_statement statement-one l m.4) m.5))
read (Default w c l) r flat m = part w.start H.Default (width l) (emit l) (λ n. first_deep n l) (begins l) refl (read l r (list-flat is_statement statement-one l m.2) m.3)
read (Throw t e z) r flat m = own t.start H.Throw 1 (emit e) (λ n. first_deep n e) (begins e) refl (one e (holds-one 1 (omega arith) e m.1) (read e (spell_ending z r) (one-flat e (holds-one 1 (omega arith) e m.1)) m.3))
read (Try t b h f) r flat m = own t.start H.Try (1 + (1 + 1)) (λ told. emit f (emit h (emit b told))) (λ n. first_of (first_deep n b) (first_of (first_deep n h) (first_deep n f))) (first_of (begins b) (first_of (begins h) (begins f))) refl (reads-both 1 (1 + 1) (emit b) (λ told. emit f (emit h told)) (λ n. first_deep n b) (λ n. first_of (first_deep n h) (first_deep n f)) (begins b) (first_of (begins h) (begins f)) (one b (block-one b m.1) (read b (spell h (spell f r)) (one-flat b (block-one b m.1)) m.2)) (reads-both 1 1 (emit h) (emit f) (λ n. first_deep n h) (λ n. first_deep n f) (begins h) (begins f) (one h (catch-one h m.3) (read h (spell f r) (one-flat h (catch-one h m.3)) m.4)) (one f (finally-one f m.5) (read f r (one-flat f (finally-one f m.5)) m.6))))
read (Catch w o n c b) r flat m = part w.start (H.Catch n) 1 (emit b) (λ lev. first_deep lev b) (begins b) refl (one b (block-one b m.4) (read b r (one-flat b (block-one b m.4)) m.5))
read (Function f n o l c b s d) r flat m = own f.start (H.Function (label n) (width l)) ((width l) + (width s)) (λ told. emit s (emit l told)) (λ lev. first_of (first_deep lev l) (first_deep lev s)) (first_of (begins l) (begins s)) refl (reads-both (width l) (width s) (emit l) (emit s) (λ lev. first_deep lev l) (λ lev. first_deep lev s) (begins l) (begins s) (read l (c ∷ b ∷ spell s (d ∷ r)) (commas-flat is_parameter parameter-one l m.4) m.5) (read s (d ∷ r) (list-flat is_element element-one s m.8) m.9))
read (Declaration f n o l c b s d) r flat m = own f.start (H.Declaration n (width l)) ((width l) + (width s)) (λ told. emit s (emit l told)) (λ lev. first_of (first_deep lev l) (first_deep lev s)) (first_of (begins l) (begins s)) refl (reads-both (width l) (width s) (emit l) (emit s) (λ lev. first_deep lev l) (λ lev. first_deep lev s) (begins l) (begins s) (read l (c ∷ b ∷ spell s (d ∷ r)) (commas-flat is_parameter parameter-one l m.3) m.4) (read s (d ∷ r) (list-flat is_element element-one s m.7) m.8))
read (Parameter n) r flat m = part n.start (H.Parameter n) 0 (λ told. told) (λ lev. None) None refl reads-none

-- A SCRIPT

first_of-none : (a : Option ℕ) → first_of a None ≡ a
first_of-none None = refl
first_of-none (Some p) = refl

-- any number of parts may stand in a script, which is one level
append-pushed : (k : ℕ) (c : Standing) (around below : List Around) → pushed k c (around ++ below) ≡ pushed k c around ++ below
append-pushed zero c around below = refl
append-pushed (suc k) c around below = refl

over-below : Search → List Around → Search
over-below s below = at s.first (s.around ++ below)

take-over : (c : Standing) (around below : List Around) (event : Event) (first : Option ℕ)
    → take_at c (around ++ below) event first ≡ at (take_at c around event first).first ((take_at c around event first).around ++ below)
take-over c around below E.Absent first = refl
take-over c around below (E.Parenthesized place) first = ap (at (parenthesis_noted c place first)) (append-pushed 1 (standing_within c) around below)
take-over c around below (E.Node place head count) first =
    ap (at (noted (is_deep c (is_part head)) place first)) (append-pushed count (standing_in (is_deep c (is_part head)) place c (is_part head)) around below)

grounded : (told : List Event) (first : Option ℕ) (around : List Around) (n : ℕ) → (search told (at first (around ++ pushed n (S.Below 1) []))).first ≡ (search told (at first around)).first
grounded [] first around n = refl
grounded (event ∷ told) first [] zero = refl
grounded (event ∷ told) first [] (suc n) =
    ap (λ s. (search told s).first) (take-over (S.Below 1) [] (pushed n (S.Below 1) []) event first)
    ∙ grounded told (take_at (S.Below 1) [] event first).first (take_at (S.Below 1) [] event first).around n
grounded (event ∷ told) first (a ∷ around) n =
    ap (λ r. (search told (take_at a.standing r event first)).first) (append-pushed a.more a.standing around (pushed n (S.Below 1) []))
    ∙ ap (λ s. (search told s).first) (take-over a.standing (pushed a.more a.standing around) (pushed n (S.Below 1) []) event first)
    ∙ grounded told (take_at a.standing (pushed a.more a.standing around) event first).first (take_at a.standing (pushed a.more a.standing around) event first).around n

-- the place that is found
pub found-first : (lexemes : List Lexeme) (body : Phrase) → IsScript lexemes body → found (emit body []) ≡ first_too_deep body
found-first lexemes body is =
    let flat = list-flat is_element element-one body is.list in
    sym (grounded (emit body []) None [] (width body))
    ∙ ap (λ s. s.first) (counted (emit body []) None (S.Below 1) [] (width body) (0 + width body) (zero-more (width body))
    ∙ read body (is.end ∷ []) flat is.made 0 (S.Below 1) [] None [])
    ∙ first_of-none (first_deep 1 body)

-- A NODE THAT IS TOO DEEP IS THERE

abbrev IsThere : Option ℕ → Type 0
IsThere (Some p) = Unit {0}
IsThere None = ⊥

there-first : (a b : Option ℕ) → IsThere a → IsThere (first_of a b)
there-first None b h = absurd h
there-first (Some p) b h = tt

there-second : (a b : Option ℕ) → IsThere b → IsThere (first_of a b)
there-second None b h = h
there-second (Some p) b h = tt

there-both : (n x y : ℕ) (a b : Option ℕ) → 200 < n + max x y → (200 < n + x → IsThere a) → (200 < n + y → IsThere b) → IsThere (first_of a b)
there-both n x y a b deep first second = by (nat_le y x) refl
  where
    by : (t : Bool) → nat_le y x ≡ t → IsThere (first_of a b)
    by true is = there-first a b (first (let less : y ≤ x = from-test y x is in omega arith))
    by false is = there-second a b (second (let less : x < y = not-test y x is in omega arith))

there-from : (n p : ℕ) (inner : Option ℕ) → (n < 200 → IsThere inner) → IsThere (from n p inner)
there-from n p inner below = by (nat_le 200 n) refl
  where
    by : (t : Bool) → nat_le 200 n ≡ t → IsThere (if t then Some p else inner)
    by true is = tt
    by false is = below (not-test 200 n is)

some-levels : (d : Phrase) → 0 < level d → 0 < levels d
some-levels (Single t) some = omega arith
some-levels (Array o l c) some = omega arith
some-levels (Object o l c) some = omega arith
some-levels (Parenthesized o e c) some = omega arith
some-levels (Function f x o l c b s d) some = omega arith
some-levels (New w f) some = omega arith
some-levels (NewCall w f o l c) some = omega arith
some-levels (Prefix o e) some = omega arith
some-levels (Member b p x) some = omega arith
some-levels (Index b o e c) some = omega arith
some-levels (Call f o l c) some = omega arith
some-levels (Postfix e o) some = omega arith
some-levels (Infix a o b) some = omega arith
some-levels (Conditional a q b c d) some = omega arith
some-levels (Assignment a o b) some = omega arith
some-levels d some = absurd (omega arith)

-- within parentheses
there-within : (e : Phrase) (n : ℕ) → n ≤ 200 → 0 < levels e → 200 < n + (1 + levels e) → ((k : ℕ) → k ≤ 200 → 200 < k + levels e → IsThere (first_deep k e)) → IsThere (first_deep (n + 1) e)
there-within e n few some deep go_on = by (nat_le 200 n) refl
  where
    by : (t : Bool) → nat_le 200 n ≡ t → IsThere (first_deep (n + 1) e)
    by true is = subst IsThere (same_deep e 200 (n + 1) (omega arith) (more-levels n (from-test 200 n is))) (go_on 200 (omega arith) (omega arith))
    by false is = let less : n < 200 = not-test 200 n is in go_on (n + 1) (omega arith) (omega arith)

there : (d : Phrase) (r : List Lexeme) (n : ℕ) → n ≤ 200 → IsMade d r → 200 < n + levels d → IsThere (first_deep n d)
there Absent r n few m deep = absurd (omega arith)
there Nothing r n few m deep = absurd (omega arith)
there (More l d) r n few m deep = there-both n (levels l) (levels d) (first_deep n l) (first_deep n d) deep (λ deeper. there l (spell d r) n few m.0 deeper) (λ deeper. there d r n few m.1 deeper)
there (CommaMore l c d) r n few m deep = there-both n (levels l) (levels d) (first_deep n l) (first_deep n d) deep (λ deeper. there l (c ∷ spell d r) n few m.0 deeper) (λ deeper. there d r n few m.2 deeper)
there (Trailing l c) r n few m deep = there l (c ∷ r) n few m.0 deep
there (Finally w b) r n few m deep = there b r n few m.2 deep
there (Parenthesized o e c) r n few m deep =
    there-within e n few (some-levels e (holds-some 1 e (omega arith) m.1)) deep (λ k less deeper. there e (c ∷ r) k less m.2 deeper)
there (Array o l c) r n few m deep = there-from n o.start (first_deep (n + 1) l) (λ less. there l (c ∷ r) (n + 1) (omega arith) m.2 (omega arith))
there (Object o l c) r n few m deep = there-from n o.start (first_deep (n + 1) l) (λ less. there l (c ∷ r) (n + 1) (omega arith) m.2 (omega arith))
there (Entry k c e) r n few m deep = there e r n few m.3 deep
there (Member b p x) r n few m deep = there-from n (place_of b) (first_deep (n + 1) b) (λ less. there b (p ∷ x ∷ r) (n + 1) (omega arith) m.1 (omega arith))
there (Index b o e c) r n few m deep = there-from n (place_of b) (first_of (first_deep (n + 1) b) (first_deep (n + 1) e)) (λ less. there-both (n + 1) (levels b) (levels e) (first_deep (n + 1) b) (first_deep (n + 1) e) (omega arith) (λ deeper. there b (o ∷ spell e (c ∷ r)) (n + 1) (omega arith) m.1 deeper) (λ deeper. there e (c ∷ r) (n + 1) (omega arith) m.4 deeper))
there (New w f) r n few m deep = there-from n w.start (first_deep (n + 1) f) (λ less. there f r (n + 1) (omega arith) m.2 (omega arith))
there (NewCall w f o l c) r n few m deep = there-from n w.start (first_of (first_deep (n + 1) f) (first_deep (n + 1) l)) (λ less. there-both (n + 1) (levels f) (levels l) (first_deep (n + 1) f) (first_deep (n + 1) l) (omega arith) (λ deeper. there f (o ∷ spell l (c ∷ r)) (n + 1) (omega arith) m.2 deeper) (λ deeper. there l (c ∷ r) (n + 1) (omega arith) m.5 deeper))
there (Call f o l c) r n few m deep = there-from n (place_of f) (first_of (first_deep (n + 1) f) (first_deep (n + 1) l)) (λ less. there-both (n + 1) (levels f) (levels l) (first_deep (n + 1) f) (first_deep (n + 1) l) (omega arith) (λ deeper. there f (o ∷ spell l (c ∷ r)) (n + 1) (omega arith) m.1 deeper) (λ deeper. there l (c ∷ r) (n + 1) (omega arith) m.4 deeper))
there (Postfix e o) r n few m deep = there-from n (place_of e) (first_deep (n + 1) e) (λ less. there e (o ∷ r) (n + 1) (omega arith) m.2 (omega arith))
there (Prefix o e) r n few m deep = there-from n o.start (first_deep (n + 1) e) (λ less. there e r (n + 1) (omega arith) m.3 (omega arith))
there (Infix a o b) r n few m deep = there-from n (place_of a) (first_of (first_deep (n + 1) a) (first_deep (n + 1) b)) (λ less. there-both (n + 1) (levels a) (levels b) (first_deep (n + 1) a) (first_deep (n + 1) b) (omega arith) (λ deeper. there a (o ∷ spell b r) (n + 1) (omega arith) m.3 deeper) (λ deeper. there b r (n + 1) (omega arith) m.4 deeper))
there (Conditional a q b c d) r n few m deep = there-from n (place_of a) (first_of (first_deep (n + 1) a) (first_of (first_deep (n + 1) b) (first_deep (n + 1) d))) (λ less. there-both (n + 1) (levels a) (max (levels b) (levels d)) (first_deep (n + 1) a) (first_of (first_deep (n + 1) b) (first_deep (n + 1) d)) (omega arith) (λ deeper. there a (q ∷ spell b (c ∷ spell d r)) (n + 1) (omega arith) m.1 deeper) (λ deeper. there-both (n + 1) (levels b) (levels d) (first_deep (n + 1) b) (first_deep (n + 1) d) deeper (λ deeper. there b (c ∷ spell d r) (n + 1) (omega arith) m.4 deeper) (λ deeper. there d r (n + 1) (omega arith) m.7 deeper)))
there (Assignment a o b) r n few m deep = there-from n (place_of a) (first_of (first_deep (n + 1) a) (first_deep (n + 1) b)) (λ less. there-both (n + 1) (levels a) (levels b) (first_deep (n + 1) a) (first_deep (n + 1) b) (omega arith) (λ deeper. there a (o ∷ spell b r) (n + 1) (omega arith) m.1 deeper) (λ deeper. there b r (n + 1) (omega arith) m.4 deeper))
there (Block o l c) r n few m deep = there-from n o.start (first_deep (n + 1) l) (λ less. there l (c ∷ r) (n + 1) (omega arith) m.2 (omega arith))
there (Var v l z) r n few m deep = there-from n v.start (first_deep (n + 1) l) (λ less. there l (spell_ending z r) (n + 1) (omega arith) m.2 (omega arith))
there (Declarator x) r n few m deep = absurd (omega arith)
there (Initialised x q e) r n few m deep = there e r n few m.3 deep
there (Empty t) r n few m deep = there-from n t.start None (λ less. absurd (omega arith))
there (Expression e z) r n few m deep = there-from n (place_of e) (first_deep (n + 1) e) (λ less. there e (spell_ending z r) (n + 1) (omega arith) m.2 (omega arith))
there (If i o e c s) r n few m deep = there-from n i.start (first_of (first_deep (n + 1) e) (first_deep (n + 1) s)) (λ less. there-both (n + 1) (levels e) (levels s) (first_deep (n + 1) e) (first_deep (n + 1) s) (omega arith) (λ deeper. there e (c ∷ spell s r) (n + 1) (omega arith) m.3 deeper) (λ deeper. there s r (n + 1) (omega arith) m.6 deeper))
there (IfElse i o e c s l u) r n few m deep = there-from n i.start (first_of (first_deep (n + 1) e) (first_of (first_deep (n + 1) s) (first_deep (n + 1) u))) (λ less. there-both (n + 1) (levels e) (max (levels s) (levels u)) (first_deep (n + 1) e) (first_of (first_deep (n + 1) s) (first_deep (n + 1) u)) (omega arith) (λ deeper. there e (c ∷ spell s (l ∷ spell u r)) (n + 1) (omega arith) m.3 deeper) (λ deeper. there-both (n + 1) (levels s) (levels u) (first_deep (n + 1) s) (first_deep (n + 1) u) deeper (λ deeper. there s (l ∷ spell u r) (n + 1) (omega arith) m.6 deeper) (λ deeper. there u r (n + 1) (omega arith) m.9 deeper)))
there (DoWhile d s w o e c z) r n few m deep = there-from n d.start (first_of (first_deep (n + 1) s) (first_deep (n + 1) e)) (λ less. there-both (n + 1) (levels s) (levels e) (first_deep (n + 1) s) (first_deep (n + 1) e) (omega arith) (λ deeper. there s (w ∷ o ∷ spell e (c ∷ spell_ending z r)) (n + 1) (omega arith) m.2 deeper) (λ deeper. there e (c ∷ spell_ending z r) (n + 1) (omega arith) m.6 deeper))
there (While w o e c s) r n few m deep = there-from n w.start (first_of (first_deep (n + 1) e) (first_deep (n + 1) s)) (λ less. there-both (n + 1) (levels e) (levels s) (first_deep (n + 1) e) (first_deep (n + 1) s) (omega arith) (λ deeper. there e (c ∷ spell s r) (n + 1) (omega arith) m.3 deeper) (λ deeper. there s r (n + 1) (omega arith) m.6 deeper))
there (For f o i p e q u c s) r n few m deep = there-from n f.start (first_of (first_deep (n + 1) i) (first_of (first_deep (n + 1) e) (first_of (first_deep (n + 1) u) (first_deep (n + 1) s)))) (λ less. there-both (n + 1) (levels i) (max (levels e) (max (levels u) (levels s))) (first_deep (n + 1) i) (first_of (first_deep (n + 1) e) (first_of (first_deep (n + 1) u) (first_deep (n + 1) s))) (omega arith) (λ deeper. there i (p ∷ spell e (q ∷ spell u (c ∷ spell s r))) (n + 1) (omega arith) m.4 deeper) (λ deeper. there-both (n + 1) (levels e) (max (levels u) (levels s)) (first_deep (n + 1) e) (first_of (first_deep (n + 1) u) (first_deep (n + 1) s)) deeper (λ deeper. there e (q ∷ spell u (c ∷ spell s r)) (n + 1) (omega arith) m.7 deeper) (λ deeper. there-both (n + 1) (levels u) (levels s) (first_deep (n + 1) u) (first_deep (n + 1) s) deeper (λ deeper. there u (c ∷ spell s r) (n + 1) (omega arith) m.10 deeper) (λ deeper. there s r (n + 1) (omega arith) m.13 deeper))))
there (Bindings v l) r n few m deep = there l r n few m.2 deep
there (Continue t z) r n few m deep = there-from n t.start None (λ less. absurd (omega arith))
there (Break t z) r n few m deep = there-from n t.start None (λ less. absurd (omega arith))
there (Return t e z) r n few m deep = there-from n t.start (first_deep (n + 1) e) (λ less. there e (spell_ending z r) (n + 1) (omega arith) m.3 (omega arith))
there (Switch s o e c b l d) r n few m deep = there-from n s.start (first_of (first_deep (n + 1) e) (first_deep (n + 1) l)) (λ less. there-both (n + 1) (levels e) (levels l) (first_deep (n + 1) e) (first_deep (n + 1) l) (omega arith) (λ deeper. there e (c ∷ b ∷ spell l (d ∷ r)) (n + 1) (omega arith) m.3 deeper) (λ deeper. there l (d ∷ r) (n + 1) (omega arith) m.8 deeper))
there (Case w e c l) r n few m deep = there-both n (levels e) (levels l) (first_deep n e) (first_deep n l) deep (λ deeper. there e (c ∷ spell l r) n few m.2 deeper) (λ deeper. there l r n few m.5 deeper)
there (Default w c l) r n few m deep = there l r n few m.3 deep
there (Throw t e z) r n few m deep = there-from n t.start (first_deep (n + 1) e) (λ less. there e (spell_ending z r) (n + 1) (omega arith) m.3 (omega arith))
there (Try t b h f) r n few m deep = there-from n t.start (first_of (first_deep (n + 1) b) (first_of (first_deep (n + 1) h) (first_deep (n + 1) f))) (λ less. there-both (n + 1) (levels b) (max (levels h) (levels f)) (first_deep (n + 1) b) (first_of (first_deep (n + 1) h) (first_deep (n + 1) f)) (omega arith) (λ deeper. there b (spell h (spell f r)) (n + 1) (omega arith) m.2 deeper) (λ deeper. there-both (n + 1) (levels h) (levels f) (first_deep (n + 1) h) (first_deep (n + 1) f) deeper (λ deeper. there h (spell f r) (n + 1) (omega arith) m.4 deeper) (λ deeper. there f r (n + 1) (omega arith) m.6 deeper)))
there (Catch w o x c b) r n few m deep = there b r n few m.5 deep
there (Function f x o l c b s d) r n few m deep = there-from n f.start (first_of (first_deep (n + 1) l) (first_deep (n + 1) s)) (λ less. there-second (first_deep (n + 1) l) (first_deep (n + 1) s) (there s (d ∷ r) (n + 1) (omega arith) m.9 (omega arith)))
there (Declaration f x o l c b s d) r n few m deep = there-from n f.start (first_of (first_deep (n + 1) l) (first_deep (n + 1) s)) (λ less. there-second (first_deep (n + 1) l) (first_deep (n + 1) s) (there s (d ∷ r) (n + 1) (omega arith) m.8 (omega arith)))
there (Parameter x) r n few m deep = absurd (omega arith)
there (Single t) r n few m deep = there-from n t.start None (λ less. absurd (omega arith))

-- a script that is too deep has such a node
some-place : (a : Option ℕ) → IsThere a → (p : ℕ) × (a ≡ Some p)
some-place None h = absurd h
some-place (Some p) h = (p, refl)

pub found-there : (lexemes : List Lexeme) (body : Phrase) → IsScript lexemes body → 200 < depth body → (p : ℕ) × (first_too_deep body ≡ Some p)
found-there lexemes body is deep = some-place (first_too_deep body) (there body (is.end ∷ []) 1 (omega arith) is.made deep)

-- the place that is answered
pub place-is : (lexemes : List Lexeme) (body : Phrase) (told : List Event) (place : Option ℕ) (result : ℕ) → IsScript lexemes body → 200 < depth body → told ≡ emit body [] → place ≡ found told
    → result ≡ unwrap_or place 0 → IsTooDeepAt body result
place-is lexemes body told place result is deep same found-is unwrapped =
    let p = found-there lexemes body is deep in
    let at-place : place ≡ Some p.0 = found-is ∙ ap found same ∙ found-first lexemes body is ∙ p.1 in
    (deep, p.1 ∙ ap Some (sym (unwrapped ∙ ap (λ (x : Option ℕ). unwrap_or x 0) at-place)))
