-- What comes of what is told of parts, and of a node over them: never nothing.
use Rattle.std.proofs.Common.{◌≡◌, ℕ, ◌+◌, ◌<◌, ◌≤◌, List, [], ◌∷◌, ◌++◌, length, Option, Some, None, refl, ap, arith, length-append}
use Rattle.std.specs.Prelude.{max}
use Rattle.rip_lexer.specs.declared.token.Token.{Token}
use Rattle.rip_tree.specs.declared.form.Form.{Form}
use Rattle.rip_tree.specs.Branches.{Plant}
use Rattle.rip_grammar.specs.declared.event.Head.{Head}
use Rattle.rip_grammar.specs.declared.event.Event.{Event}
use Rattle.rip_grammar.specs.declared.event.Event.TheVariants as E
use Rattle.rip_parser.specs.declared.part.Part.{Part}
use Rattle.rip_parser.specs.Shows.{Row, Shown, IsNode, IsLeaf, IsAbsent, Then}
use Rattle.rip_parser.specs.Building.{State, IsFormOf, HasForm, Comes, place_over, is_part}
use Rattle.rip_parser.proofs.Courses.{Builds}
use Rattle.rip_parser.proofs.Made.{After, Anywhere, over, after-none, after-both, after-node, after-absent, after-wrapped}

-- parts were put behind those of a state, if there was one
abbrev pub Comes-after : (Plant → Shown) → ℕ → ℕ → (ℕ → Type 0) → Option State → Option State → Type 0
Comes-after P count depth At None after = after ≡ None
Comes-after P count depth At (Some s) None = ⊥
Comes-after P count depth At (Some s) (Some t) = After P count depth At s t

comes-both : (P Q : Plant → Shown) (m n a b : ℕ) (At Bt Ct : ℕ → Type 0) (x y z : Option State) → Comes-after P m a At x y → Comes-after Q n b Bt y z
    → ((ps qs : List Part) → length ps ≡ m → At (place_over None ps) → Ct (place_over None (ps ++ qs)))
    → Comes-after (λ tree. Then (P tree) (Q tree)) (m + n) (max a b) Ct x z
comes-both P Q m n a b At Bt Ct None None z p q at = q
comes-both P Q m n a b At Bt Ct None (Some t) z p q at = cc
comes-both P Q m n a b At Bt Ct (Some s) None z p q at = absurd p
comes-both P Q m n a b At Bt Ct (Some s) (Some t) None p q at = q
comes-both P Q m n a b At Bt Ct (Some s) (Some t) (Some u) p q at = after-both P Q m n a b At Bt Ct s t u p q at

module _ (script : List ℕ) (tokens : List Token) (total : ℕ) where
  comes-node : (P Q : Plant → Shown) (place : Option ℕ) (here : ℕ) (head : Head) (n d : ℕ) (At : ℕ → Type 0) (x y z : Option State) → Comes-after P n d At x y → Comes script tokens (E.Node place head n) y z → HasForm script tokens head
      → ((parts : List Part) → At (place_over None parts) → place_over place parts ≡ here)
      → ((tree : Plant) (form : Form) (row : Row) (high low : ℕ) → IsFormOf script tree.units head form → IsNode tree here form (P tree) row high low → Q tree row high low)
      → Comes-after Q 1 (over (is_part head) d) (λ p. p ≡ here) x z
  comes-node P Q place here head n d At None None z p c form at shown = c
  comes-node P Q place here head n d At None (Some t) z p c form at shown = cc
  comes-node P Q place here head n d At (Some s) None z p c form at shown = absurd p
  comes-node P Q place here head n d At (Some s) (Some t) None p c form at shown =
      let enough : n ≤ length t.parts = omega (arith, ap length p.parts-is, length-append s.parts p.parts, p.count-is) in
      c (enough, form)
  comes-node P Q place here head n d At (Some s) (Some t) (Some u) p c form at shown = after-node script P Q place here head n d At s t u p c at shown

  comes-absent : (x z : Option State) → Comes script tokens E.Absent x z → Comes-after (λ tree. IsAbsent) 1 0 Anywhere x z
  comes-absent None z c = c
  comes-absent (Some s) None c = c tt
  comes-absent (Some s) (Some t) c = after-absent s t c

  comes-wrapped : (P : Plant → Shown) (d place : ℕ) (At : ℕ → Type 0) (x y z : Option State) → Comes-after P 1 d At x y → Comes script tokens (E.Parenthesized place) y z → Comes-after P 1 (1 + d) (λ p. p ≡ place) x z
  comes-wrapped P d place At None None z p c = c
  comes-wrapped P d place At None (Some t) z p c = cc
  comes-wrapped P d place At (Some s) None z p c = absurd p
  comes-wrapped P d place At (Some s) (Some t) None p c =
      let some : 0 < length t.parts = omega (arith, ap length p.parts-is, length-append s.parts p.parts, p.count-is) in
      c some
  comes-wrapped P d place At (Some s) (Some t) (Some u) p c = after-wrapped P d place At s t u p c

  -- what was told before led to a state, and parts were put behind those of it
  abbrev pub Told : (Plant → Shown) → ℕ → ℕ → (ℕ → Type 0) → List Event → Option State → Type 0
  Told P count depth At told after = (before : Option State) × Builds script tokens total told before × Comes-after P count depth At before after

  pub told-none : (told : List Event) (after : Option State) → Builds script tokens total told after → Told (λ tree. IsLeaf) 0 0 Anywhere told after
  told-none told None b = (None, b, refl)
  told-none told (Some s) b = (Some s, b, after-none s)

  pub told-absent : (told : List Event) (after : Option State) → Builds script tokens total (E.Absent ∷ told) after → Told (λ tree. IsAbsent) 1 0 Anywhere told after
  told-absent told after b = (b.0, b.1, comes-absent b.0 after b.2)

  -- parts, and then parts; those behind are known first
  pub told-both : (P Q : Plant → Shown) (m n a b : ℕ) (At Bt Ct : ℕ → Type 0) (told between : List Event) (after : Option State)
      → ((ps qs : List Part) → length ps ≡ m → At (place_over None ps) → Ct (place_over None (ps ++ qs)))
      → (q : Told Q n b Bt between after) → Told P m a At told q.0
      → Told (λ tree. Then (P tree) (Q tree)) (m + n) (max a b) Ct told after
  told-both P Q m n a b At Bt Ct told between after at q p = (p.0, p.1, comes-both P Q m n a b At Bt Ct p.0 q.0 after p.2 q.2 at)

  pub told-node : (P Q : Plant → Shown) (place : Option ℕ) (here : ℕ) (head : Head) (n d : ℕ) (At : ℕ → Type 0) (told parts : List Event) (after : Option State) → HasForm script tokens head
      → ((parts : List Part) → At (place_over None parts) → place_over place parts ≡ here)
      → ((tree : Plant) (form : Form) (row : Row) (high low : ℕ) → IsFormOf script tree.units head form → IsNode tree here form (P tree) row high low → Q tree row high low)
      → (b : Builds script tokens total (E.Node place head n ∷ parts) after) → Told P n d At told b.0
      → Told Q 1 (over (is_part head) d) (λ p. p ≡ here) told after
  told-node P Q place here head n d At told parts after form at shown b p = (p.0, p.1, comes-node P Q place here head n d At p.0 b.0 after p.2 b.2 form at shown)

  pub told-wrapped : (P : Plant → Shown) (d place : ℕ) (At : ℕ → Type 0) (told parts : List Event) (after : Option State)
      → (b : Builds script tokens total (E.Parenthesized place ∷ parts) after) → Told P 1 d At told b.0
      → Told P 1 (1 + d) (λ p. p ≡ place) told after
  told-wrapped P d place At told parts after b p = (p.0, p.1, comes-wrapped P d place At p.0 b.0 after p.2 b.2)

  comes-at : (P : Plant → Shown) (n d : ℕ) (At Bt : ℕ → Type 0) (x y : Option State) → ((p : ℕ) → At p → Bt p) → Comes-after P n d At x y → Comes-after P n d Bt x y
  comes-at P n d At Bt None y at c = c
  comes-at P n d At Bt (Some s) None at c = c
  comes-at P n d At Bt (Some s) (Some t) at c = record { parts = c.parts; parts-is = c.parts-is; count-is = c.count-is; depth-is = c.depth-is; at = at (place_over None c.parts) c.at; back = c.back; shows = c.shows }

  -- the same, where less is asked of the place
  pub told-at : (P : Plant → Shown) (n d : ℕ) (At Bt : ℕ → Type 0) (told : List Event) (after : Option State) → ((p : ℕ) → At p → Bt p) → Told P n d At told after → Told P n d Bt told after
  told-at P n d At Bt told after at t = (t.0, t.1, comes-at P n d At Bt t.0 after at t.2)
