-- What is made of parts that were told one behind the other, and of a node over them.
use Rattle.std.proofs.Common.{◌≡◌, ℕ, suc, ◌+◌, ◌-◌, Bool, true, false, List, [], ◌∷◌, ◌++◌, length, take, drop, Option, Some, None, refl, sym, ap, ◌∙◌, subst, arith, append_assoc, append-nil, length-append}
use Rattle.std.specs.Prelude.{max}
use Rattle.std.proofs.Math.Seq.{drop-append_seam, take-append_seam}
use Rattle.rip_tree.specs.declared.node.Node.{Node}
use Rattle.rip_tree.specs.declared.form.Form.{Form}
use Rattle.rip_tree.specs.Branches.{Branch, Plant, branch_of}
use Rattle.rip_tree.specs.Making.{Growth, with_branch, with_units}
use Rattle.rip_grammar.specs.declared.event.Head.{Head}
use Rattle.rip_parser.specs.declared.part.Part.{Part}
use Rattle.rip_parser.specs.Shows.{Row, Shown, IsNode, IsLeaf, IsAbsent, Then}
use Rattle.rip_parser.specs.Building.{State, numbers, greatest, deeper, is_part, levels_over, place_over, last_parts, other_parts, part_of, wrapped, absent, Makes, Wraps, IsFormOf}
use Rattle.rip_parser.proofs.Courses.{capped}
use Rattle.rip_parser.proofs.Parts.{numbers-append}

-- the tree has these branches as its last ones, and its units begin with these
pub record Extends (growth : Growth) (tree : Plant) : Type 0 where
  pub front : List Branch
  pub branches-is : tree.branches ≡ front ++ growth.branches
  pub long : length tree.branches ≡ growth.total
  pub more : List ℕ
  pub units-is : tree.units ≡ growth.units ++ more

-- the number behind which the next nodes are made
abbrev pub left : State → ℕ
left s = s.growth.total - length s.growth.branches

-- parts were put behind those of a state: so many, of this depth, which begin at such a place and show such a row
pub record After (P : Plant → Shown) (count depth : ℕ) (At : ℕ → Type 0) (s t : State) : Type 0 where
  pub parts : List Part
  pub parts-is : t.parts ≡ s.parts ++ parts
  pub count-is : length parts ≡ count
  pub depth-is : greatest parts ≡ capped depth
  pub at : At (place_over None parts)
  pub back : (tree : Plant) → Extends t.growth tree → Extends s.growth tree
  pub shows : (tree : Plant) → Extends t.growth tree → P tree (numbers parts) (left s) (left t)

-- anywhere
abbrev pub Anywhere : ℕ → Type 0
Anywhere place = Unit {0}

pub after-none : (s : State) → After (λ tree. IsLeaf) 0 0 Anywhere s s
after-none s = record { parts = []; parts-is = sym (append-nil s.parts); count-is = refl; depth-is = refl; at = tt; back = λ tree extends. extends; shows = λ tree extends. (refl, refl) }

greatest-append : (ps qs : List Part) → greatest (ps ++ qs) ≡ max (greatest ps) (greatest qs)
greatest-append [] qs = omega arith
greatest-append (p ∷ ps) qs = ap (λ n. max p.levels n) (greatest-append ps qs) ∙ omega arith

capped-max : (a b : ℕ) → max (capped a) (capped b) ≡ capped (max a b)
capped-max a b = omega arith

-- parts, and then parts
pub after-both : (P Q : Plant → Shown) (m n a b : ℕ) (At Bt Ct : ℕ → Type 0) (s t u : State) → After P m a At s t → After Q n b Bt t u
    → ((ps qs : List Part) → length ps ≡ m → At (place_over None ps) → Ct (place_over None (ps ++ qs)))
    → After (λ tree. Then (P tree) (Q tree)) (m + n) (max a b) Ct s u
after-both P Q m n a b At Bt Ct s t u p q at = record {
  parts = p.parts ++ q.parts;
  parts-is = q.parts-is ∙ ap (λ x. x ++ q.parts) p.parts-is ∙ append_assoc s.parts p.parts q.parts;
  count-is = length-append p.parts q.parts ∙ ap (λ k. k + length q.parts) p.count-is ∙ ap (λ k. m + k) q.count-is;
  depth-is = greatest-append p.parts q.parts ∙ ap (λ k. max k (greatest q.parts)) p.depth-is ∙ ap (λ k. max (capped a) k) q.depth-is ∙ capped-max a b;
  at = at p.parts q.parts p.count-is p.at;
  back = λ tree extends. p.back tree (q.back tree extends);
  shows = λ tree extends. (numbers p.parts, numbers q.parts, left t, numbers-append p.parts q.parts, p.shows tree (q.back tree extends), q.shows tree extends);
}

-- the last of parts, and the others
pub last_parts-append : (ps qs : List Part) (n : ℕ) → length qs ≡ n → last_parts n (ps ++ qs) ≡ qs
last_parts-append ps qs n long =
    let rest : length (ps ++ qs) - n ≡ length ps = omega (arith, length-append ps qs) in
    ap (λ k. drop k (ps ++ qs)) rest ∙ drop-append_seam ps qs

pub other_parts-append : (ps qs : List Part) (n : ℕ) → length qs ≡ n → other_parts n (ps ++ qs) ≡ ps
other_parts-append ps qs n long =
    let rest : length (ps ++ qs) - n ≡ length ps = omega (arith, length-append ps qs) in
    ap (λ k. take k (ps ++ qs)) rest ∙ take-append_seam ps qs

-- the branch behind others, by its number
branch_of-seam : (front bs : List Branch) (b : Branch) → branch_of (front ++ b ∷ bs) (length front) ≡ Some b
branch_of-seam [] bs b = refl
branch_of-seam (f ∷ front) bs b = branch_of-seam front bs b

branch_of-behind : (front bs : List Branch) (b : Branch) (total : ℕ) → length (front ++ b ∷ bs) ≡ total → branch_of (front ++ b ∷ bs) (total - (length bs + 1)) ≡ Some b
branch_of-behind front bs b total long =
    let id : total - (length bs + 1) ≡ length front = omega (arith, length-append front (b ∷ bs)) in
    ap (λ k. branch_of (front ++ b ∷ bs) k) id ∙ branch_of-seam front bs b

-- the depth of a node over parts
abbrev pub over : Bool → ℕ → ℕ
over true depth = depth
over false depth = 1 + depth

levels_over-capped : (b : Bool) (parts : List Part) (depth : ℕ) → greatest parts ≡ capped depth → levels_over b parts ≡ capped (over b depth)
levels_over-capped true parts depth is = is
levels_over-capped false parts depth is = ap deeper is ∙ omega arith

-- a node over parts
pub after-node : (script : List ℕ) (P Q : Plant → Shown) (place : Option ℕ) (here : ℕ) (head : Head) (n d : ℕ) (At : ℕ → Type 0) (s t u : State) → After P n d At s t → Makes script place head n t u
    → ((parts : List Part) → At (place_over None parts) → place_over place parts ≡ here)
    → ((tree : Plant) (form : Form) (row : Row) (high low : ℕ) → IsFormOf script tree.units head form → IsNode tree here form (P tree) row high low → Q tree row high low)
    → After Q 1 (over (is_part head) d) (λ p. p ≡ here) s u
after-node script P Q place here head n d At s t u p m at shown =
    let last : last_parts n t.parts ≡ p.parts = ap (last_parts n) p.parts-is ∙ last_parts-append s.parts p.parts n p.count-is in
    let other : other_parts n t.parts ≡ s.parts = ap (other_parts n) p.parts-is ∙ other_parts-append s.parts p.parts n p.count-is in
    let part : Part = part_of t.growth place head p.parts in
    let node : ℕ → Node = λ at. record { place = at; form = m.form } in
    let branch : Branch = record { node = node here; children = numbers p.parts } in
    let begins : place_over place p.parts ≡ here = at p.parts p.at in
    let grown : u.growth ≡ with_branch (with_units t.growth m.units) (node here) (numbers p.parts) =
    m.growth ∙ ap (λ ps. with_branch (with_units t.growth m.units) (node (place_over place ps)) (numbers ps)) last
    ∙ ap (λ k. with_branch (with_units t.growth m.units) (node k) (numbers p.parts)) begins in
    let branches : u.growth.branches ≡ branch ∷ t.growth.branches = ap (λ (g : Growth). g.branches) grown in
    let units : u.growth.units ≡ t.growth.units ++ m.units = ap (λ (g : Growth). g.units) grown in
    let total : u.growth.total ≡ t.growth.total = ap (λ (g : Growth). g.total) grown in
    let below : (tree : Plant) → Extends u.growth tree → Extends t.growth tree = λ tree extends. record {
      front = extends.front ++ branch ∷ [];
      branches-is = extends.branches-is ∙ ap (λ bs. extends.front ++ bs) branches ∙ sym (append_assoc extends.front (branch ∷ []) t.growth.branches);
      long = extends.long ∙ total;
      more = m.units ++ extends.more;
      units-is = extends.units-is ∙ ap (λ us. us ++ extends.more) units ∙ append_assoc t.growth.units m.units extends.more;
    } in
    record {
      parts = part ∷ [];
      parts-is = m.parts ∙ ap (λ ps. ps ++ part_of t.growth place head (last_parts n t.parts) ∷ []) other ∙ ap (λ ps. s.parts ++ part_of t.growth place head ps ∷ []) last;
      count-is = refl;
      depth-is = max-zero part.levels ∙ levels_over-capped (is_part head) p.parts d p.depth-is;
      at = begins;
      back = λ tree extends. p.back tree (below tree extends);
      shows = λ tree extends.
          let all : tree.branches ≡ extends.front ++ branch ∷ t.growth.branches = extends.branches-is ∙ ap (λ bs. extends.front ++ bs) branches in
          let id = t.growth.total - (length t.growth.branches + 1) in
          let found : branch_of tree.branches id ≡ Some branch =
          ap (λ bs. branch_of bs id) all ∙ branch_of-behind extends.front t.growth.branches branch t.growth.total (sym (ap length all) ∙ extends.long ∙ total) in
          let many : length extends.front + suc (length t.growth.branches) ≡ t.growth.total =
          sym (length-append extends.front (branch ∷ t.growth.branches)) ∙ sym (ap length all) ∙ extends.long ∙ total in
          let above : left t ≡ id + 1 = omega arith in
          let lowest : left u ≡ id = omega (arith, ap length branches, total) in
          subst (λ k. Q tree (Some id ∷ []) (left s) k) (sym lowest)
          (shown tree m.form (Some id ∷ []) (left s) id
          (subst (λ us. IsFormOf script us head m.form) (sym (extends.units-is ∙ ap (λ us. us ++ extends.more) units)) (m.is_form extends.more))
          (numbers p.parts, refl, found, subst (λ k. P tree (numbers p.parts) (left s) k) above (p.shows tree (below tree extends))));
    }
  where
    max-zero : (k : ℕ) → max k 0 ≡ k
    max-zero k = omega arith

-- a part that is not there
pub after-absent : (s t : State) → t ≡ record s { parts = s.parts ++ absent ∷ [] } → After (λ tree. IsAbsent) 1 0 Anywhere s t
after-absent s t is = record {
  parts = absent ∷ [];
  parts-is = ap (λ (x : State). x.parts) is;
  count-is = refl;
  depth-is = refl;
  at = tt;
  back = λ tree extends. subst (λ (g : Growth). Extends g tree) (ap (λ (x : State). x.growth) is) extends;
  shows = λ tree extends. (refl, ap (λ (g : Growth). g.total - length g.branches) (sym (ap (λ (x : State). x.growth) is)));
}

-- one part alone
pub only : (ps : List Part) → length ps ≡ 1 → (p : Part) × (ps ≡ p ∷ [])
only [] one = absurd (omega arith)
only (p ∷ []) one = (p, refl)
only (p ∷ q ∷ ps) one = absurd (omega arith)

-- parentheses around a part
pub after-wrapped : (P : Plant → Shown) (d place : ℕ) (At : ℕ → Type 0) (s t u : State) → After P 1 d At s t → Wraps place t u → After P 1 (1 + d) (λ p. p ≡ place) s u
after-wrapped P d place At s t u p w =
    let one = only p.parts p.count-is in
    let before : t.parts ≡ s.parts ++ one.0 ∷ [] = p.parts-is ∙ ap (λ x. s.parts ++ x) one.1 in
    let both : w.0 ++ w.1 ∷ [] ≡ s.parts ++ one.0 ∷ [] = sym w.2 ∙ before in
    let others : w.0 ≡ s.parts = sym (other_parts-append w.0 (w.1 ∷ []) 1 refl) ∙ ap (other_parts 1) both ∙ other_parts-append s.parts (one.0 ∷ []) 1 refl in
    let last : w.1 ∷ [] ≡ one.0 ∷ [] = sym (last_parts-append w.0 (w.1 ∷ []) 1 refl) ∙ ap (last_parts 1) both ∙ last_parts-append s.parts (one.0 ∷ []) 1 refl in
    let part : w.1 ≡ one.0 = cc in
    let growth : u.growth ≡ t.growth = ap (λ (x : State). x.growth) w.3 in
    let deep : max w.1.levels 0 ≡ capped d = ap (λ (x : Part). max x.levels 0) part ∙ sym (ap greatest one.1) ∙ p.depth-is in
    record {
      parts = wrapped place w.1 ∷ [];
      parts-is = ap (λ (x : State). x.parts) w.3 ∙ ap (λ ps. ps ++ wrapped place w.1 ∷ []) others;
      count-is = refl;
      depth-is = deeper-capped w.1.levels d deep;
      at = refl;
      back = λ tree extends. p.back tree (subst (λ (g : Growth). Extends g tree) growth extends);
      shows = λ tree extends.
          subst (λ k. P tree (w.1.number ∷ []) (left s) k) (ap (λ (g : Growth). g.total - length g.branches) (sym growth))
          (subst (λ ns. P tree ns (left s) (left t)) (ap numbers one.1 ∙ ap (λ (x : Part). x.number ∷ []) (sym part)) (p.shows tree (subst (λ (g : Growth). Extends g tree) growth extends)));
    }
  where
    deeper-capped : (k e : ℕ) → max k 0 ≡ capped e → max (deeper k) 0 ≡ capped (1 + e)
    deeper-capped k e is = omega arith
