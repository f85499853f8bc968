-- Each node of a script's tree stands below its root: it has a parent that may have it, a script or function stands
-- around it, and it is found in the order of the text.
use Rattle.std.proofs.Common.{◌≡◌, ℕ, zero, suc, ◌+◌, ◌-◌, ◌<◌, ◌≤◌, ◌==◌, ◌⊎◌, inl, inr, Bool, true, false, cond, ◌||◌, if◌then◌else◌, List, [], ◌∷◌, ◌++◌, length, Option, Some, None, refl, sym, ap, ◌∙◌, subst, arith}
use Rattle.std.specs.List.{flat_map, position_from}
use Rattle.std.proofs.lemmas.Bool.{eqb-true}
use Rattle.std.proofs.lemmas.Iterator.Adapters.{position_from-zero}
use Rattle.std.proofs.lemmas.List.Quantifiers.{position-Some}
use Rattle.rip_tree.specs.Branches.{Branch, Plant, AreBetween, ChildrenFollow, links_of}
use Rattle.rip_tree.specs.declared.form.Form.{Form}
use Rattle.rip_tree.specs.declared.form.Form.TheVariants as F
use Rattle.rip_parser.specs.Held.{times_among, times_held}
use Rattle.rip_parser.specs.Shows.{Row}
use Rattle.rip_early.specs.Around.{form_of, present, children_of, in_text, in_text_within, holds, parent_of, around, is_home, first_with, home_of}
use Rattle.rip_early.proofs.Parents.{no_branch, children-links_of}
use Rattle.rip_early.proofs.Surrounding.{parent-below, around-parent}
use Rattle.rip_law_syntax.proofs.ScopingPassing.{is_below, may_have, Within, plain_listed, listed_below}
use Rattle.rip_law_syntax.proofs.Shapes.{RowPasses, IsShaped}

-- MEMBERS

-- the list has this element
abbrev pub In : {X : Type 0} → X → List X → Type 0
In x [] = ⊥
In x (y ∷ ys) = (y ≡ x) ⊎ In x ys

pub in_left : {X : Type 0} (x : X) (xs ys : List X) → In x xs → In x (xs ++ ys)
in_left x [] ys is = absurd is
in_left x (y ∷ xs) ys (inl same) = inl same
in_left x (y ∷ xs) ys (inr more) = inr (in_left x xs ys more)

pub in_right : {X : Type 0} (x : X) (xs ys : List X) → In x ys → In x (xs ++ ys)
in_right x [] ys is = is
in_right x (y ∷ xs) ys is = inr (in_right x xs ys is)

in_either : {X : Type 0} (x : X) (xs ys : List X) → In x (xs ++ ys) → In x xs ⊎ In x ys
in_either x [] ys is = inr is
in_either x (y ∷ xs) ys (inl same) = inl (inl same)
in_either x (y ∷ xs) ys (inr more) = elim (in_either x xs ys more) [ inl first ↦ inl (inr first) | inr last ↦ inr last ]

pub in_flat_map : {X Y : Type 0} (f : X → List Y) (x : X) (y : Y) (xs : List X) → In x xs → In y (f x) → In y (flat_map f xs)
in_flat_map f x y [] is own = absurd is
in_flat_map f x y (z ∷ xs) (inl same) own = in_left y (f z) (flat_map f xs) (subst (λ w. In y (f w)) (sym same) own)
in_flat_map f x y (z ∷ xs) (inr more) own = in_right y (f z) (flat_map f xs) (in_flat_map f x y xs more own)

in_flat_map_more : {X Y : Type 0} (f g : X → List Y) (y z : Y) (xs : List X) → ((x : X) → In y (f x) → In z (g x)) → In y (flat_map f xs) → In z (flat_map g xs)
in_flat_map_more f g y z [] each is = absurd is
in_flat_map_more f g y z (x ∷ xs) each is =
    elim (in_either y (f x) (flat_map f xs) is) [
      | inl own ↦ in_left z (g x) (flat_map g xs) (each x own)
      | inr more ↦ in_right z (g x) (flat_map g xs) (in_flat_map_more f g y z xs each more)
    ]

one_or : (a b : Bool) → (a || b) ≡ true → (a ≡ true) ⊎ (b ≡ true)
one_or true b e = inl refl
one_or false b e = inr e

-- a child that is held is among those that are there
in_present : (id : ℕ) (row : Row) → holds id row ≡ true → In id (present row)
in_present id [] is = cc
in_present id (None ∷ row) is = in_present id row is
in_present id (Some c ∷ row) is = elim (one_or (c == id) (holds id row) is) [ inl same ↦ inl (eqb-true c id same) | inr more ↦ inr (in_present id row more) ]

-- PARENTS

none_among : (id : ℕ) (row : Row) → holds id row ≡ false → times_among id row ≡ 0
none_among id [] e = refl
none_among id (None ∷ row) e = none_among id row e
none_among id (Some c ∷ row) e = by (c == id) refl e (λ h. none_among id row h)
  where
    by : (h : Bool) → (c == id) ≡ h → (h || holds id row) ≡ false → (holds id row ≡ false → times_among id row ≡ 0) → times_among id (Some c ∷ row) ≡ 0
    by true is e below = absurd (let h : true ≡ false = e in cc)
    by false is e below = ap (λ b. cond b 1 0 + times_among id row) is ∙ (let rest : times_among id row ≡ 0 = below e in omega arith)

none_held : (id i : ℕ) (bs : List Branch) → position_from (λ b. holds id b.children) i bs ≡ None → times_held id bs ≡ 0
none_held id i [] e = refl
none_held id i (b ∷ bs) e = by (holds id b.children) refl e (λ h. none_held id (i + 1) bs h)
  where
    by : (h : Bool) → holds id b.children ≡ h → cond h (Some i) (position_from (λ x. holds id x.children) (i + 1) bs) ≡ None
        → (position_from (λ x. holds id x.children) (i + 1) bs ≡ None → times_held id bs ≡ 0) → times_held id (b ∷ bs) ≡ 0
    by true is e below = absurd (let h : Some i ≡ None = e in cc)
    by false is e below =
        let own : times_among id b.children ≡ 0 = none_among id b.children is in
        let rest : times_held id bs ≡ 0 = below e in
        omega arith

-- a node that is held has a parent
parent_some : (t : Plant) (id : ℕ) → times_held id t.branches ≡ 1 → (p : ℕ) × (parent_of t id ≡ Some p)
parent_some t id once = by (parent_of t id) refl
  where
    by : (o : Option ℕ) → parent_of t id ≡ o → (p : ℕ) × (parent_of t id ≡ Some p)
    by (Some p) is = (p, is)
    by None is =
        let none : times_held id t.branches ≡ 0 = none_held id 0 t.branches (sym (position_from-zero (λ b. holds id b.children) t.branches) ∙ is) in
        absurd (omega arith)

-- a node that is held by a row passes its test
held_passes : (ok : Form → Bool) (t : Plant) (low high id : ℕ) (row : Row) → RowPasses ok t low high row → holds id row ≡ true → ok (form_of t id) ≡ true
held_passes ok t low high id [] passes is = cc
held_passes ok t low high id (None ∷ row) passes is = held_passes ok t low high id row passes is
held_passes ok t low high id (Some c ∷ row) passes is =
    elim (one_or (c == id) (holds id row) is) [
      | inl same ↦ subst (λ n. ok (form_of t n) ≡ true) (eqb-true c id same) passes.2
      | inr more ↦ held_passes ok t low high id row passes.3 more
    ]

row_between : (ok : Form → Bool) (t : Plant) (low total : ℕ) (row : Row) → RowPasses ok t (low + 1) total row → AreBetween low total row
row_between ok t low total [] passes = tt
row_between ok t low total (None ∷ row) passes = row_between ok t low total row passes
row_between ok t low total (Some c ∷ row) passes = let from : low + 1 ≤ c = passes.0 in (omega arith, passes.1, row_between ok t low total row passes.3)

follow_from : (total at : ℕ) (bs : List Branch) → ((j : ℕ) → j < length bs → AreBetween (at + j) total (links_of bs j)) → at + length bs ≡ total → ChildrenFollow total bs
follow_from total at [] each is = tt
follow_from total at (b ∷ bs) each is = (
  subst (λ n. AreBetween n total b.children) (let e : at + 0 ≡ total - (length bs + 1) = omega arith in e) (each 0 (omega arith)),
  follow_from total (at + 1) bs (λ j h. subst (λ n. AreBetween n total (links_of bs j)) (let e : at + suc j ≡ at + 1 + j = omega arith in e) (each (suc j) (omega arith))) (omega arith),
)

pub shaped_follow : (t : Plant) → IsShaped t → ChildrenFollow (length t.branches) t.branches
shaped_follow t shape =
    follow_from (length t.branches) 0 t.branches
    (λ j h. subst (λ n. AreBetween n (length t.branches) (links_of t.branches j)) (let e : j ≡ 0 + j = omega arith in e)
    (row_between (may_have (form_of t j)) t j (length t.branches) (links_of t.branches j) (shape.fits j h)))
    (omega arith)

-- what is known of the tree of a script
pub record IsRooted (t : Plant) : Type 0 where
  pub shape : IsShaped t
  pub once : (id : ℕ) → 0 < id → id < length t.branches → times_held id t.branches ≡ 1

-- the parent of a node, which has a lower number and may have it below it
pub record HasParent (t : Plant) (id : ℕ) : Type 0 where
  pub parent : ℕ
  pub is : parent_of t id ≡ Some parent
  pub less : parent < id
  pub there : parent < length t.branches
  pub may : may_have (form_of t parent) (form_of t id) ≡ true
  pub child : In id (children_of t parent)
  pub outwards : around t id ≡ parent ∷ around t parent

pub has_parent : (t : Plant) → IsRooted t → (id : ℕ) → 0 < id → id < length t.branches → HasParent t id
has_parent t rooted id some below =
    let found = parent_some t id (rooted.once id some below) in
    let p = found.0 in
    let follow = shaped_follow t rooted.shape in
    let low = parent-below t id p follow found.1 in
    let hit = position-Some (λ b. holds id b.children) t.branches p no_branch found.1 in
    let held : holds id (links_of t.branches p) ≡ true = ap (holds id) (sym (children-links_of t.branches p no_branch low.1)) ∙ hit.1 in
    record {
      parent = p;
      is = found.1;
      less = low.0;
      there = low.1;
      may = held_passes (may_have (form_of t p)) t (p + 1) (length t.branches) id (links_of t.branches p) (rooted.shape.fits p low.1) held;
      child = in_present id (links_of t.branches p) held;
      outwards = around-parent t follow id p found.1;
    }

may_below : (form : Form) → Within (may_have form) is_below
may_below F.Script f e = listed_below f e
may_below (F.FunctionDeclaration head) f e = e
may_below (F.Function head) f e = e
may_below other f e = listed_below f (plain_listed f e)

-- no node but the root is a script
pub below_root : (t : Plant) → IsRooted t → (id : ℕ) → 0 < id → id < length t.branches → is_below (form_of t id) ≡ true
below_root t rooted id some below = let up = has_parent t rooted id some below in may_below (form_of t up.parent) (form_of t id) up.may

-- HOMES

-- the nearest script or function around a node
pub record HasHome (t : Plant) (id : ℕ) : Type 0 where
  pub home : ℕ
  pub nearest : home_of t id ≡ Some home
  pub is : is_home (form_of t home) ≡ true
  pub there : home < length t.branches

homed : (t : Plant) → IsRooted t → (n id : ℕ) → id ≤ n → 0 < id → id < length t.branches → HasHome t id
homed t rooted zero id least some below = absurd (omega arith)
homed t rooted (suc n) id least some below =
    let up = has_parent t rooted id some below in
    let less : up.parent < id = up.less in
    let outer = ap (first_with is_home t) up.outwards in
    by up.parent up.there outer (is_home (form_of t up.parent)) refl (λ some. homed t rooted n up.parent (omega arith) some up.there)
  where
    by : (p : ℕ) → p < length t.branches → home_of t id ≡ (if is_home (form_of t p) then Some p else home_of t p) → (b : Bool) → is_home (form_of t p) ≡ b → (0 < p → HasHome t p) → HasHome t id
    by p there outer true is above = record { home = p; nearest = outer ∙ ap (λ b. if b then Some p else home_of t p) is; is = is; there = there }
    by zero there outer false is above = absurd (let root : is_home (form_of t 0) ≡ true = ap is_home rooted.shape.root in let h : true ≡ false = sym root ∙ is in cc)
    by (suc q) there outer false is above =
        let h = above (omega arith) in
        record { home = h.home; nearest = outer ∙ ap (λ b. if b then Some (suc q) else home_of t (suc q)) is ∙ h.nearest; is = h.is; there = h.there }

pub has_home : (t : Plant) → IsRooted t → (id : ℕ) → 0 < id → id < length t.branches → HasHome t id
has_home t rooted id some below = homed t rooted id id (omega arith) some below

-- THE ORDER OF THE TEXT

more_levels : (t : Plant) (levels more id a : ℕ) → levels ≤ more → In id (in_text_within levels t a) → In id (in_text_within more t a)
more_levels t zero more id a h is = absurd is
more_levels t (suc levels) zero id a h is = absurd (omega arith)
more_levels t (suc levels) (suc more) id a h (inl same) = inl same
more_levels t (suc levels) (suc more) id a h (inr below) =
    inr (in_flat_map_more (in_text_within levels t) (in_text_within more t) id id (children_of t a) (λ c is. more_levels t levels more id c (omega arith) is) below)

child_level : (t : Plant) (levels p id a : ℕ) → In p (in_text_within levels t a) → In id (children_of t p) → In id (in_text_within (suc levels) t a)
child_level t zero p id a is child = absurd is
child_level t (suc levels) p id a (inl same) child =
    inr (in_flat_map (in_text_within (suc levels) t) id id (children_of t a) (subst (λ n. In id (children_of t n)) (sym same) child) (inl refl))
child_level t (suc levels) p id a (inr below) child =
    inr (in_flat_map_more (in_text_within levels t) (in_text_within (suc levels) t) p id (children_of t a) (λ c is. child_level t levels p id c is child) below)

reached : (t : Plant) → IsRooted t → (n id : ℕ) → id ≤ n → id < length t.branches → In id (in_text_within (suc id) t 0)
reached t rooted n zero least below = inl refl
reached t rooted zero (suc k) least below = absurd (omega arith)
reached t rooted (suc n) (suc k) least below =
    let up = has_parent t rooted (suc k) (omega arith) below in
    let less : up.parent < suc k = up.less in
    let there = reached t rooted n up.parent (omega arith) up.there in
    more_levels t (suc (suc up.parent)) (suc (suc k)) (suc k) 0 (omega arith) (child_level t (suc up.parent) up.parent (suc k) 0 there up.child)

-- each node stands in the order of the text
pub all_in_text : (t : Plant) → IsRooted t → (id : ℕ) → id < length t.branches → In id (in_text t)
all_in_text t rooted id below = more_levels t (suc id) (length t.branches) id 0 (omega arith) (reached t rooted id id (omega arith) below)
