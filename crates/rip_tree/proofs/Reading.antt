-- What the branches of rows are, read by number.
use Rattle.std.proofs.Common.{◌≡◌, ℕ, zero, suc, ◌+◌, ◌-◌, ◌<◌, ◌≤◌, List, [], ◌∷◌, length, Option, Some, None, IfSome, drop, get_or, refl, sym, subst, take, arith, ◌^◌}
use Rattle.std.specs.Prelude.{slice_range}
use Rattle.rip_tree.specs.Branches.{Branch, node_of, links_of, child_at, child_of, AreBetween, ChildrenFollow}
use Rattle.std.proofs.lemmas.List.{length-drop, length-map}
use Rattle.rip_tree.specs.Making.{branch_at, branches_at, LieWithin}
use Rattle.rip_tree.specs.declared.node.Row.{Row}

-- the children of a branch are the range of its row
pub child_of-branches_at : (links : List (Option ℕ)) (rows : List Row) (id place : ℕ) (row : Row) → id < length rows
    → child_of (branches_at links rows) id place ≡ child_at (slice_range links (get_or rows id row).start (get_or rows id row).end) place
child_of-branches_at links [] id place row h = absurd (omega arith)
child_of-branches_at links (r ∷ rs) zero place row h = refl
child_of-branches_at links (r ∷ rs) (suc id) place row h = child_of-branches_at links rs id place row (omega arith)

-- past the last row there is no child
pub child_of-none : (links : List (Option ℕ)) (rows : List Row) (id place : ℕ) → length rows ≤ id → child_of (branches_at links rows) id place ≡ None
child_of-none links [] id place h = refl
child_of-none links (r ∷ rs) zero place h = absurd (omega arith)
child_of-none links (r ∷ rs) (suc id) place h = child_of-none links rs id place (omega arith)

-- the node of a branch is that of its row
pub node_of-branches_at : (links : List (Option ℕ)) (rows : List Row) (id : ℕ) (row : Row) → id < length rows
    → node_of (branches_at links rows) id ≡ Some (get_or rows id row).node
node_of-branches_at links [] id row h = absurd (omega arith)
node_of-branches_at links (r ∷ rs) zero row h = refl
node_of-branches_at links (r ∷ rs) (suc id) row h = node_of-branches_at links rs id row (omega arith)

-- a child by its place in the list
pub child_at-get : (cs : List (Option ℕ)) (place : ℕ) (child : Option ℕ) → place < length cs → child_at cs place ≡ get_or cs place child
child_at-get [] place child h = absurd (omega arith)
child_at-get (c ∷ cs) zero child h = refl
child_at-get (c ∷ cs) (suc place) child h = child_at-get cs place child (omega arith)

-- past the last child there is none
pub child_at-none : (cs : List (Option ℕ)) (place : ℕ) → length cs ≤ place → child_at cs place ≡ None
child_at-none [] place h = refl
child_at-none (c ∷ cs) zero h = absurd (omega arith)
child_at-none (c ∷ cs) (suc place) h = child_at-none cs place (omega arith)

-- the range of a row lies in all children
pub LieWithin-get : (count : ℕ) (rows : List Row) (id : ℕ) (row : Row) → LieWithin count rows → id < length rows
    → ((get_or rows id row).start ≤ (get_or rows id row).end) × ((get_or rows id row).end ≤ count)
LieWithin-get count [] id row within h = absurd (omega arith)
LieWithin-get count (r ∷ rs) zero row within h = (within.0, within.1)
LieWithin-get count (r ∷ rs) (suc id) row within h = LieWithin-get count rs id row within.2 (omega arith)

-- a child that is there has a number between the two
pub AreBetween-child : (low high : ℕ) (cs : List (Option ℕ)) (place at : ℕ) → AreBetween low high cs → at ≤ low → IfSome (child_at cs place) (λ c. (at < c) × (c < high))
AreBetween-child low high [] place at between h = tt
AreBetween-child low high (None ∷ cs) zero at between h = tt
AreBetween-child low high (Some c ∷ cs) zero at between h =
    let above : low < c = between.0 in (omega arith, between.1)
AreBetween-child low high (None ∷ cs) (suc place) at between h = AreBetween-child low high cs place at between h
AreBetween-child low high (Some c ∷ cs) (suc place) at between h = AreBetween-child low high cs place at between.2 h

-- each child has a number above that of its parent
pub ChildrenFollow-child : (total : ℕ) (bs : List Branch) (id place at : ℕ) → ChildrenFollow total bs → length bs ≤ total → at ≤ total - length bs + id
    → IfSome (child_of bs id place) (λ c. (at < c) × (c < total))
ChildrenFollow-child total [] id place at follow less h = tt
ChildrenFollow-child total (b ∷ bs) zero place at follow less h = AreBetween-child (total - (length bs + 1)) total b.children place at follow.0 (omega arith)
ChildrenFollow-child total (b ∷ bs) (suc id) place at follow less h = ChildrenFollow-child total bs id place at follow.1 (omega arith) (omega arith)

-- the range of this row lies in all children
pub LieWithin-row : (count : ℕ) (rows : List Row) (id : ℕ) (row : Row) → row ≡ get_or rows id row → LieWithin count rows → id < length rows
    → (row.start ≤ row.end) × (row.end ≤ count)
LieWithin-row count rows id row is within h =
    subst (λ (r : Row). (r.start ≤ r.end) × (r.end ≤ count)) (sym is) (LieWithin-get count rows id row within h)

-- the children of a branch are the range of this row
pub child_of-row : (links : List (Option ℕ)) (rows : List Row) (id place : ℕ) (row : Row) → row ≡ get_or rows id row → id < length rows
    → child_of (branches_at links rows) id place ≡ child_at (slice_range links row.start row.end) place
child_of-row links rows id place row is h =
    subst (λ (r : Row). child_of (branches_at links rows) id place ≡ child_at (slice_range links r.start r.end) place) (sym is)
    (child_of-branches_at links rows id place row h)

-- the node of a branch is that of this row
pub node_of-row : (links : List (Option ℕ)) (rows : List Row) (id : ℕ) (row : Row) → row ≡ get_or rows id row → id < length rows
    → node_of (branches_at links rows) id ≡ Some row.node
node_of-row links rows id row is h =
    subst (λ (r : Row). node_of (branches_at links rows) id ≡ Some r.node) (sym is) (node_of-branches_at links rows id row h)

-- past the last row there is no node
pub node_of-none : (links : List (Option ℕ)) (rows : List Row) (id : ℕ) → length rows ≤ id → node_of (branches_at links rows) id ≡ None
node_of-none links [] id h = refl
node_of-none links (r ∷ rs) zero h = absurd (omega arith)
node_of-none links (r ∷ rs) (suc id) h = node_of-none links rs id (omega arith)

-- the children of a branch, all of them, are the range of its row
pub links_of-branches_at : (links : List (Option ℕ)) (rows : List Row) (id : ℕ) (row : Row) → id < length rows
    → links_of (branches_at links rows) id ≡ slice_range links (get_or rows id row).start (get_or rows id row).end
links_of-branches_at links [] id row h = absurd (omega arith)
links_of-branches_at links (r ∷ rs) zero row h = refl
links_of-branches_at links (r ∷ rs) (suc id) row h = links_of-branches_at links rs id row (omega arith)

pub links_of-row : (links : List (Option ℕ)) (rows : List Row) (id : ℕ) (row : Row) → row ≡ get_or rows id row → id < length rows
    → links_of (branches_at links rows) id ≡ slice_range links row.start row.end
links_of-row links rows id row is h =
    subst (λ (r : Row). links_of (branches_at links rows) id ≡ slice_range links r.start r.end) (sym is) (links_of-branches_at links rows id row h)

-- past the last row there are no children
pub links_of-none : (links : List (Option ℕ)) (rows : List Row) (id : ℕ) → length rows ≤ id → links_of (branches_at links rows) id ≡ []
links_of-none links [] id h = refl
links_of-none links (r ∷ rs) zero h = absurd (omega arith)
links_of-none links (r ∷ rs) (suc id) h = links_of-none links rs id (omega arith)

-- the fact about children, at the number of branches
pub ChildrenFollow-all : (links : List (Option ℕ)) (rows : List Row) → ChildrenFollow (length rows) (branches_at links rows) → ChildrenFollow (length (branches_at links rows)) (branches_at links rows)
ChildrenFollow-all links rows follow = subst (λ n. ChildrenFollow n (branches_at links rows)) (sym (length-map rows (branch_at links))) follow

if-some : (o : Option ℕ) (P Q : Type 0) → (P → Q) → IfSome o (λ _. P) → IfSome o (λ _. Q)
if-some None P Q f h = tt
if-some (Some d) P Q f h = f h

-- a child stands within the list of children
child_at-inside : (cs : List (Option ℕ)) (place : ℕ) → IfSome (child_at cs place) (λ _. place < length cs)
child_at-inside [] place = tt
child_at-inside (None ∷ cs) zero = tt
child_at-inside (Some c ∷ cs) zero = omega arith
child_at-inside (c ∷ cs) (suc place) =
    if-some (child_at cs place) (place < length cs) (suc place < suc (length cs)) (λ h. omega (arith, h)) (child_at-inside cs place)

short-take : {A : Type 0} (n : ℕ) (xs : List A) → length (take n xs) ≤ length xs
short-take zero xs = omega arith
short-take (suc n) [] = omega arith
short-take (suc n) (x ∷ xs) = omega (arith, short-take n xs)

-- and so within the children of all nodes
pub child_of-inside : (links : List (Option ℕ)) (rows : List Row) (id place : ℕ) → LieWithin (length links) rows
    → IfSome (child_of (branches_at links rows) id place) (λ _. place < length links)
child_of-inside links [] id place within = tt
child_of-inside links (r ∷ rs) zero place within =
    let size : length (slice_range links r.start r.end) ≤ length links = omega (arith, short-take (r.end - r.start) (drop r.start links), length-drop r.start links) in
    if-some (child_at (slice_range links r.start r.end) place) (place < length (slice_range links r.start r.end)) (place < length links)
    (λ h. omega (arith, h, size)) (child_at-inside (slice_range links r.start r.end) place)
child_of-inside links (r ∷ rs) (suc id) place within = child_of-inside links rs id place within.2

-- so 32 bits count the place behind a child, where they count all children
pub counted-inside : (links : List (Option ℕ)) (rows : List Row) (id place : ℕ) → LieWithin (length links) rows → length links < 2 ^ 32
    → IfSome (child_of (branches_at links rows) id place) (λ _. place + 1 < 2 ^ 32)
counted-inside links rows id place within few =
    if-some (child_of (branches_at links rows) id place) (place < length links) (place + 1 < 2 ^ 32) (λ h. omega (arith, h, few)) (child_of-inside links rows id place within)
