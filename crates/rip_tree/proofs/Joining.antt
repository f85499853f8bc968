-- What one tree more leaves of the trees that are joined.
use Rattle.std.proofs.Common.{◌≡◌, ℕ, ◌+◌, ◌-◌, ◌<◌, ◌≤◌, List, [], ◌∷◌, ◌++◌, length, map, take, Option, Some, None, IfSome, get_or, refl, sym, ap, ◌∙◌, subst, arith, length-append, append_assoc}
use Rattle.std.proofs.lemmas.List.{length-map, map-append}
use Rattle.rip_tree.specs.Branches.{Branch, Plant, AreBetween, ChildrenFollow, child_of}
use Rattle.rip_tree.specs.Program.{Grove, moved_child, moved_branch, with_tree}
use Rattle.rip_tree.specs.Making.{branch_at, branches_at, LieWithin}
use Rattle.rip_tree.specs.declared.node.Node.{Node}
use Rattle.rip_tree.specs.declared.node.Row.{Row}
use Rattle.rip_tree.proofs.Reading.{ChildrenFollow-child}
use Rattle.rip_tree.proofs.Growing.{slice_range-behind, branches_at-append, LieWithin-more}

-- the ranges of rows that stand behind others
pub LieWithin-append : (count : ℕ) (rows more : List Row) → LieWithin count rows → LieWithin count more → LieWithin count (rows ++ more)
LieWithin-append count [] more within behind = behind
LieWithin-append count (r ∷ rs) more within behind = (within.0, within.1, LieWithin-append count rs more within.2 behind)

-- the row of a node whose children were put behind all others
abbrev pub row_of : Node → ℕ → ℕ → Row
row_of node start end = record { node = node; start = start; end = end }

-- the branches, when a row is put behind the others
pub branches_at-behind : (node : Node) (links more all : List (Option ℕ)) (rows pushed : List Row) (start end : ℕ) → all ≡ links ++ more → start ≡ length links → end ≡ length all
    → pushed ≡ rows ++ row_of node start end ∷ [] → LieWithin (length links) rows
    → branches_at all pushed ≡ branches_at links rows ++ record { node = node; children = more } ∷ []
branches_at-behind node links more all rows pushed start end joined starts ends is within =
    let with_children : List (Option ℕ) → Branch = λ cs. record { node = node; children = cs } in
    ap (λ ls. branches_at ls pushed) joined
    ∙ ap (branches_at (links ++ more)) (is ∙ ap (λ s. rows ++ row_of node s end ∷ []) starts ∙ ap (λ e. rows ++ row_of node (length links) e ∷ []) (ends ∙ ap length joined))
    ∙ map-append (branch_at (links ++ more)) rows (row_of node (length links) (length (links ++ more)) ∷ [])
    ∙ ap (λ cs. branches_at (links ++ more) rows ++ with_children cs ∷ []) (slice_range-behind links more)
    ∙ ap (λ bs. bs ++ with_children more ∷ []) (branches_at-append links more rows within)

-- the ranges, when a row is put behind the others
pub LieWithin-behind : (node : Node) (links more all : List (Option ℕ)) (rows pushed : List Row) (start end : ℕ) → all ≡ links ++ more → start ≡ length links → end ≡ length all
    → pushed ≡ rows ++ row_of node start end ∷ [] → LieWithin (length links) rows → LieWithin (length all) pushed
LieWithin-behind node links more all rows pushed start end joined starts ends is within =
    let longer : length all ≡ length links + length more = ap length joined ∙ length-append links more in
    subst (λ rs. LieWithin (length all) rs) (sym is)
    (LieWithin-append (length all) rows (row_of node start end ∷ []) (LieWithin-more (length links) (length all) rows (omega arith) within) (omega arith, omega arith, tt))

-- ---- children follow their parents in joined trees

AreBetween-higher : (low high more : ℕ) (cs : List (Option ℕ)) → high ≤ more → AreBetween low high cs → AreBetween low more cs
AreBetween-higher low high more [] less between = tt
AreBetween-higher low high more (None ∷ cs) less between = AreBetween-higher low high more cs less between
AreBetween-higher low high more (Some c ∷ cs) less between =
    let below : c < high = between.1 in (between.0, omega arith, AreBetween-higher low high more cs less between.2)

AreBetween-moved : (by low high : ℕ) (cs : List (Option ℕ)) → AreBetween low high cs → AreBetween (by + low) (by + high) (map (moved_child by) cs)
AreBetween-moved by low high [] between = tt
AreBetween-moved by low high (None ∷ cs) between = AreBetween-moved by low high cs between
AreBetween-moved by low high (Some c ∷ cs) between =
    let above : low < c = between.0 in let below : c < high = between.1 in (omega arith, omega arith, AreBetween-moved by low high cs between.2)

-- the last branches of a tree, moved behind so many others
follow-moved : (there units by total : ℕ) (bs : List Branch) → length bs ≤ total → ChildrenFollow total bs → ChildrenFollow (by + total) (map (moved_branch there by units) bs)
follow-moved there units by total [] less follow = tt
follow-moved there units by total (b ∷ bs) less follow =
    let long : length (map (moved_branch there by units) bs) ≡ length bs = length-map bs (moved_branch there by units) in
    let low : by + (total - (length bs + 1)) ≡ (by + total) - (length (map (moved_branch there by units) bs) + 1) = omega arith in (
      subst (λ k. AreBetween k (by + total) (map (moved_child by) b.children)) low (AreBetween-moved by (total - (length bs + 1)) total b.children follow.0),
      follow-moved there units by total bs (omega arith) follow.1,
    )

-- branches, and behind them others
follow-both : (total more : ℕ) (bs cs : List Branch) → length bs ≤ total → length cs ≡ more → ChildrenFollow total bs → ChildrenFollow (total + more) cs → ChildrenFollow (total + more) (bs ++ cs)
follow-both total more [] cs less long follow behind = behind
follow-both total more (b ∷ bs) cs less long follow behind =
    let low : total - (length bs + 1) ≡ (total + more) - (length (bs ++ cs) + 1) = omega (arith, length-append bs cs) in (
      subst (λ k. AreBetween k (total + more) b.children) low (AreBetween-higher (total - (length bs + 1)) total (total + more) b.children (omega arith) follow.0),
      follow-both total more bs cs (omega arith) long follow.1 behind,
    )

-- in the branches of trees, all of them, each child has a number above that of its parent
abbrev pub Follow : List Branch → Type 0
Follow bs = ChildrenFollow (length bs) bs

pub follow-joined : (g : Grove) (t : Plant) → Follow g.branches → Follow t.branches → Follow (with_tree g t).branches
follow-joined g t follow behind =
    let moved = map (moved_branch (length t.units) (length g.branches) (length g.units)) t.branches in
    let long : length moved ≡ length t.branches = length-map t.branches (moved_branch (length t.units) (length g.branches) (length g.units)) in
    let all : length g.branches + length t.branches ≡ length (g.branches ++ moved) = omega (arith, length-append g.branches moved) in
    subst (λ n. ChildrenFollow n (g.branches ++ moved)) all
    (follow-both (length g.branches) (length t.branches) g.branches moved (omega arith) long follow
    (follow-moved (length t.units) (length g.units) (length g.branches) (length t.branches) t.branches (omega arith) behind))

-- a child of such branches
pub follow-child : (bs : List Branch) (id place : ℕ) → Follow bs → IfSome (child_of bs id place) (λ c. (id < c) × (c < length bs))
follow-child bs id place follow = ChildrenFollow-child (length bs) bs id place id follow (omega arith) (omega arith)

-- what children that follow their parents say when a tree was put behind the trees that are there
pub follow-added : (there branches units : ℕ) (links more all : List (Option ℕ)) (rows own pushed : List Row)
    → branches_at all pushed ≡ branches_at links rows ++ map (moved_branch there branches units) (branches_at more own)
    → branches ≡ length rows → Follow (branches_at links rows) → ChildrenFollow (length own) (branches_at more own) → Follow (branches_at all pushed)
follow-added there branches units links more all rows own pushed is before follow behind =
    let old = branches_at links rows in
    let mine = branches_at more own in
    let moved = map (moved_branch there branches units) mine in
    let long : length moved ≡ length mine = length-map mine (moved_branch there branches units) in
    let first : length old ≡ length rows = length-map rows (branch_at links) in
    let same : branches ≡ length old = before ∙ sym first in
    let size : length mine ≡ length own = length-map own (branch_at more) in
    let total : branches + length mine ≡ length (old ++ moved) = omega (arith, length-append old moved) in
    let shifted : ChildrenFollow (branches + length mine) moved =
    follow-moved there units branches (length mine) mine (omega arith) (subst (λ n. ChildrenFollow n mine) (sym size) behind) in
    subst Follow (sym is)
    (subst (λ n. ChildrenFollow n (old ++ moved)) total
    (subst (λ n. ChildrenFollow (n + length mine) (old ++ moved)) (sym same)
    (follow-both (length old) (length mine) old moved (omega arith) long follow (subst (λ n. ChildrenFollow (n + length mine) moved) same shifted))))

-- how many rows there are, when a tree was put behind the trees that are there
pub count-added : (there branches units : ℕ) (links more all : List (Option ℕ)) (rows own pushed : List Row)
    → branches_at all pushed ≡ branches_at links rows ++ map (moved_branch there branches units) (branches_at more own)
    → length pushed ≡ length rows + length own
count-added there branches units links more all rows own pushed is =
    let mine = branches_at more own in
    let a : length (branches_at all pushed) ≡ length pushed = length-map pushed (branch_at all) in
    let b : length (branches_at links rows) ≡ length rows = length-map rows (branch_at links) in
    let d : length mine ≡ length own = length-map own (branch_at more) in
    let e : length (map (moved_branch there branches units) mine) ≡ length mine = length-map mine (moved_branch there branches units) in
    let f : length (branches_at all pushed) ≡ length (branches_at links rows) + length (map (moved_branch there branches units) mine) =
    ap length is ∙ length-append (branches_at links rows) (map (moved_branch there branches units) mine) in
    omega arith
