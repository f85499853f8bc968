-- What one node more leaves of the nodes that are made.
use Rattle.std.proofs.Common.{◌≡◌, ℕ, ◌+◌, ◌-◌, ◌<◌, ◌≤◌, List, [], ◌∷◌, ◌++◌, length, reverse, take, drop, Option, refl, sym, ap, ◌∙◌, subst, arith, length-append}
use Rattle.std.specs.Prelude.{slice_range}
use Rattle.std.proofs.lemmas.List.{take-append-le, drop-append-le, length-drop, length-map, reverse-append}
use Rattle.std.proofs.Math.Seq.{drop-append_seam, take-length}
use Rattle.rip_tree.specs.Branches.{Branch, AreBetween, ChildrenFollow}
use Rattle.rip_tree.specs.Making.{branch_at, branches_at, LieWithin, IsGrown}
use Rattle.rip_tree.specs.declared.node.Node.{Node}
use Rattle.rip_tree.specs.declared.node.Row.{Row}

-- a range of the front of a list
pub slice_range-append : (xs ys : List (Option ℕ)) (from to : ℕ) → from ≤ to → to ≤ length xs → slice_range (xs ++ ys) from to ≡ slice_range xs from to
slice_range-append xs ys from to order h =
    ap (take (to - from)) (drop-append-le from xs ys (omega arith))
    ∙ take-append-le (to - from) (drop from xs) ys (omega (arith, length-drop from xs))

-- the range of what was put behind a list
pub slice_range-behind : (xs ys : List (Option ℕ)) → slice_range (xs ++ ys) (length xs) (length (xs ++ ys)) ≡ ys
slice_range-behind xs ys =
    let rest : length (xs ++ ys) - length xs ≡ length ys = omega (arith, length-append xs ys) in
    ap (take (length (xs ++ ys) - length xs)) (drop-append_seam xs ys) ∙ ap (λ n. take n ys) rest ∙ take-length ys

-- children that are put behind all others change no branch
pub branches_at-append : (links more : List (Option ℕ)) (rows : List Row) → LieWithin (length links) rows → branches_at (links ++ more) rows ≡ branches_at links rows
branches_at-append links more [] within = refl
branches_at-append links more (r ∷ rs) within =
    let with_children : List (Option ℕ) → Branch = λ cs. record { node = r.node; children = cs } in
    ap (λ cs. with_children cs ∷ branches_at (links ++ more) rs) (slice_range-append links more r.start r.end within.0 within.1)
    ∙ ap (λ bs. branch_at links r ∷ bs) (branches_at-append links more rs within.2)

-- the row of a node whose children are put behind all others
abbrev pub row_behind : Node → List (Option ℕ) → List (Option ℕ) → Row
row_behind node links more = record { node = node; start = length links; end = length (links ++ more) }

-- its branch comes before those that are made
pub branches_at-row_behind : (node : Node) (links more : List (Option ℕ)) (rows : List Row) → LieWithin (length links) rows
    → branches_at (links ++ more) (row_behind node links more ∷ rows) ≡ record { node = node; children = more } ∷ branches_at links rows
branches_at-row_behind node links more rows within =
    let with_children : List (Option ℕ) → Branch = λ cs. record { node = node; children = cs } in
    ap (λ cs. with_children cs ∷ branches_at (links ++ more) rows) (slice_range-behind links more)
    ∙ ap (λ bs. with_children more ∷ bs) (branches_at-append links more rows within)

pub LieWithin-more : (count more : ℕ) (rows : List Row) → count ≤ more → LieWithin count rows → LieWithin more rows
LieWithin-more count more [] h within = tt
LieWithin-more count more (r ∷ rs) h within =
    let inside : r.end ≤ count = within.1 in (within.0, omega arith, LieWithin-more count more rs h within.2)

-- a tree keeps what it keeps when a node is made
IsGrown-row_behind : (total : ℕ) (node : Node) (links more : List (Option ℕ)) (rows : List Row) (units : ℕ) → IsGrown total links rows units
    → length (branches_at links rows) < total → AreBetween (total - (length (branches_at links rows) + 1)) total more
    → IsGrown total (links ++ more) (row_behind node links more ∷ rows) units
IsGrown-row_behind total node links more rows units grown room between =
    let longer : length (links ++ more) ≡ length links + length more = length-append links more in
    let as_many : length (branches_at links rows) ≡ length rows = length-map rows (branch_at links) in
    record {
      within = (omega arith, omega arith, LieWithin-more (length links) (length (links ++ more)) rows (omega arith) grown.within);
      follow = subst (ChildrenFollow total) (sym (branches_at-row_behind node links more rows grown.within)) (between, grown.follow);
      not_more = omega arith;
      numbered = grown.numbered;
      spanned = grown.spanned;
    }

-- the rows with one more, the latest first
reverse-pushed : (node : Node) (links more all : List (Option ℕ)) (rows pushed : List Row) (start end : ℕ) → all ≡ links ++ more → start ≡ length links → end ≡ length all
    → pushed ≡ rows ++ record { node = node; start = start; end = end } ∷ [] → reverse pushed ≡ row_behind node links more ∷ reverse rows
reverse-pushed node links more all rows pushed start end joined starts ends is =
    let row : ℕ → ℕ → Row = λ s e. record { node = node; start = s; end = e } in
    ap reverse is ∙ reverse-append rows (row start end ∷ [])
    ∙ ap (λ s. row s end ∷ reverse rows) starts
    ∙ ap (λ e. row (length links) e ∷ reverse rows) (ends ∙ ap length joined)

-- the branches, when a row is pushed
pub branches_at-pushed : (node : Node) (links more all : List (Option ℕ)) (rows pushed : List Row) (start end : ℕ) → all ≡ links ++ more → start ≡ length links → end ≡ length all
    → pushed ≡ rows ++ record { node = node; start = start; end = end } ∷ [] → LieWithin (length links) (reverse rows)
    → branches_at all (reverse pushed) ≡ record { node = node; children = more } ∷ branches_at links (reverse rows)
branches_at-pushed node links more all rows pushed start end joined starts ends is within =
    ap (λ ls. branches_at ls (reverse pushed)) joined
    ∙ ap (branches_at (links ++ more)) (reverse-pushed node links more all rows pushed start end joined starts ends is)
    ∙ branches_at-row_behind node links more (reverse rows) within

-- what a tree keeps, when a row is pushed
pub IsGrown-pushed : (total : ℕ) (node : Node) (links more all : List (Option ℕ)) (rows pushed : List Row) (start end units : ℕ) → all ≡ links ++ more → start ≡ length links → end ≡ length all
    → pushed ≡ rows ++ record { node = node; start = start; end = end } ∷ [] → IsGrown total links (reverse rows) units
    → length (branches_at links (reverse rows)) < total → AreBetween (total - (length (branches_at links (reverse rows)) + 1)) total more
    → IsGrown total all (reverse pushed) units
IsGrown-pushed total node links more all rows pushed start end units joined starts ends is grown room between =
    subst (λ rs. IsGrown total all rs units) (sym (reverse-pushed node links more all rows pushed start end joined starts ends is))
    (subst (λ ls. IsGrown total ls (row_behind node links more ∷ reverse rows) units) (sym joined)
    (IsGrown-row_behind total node links more (reverse rows) units grown room between))
