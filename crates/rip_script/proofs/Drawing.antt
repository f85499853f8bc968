-- How the lines of a tree follow from those of its branches.
use Rattle.std.proofs.Common.{◌≡◌, ℕ, zero, suc, ◌+◌, ◌-◌, ◌<◌, ◌≤◌, List, [], ◌∷◌, ◌++◌, length, reverse, take, Option, Some, None, refl, sym, ◌∙◌, ap, subst, arith, append_assoc, append-nil}
use Rattle.std.specs.List.{AllByRecursion, flat_map}
use Rattle.std.proofs.lemmas.List.{reverse-append}
use Rattle.std.proofs.lemmas.Grind.{flat_map-append}
use Rattle.rip_tree.specs.Branches.{Branch, AreBetween, ChildrenFollow, branch_of, links_of, node_of}
use Rattle.rip_tree.specs.declared.node.Node.{Node}
use Rattle.rip_script.specs.Steps.{AreOpen, IsOpen, Opens, lines_of, open_lines}
use Rattle.rip_script.specs.Texts.{branch_lines, child_lines, lines_below, node_line}
use Rattle.rip_script.specs.declared.draw.Open.{Open}

-- BRANCHES

-- past the last branch there is none
branch_none : (bs : List Branch) (id : ℕ) → length bs ≤ id → branch_of bs id ≡ None
branch_none [] id h = refl
branch_none (b ∷ bs) zero h = absurd (omega arith)
branch_none (b ∷ bs) (suc id) h = branch_none bs id (omega arith)

-- a node with its children is the branch
branch_there : (bs : List Branch) (id : ℕ) (node : Node) → node_of bs id ≡ Some node → branch_of bs id ≡ Some (record { node = node; children = links_of bs id })
branch_there [] id node h = cc
branch_there (b ∷ bs) zero node h = let same : b.node ≡ node = cc in ap (λ n. Some (record { node = n; children = b.children })) same
branch_there (b ∷ bs) (suc id) node h = branch_there bs id node h

follow_within : (total : ℕ) (bs : List Branch) (id : ℕ) → ChildrenFollow total bs → length bs ≤ total → AreBetween (total - length bs + id) total (links_of bs id)
follow_within total [] id follow h = tt
follow_within total (b ∷ bs) zero follow h =
    let same : total - (length bs + 1) ≡ total - length (b ∷ bs) + 0 = omega arith in
    subst (λ n. AreBetween n total b.children) same follow.0
follow_within total (b ∷ bs) (suc id) follow h =
    let same : total - length bs + id ≡ total - length (b ∷ bs) + suc id = omega arith in
    subst (λ n. AreBetween n total (links_of bs id)) same (follow_within total bs id follow.1 (omega arith))

-- the children of a branch have numbers above its own
pub children_follow : (bs : List Branch) (id : ℕ) → ChildrenFollow (length bs) bs → AreBetween id (length bs) (links_of bs id)
children_follow bs id follow =
    let same : length bs - length bs + id ≡ id = omega arith in
    subst (λ n. AreBetween n (length bs) (links_of bs id)) same (follow_within (length bs) bs id follow (omega arith))

-- a branch that is there is one of some children
links_there : (bs : List Branch) (id : ℕ) (b : Branch) → branch_of bs id ≡ Some b → links_of bs id ≡ b.children
links_there [] id b h = cc
links_there (c ∷ bs) zero b h = let same : c ≡ b = cc in ap (λ (x : Branch). x.children) same
links_there (c ∷ bs) (suc id) b h = links_there bs id b h

-- LEVELS

same_children : (low high : ℕ) (lines others : ℕ → List (List (List ℕ))) (cs : List (Option ℕ)) → AreBetween low high cs
    → ((c : ℕ) → low < c → lines c ≡ others c) → flat_map (child_lines lines) cs ≡ flat_map (child_lines others) cs
same_children low high lines others [] between same = refl
same_children low high lines others (None ∷ cs) between same = same_children low high lines others cs between same
same_children low high lines others (Some c ∷ cs) between same =
    let first : lines c ≡ others c = same c between.0 in
    let rest = same_children low high lines others cs between.2 same in cc

same_branch : (low high level : ℕ) (lines others : ℕ → List (List (List ℕ))) (o : Option Branch)
    → ((b : Branch) → o ≡ Some b → AreBetween low high b.children) → ((c : ℕ) → low < c → lines c ≡ others c)
    → branch_lines level lines o ≡ branch_lines level others o
same_branch low high level lines others None between same = refl
same_branch low high level lines others (Some b) between same =
    ap (λ more. node_line level b.node ∷ more) (same_children low high lines others b.children (between b refl) same)

-- the lines below a branch don't depend on how many levels are looked at, once these are enough
pub lines_below-enough : (bs : List Branch) → ChildrenFollow (length bs) bs → (levels others level id : ℕ)
    → length bs ≤ levels + id → length bs ≤ others + id → lines_below levels bs level id ≡ lines_below others bs level id
lines_below-enough bs follow zero zero level id h k = refl
lines_below-enough bs follow zero (suc others) level id h k = rw (branch_none bs id (omega arith)) refl
lines_below-enough bs follow (suc levels) zero level id h k = rw (branch_none bs id (omega arith)) refl
lines_below-enough bs follow (suc levels) (suc others) level id h k =
    same_branch id (length bs) level (λ child. lines_below levels bs (level + 1) child) (λ child. lines_below others bs (level + 1) child) (branch_of bs id)
    (λ b is. subst (λ cs. AreBetween id (length bs) cs) (links_there bs id b is) (children_follow bs id follow))
    (λ c above. lines_below-enough bs follow levels others (level + 1) c (omega arith) (omega arith))

some_levels : (bs : List Branch) → ChildrenFollow (length bs) bs → (levels level id : ℕ) (node : Node) → length bs ≡ levels → id < levels → node_of bs id ≡ Some node
    → lines_below levels bs level id ≡ node_line level node ∷ flat_map (child_lines (λ child. lines_below (length bs) bs (level + 1) child)) (links_of bs id)
some_levels bs follow zero level id node all there is = absurd (omega arith)
some_levels bs follow (suc levels) level id node all there is =
    ap (branch_lines level (λ child. lines_below levels bs (level + 1) child)) (branch_there bs id node is)
    ∙ ap (λ more. node_line level node ∷ more)
    (same_children id (length bs) (λ child. lines_below levels bs (level + 1) child) (λ child. lines_below (length bs) bs (level + 1) child) (links_of bs id)
    (children_follow bs id follow)
    (λ c above. lines_below-enough bs follow levels (length bs) (level + 1) c (omega arith) (omega arith)))

-- the lines below a branch are its own and those below its children
pub lines_of-node : (bs : List Branch) → ChildrenFollow (length bs) bs → (o : Open) (node : Node) → IsOpen bs o → node_of bs o.id ≡ Some node
    → lines_of bs o ≡ node_line o.level node ∷ flat_map (child_lines (λ child. lines_below (length bs) bs (o.level + 1) child)) (links_of bs o.id)
lines_of-node bs follow o node there is = some_levels bs follow (length bs) o.level o.id node refl there.there is

-- STACKS

-- the last one comes first
next_first : {A : Type 0} (xs : List A) (x : A) → reverse (xs ++ x ∷ []) ≡ x ∷ reverse xs
next_first xs x = reverse-append xs (x ∷ [])

pub open_lines-next : (bs : List Branch) (opened : List Open) (o : Open) → open_lines bs (opened ++ o ∷ []) ≡ lines_of bs o ++ open_lines bs opened
open_lines-next bs opened o = ap (flat_map (lines_of bs)) (next_first opened o)

pub are_open-next : (bs : List Branch) (opened : List Open) (o : Open) → AreOpen bs (opened ++ o ∷ []) → IsOpen bs o × AreOpen bs opened
are_open-next bs opened o h = subst (λ os. AllByRecursion (IsOpen bs) os) (next_first opened o) h

pub are_open-pushed : (bs : List Branch) (opened : List Open) (o : Open) → IsOpen bs o → AreOpen bs opened → AreOpen bs (opened ++ o ∷ [])
are_open-pushed bs opened o first rest = subst (λ os. AllByRecursion (IsOpen bs) os) (sym (next_first opened o)) (first, rest)

-- CHILDREN

between_front : (low high : ℕ) (cs : List (Option ℕ)) (c : Option ℕ) → AreBetween low high (cs ++ c ∷ []) → AreBetween low high cs × AreBetween low high (c ∷ [])
between_front low high [] c h = (tt, h)
between_front low high (None ∷ cs) c h = between_front low high cs c h
between_front low high (Some x ∷ cs) c h = let rest = between_front low high cs c h.2 in ((h.0, h.1, rest.0), rest.1)

-- the children before the last one, and the last one, have numbers above that of their parent
pub children_before : (low high : ℕ) (all before : List (Option ℕ)) (c : Option ℕ) → all ≡ before ++ c ∷ [] → AreBetween low high all
    → AreBetween low high before × AreBetween low high (c ∷ [])
children_before low high all before c e h = between_front low high before c (subst (λ cs. AreBetween low high cs) e h)

flat_map-last : {X A : Type 0} (f : X → List A) (xs : List X) (x : X) → flat_map f (xs ++ x ∷ []) ≡ flat_map f xs ++ f x
flat_map-last f xs x = flat_map-append f xs (x ∷ []) ∙ ap (λ more. flat_map f xs ++ more) (append-nil (f x))

-- the lines of an absent child are none
pub lines_absent : (f : Option ℕ → List (List (List ℕ))) (all before : List (Option ℕ)) (due : List (List (List ℕ))) → all ≡ before ++ None ∷ [] → f None ≡ []
    → flat_map f all ++ due ≡ flat_map f before ++ due
lines_absent f all before due e none =
    ap (λ cs. flat_map f cs ++ due) e ∙ ap (λ ls. ls ++ due) (flat_map-last f before None ∙ ap (λ more. flat_map f before ++ more) none ∙ append-nil (flat_map f before))

-- the lines of a child that is there are due on the stack
pub lines_opened : (bs : List Branch) (f : Option ℕ → List (List (List ℕ))) (all before : List (Option ℕ)) (opened opened' : List Open) (o : Open) (c : ℕ)
    → all ≡ before ++ Some c ∷ [] → f (Some c) ≡ lines_of bs o → opened' ≡ opened ++ o ∷ []
    → flat_map f all ++ open_lines bs opened ≡ flat_map f before ++ open_lines bs opened'
lines_opened bs f all before opened opened' o c e some pushed =
    ap (λ cs. flat_map f cs ++ open_lines bs opened) e
    ∙ ap (λ ls. ls ++ open_lines bs opened) (flat_map-last f before (Some c) ∙ ap (λ more. flat_map f before ++ more) some)
    ∙ append_assoc (flat_map f before) (lines_of bs o) (open_lines bs opened)
    ∙ ap (λ ls. flat_map f before ++ ls) (sym (ap (open_lines bs) pushed ∙ open_lines-next bs opened o))

-- the same, of lists that are equal
pub lines_start : (f : Option ℕ → List (List (List ℕ))) (rest all : List (Option ℕ)) (due : List (List (List ℕ))) → rest ≡ all → flat_map f rest ++ due ≡ flat_map f all ++ due
lines_start f rest all due e = ap (λ cs. flat_map f cs ++ due) e

pub are_open-more : (bs : List Branch) (opened opened' : List Open) (o : Open) → opened' ≡ opened ++ o ∷ [] → IsOpen bs o → AreOpen bs opened → AreOpen bs opened'
are_open-more bs opened opened' o e first rest = subst (λ os. AreOpen bs os) (sym e) (are_open-pushed bs opened o first rest)

-- all children are open
pub lines_closed : (bs : List Branch) → ChildrenFollow (length bs) bs → (o : Open) (opened opened' : List Open) (rest : List (Option ℕ)) → IsOpen bs o → rest ≡ []
    → flat_map (child_lines (λ child. lines_below (length bs) bs (o.level + 1) child)) rest ++ open_lines bs opened'
    ≡ flat_map (child_lines (λ child. lines_below (length bs) bs (o.level + 1) child)) (links_of bs o.id) ++ open_lines bs opened
    → Opens bs o opened opened'
lines_closed bs follow o opened opened' rest there none lines node is =
    ap (λ ls. ls ++ open_lines bs opened) (lines_of-node bs follow o node there is)
    ∙ ap (λ ls. node_line o.level node ∷ ls)
    (sym lines ∙ ap (λ cs. flat_map (child_lines (λ child. lines_below (length bs) bs (o.level + 1) child)) cs ++ open_lines bs opened') none)

-- the lines due for the branch that is next and for those below it are its own line, and then those due once its children
-- are open
pub lines_next : (bs : List Branch) (opened below opened' : List Open) (o : Open) (node : Node) → opened ≡ below ++ o ∷ [] → Opens bs o below opened'
    → node_of bs o.id ≡ Some node → open_lines bs opened ≡ node_line o.level node ∷ open_lines bs opened'
lines_next bs opened below opened' o node e opens is = ap (open_lines bs) e ∙ open_lines-next bs below o ∙ opens node is

-- the branch that is next is there, and so are those below it
pub are_open-split : (bs : List Branch) (opened below : List Open) (o : Open) → opened ≡ below ++ o ∷ [] → AreOpen bs opened → IsOpen bs o × AreOpen bs below
are_open-split bs opened below o e h = are_open-next bs below o (subst (λ os. AreOpen bs os) e h)

-- no branch is open
pub none_open : (bs : List Branch) (opened : List Open) → opened ≡ [] → open_lines bs opened ≡ []
none_open bs opened e = ap (open_lines bs) e

first_of_levels : (bs : List Branch) (levels level id : ℕ) (node : Node) → id < levels → node_of bs id ≡ Some node
    → (due : List (List (List ℕ))) × (lines_below levels bs level id ≡ node_line level node ∷ due)
first_of_levels bs zero level id node there is = absurd (omega arith)
first_of_levels bs (suc levels) level id node there is = (
  flat_map (child_lines (λ child. lines_below levels bs (level + 1) child)) (links_of bs id),
  ap (branch_lines level (λ child. lines_below levels bs (level + 1) child)) (branch_there bs id node is),
)

-- the first line that is due is that of the branch that is next
pub first_line : (bs : List Branch) (opened below : List Open) (o : Open) (node : Node) → opened ≡ below ++ o ∷ [] → AreOpen bs opened → node_of bs o.id ≡ Some node
    → (due : List (List (List ℕ))) × (open_lines bs opened ≡ node_line o.level node ∷ due)
first_line bs opened below o node e h is =
    let there = (are_open-split bs opened below o e h).0 in
    let first = first_of_levels bs (length bs) o.level o.id node there.there is in
    (first.0 ++ open_lines bs below, ap (open_lines bs) e ∙ open_lines-next bs below o ∙ ap (λ ls. ls ++ open_lines bs below) first.1)

-- a stack from which none is taken is empty
pub none_left : {A : Type 0} (xs ys : List A) (n : ℕ) → xs ≡ ys ++ [] → ys ≡ take (n - 1) xs → n ≡ 0 → xs ≡ []
none_left xs ys n whole front none = whole ∙ append-nil ys ∙ front ∙ ap (λ k. take (k - 1) xs) none
