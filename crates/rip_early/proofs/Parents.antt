-- The parents of nodes, as they are noted.
use Rattle.std.proofs.Common.{◌≡◌, ℕ, zero, suc, ◌+◌, ◌<◌, ◌==◌, List, [], ◌∷◌, ◌++◌, length, take, Option, Some, None, Bool, true, false, cond, ◌||◌, get_or, refl, sym, ap, ◌∙◌, arith}
use Rattle.std.specs.Option.{option_or}
use Rattle.std.specs.List.{position}
use Rattle.std.proofs.lemmas.List.{take_more, length-take}
use Rattle.rip_tree.specs.declared.form.Form.TheVariants as F
use Rattle.rip_tree.specs.Branches.{Branch, links_of}
use Rattle.rip_early.specs.Around.{holds}
use Rattle.rip_early.proofs.Positions.{position-push}

-- a child in two lists of children
pub holds-append : (id : ℕ) (xs ys : List (Option ℕ)) → holds id (xs ++ ys) ≡ holds id xs || holds id ys
holds-append id [] ys = refl
holds-append id (None ∷ xs) ys = holds-append id xs ys
holds-append id (Some c ∷ xs) ys =
    elim (c == id) as (λ b. (b || holds id (xs ++ ys)) ≡ (b || holds id xs) || holds id ys) [ true ↦ refl | false ↦ holds-append id xs ys ]

-- a branch for places past the last
pub no_branch : Branch
no_branch = record { node = record { place = 0; form = F.Empty }; children = [] }

-- the children of the branch at a place
pub children-links_of : (bs : List Branch) (id : ℕ) (d : Branch) → id < length bs → (get_or bs id d).children ≡ links_of bs id
children-links_of [] id d h = absurd (omega arith)
children-links_of (b ∷ bs) zero d h = refl
children-links_of (b ∷ bs) (suc id) d h = children-links_of bs id d (omega arith)

-- the first branch that holds a node, in one branch more
pub parent-more : (bs : List Branch) (id node : ℕ) → id < length bs
    → position (λ b. holds node b.children) (take (id + 1) bs) ≡ option_or (position (λ b. holds node b.children) (take id bs)) (cond (holds node (links_of bs id)) (Some id) None)
parent-more bs id node h =
    let many : length (take id bs) ≡ id = omega (arith, length-take id bs) in
    ap (position (λ b. holds node b.children)) (take_more bs id no_branch h)
    ∙ position-push (λ b. holds node b.children) (take id bs) (get_or bs id no_branch)
    ∙ ap (λ n. option_or (position (λ b. holds node b.children) (take id bs)) (cond (holds node (get_or bs id no_branch).children) (Some n) None)) many
    ∙ ap (λ cs. option_or (position (λ b. holds node b.children) (take id bs)) (cond (holds node cs) (Some id) None)) (children-links_of bs id no_branch h)

-- a parent that is noted stays, and else the node is noted of either list
pub noted-twice : (old : Option ℕ) (first second : Bool) (id : ℕ)
    → option_or (option_or old (cond first (Some id) None)) (cond second (Some id) None) ≡ option_or old (cond (first || second) (Some id) None)
noted-twice (Some p) first second id = refl
noted-twice None true second id = refl
noted-twice None false second id = refl

-- one child more of a node
pub noted-more : (node id i : ℕ) (children : List (Option ℕ)) (d initial before after : Option ℕ) → i < length children
    → after ≡ option_or before (cond (holds node (get_or children i d ∷ [])) (Some id) None)
    → before ≡ option_or initial (cond (holds node (take i children)) (Some id) None)
    → after ≡ option_or initial (cond (holds node (take (i + 1) children)) (Some id) None)
noted-more node id i children d initial before after h noted was =
    noted
    ∙ ap (λ o. option_or o (cond (holds node (get_or children i d ∷ [])) (Some id) None)) was
    ∙ noted-twice initial (holds node (take i children)) (holds node (get_or children i d ∷ [])) id
    ∙ ap (λ b. option_or initial (cond b (Some id) None)) (sym (ap (holds node) (take_more children i d h) ∙ holds-append node (take i children) (get_or children i d ∷ [])))

-- the children of one node more
pub parent-noted : (bs : List Branch) (children : List (Option ℕ)) (id node : ℕ) (before after : Option ℕ) → id < length bs → children ≡ links_of bs id
    → after ≡ option_or before (cond (holds node children) (Some id) None)
    → before ≡ position (λ b. holds node b.children) (take id bs)
    → after ≡ position (λ b. holds node b.children) (take (id + 1) bs)
parent-noted bs children id node before after h same noted was =
    noted
    ∙ ap (λ o. option_or o (cond (holds node children) (Some id) None)) was
    ∙ ap (λ cs. option_or (position (λ b. holds node b.children) (take id bs)) (cond (holds node cs) (Some id) None)) same
    ∙ sym (parent-more bs id node h)
