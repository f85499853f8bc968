-- The nodes of a tree in the order of its text, as they are listed.
use Rattle.std.proofs.Common.{◌≡◌, ℕ, zero, suc, ◌+◌, ◌-◌, ◌<◌, List, [], ◌∷◌, ◌++◌, length, take, get_or, Option, Some, None, refl, sym, ap, ◌∙◌, subst, arith, append_assoc, append-nil}
use Rattle.std.specs.Prelude.{Result, Ok, Err, OnOk}
use Rattle.std.specs.List.{All, flat_map}
use Rattle.std.proofs.lemmas.Grind.{flat_map-append}
use Rattle.std.proofs.lemmas.List.{take_more}
use Rattle.std.proofs.lemmas.List.Elements.{All-append, All-cons, All-head, All-nil, All-tail}
use Rattle.rip_base.specs.declared.memory.NoMemory.{NoMemory}
use Rattle.rip_tree.specs.Branches.{Plant, AreBetween, ChildrenFollow, links_of}
use Rattle.rip_early.specs.Around.{children_of, in_text, in_text_within, present}
use Rattle.rip_early.proofs.Gathering.{present-append}
use Rattle.rip_early.proofs.Parents.{children-links_of, no_branch}
use Rattle.rip_early.proofs.Surrounding.{ChildrenFollow-get}

-- LEVELS

at_node : (t : Plant) (levels id : ℕ) (items : List ℕ) → 0 < levels
    → (items ++ id ∷ []) ++ flat_map (in_text_within (levels - 1) t) (children_of t id) ≡ items ++ in_text_within levels t id
at_node t levels id items h =
    let more : suc (levels - 1) ≡ levels = omega arith in
    append_assoc items (id ∷ []) (flat_map (in_text_within (levels - 1) t) (children_of t id)) ∙ ap (λ n. items ++ in_text_within n t id) more

-- a node and what is below it
pub node_listed : (t : Plant) (levels id : ℕ) (items own all : List ℕ) (r : Result (Unit {0}) NoMemory) → 0 < levels → own ≡ items ++ id ∷ []
    → OnOk r (all ≡ own ++ flat_map (in_text_within (levels - 1) t) (children_of t id)) → OnOk r (all ≡ items ++ in_text_within levels t id)
node_listed t levels id items own all (Ok done) h e below = below ∙ ap (λ ns. ns ++ flat_map (in_text_within (levels - 1) t) (children_of t id)) e ∙ at_node t levels id items h
node_listed t levels id items own all (Err none) h e below = below

-- CHILDREN

-- what is listed at one child more
listed_more : (f : ℕ → List ℕ) (items : List ℕ) (links : List (Option ℕ)) (i : ℕ) → i < length links
    → items ++ flat_map f (present (take (i + 1) links)) ≡ (items ++ flat_map f (present (take i links))) ++ flat_map f (present (get_or links i None ∷ []))
listed_more f items links i h =
    ap (λ cs. items ++ flat_map f (present cs)) (take_more links i None h)
    ∙ ap (λ ids. items ++ flat_map f ids) (present-append (take i links) (get_or links i None ∷ []))
    ∙ ap (λ ns. items ++ ns) (flat_map-append f (present (take i links)) (present (get_or links i None ∷ [])))
    ∙ sym (append_assoc items (flat_map f (present (take i links))) (flat_map f (present (get_or links i None ∷ []))))

-- at a child that is there
pub child_listed : (f : ℕ → List ℕ) (items old new : List ℕ) (links : List (Option ℕ)) (i c : ℕ) → i < length links → get_or links i None ≡ Some c → new ≡ old ++ f c
    → old ≡ items ++ flat_map f (present (take i links)) → new ≡ items ++ flat_map f (present (take (i + 1) links))
child_listed f items old new links i c h is e was =
    e
    ∙ ap (λ ns. ns ++ f c) was
    ∙ ap (λ ns. (items ++ flat_map f (present (take i links))) ++ ns) (sym (append-nil (f c)))
    ∙ ap (λ o. (items ++ flat_map f (present (take i links))) ++ flat_map f (present (o ∷ []))) (sym is)
    ∙ sym (listed_more f items links i h)

-- at a child that is absent
pub none_listed : (f : ℕ → List ℕ) (items old : List ℕ) (links : List (Option ℕ)) (i : ℕ) → i < length links → get_or links i None ≡ None
    → old ≡ items ++ flat_map f (present (take i links)) → old ≡ items ++ flat_map f (present (take (i + 1) links))
none_listed f items old links i h is was =
    was
    ∙ sym (append-nil (items ++ flat_map f (present (take i links))))
    ∙ ap (λ o. (items ++ flat_map f (present (take i links))) ++ flat_map f (present (o ∷ []))) (sym is)
    ∙ sym (listed_more f items links i h)

-- BOUNDS

present_below : (low high : ℕ) (cs : List (Option ℕ)) → AreBetween low high cs → All (λ id. id < high) (present cs)
present_below low high [] between = All-nil (λ id. id < high)
present_below low high (None ∷ cs) between = present_below low high cs between
present_below low high (Some c ∷ cs) between = All-cons (λ id. id < high) c (present cs) between.1 (present_below low high cs between.2)

-- the children of a node are nodes of the tree
children_below : (t : Plant) → ChildrenFollow (length t.branches) t.branches → (id : ℕ) → id < length t.branches → All (λ c. c < length t.branches) (children_of t id)
children_below t follow id h =
    let total = length t.branches in
    let at : id ≡ total - total + id = omega arith in
    present_below id total (links_of t.branches id)
    (subst (AreBetween id total) (children-links_of t.branches id no_branch h) (ChildrenFollow-get total t.branches id id no_branch follow (omega arith) h at))

all_listed : (P : ℕ → Type 0) (f : ℕ → List ℕ) → ((id : ℕ) → P id → All P (f id)) → (ids : List ℕ) → All P ids → All P (flat_map f ids)
all_listed P f each [] all = All-nil P
all_listed P f each (id ∷ ids) all = All-append P (f id) (flat_map f ids) (each id (All-head P id ids all)) (all_listed P f each ids (All-tail P id ids all))

-- what stands at and below a node of the tree are nodes of the tree
below_within : (t : Plant) → ChildrenFollow (length t.branches) t.branches → (levels id : ℕ) → id < length t.branches → All (λ n. n < length t.branches) (in_text_within levels t id)
below_within t follow zero id h = All-nil (λ n. n < length t.branches)
below_within t follow (suc levels) id h =
    let P = λ (n : ℕ). n < length t.branches in
    All-cons P id (flat_map (in_text_within levels t) (children_of t id)) h
    (all_listed P (in_text_within levels t) (λ c k. below_within t follow levels c k) (children_of t id) (children_below t follow id h))

root_within : (t : Plant) → ChildrenFollow (length t.branches) t.branches → (levels : ℕ) → levels ≡ length t.branches → All (λ n. n < length t.branches) (in_text_within levels t 0)
root_within t follow zero is = All-nil (λ n. n < length t.branches)
root_within t follow (suc levels) is = below_within t follow (suc levels) 0 (omega arith)

-- so is each in the order of the text
pub in_text-within : (t : Plant) → ChildrenFollow (length t.branches) t.branches → All (λ n. n < length t.branches) (in_text t)
in_text-within t follow = root_within t follow (length t.branches) refl
