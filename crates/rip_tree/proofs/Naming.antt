-- The first of the branches that pass a test, and the first with a name.
use Rattle.std.proofs.Common.{◌≡◌, ℕ, zero, suc, ◌+◌, ◌<◌, ◌≤◌, Bool, true, false, cond, not, nat_lt, eqb, List, [], ◌∷◌, ◌++◌, length, take, drop, Option, Some, None, option_and_then, unwrap_or, position, bytes_eq, get_or, refl, sym, ap, ◌∙◌, arith, length-append}
use Rattle.std.specs.List.{position_or_len}
use Rattle.std.specs.Option.{option_or}
use Rattle.std.proofs.lemmas.Slice.Eq.{bytes_eq-Decides}
use Rattle.std.proofs.lemmas.List.Folds.{position_or_len_push}
use Rattle.std.proofs.lemmas.List.Sums.{prefix_len-le-length}
use Rattle.std.proofs.lemmas.List.FromFn.{get_or-map-range_with_len, length-map-range_with_len}
use Rattle.rip_tree.specs.declared.node.Node.{Node}
use Rattle.rip_tree.specs.Branches.{Branch, links_of, node_of}
use Rattle.rip_tree.specs.Program.{Grove}
use Rattle.rip_tree.specs.Firsts.{AreFirsts, FirstsHaveTheNames, first_named, first_with, has_name, is_name, name_at, name_of}

-- ---- positions

given_some : (n m k : ℕ) → cond (nat_lt n m) (Some n) None ≡ Some k → (n ≡ k) × (k < m)
given_some n m k h = grind arith

given_none : (n m : ℕ) → cond (nat_lt n m) (Some n) None ≡ None → m ≤ n
given_none n m h = grind arith

-- what is found in the front of a list is the first of the whole list
front : (p : Branch → Bool) (xs ys : List Branch) → position_or_len p xs < length xs → position_or_len p (xs ++ ys) ≡ position_or_len p xs
front p [] ys h = absurd (omega arith)
front p (x ∷ xs) ys h =
    (elim (p x) as (λ b. cond (not b) (1 + position_or_len p xs) 0 < suc (length xs) → cond (not b) (1 + position_or_len p (xs ++ ys)) 0 ≡ cond (not b) (1 + position_or_len p xs) 0) [
      | true ↦ λ _. refl
      | false ↦ λ less. ap (λ n. 1 + n) (front p xs ys (omega arith))
    ]) h

pub found : (p : Branch → Bool) (xs ys : List Branch) (k : ℕ) → position p xs ≡ Some k → position_or_len p (xs ++ ys) ≡ k
found p xs ys k h =
    let is = given_some (position_or_len p xs) (length xs) k h in
    let same : position_or_len p xs ≡ k = is.0 in
    front p xs ys (omega (arith, is.1)) ∙ same

-- and where none is found there, the next one that passes is
behind : (p : Branch → Bool) (xs : List Branch) (y : Branch) (ys : List Branch) → length xs ≤ position_or_len p xs → p y ≡ true → position_or_len p (xs ++ y ∷ ys) ≡ length xs
behind p [] y ys h passes = rw passes refl
behind p (x ∷ xs) y ys h passes =
    (elim (p x) as (λ b. suc (length xs) ≤ cond (not b) (1 + position_or_len p xs) 0 → cond (not b) (1 + position_or_len p (xs ++ y ∷ ys)) 0 ≡ suc (length xs)) [
      | true ↦ λ less. absurd (omega arith)
      | false ↦ λ less. let rest : position_or_len p (xs ++ y ∷ ys) ≡ length xs = behind p xs y ys (omega arith) passes in omega arith
    ]) h

pub not_found : (p : Branch → Bool) (xs : List Branch) (y : Branch) (ys : List Branch) → position p xs ≡ None → p y ≡ true → position_or_len p (xs ++ y ∷ ys) ≡ length xs
not_found p xs y ys h passes = behind p xs y ys (given_none (position_or_len p xs) (length xs) h) passes

pushed : (n m : ℕ) (b : Bool) → n ≤ m → cond (nat_lt (cond (eqb n m) (m + cond b 0 1) n) (m + 1)) (Some (cond (eqb n m) (m + cond b 0 1) n)) None
    ≡ option_or (cond (nat_lt n m) (Some n) None) (cond b (Some m) None)
pushed n m true h = grind arith
pushed n m false h = grind arith

-- the new element counts where none is found before
pub one_more : (p : Branch → Bool) (xs : List Branch) (y : Branch) → position p (xs ++ y ∷ []) ≡ option_or (position p xs) (cond (p y) (Some (length xs)) None)
one_more p xs y =
    let P : ℕ → ℕ → Option ℕ = λ n m. cond (nat_lt n m) (Some n) None in
    ap (λ n. P n (length (xs ++ y ∷ []))) (position_or_len_push p xs y)
    ∙ ap (P (cond (eqb (position_or_len p xs) (length xs)) (length xs + cond (p y) 0 1) (position_or_len p xs))) (length-append xs (y ∷ []))
    ∙ pushed (position_or_len p xs) (length xs) (p y) (prefix_len-le-length (λ x. not (p x)) xs)

-- ---- one node more

-- the branch with this number
abbrev branch_at_node : List Branch → ℕ → Node → Branch
branch_at_node bs id node = record { node = node; children = links_of bs id }

front_more : (bs : List Branch) (id : ℕ) (node : Node) → node_of bs id ≡ Some node → take (id + 1) bs ≡ take id bs ++ branch_at_node bs id node ∷ []
front_more [] id node h = absurd (cc)
front_more (b ∷ bs) zero node h = let n : b.node ≡ node = cc in rw n refl
front_more (b ∷ bs) (suc id) node h =
    let e : suc id + 1 ≡ suc (id + 1) = omega arith in ap (λ n. take n (b ∷ bs)) e ∙ ap (λ xs. b ∷ xs) (front_more bs id node h)

front_and_rest : (bs : List Branch) (id : ℕ) (node : Node) → node_of bs id ≡ Some node → bs ≡ take id bs ++ branch_at_node bs id node ∷ drop (suc id) bs
front_and_rest [] id node h = absurd (cc)
front_and_rest (b ∷ bs) zero node h = let n : b.node ≡ node = cc in rw n refl
front_and_rest (b ∷ bs) (suc id) node h = ap (λ xs. b ∷ xs) (front_and_rest bs id node h)

front_long : (bs : List Branch) (id : ℕ) (node : Node) → node_of bs id ≡ Some node → length (take id bs) ≡ id
front_long [] id node h = absurd (cc)
front_long (b ∷ bs) zero node h = refl
front_long (b ∷ bs) (suc id) node h = ap suc (front_long bs id node h)

-- of what was noted for its name, or else its own number, the first is
first_is : (p : Branch → Bool) (bs : List Branch) (id : ℕ) (node : Node) (o : Option ℕ) → node_of bs id ≡ Some node → p (branch_at_node bs id node) ≡ true → position p (take id bs) ≡ o
    → unwrap_or o id ≡ position_or_len p bs
first_is p bs id node (Some k) h passes was =
    sym (ap (position_or_len p) (front_and_rest bs id node h) ∙ found p (take id bs) (branch_at_node bs id node ∷ drop (suc id) bs) k was)
first_is p bs id node None h passes was =
    sym (ap (position_or_len p) (front_and_rest bs id node h) ∙ not_found p (take id bs) (branch_at_node bs id node) (drop (suc id) bs) was passes ∙ front_long bs id node h)

pick : (b : Bool) (o : Option ℕ) (first id : ℕ) → (b ≡ true → first ≡ unwrap_or o id) → cond b (Some first) o ≡ option_or o (cond b (Some id) None)
pick true None first id h = ap Some (h refl)
pick true (Some k) first id h = ap Some (h refl)
pick false None first id h = refl
pick false (Some k) first id h = refl

-- the first with the name of a node, by what is noted
pub first_noted : (g : Grove) (id first : ℕ) (node : Node) (name : List ℕ) (old : List ℕ → Option ℕ) → node_of g.branches id ≡ Some node → name_of g.units node.form ≡ Some name
    → ((q : List ℕ) → old q ≡ position (has_name g.units q) (take id g.branches)) → first ≡ unwrap_or (old name) id → first ≡ first_named g id
unfolding first_named
first_noted g id first node name old h named noted is =
    let N : Option Node → Option (List ℕ) = λ o. option_and_then (λ n. name_of g.units n.form) o in
    let passes : is_name name (name_of g.units node.form) ≡ true = ap (is_name name) named ∙ (bytes_eq-Decides name name).1 refl in
    is ∙ first_is (has_name g.units name) g.branches id node (old name) h passes (sym (noted name)) ∙ ap (first_with g id) (sym (ap N h ∙ named))

-- and what is noted with it
pub noted_more : (g : Grove) (id first : ℕ) (node : Node) (name : List ℕ) (old new : List ℕ → Option ℕ) → node_of g.branches id ≡ Some node → name_of g.units node.form ≡ Some name
    → ((q : List ℕ) → old q ≡ position (has_name g.units q) (take id g.branches)) → first ≡ unwrap_or (old name) id
    → ((q : List ℕ) → new q ≡ cond (bytes_eq name q) (Some first) (old q)) → (q : List ℕ) → new q ≡ position (has_name g.units q) (take (id + 1) g.branches)
noted_more g id first node name old new h named noted is added q =
    let seen : ℕ → Bool → Option ℕ = λ n b. option_or (position (has_name g.units q) (take id g.branches)) (cond b (Some n) None) in
    added q
    ∙ pick (bytes_eq name q) (old q) first id (λ same. is ∙ ap (λ n. unwrap_or (old n) id) ((bytes_eq-Decides name q).0 same))
    ∙ ap (λ o. option_or o (cond (bytes_eq name q) (Some id) None)) (noted q)
    ∙ ap (seen id) (sym (ap (is_name q) named))
    ∙ ap (λ n. seen n (is_name q (name_of g.units node.form))) (sym (front_long g.branches id node h))
    ∙ sym (ap (position (has_name g.units q)) (front_more g.branches id node h) ∙ one_more (has_name g.units q) (take id g.branches) (branch_at_node g.branches id node))

-- a node without a name is its own first
pub first_unnamed : (g : Grove) (id : ℕ) (node : Node) → node_of g.branches id ≡ Some node → name_of g.units node.form ≡ None → id ≡ first_named g id
unfolding first_named
first_unnamed g id node h named =
    let N : Option Node → Option (List ℕ) = λ o. option_and_then (λ n. name_of g.units n.form) o in
    ap (first_with g id) (sym (ap N h ∙ named))

or_none : (o : Option ℕ) → o ≡ option_or o None
or_none None = refl
or_none (Some k) = refl

-- and nothing is noted of it
pub noted_same : (g : Grove) (id : ℕ) (node : Node) (old new : List ℕ → Option ℕ) → node_of g.branches id ≡ Some node → name_of g.units node.form ≡ None
    → ((q : List ℕ) → old q ≡ position (has_name g.units q) (take id g.branches)) → ((q : List ℕ) → new q ≡ old q)
    → (q : List ℕ) → new q ≡ position (has_name g.units q) (take (id + 1) g.branches)
noted_same g id node old new h named noted same q =
    let front = take id g.branches in
    let seen : Bool → Option ℕ = λ b. option_or (position (has_name g.units q) front) (cond b (Some (length front)) None) in
    same q ∙ noted q ∙ or_none (position (has_name g.units q) front)
    ∙ ap seen (sym (ap (is_name q) named))
    ∙ sym (ap (position (has_name g.units q)) (front_more g.branches id node h) ∙ one_more (has_name g.units q) front (branch_at_node g.branches id node))

-- ---- the firsts themselves

-- the first with the name of a node comes no later, and has that name
first_has : (units name : List ℕ) (bs : List Branch) (id : ℕ) → option_and_then (λ node. name_of units node.form) (node_of bs id) ≡ Some name
    → (position_or_len (has_name units name) bs ≤ id) × (option_and_then (λ node. name_of units node.form) (node_of bs (position_or_len (has_name units name) bs)) ≡ Some name)
first_has units name [] id h = absurd (cc)
first_has units name (b ∷ bs) zero h =
    let passes : has_name units name b ≡ true = ap (is_name name) h ∙ (bytes_eq-Decides name name).1 refl in
    rw passes (omega arith, h)
first_has units name (b ∷ bs) (suc id) h =
    let rest = first_has units name bs id h in
    let N : ℕ → Option (List ℕ) = λ n. option_and_then (λ node. name_of units node.form) (node_of (b ∷ bs) n) in
    let one : 1 + position_or_len (has_name units name) bs ≡ suc (position_or_len (has_name units name) bs) = omega arith in
    (elim (has_name units name b) as (λ t. has_name units name b ≡ t → (cond (not t) (1 + position_or_len (has_name units name) bs) 0 ≤ suc id) × (N (cond (not t) (1 + position_or_len (has_name units name) bs) 0) ≡ Some name)) [
      | true ↦ λ is. (omega arith, named (name_of units b.node.form) is)
      | false ↦ λ is. (omega (arith, rest.0), ap N one ∙ rest.1)
    ]) refl
  where
    named : (own : Option (List ℕ)) → is_name name own ≡ true → own ≡ Some name
    named None is = absurd (cc)
    named (Some own) is = ap Some ((bytes_eq-Decides own name).0 is)

-- so of each node
firsts_with : (g : Grove) (id : ℕ) (o : Option (List ℕ)) → name_at g id ≡ o
    → (first_with g id o ≤ id) × (name_at g (first_with g id o) ≡ o) × (first_with g (first_with g id o) o ≡ first_with g id o)
firsts_with g id None h = (omega arith, h, refl)
firsts_with g id (Some name) h =
    let has = first_has g.units name g.branches id h in (has.0, has.1, refl)

pub firsts_have_names : (g : Grove) → FirstsHaveTheNames g
unfolding first_named
firsts_have_names g id =
    let is = firsts_with g id (name_at g id) refl in
    let first = first_with g id (name_at g id) in
    (is.0, is.1, ap (first_with g first) is.1 ∙ is.2)

-- ---- the firsts that are noted

no_node : (bs : List Branch) (id : ℕ) → length bs ≤ id → node_of bs id ≡ None
no_node [] id past = refl
no_node (b ∷ bs) zero past = absurd (omega arith)
no_node (b ∷ bs) (suc id) past = no_node bs id (omega arith)

-- past the last node it is the number itself
pub noted_past : (g : Grove) (firsts : List ℕ) (id : ℕ) → AreFirsts g firsts → length firsts ≤ id → id ≡ first_named g id
unfolding first_named
noted_past g firsts id are past =
    let N : Option Node → Option (List ℕ) = λ o. option_and_then (λ n. name_of g.units n.form) o in
    let long : length firsts ≡ length g.branches = ap length are ∙ length-map-range_with_len (first_named g) 0 (length g.branches) in
    ap (first_with g id) (sym (ap N (no_node g.branches id (omega arith))))

-- and of a node it is the one that is noted
pub noted_at : (g : Grove) (firsts : List ℕ) (id other : ℕ) → AreFirsts g firsts → id < length firsts → get_or firsts id other ≡ first_named g id
noted_at g firsts id other are within =
    let long : length firsts ≡ length g.branches = ap length are ∙ length-map-range_with_len (first_named g) 0 (length g.branches) in
    ap (λ (ns : List ℕ). get_or ns id other) are ∙ get_or-map-range_with_len (first_named g) 0 (length g.branches) id id other (omega arith) (omega arith)
