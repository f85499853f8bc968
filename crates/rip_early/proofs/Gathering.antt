-- Names that are added one after another.
use Rattle.std.proofs.Common.{◌≡◌, ℕ, zero, suc, ◌+◌, ◌<◌, ◌≤◌, List, [], ◌∷◌, ◌++◌, length, map, take, append_assoc, filter_map, fold, Option, Some, None, if◌then◌else◌, get_or, refl, sym, ap, ◌∙◌, arith}
use Rattle.std.specs.Prelude.{option_and_then, option_to_list}
use Rattle.std.specs.List.{range_with_len, flat_map}
use Rattle.std.proofs.Math.Seq.{take-length}
use Rattle.std.proofs.lemmas.List.{map-append, take_all, take_more}
use Rattle.std.proofs.lemmas.List.Elements.{filter_map-append}
use Rattle.std.proofs.lemmas.List.Sums.{fold-append}
use Rattle.rip_tree.specs.Branches.{Plant}
use Rattle.rip_early.specs.Around.{home_of, in_text, present}
use Rattle.rip_early.specs.Gathered.{gathered}
use Rattle.rip_early.specs.Names.{Name, place_in, with_name, name_by, var_piece, is_number, parameter_names, function_names, var_names, var_name_in, function_scope, top_scope}
use Rattle.rip_early.specs.Indexed.{with_any, name_of_child}

-- the children of two lists of children
pub present-append : (xs ys : List (Option ℕ)) → present (xs ++ ys) ≡ present xs ++ present ys
present-append [] ys = refl
present-append (None ∷ xs) ys = present-append xs ys
present-append (Some c ∷ xs) ys = ap (λ cs. c ∷ cs) (present-append xs ys)

-- one name more, of a list of one
one-more : (names : List Name) (o : Option Name) (f : ℕ → Option Name) (id : ℕ) → f id ≡ o → fold with_name names (filter_map f (id ∷ [])) ≡ with_any names o
one-more names None f id is = rw is refl
one-more names (Some name) f id is = rw is refl

child-one : (f : ℕ → Option Name) (names : List Name) (child : Option ℕ) → fold with_name names (filter_map f (present (child ∷ []))) ≡ with_any names (name_of_child f child)
child-one f names None = refl
child-one f names (Some id) = one-more names (f id) f id refl

-- the names of one child more
pub child-more : (f : ℕ → Option Name) (names : List Name) (links : List (Option ℕ)) (i : ℕ) (d : Option ℕ) → i < length links
    → fold with_name names (filter_map f (present (take (i + 1) links))) ≡ with_any (fold with_name names (filter_map f (present (take i links)))) (name_of_child f (get_or links i d))
child-more f names links i d h =
    ap (λ cs. fold with_name names (filter_map f (present cs))) (take_more links i d h)
    ∙ ap (λ cs. fold with_name names (filter_map f cs)) (present-append (take i links) (get_or links i d ∷ []))
    ∙ ap (fold with_name names) (filter_map-append f (present (take i links)) (present (get_or links i d ∷ [])))
    ∙ fold-append with_name names (filter_map f (present (take i links))) (filter_map f (present (get_or links i d ∷ [])))
    ∙ child-one f (fold with_name names (filter_map f (present (take i links)))) (get_or links i d)

-- numbers up to one more
pub range-more : (a n : ℕ) → range_with_len a (suc n) ≡ range_with_len a n ++ (a + n) ∷ []
range-more a zero = ap (λ m. m ∷ []) (omega arith)
range-more a (suc n) = ap (λ ms. a ∷ ms) (range-more (a + 1) n ∙ ap (λ m. range_with_len (a + 1) n ++ m ∷ []) (omega arith))

-- the first numbers, with one more
pub numbers-more : (n : ℕ) → range_with_len 0 (n + 1) ≡ range_with_len 0 n ++ n ∷ []
numbers-more n = ap (range_with_len 0) (let e : n + 1 ≡ suc n = omega arith in e) ∙ range-more 0 n ∙ ap (λ m. range_with_len 0 n ++ m ∷ []) (omega arith)

-- the names of one node more
pub node-more : (f : ℕ → Option Name) (names : List Name) (ids : List ℕ) (seen d : ℕ) → seen < length ids
    → fold with_name names (filter_map f (take (seen + 1) ids)) ≡ with_any (fold with_name names (filter_map f (take seen ids))) (f (get_or ids seen d))
node-more f names ids seen d h =
    let n = get_or ids seen d in
    ap (λ ms. fold with_name names (filter_map f ms)) (take_more ids seen d h)
    ∙ ap (fold with_name names) (filter_map-append f (take seen ids) (n ∷ []))
    ∙ fold-append with_name names (filter_map f (take seen ids)) (filter_map f (n ∷ []))
    ∙ one-more (fold with_name names (filter_map f (take seen ids))) (f n) f n refl

-- the place of one name
place-one : (names : List Name) (f : ℕ → Option Name) (id : ℕ) (o : Option Name) (place : Option ℕ) → f id ≡ o → option_and_then (place_in names) o ≡ place
    → filter_map (place_in names) (filter_map f (id ∷ [])) ≡ option_to_list place
place-one names f id None None named is = rw named refl
place-one names f id None (Some place) named is = cc
place-one names f id (Some name) None named is = rw named (rw is refl)
place-one names f id (Some name) (Some place) named is = rw named (rw is refl)

-- the places of the names of one node more
pub place-more : (f : ℕ → Option Name) (names : List Name) (ids : List ℕ) (seen d : ℕ) → seen < length ids
    → filter_map (place_in names) (filter_map f (take (seen + 1) ids))
    ≡ filter_map (place_in names) (filter_map f (take seen ids)) ++ option_to_list (option_and_then (place_in names) (f (get_or ids seen d)))
place-more f names ids seen d h =
    let n = get_or ids seen d in
    ap (λ ms. filter_map (place_in names) (filter_map f ms)) (take_more ids seen d h)
    ∙ ap (filter_map (place_in names)) (filter_map-append f (take seen ids) (n ∷ []))
    ∙ filter_map-append (place_in names) (filter_map f (take seen ids)) (filter_map f (n ∷ []))
    ∙ ap (λ ps. filter_map (place_in names) (filter_map f (take seen ids)) ++ ps) (place-one names f n (f n) (option_and_then (place_in names) (f n)) refl refl)

-- a scope, when a node more was looked at
pub gathered-more : (t : Plant) (seen node id : ℕ) (old new : List Name) (home : Option ℕ) (name : Option Name)
    → seen < length (in_text t) → node ≡ get_or (in_text t) seen 0 → new ≡ with_any old (if is_number home id then name else None) → home ≡ home_of t node
    → name ≡ name_by var_piece t node → old ≡ gathered t seen id → new ≡ gathered t (seen + 1) id
gathered-more t seen node id old new home name within next is at_home named was =
    is
    ∙ ap (λ h. with_any old (if is_number h id then name else None)) at_home
    ∙ ap (λ n. with_any old (if is_number (home_of t node) id then n else None)) named
    ∙ ap (λ o. with_any o (var_name_in t id node)) was
    ∙ ap (λ n. with_any (gathered t seen id) (var_name_in t id n)) next
    ∙ sym (node-more (var_name_in t id) (fold with_name (fold with_name [] (parameter_names t id)) (function_names t id)) (in_text t) seen 0 within)

-- a scope of which all nodes were looked at
pub gathered-all : (t : Plant) (seen id : ℕ) → length (in_text t) ≤ seen → gathered t seen id ≡ function_scope t id
unfolding function_scope
gathered-all t seen id all =
    ap (λ ns. fold with_name (fold with_name (fold with_name [] (parameter_names t id)) (function_names t id)) (filter_map (var_name_in t id) ns)) (take_all seen (in_text t) all)
    ∙ ap (λ ns. fold with_name ns (var_names t id)) (sym (fold-append with_name [] (parameter_names t id) (function_names t id)))
    ∙ sym (fold-append with_name [] (parameter_names t id ++ function_names t id) (var_names t id))

-- the top scope of all scripts
pub top_scope-all : (trees : List Plant) (seen : ℕ) → seen ≡ length trees → fold with_name [] (flat_map (λ t. function_names t 0 ++ var_names t 0) (take seen trees)) ≡ top_scope trees
unfolding top_scope
top_scope-all trees seen is =
    ap (λ ts. fold with_name [] (flat_map (λ t. function_names t 0 ++ var_names t 0) ts)) (ap (λ n. take n trees) is ∙ take-length trees)

-- what is said of one node more
pub mapped-more : {X : Type 0} (f : ℕ → X) (n : ℕ) (before items after : List X) (x : X) → after ≡ items ++ x ∷ [] → items ≡ before ++ map f (range_with_len 0 n) → x ≡ f n
    → after ≡ before ++ map f (range_with_len 0 (n + 1))
mapped-more f n before items after x pushed was same =
    pushed
    ∙ ap (λ is. is ++ x ∷ []) was
    ∙ append_assoc before (map f (range_with_len 0 n)) (x ∷ [])
    ∙ ap (λ y. before ++ (map f (range_with_len 0 n) ++ y ∷ [])) same
    ∙ ap (λ ms. before ++ ms) (sym (ap (map f) (numbers-more n) ∙ map-append f (range_with_len 0 n) (n ∷ [])))
