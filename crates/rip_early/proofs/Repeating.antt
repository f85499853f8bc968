-- Names that stand twice, found one after another.
use Rattle.std.proofs.Common.{◌≡◌, ℕ, ◌+◌, ◌<◌, List, [], ◌∷◌, ◌++◌, length, take, append_assoc, filter_map, Option, Some, None, is_some, option_and_then, Bool, true, false, cond, ◌||◌, get_or, refl, sym, ap, ◌∙◌, subst}
use Rattle.std.specs.List.{cons_option, list_any, position_from}
use Rattle.std.specs.Option.{option_to_list}
use Rattle.std.specs.Str.{bytes_eq}
use Rattle.std.proofs.lemmas.Iterator.Adapters.{position_from-zero}
use Rattle.std.proofs.lemmas.List.{append-nil, take_more}
use Rattle.std.proofs.lemmas.List.Elements.{filter_map-append}
use Rattle.std.proofs.lemmas.List.Folds.{list_any-append}
use Rattle.std.proofs.lemmas.Slice.Eq.{bytes_eq-Decides}
use Rattle.rip_tree.specs.declared.node.Node.{Node}
use Rattle.rip_tree.specs.Branches.{Plant, node_of}
use Rattle.rip_early.specs.declared.duplicates.Placed.{Placed}
use Rattle.rip_early.specs.declared.mistake.Mistake.{Mistake}
use Rattle.rip_early.specs.declared.refusal.EarlyKind.TheVariants.{Duplicate}
use Rattle.rip_early.specs.Around.{present}
use Rattle.rip_early.specs.Least.{IsLeast}
use Rattle.rip_early.specs.Mistakes.{mistake, repeated_behind, where_so}
use Rattle.rip_early.specs.Names.{Name, place_in, with_name}
use Rattle.rip_early.proofs.Gathering.{present-append}

-- GATHERED

-- the name that a child has, if there is such a child and it has one
abbrev pub placed_child : (Node → Option Placed) → Plant → Option ℕ → Option Placed
placed_child f t child = option_and_then f (option_and_then (node_of t.branches) child)

one-placed : (o : Option Placed) → cons_option o [] ≡ option_to_list o
one-placed None = refl
one-placed (Some p) = refl

placed-one : (f : Node → Option Placed) (o : Option Node) → filter_map f (cons_option o []) ≡ option_to_list (option_and_then f o)
placed-one f None = refl
placed-one f (Some node) = one-placed (f node)

child-placed : (f : Node → Option Placed) (t : Plant) (child : Option ℕ) → filter_map f (filter_map (node_of t.branches) (present (child ∷ []))) ≡ option_to_list (placed_child f t child)
child-placed f t None = refl
child-placed f t (Some c) = placed-one f (node_of t.branches c)

-- the names that the first children have
abbrev pub placed_among : (Node → Option Placed) → Plant → List (Option ℕ) → List Placed
placed_among f t links = filter_map f (filter_map (node_of t.branches) (present links))

-- the name of one child more
pub placed-more : (f : Node → Option Placed) (t : Plant) (links : List (Option ℕ)) (i : ℕ) (d : Option ℕ) (before after : List Placed) (placed : Option Placed) → i < length links
    → after ≡ before ++ option_to_list placed → before ≡ placed_among f t (take i links) → placed ≡ placed_child f t (get_or links i d)
    → after ≡ placed_among f t (take (i + 1) links)
placed-more f t links i d before after placed h added was is =
    added
    ∙ ap (λ ps. ps ++ option_to_list placed) was
    ∙ ap (λ o. placed_among f t (take i links) ++ option_to_list o) is
    ∙ sym (
    ap (placed_among f t) (take_more links i d h)
    ∙ ap (λ cs. filter_map f (filter_map (node_of t.branches) cs)) (present-append (take i links) (get_or links i d ∷ []))
    ∙ ap (filter_map f) (filter_map-append (node_of t.branches) (present (take i links)) (present (get_or links i d ∷ [])))
    ∙ filter_map-append f (filter_map (node_of t.branches) (present (take i links))) (filter_map (node_of t.branches) (present (get_or links i d ∷ [])))
    ∙ ap (λ ps. placed_among f t (take i links) ++ ps) (child-placed f t (get_or links i d))
    )

-- COMPARED

some-from : {K : Type 0} (p : K → Bool) (i : ℕ) (xs : List K) → is_some (position_from p i xs) ≡ list_any p xs
some-from p i [] = refl
some-from p i (x ∷ xs) = elim (p x) as (λ b. is_some (cond b (Some i) (position_from p (i + 1) xs)) ≡ b || list_any p xs) [ true ↦ refl | false ↦ some-from p (i + 1) xs ]

-- a name is among others where one of them is equal to it
stands-any : (names : List Name) (q : Name) → is_some (place_in names q) ≡ list_any (λ other. bytes_eq other q) names
stands-any names q = ap is_some (position_from-zero (λ other. bytes_eq other q) names) ∙ some-from (λ other. bytes_eq other q) 0 names

or-back : (a b : Bool) → (a || b) ≡ (b || a)
or-back true true = refl
or-back true false = refl
or-back false true = refl
or-back false false = refl

or-within : (a b : Bool) → (a ≡ true → b ≡ true) → b ≡ (a || b)
or-within true b within = within refl
or-within false b within = refl

-- a name stands among the names with one more where it is that one or stood among them before
with-stands : (names : List Name) (name q : Name) (found : Option ℕ) → place_in names name ≡ found
    → is_some (place_in (elim found as (λ _. List Name) [ Some place ↦ names | None ↦ names ++ name ∷ [] ]) q) ≡ bytes_eq name q || is_some (place_in names q)
with-stands names name q None is =
    stands-any (names ++ name ∷ []) q
    ∙ list_any-append (λ other. bytes_eq other q) names (name ∷ [])
    ∙ or-back (list_any (λ other. bytes_eq other q) names) (bytes_eq name q || false)
    ∙ ap (λ b. b || list_any (λ other. bytes_eq other q) names) (or-back (bytes_eq name q) false)
    ∙ ap (λ b. bytes_eq name q || b) (sym (stands-any names q))
with-stands names name q (Some place) is =
    or-within (bytes_eq name q) (is_some (place_in names q)) (λ same. ap (λ n. is_some (place_in names n)) (sym ((bytes_eq-Decides name q).0 same)) ∙ ap is_some is)

-- the names of these, and the names before them
abbrev pub names_behind : List Name → List Placed → List Name
names_behind before [] = before
names_behind before (p ∷ ps) = names_behind (p.name ∷ before) ps

names_behind-push : (before : List Name) (ps : List Placed) (p : Placed) → names_behind before (ps ++ p ∷ []) ≡ p.name ∷ names_behind before ps
names_behind-push before [] p = refl
names_behind-push before (n ∷ ns) p = names_behind-push (n.name ∷ before) ns p

repeated-push : (before : List Name) (ps : List Placed) (p : Placed)
    → repeated_behind before (ps ++ p ∷ []) ≡ repeated_behind before ps ++ where_so (is_some (place_in (names_behind before ps) p.name)) (mistake p.place Duplicate)
repeated-push before [] p = append-nil (where_so (is_some (place_in before p.name)) (mistake p.place Duplicate))
repeated-push before (n ∷ ns) p =
    ap (λ ms. where_so (is_some (place_in before n.name)) (mistake n.place Duplicate) ++ ms) (repeated-push (n.name ∷ before) ns p)
    ∙ sym (append_assoc (where_so (is_some (place_in before n.name)) (mistake n.place Duplicate)) (repeated_behind (n.name ∷ before) ns) (where_so (is_some (place_in (names_behind (n.name ∷ before) ns) p.name)) (mistake p.place Duplicate)))

-- these names have the same names among them as those before a place
pub record StandAlike (names : List Name) (before : List Placed) : Type 0 where
  pub alike : (q : Name) → is_some (place_in names q) ≡ is_some (place_in (names_behind [] before) q)

-- one name more among them
pub alike-more : (names after : List Name) (ps : List Placed) (i : ℕ) (d : Placed) → i < length ps → after ≡ with_name names (get_or ps i d).name → StandAlike names (take i ps) → StandAlike after (take (i + 1) ps)
alike-more names after ps i d h added was =
    let name = (get_or ps i d).name in
    record {
      alike = λ q. ap (λ ns. is_some (place_in ns q)) added
          ∙ with-stands names name q (place_in names name) refl
          ∙ ap (λ b. bytes_eq name q || b) (was.alike q ∙ stands-any (names_behind [] (take i ps)) q)
          ∙ sym (ap (λ ns. is_some (place_in ns q)) (ap (names_behind []) (take_more ps i d h) ∙ names_behind-push [] (take i ps) (get_or ps i d)) ∙ stands-any (name ∷ names_behind [] (take i ps)) q);
    }

-- the first early error of one name more
pub least-more : (ps : List Placed) (i : ℕ) (d : Placed) (found : Bool) (place : ℕ) (least : Option Mistake) → i < length ps
    → found ≡ is_some (place_in (names_behind [] (take i ps)) (get_or ps i d).name) → place ≡ (get_or ps i d).place
    → IsLeast (repeated_behind [] (take i ps) ++ where_so found (mistake place Duplicate)) least
    → IsLeast (repeated_behind [] (take (i + 1) ps)) least
least-more ps i d found place least h is at known =
    subst (λ ms. IsLeast ms least) (
    ap (λ b. repeated_behind [] (take i ps) ++ where_so b (mistake place Duplicate)) is
    ∙ ap (λ n. repeated_behind [] (take i ps) ++ where_so (is_some (place_in (names_behind [] (take i ps)) (get_or ps i d).name)) (mistake n Duplicate)) at
    ∙ sym (ap (repeated_behind []) (take_more ps i d h) ∙ repeated-push [] (take i ps) (get_or ps i d))
    ) known
