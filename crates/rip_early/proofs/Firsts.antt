-- The first early error of all scripts.
use Rattle.std.proofs.Common.{◌≡◌, ℕ, suc, ◌+◌, ◌<◌, ◌≤◌, inl, inr, List, [], ◌∷◌, ◌++◌, length, map, get_or, take, drop, Option, Some, None, refl, sym, ap, ◌∙◌, subst, arith}
use Rattle.std.specs.List.{All, Contains, flat_map}
use Rattle.std.proofs.lemmas.Grind.{flat_map-append}
use Rattle.std.proofs.Math.Seq.{drop-cons}
use Rattle.std.proofs.lemmas.List.{append-nil, map-append, take-append-drop, take_more, length-take-le}
use Rattle.std.proofs.lemmas.List.Elements.{All-contains, All-head, All-more, All-tail, Contains-append_right}
use Rattle.rip_tree.specs.Branches.{Plant}
use Rattle.rip_early.specs.declared.mistake.Mistake.{Mistake}
use Rattle.rip_early.specs.declared.refusal.EarlyKind.{EarlyKind}
use Rattle.rip_early.specs.Least.{IsLeast}
use Rattle.rip_early.specs.Mistakes.{IsFirst, IsNoLater, AreClean, mistake, mistakes, order_of}
use Rattle.rip_early.specs.Names.{Name, top_scope}

-- these scripts have no early error, where the top scope of all scripts is known
abbrev pub HaveNone : List Plant → List Plant → Type 0
HaveNone all trees = All (λ t. mistakes (top_scope all) t ≡ []) trees

-- the scripts before one, it and those behind it
split_at : (trees : List Plant) (i : ℕ) (tree : Plant) → i < length trees → tree ≡ get_or trees i tree → trees ≡ take i trees ++ tree ∷ drop (i + 1) trees
split_at trees i tree within is =
    sym (take-append-drop i trees)
    ∙ ap (λ ts. take i trees ++ ts) (drop-cons trees i tree within)
    ∙ ap (λ t. take i trees ++ t ∷ drop (suc i) trees) (sym is)
    ∙ ap (λ n. take i trees ++ tree ∷ drop n trees) (let e : suc i ≡ i + 1 = omega arith in e)

-- what counts first in a script, by the names of the top scope
by_names : (trees : List Plant) (tree : Plant) (top : List Name) (o p : Option Mistake) → top ≡ top_scope trees → o ≡ p → IsLeast (mistakes top tree) o → IsLeast (mistakes (top_scope trees) tree) p
by_names trees tree top o p named is least = subst (λ ns. IsLeast (mistakes ns tree) p) named (subst (IsLeast (mistakes top tree)) is least)

-- the first script that has an early error, and the one that counts before all others of that script
pub first_found : (trees : List Plant) (i script : ℕ) (tree : Plant) (top : List Name) (o : Option Mistake) (m : Mistake) → i < length trees → tree ≡ get_or trees i tree → script ≡ i + 1
    → HaveNone trees (take i trees) → top ≡ top_scope trees → o ≡ Some m → IsLeast (mistakes top tree) o → IsFirst trees script m
first_found trees i script tree top o m within is number clean named found least =
    let counts : IsLeast (mistakes (top_scope trees) tree) (Some m) = by_names trees tree top o (Some m) named found least in
    record {
      before = take i trees;
      tree = tree;
      after = drop (i + 1) trees;
      split = split_at trees i tree within is;
      number = number ∙ ap (λ n. n + 1) (sym (let few : i ≤ length trees = omega arith in length-take-le i trees few));
      clean = clean;
      found = counts.0;
      first = counts.1;
    }

-- one script more that has no early error
pub none_more : (trees : List Plant) (i : ℕ) (tree : Plant) (top : List Name) (o : Option Mistake) → i < length trees → tree ≡ get_or trees i tree
    → HaveNone trees (take i trees) → top ≡ top_scope trees → o ≡ None → IsLeast (mistakes top tree) o → HaveNone trees (take (i + 1) trees)
none_more trees i tree top o within is before named none least =
    All-more (λ t. mistakes (top_scope trees) t ≡ []) trees i tree within before (ap (mistakes (top_scope trees)) (sym is) ∙ by_names trees tree top o None named none least)

-- what is said of one script more
pub said_more : {X : Type 0} (f : Plant → List X) (trees : List Plant) (i : ℕ) (tree : Plant) (old new : List X) → i < length trees → tree ≡ get_or trees i tree
    → old ≡ flat_map f (take i trees) → new ≡ old ++ f tree → new ≡ flat_map f (take (i + 1) trees)
said_more f trees i tree old new within is was said =
    said
    ∙ ap (λ xs. xs ++ f tree) was
    ∙ ap (λ xs. flat_map f (take i trees) ++ xs) (sym (append-nil (f tree)))
    ∙ sym (flat_map-append f (take i trees) (tree ∷ []))
    ∙ ap (flat_map f) (ap (λ t. take i trees ++ t ∷ []) is ∙ sym (take_more trees i tree within))

-- one thing that is said of one script more
pub said_one_more : {X : Type 0} (f : Plant → X) (trees : List Plant) (i : ℕ) (tree : Plant) (old new : List X) → i < length trees → tree ≡ get_or trees i tree
    → old ≡ map f (take i trees) → new ≡ old ++ f tree ∷ [] → new ≡ map f (take (i + 1) trees)
said_one_more f trees i tree old new within is was said =
    said
    ∙ ap (λ xs. xs ++ f tree ∷ []) was
    ∙ sym (map-append f (take i trees) (tree ∷ []))
    ∙ ap (map f) (ap (λ t. take i trees ++ t ∷ []) is ∙ sym (take_more trees i tree within))

-- LAWS

kind_by_order : (a b : EarlyKind) → order_of a ≡ order_of b → a ≡ b
kind_by_order a b same = grind arith

-- two that do not count after one another are one
same_mistake : (m n : Mistake) → IsNoLater m n → IsNoLater n m → m ≡ n
same_mistake m n (inl h) (inl k) = absurd (let e : ⊥ = omega arith in e)
same_mistake m n (inl h) (inr k) = absurd (let e : ⊥ = omega (arith, k.0) in e)
same_mistake m n (inr h) (inl k) = absurd (let e : ⊥ = omega (arith, h.0) in e)
same_mistake m n (inr h) (inr k) =
    ap (λ p. mistake p m.kind) h.0 ∙ ap (mistake n.place) (kind_by_order m.kind n.kind (omega (arith, h.1, k.1)))

-- a list with an element is not empty
not_empty : (ms : List Mistake) (m : Mistake) → Contains ms m → ms ≡ [] → ⊥
not_empty ms m found none = let h : Contains [] m = subst (λ l. Contains l m) none found in omega (arith, h.1)

-- scripts are split in one way at the first that has an early error
one_split : (all before other : List Plant) (tree t : Plant) (after rest : List Plant) (m n : Mistake) → before ++ tree ∷ after ≡ other ++ t ∷ rest
    → HaveNone all before → HaveNone all other → Contains (mistakes (top_scope all) tree) m → Contains (mistakes (top_scope all) t) n
    → (length before ≡ length other) × (tree ≡ t)
one_split all [] [] tree t after rest m n same clean none found in_t = (refl, cc)
one_split all [] (o ∷ other) tree t after rest m n same clean none found in_t =
    let is : tree ≡ o = cc in
    absurd (not_empty (mistakes (top_scope all) tree) m found (ap (mistakes (top_scope all)) is ∙ All-head (λ s. mistakes (top_scope all) s ≡ []) o other none))
one_split all (b ∷ before) [] tree t after rest m n same clean none found in_t =
    let is : t ≡ b = cc in
    absurd (not_empty (mistakes (top_scope all) t) n in_t (ap (mistakes (top_scope all)) is ∙ All-head (λ s. mistakes (top_scope all) s ≡ []) b before clean))
one_split all (b ∷ before) (o ∷ other) tree t after rest m n same clean none found in_t =
    let tails : before ++ tree ∷ after ≡ other ++ t ∷ rest = cc in
    let deeper : (length before ≡ length other) × (tree ≡ t) =
    one_split all before other tree t after rest m n tails
    (All-tail (λ s. mistakes (top_scope all) s ≡ []) b before clean) (All-tail (λ s. mistakes (top_scope all) s ≡ []) o other none) found in_t in
    (ap suc deeper.0, deeper.1)

pub one_first : (trees : List Plant) (script other : ℕ) (m n : Mistake) → IsFirst trees script m → IsFirst trees other n → (script ≡ other) × (m ≡ n)
one_first trees script other m n one two =
    let same : (length one.before ≡ length two.before) × (one.tree ≡ two.tree) =
    one_split trees one.before two.before one.tree two.tree one.after two.after m n (sym one.split ∙ two.split) one.clean two.clean one.found two.found in
    let found : Contains (mistakes (top_scope trees) one.tree) n = subst (λ t. Contains (mistakes (top_scope trees) t) n) (sym same.1) two.found in
    let first : All (IsNoLater n) (mistakes (top_scope trees) one.tree) = subst (λ t. All (IsNoLater n) (mistakes (top_scope trees) t)) (sym same.1) two.first in (
      one.number ∙ ap (λ k. k + 1) same.0 ∙ sym two.number,
      same_mistake m n (All-contains (IsNoLater m) (mistakes (top_scope trees) one.tree) n one.first found) (All-contains (IsNoLater n) (mistakes (top_scope trees) one.tree) m first one.found),
    )

pub not_clean : (trees : List Plant) (script : ℕ) (m : Mistake) → IsFirst trees script m → AreClean trees → ⊥
not_clean trees script m one clean =
    let there : Contains trees one.tree = subst (λ ts. Contains ts one.tree) (sym one.split) (Contains-append_right one.before (one.tree ∷ one.after) one.tree (0, omega arith, refl)) in
    not_empty (mistakes (top_scope trees) one.tree) m one.found (All-contains (λ t. mistakes (top_scope trees) t ≡ []) trees one.tree clean there)
