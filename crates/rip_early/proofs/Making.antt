-- The scopes around a node, from the nearest node that makes one.
use Rattle.std.proofs.Common.{◌≡◌, ℕ, zero, suc, ◌+◌, ◌<◌, ◌≤◌, List, [], ◌++◌, length, Option, Some, None, IfSome, Bool, true, false, if◌then◌else◌, refl, sym, ap, ◌∙◌, arith}
use Rattle.rip_tree.specs.declared.form.Form.{Form}
use Rattle.rip_tree.specs.Branches.{Plant, ChildrenFollow}
use Rattle.rip_early.specs.Around.{parent_of, parent_first, around_within, around, form_of, first_with}
use Rattle.rip_early.specs.Contexts.{makes_scope}
use Rattle.rip_early.specs.Looking.{after}
use Rattle.rip_early.specs.Names.{Name}
use Rattle.rip_early.specs.declared.meaning.Looked.{Looked}
use Rattle.rip_early.specs.declared.meaning.Looked.TheVariants.{Past}
use Rattle.rip_early.specs.declared.meaning.Meaning.{Meaning}
use Rattle.rip_early.specs.Scopes.{Scope, meaning_in, scopes_made, scopes_among, scopes_around}
use Rattle.rip_early.proofs.Surrounding.{parent-below, around_within-same}

-- the scopes that a node makes and those around it, where there is such a node
abbrev pub scopes_from : List Name → Plant → Option ℕ → List Scope
scopes_from top t None = []
scopes_from top t (Some id) = scopes_made top t id (form_of t id) ++ scopes_around top t id

-- the number of a node, counted from 1, and 0 where there is none
abbrev pub left_of : Option ℕ → ℕ
left_of None = 0
left_of (Some id) = id + 1

first_with-pick : (t : Plant) (id p q : ℕ) (b : Bool) (inner : Option ℕ) → (q < id) × (q < length t.branches) → (inner ≡ Some p → (p < q) × (p < length t.branches))
    → (if b then Some q else inner) ≡ Some p → (p < id) × (p < length t.branches)
first_with-pick t id p q true inner below deeper found = let e : q ≡ p = cc in let a : q < id = below.0 in let b : q < length t.branches = below.1 in (omega arith, omega arith)
first_with-pick t id p q false inner below deeper found = let a : q < id = below.0 in let b : p < q = (deeper found).0 in (omega arith, (deeper found).1)

-- the first such node around another has a lower number, and is a node of the tree
first_with-step : (is : Form → Bool) (t : Plant) (levels id p : ℕ) (o : Option ℕ) → ((q : ℕ) → o ≡ Some q → (q < id) × (q < length t.branches))
    → ((q : ℕ) → first_with is t (around_within levels t q) ≡ Some p → (p < q) × (p < length t.branches))
    → first_with is t (parent_first o (around_within levels t)) ≡ Some p → (p < id) × (p < length t.branches)
first_with-step is t levels id p None below inner found = cc
first_with-step is t levels id p (Some q) below inner found = first_with-pick t id p q (is (form_of t q)) (first_with is t (around_within levels t q)) (below q refl) (inner q) found

pub first_with-below : (is : Form → Bool) (t : Plant) → ChildrenFollow (length t.branches) t.branches → (levels id p : ℕ) → first_with is t (around_within levels t id) ≡ Some p → (p < id) × (p < length t.branches)
first_with-below is t follow zero id p found = cc
first_with-below is t follow (suc levels) id p found =
    first_with-step is t levels id p (parent_of t id) (λ q parent. parent-below t id q follow parent) (λ q. first_with-below is t follow levels q p) found

-- a node that makes no scope makes none
makes_none : (top : List Name) (t : Plant) (id : ℕ) (f : Form) → makes_scope f ≡ false → scopes_made top t id f ≡ []
makes_none top t id f is = grind arith

-- the scopes among the nodes around another begin with those of the nearest node that makes one
around-step : (top : List Name) (t : Plant) (q : ℕ) (rest : List ℕ) (b : Bool) → makes_scope (form_of t q) ≡ b
    → scopes_among top t rest ≡ scopes_around top t q → scopes_among top t rest ≡ scopes_from top t (first_with makes_scope t rest)
    → scopes_made top t q (form_of t q) ++ scopes_among top t rest ≡ scopes_from top t (if b then Some q else first_with makes_scope t rest)
around-step top t q rest true is same inner = ap (λ ss. scopes_made top t q (form_of t q) ++ ss) same
around-step top t q rest false is same inner = ap (λ made. made ++ scopes_among top t rest) (makes_none top t q (form_of t q) is) ∙ inner

around-case : (top : List Name) (t : Plant) (levels : ℕ) (o : Option ℕ)
    → ((q : ℕ) → o ≡ Some q → scopes_among top t (around_within levels t q) ≡ scopes_around top t q)
    → ((q : ℕ) → o ≡ Some q → scopes_among top t (around_within levels t q) ≡ scopes_from top t (first_with makes_scope t (around_within levels t q)))
    → scopes_among top t (parent_first o (around_within levels t)) ≡ scopes_from top t (first_with makes_scope t (parent_first o (around_within levels t)))
around-case top t levels None same inner = refl
around-case top t levels (Some q) same inner = around-step top t q (around_within levels t q) (makes_scope (form_of t q)) refl (same q refl) (inner q refl)

scopes_around-within : (top : List Name) (t : Plant) → ChildrenFollow (length t.branches) t.branches → (levels id : ℕ) → id ≤ levels
    → scopes_among top t (around_within levels t id) ≡ scopes_from top t (first_with makes_scope t (around_within levels t id))
scopes_around-within top t follow zero id h = refl
scopes_around-within top t follow (suc levels) id h =
    around-case top t levels (parent_of t id)
    (λ q is. let below : q < id = (parent-below t id q follow is).0 in ap (scopes_among top t) (around_within-same t follow levels q q (omega arith) (omega arith)))
    (λ q is. let below : q < id = (parent-below t id q follow is).0 in scopes_around-within top t follow levels q (omega arith))

pub scopes_around-from : (top : List Name) (t : Plant) → ChildrenFollow (length t.branches) t.branches → (id : ℕ) → scopes_around top t id ≡ scopes_from top t (first_with makes_scope t (around t id))
scopes_around-from top t follow id = scopes_around-within top t follow id id (omega arith)

if_some : (o : Option ℕ) (high low : ℕ) → ((p : ℕ) → o ≡ Some p → (p < low) × (p < high)) → IfSome o (λ p. p < high)
if_some None high low at = tt
if_some (Some p) high low at = (at p refl).1

-- the nearest node that makes a scope is a node of the tree
pub maker-there : (t : Plant) → ChildrenFollow (length t.branches) t.branches → (id : ℕ) (m : Option ℕ) → m ≡ first_with makes_scope t (around t id) → IfSome m (λ p. p < length t.branches)
maker-there t follow id m is = if_some m (length t.branches) id (λ p some. first_with-below makes_scope t follow id id p (sym is ∙ some))

-- and has a lower number
pub maker-left : (t : Plant) → ChildrenFollow (length t.branches) t.branches → (id : ℕ) (m maker : Option ℕ) → m ≡ first_with makes_scope t (around t id) → maker ≡ Some id → left_of m < left_of maker
maker-left t follow id None None is some = cc
maker-left t follow id None (Some q) is some = let e : q ≡ id = cc in omega arith
maker-left t follow id (Some p) None is some = cc
maker-left t follow id (Some p) (Some q) is some =
    let e : q ≡ id = cc in let below : p < id = (first_with-below makes_scope t follow id id p (sym is)).0 in omega arith

-- the scopes around a node, from the nearest node that makes one
pub maker-scopes : (top : List Name) (t : Plant) → ChildrenFollow (length t.branches) t.branches → (id : ℕ) (m : Option ℕ) → m ≡ first_with makes_scope t (around t id) → scopes_from top t m ≡ scopes_around top t id
maker-scopes top t follow id m is = ap (scopes_from top t) is ∙ sym (scopes_around-from top t follow id)

-- what a name means, once the scopes of a node were passed
pub passed : (top : List Name) (t : Plant) → ChildrenFollow (length t.branches) t.branches → (outer up next : ℕ) (m maker : Option ℕ) (name : Name) (meaning : Meaning) (looked : Looked)
    → maker ≡ Some outer → looked ≡ Past next
    → ((rest : List Scope) → meaning_in up (scopes_made top t outer (form_of t outer) ++ rest) name ≡ after looked rest name)
    → meaning_in up (scopes_from top t maker) name ≡ meaning → m ≡ first_with makes_scope t (around t outer)
    → meaning_in next (scopes_from top t m) name ≡ meaning
passed top t follow outer up next m maker name meaning looked at past looks means is =
    ap (λ ss. meaning_in next ss name) (maker-scopes top t follow outer m is)
    ∙ sym (looks (scopes_around top t outer) ∙ ap (λ l. after l (scopes_around top t outer) name) past)
    ∙ sym (ap (λ o. meaning_in up (scopes_from top t o) name) at)
    ∙ means
