-- Which way a test went, what an option holds, and names that are tested.
use Rattle.std.proofs.Common.{◌≡◌, ℕ, Bool, true, false, cond, ◌&&◌, ◌⊎◌, inl, inr, List, Option, Some, None, option_map, refl, ap, bytes_eq}
use Rattle.std.proofs.lemmas.Slice.Eq.{bytes_eq-Decides}
use Rattle.std.specs.Prelude.{codes}
use Rattle.rip_base.specs.declared.page.PageKind.{PageKind}
use Rattle.rip_markup.specs.Fault.{option_or}
use Rattle.rip_markup.specs.Words.{void_names}
use Rattle.rip_markup.specs.declared.fault.Fault.{Fault}
use Rattle.rip_html.specs.Tags.{is_script, is_void}
use Rattle.rip_html.specs.Refusals.{is_before, least_fault}

pub either_way : (b : Bool) → (b ≡ true) ⊎ (b ≡ false)
either_way true = inl refl
either_way false = inr refl

-- a choice between nothing and something gave nothing
pub took_none : {A : Type 0} (b : Bool) (x : A) → cond b None (Some x) ≡ None → b ≡ true
took_none true x e = refl
took_none false x e = absurd (cc)

pub took_rest : {A : Type 0} (b : Bool) (x : A) (y : Option A) → cond b (Some x) y ≡ None → (b ≡ false) × (y ≡ None)
took_rest true x y e = absurd (cc)
took_rest false x y e = (refl, e)

some_either : {A : Type 0} (b : Bool) (x y : A) → cond b (Some x) (Some y) ≡ None → ⊥
some_either true x y e = cc
some_either false x y e = cc

-- there is no least fault exactly where there is none
pub both_none : (at : PageKind → Fault) (kind : Option PageKind) (own : Option Fault) → kind ≡ None → own ≡ None → least_fault (option_map at kind) own ≡ None
both_none at None None p q = refl
both_none at None (Some x) p q = absurd (cc)
both_none at (Some k) own p q = absurd (cc)

pub none_both : (at : PageKind → Fault) (kind : Option PageKind) (own : Option Fault) → least_fault (option_map at kind) own ≡ None → (kind ≡ None) × (own ≡ None)
none_both at None own e = (refl, e)
none_both at (Some k) None e = absurd (cc)
none_both at (Some k) (Some x) e = absurd (some_either (is_before (at k) x) x (at k) e)

-- the first of two options is none, and so is the second
pub or_none : (f : Fault → Fault) (first second : Option Fault) → first ≡ None → second ≡ None → option_or (option_map f first) second ≡ None
or_none f None second p q = q
or_none f (Some x) second p q = absurd (cc)

pub none_or : (f : Fault → Fault) (first second : Option Fault) → option_or (option_map f first) second ≡ None → (first ≡ None) × (second ≡ None)
none_or f None second e = (refl, e)
none_or f (Some x) second e = absurd (cc)

pub some_not_none : (x : Fault) → Some x ≡ None → ⊥
some_not_none x e = cc

pub and_false : (a b : Bool) → b ≡ false → (a && b) ≡ false
and_false true b e = e
and_false false b e = refl

pub same_name : (name : List ℕ) → bytes_eq name name ≡ true
same_name name = (bytes_eq-Decides name name).1 refl

pub name_is : (name other : List ℕ) → bytes_eq name other ≡ true → name ≡ other
name_is name other e = (bytes_eq-Decides name other).0 e

-- elements with content
pub script_opens : (name : List ℕ) → is_script name ≡ true → is_void name ≡ false
unfolding void_names
script_opens name e = ap is_void (name_is name (codes "script") e)

pub html_opens : (name : List ℕ) → bytes_eq name (codes "html") ≡ true → is_void name ≡ false
unfolding void_names
html_opens name e = ap is_void (name_is name (codes "html") e)

pub head_opens : (name : List ℕ) → bytes_eq name (codes "head") ≡ true → is_void name ≡ false
unfolding void_names
head_opens name e = ap is_void (name_is name (codes "head") e)

pub body_opens : (name : List ℕ) → bytes_eq name (codes "body") ≡ true → is_void name ≡ false
unfolding void_names
body_opens name e = ap is_void (name_is name (codes "body") e)
