-- Lists with a place for each session.
use Rattle.std.proofs.Common.{◌≡◌, ◌≢◌, ◌∙◌, ℕ, zero, suc, Bool, true, false, List, [], ◌∷◌, ◌++◌, length, map, set, refl, sym, ap}
use Rattle.std.specs.Prelude.{Option, Some, None, option_map, slice_get, if◌then◌else◌}
use Rattle.std.proofs.lemmas.List.{map-set, set-set}
use Rattle.rip_gen.specs.Working.{taken}

-- what holds of each that is there holds where one place has another
pub set_each : {C : Type 0} (P : ℕ → C → Type 0) (xs : List (Option C)) (k : ℕ) (v : Option C) → ((j : ℕ) (c : C) → slice_get xs j ≡ Some (Some c) → P j c)
    → ((c : C) → v ≡ Some c → P k c) → (j : ℕ) (c : C) → slice_get (set xs k v) j ≡ Some (Some c) → P j c
set_each P [] k v all one j c e = all j c e
set_each P (x ∷ xs) zero v all one zero c e = let h : v ≡ Some c = cc in one c h
set_each P (x ∷ xs) zero v all one (suc j) c e = all (suc j) c e
set_each P (x ∷ xs) (suc k) v all one zero c e = all zero c e
set_each P (x ∷ xs) (suc k) v all one (suc j) c e = set_each (λ n. P (suc n)) xs k v (λ n d f. all (suc n) d f) one j c e

-- or one more
pub push_each : {C : Type 0} (P : ℕ → C → Type 0) (xs : List (Option C)) (v : Option C) → ((j : ℕ) (c : C) → slice_get xs j ≡ Some (Some c) → P j c)
    → ((c : C) → v ≡ Some c → P (length xs) c) → (j : ℕ) (c : C) → slice_get (xs ++ v ∷ []) j ≡ Some (Some c) → P j c
push_each P [] v all one zero c e = let h : v ≡ Some c = cc in one c h
push_each P [] v all one (suc j) c e = cc
push_each P (x ∷ xs) v all one zero c e = all zero c e
push_each P (x ∷ xs) v all one (suc j) c e = push_each (λ n. P (suc n)) xs v (λ n d f. all (suc n) d f) one j c e

-- what is at a place of a list that is made of another
pub get_map : {A B : Type 0} (f : A → B) (xs : List A) (k : ℕ) → slice_get (map f xs) k ≡ option_map f (slice_get xs k)
get_map f [] k = refl
get_map f (x ∷ xs) zero = refl
get_map f (x ∷ xs) (suc k) = get_map f xs k

pub some_taken : {C : Type 0} (x : Option (Option C)) (c : C) → taken x ≡ Some c → x ≡ Some (Some c)
some_taken None c e = cc
some_taken (Some y) c e = ap Some e

-- where nothing is taken, nothing is there
pub none_taken : {C D : Type 0} (f : C → D) (xs : List (Option C)) (k : ℕ) → taken (slice_get xs k) ≡ None → (d : D) → slice_get (map (option_map f) xs) k ≢ Some (Some d)
none_taken f [] k e d h = cc
none_taken f (Some c ∷ xs) zero e d h = cc
none_taken f (None ∷ xs) zero e d h = cc
none_taken f (x ∷ xs) (suc k) e d h = none_taken f xs k e d h

pub set_none : {C : Type 0} (xs : List (Option C)) (k : ℕ) → taken (slice_get xs k) ≡ None → set xs k None ≡ xs
set_none [] k e = refl
set_none (x ∷ xs) zero e = let h : x ≡ None = cc in ap (λ y. y ∷ xs) (sym h)
set_none (x ∷ xs) (suc k) e = ap (λ ys. x ∷ ys) (set_none xs k e)

pub map_push : {A B : Type 0} (f : A → B) (xs : List A) (x : A) → map f (xs ++ x ∷ []) ≡ map f xs ++ f x ∷ []
map_push f [] x = refl
map_push f (y ∷ xs) x = ap (λ ys. f y ∷ ys) (map_push f xs x)

pub map_if : {C D : Type 0} (f : C → D) (b : Bool) (c : C) → option_map f (if b then Some c else None) ≡ (if b then Some (f c) else None)
map_if f true c = refl
map_if f false c = refl

-- one is taken out of its place, and another put there, or none
pub put_back : {C : Type 0} (xs ys : List (Option C)) (k : ℕ) (v : Option C) → ys ≡ set xs k None → set ys k v ≡ set xs k v
put_back xs ys k v e = ap (λ zs. set zs k v) e ∙ set-set xs k None v

pub taken_none : {C : Type 0} (x : Option C) → ((c : C) → x ≡ Some c → ⊥) → x ≡ None
taken_none None none = refl
taken_none (Some c) none = absurd (none c refl)

pub seen_set : {C D : Type 0} (f : C → D) (xs ys : List (Option C)) (k : ℕ) (b : Bool) (c : C) → ys ≡ set xs k (if b then Some c else None)
    → map (option_map f) ys ≡ set (map (option_map f) xs) k (if b then Some (f c) else None)
seen_set f xs ys k b c e =
    ap (map (option_map f)) e ∙ map-set (option_map f) xs k (if b then Some c else None) ∙ ap (λ v. set (map (option_map f) xs) k v) (map_if f b c)
