-- Lines that are written one after another.
use Rattle.std.proofs.Common.{◌≡◌, ℕ, ◌+◌, ◌<◌, ◌≤◌, List, [], ◌∷◌, ◌++◌, length, get_or, take, sym, ap, ◌∙◌, add-one, append_assoc}
use Rattle.std.specs.List.{flat_map}
use Rattle.std.proofs.Math.Seq.{take-suc}
use Rattle.std.proofs.lemmas.Grind.{flat_map-append}
use Rattle.std.proofs.lemmas.List.{append-nil, take_all}

-- those of one item more behind those of the first of a list
pub lines_more : {A : Type 0} (f : A → List ℕ) (old text new : List ℕ) (xs : List A) (i : ℕ) (x : A) → i < length xs → x ≡ get_or xs i x → text ≡ old ++ flat_map f (take i xs) → new ≡ text ++ f x
    → new ≡ old ++ flat_map f (take (i + 1) xs)
lines_more f old text new xs i x within is so_far written =
    let front = flat_map f (take i xs) in
    let item : take (i + 1) xs ≡ take i xs ++ x ∷ [] = ap (λ n. take n xs) (add-one i) ∙ take-suc xs i x within ∙ ap (λ y. take i xs ++ y ∷ []) (sym is) in
    let line : flat_map f (take (i + 1) xs) ≡ front ++ f x = ap (flat_map f) item ∙ flat_map-append f (take i xs) (x ∷ []) ∙ ap (λ t. front ++ t) (append-nil (f x)) in
    written ∙ ap (λ t. t ++ f x) so_far ∙ append_assoc old front (f x) ∙ ap (λ t. old ++ t) (sym line)

-- all of them were written
pub lines_all : {A : Type 0} (f : A → List ℕ) (old text : List ℕ) (xs : List A) (i : ℕ) → length xs ≤ i → text ≡ old ++ flat_map f (take i xs) → text ≡ old ++ flat_map f xs
lines_all f old text xs i past so_far = so_far ∙ ap (λ ys. old ++ flat_map f ys) (take_all i xs past)
