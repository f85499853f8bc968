-- Fronts of a list, and the sizes of their bodies.
use Rattle.std.proofs.Common.{◌≡◌, ℕ, zero, suc, ◌+◌, ◌-◌, ◌<◌, ◌≤◌, ◌^◌, lit<, ◌⊎◌, inl, inr, List, [], ◌∷◌, length, take, drop, sum, get_or, refl, sym, subst, arith}
use Rattle.std.specs.List.{All}
use Rattle.std.proofs.lemmas.Fmt.{length-decimal-le}
use Rattle.std.proofs.lemmas.List.{length-take-le, length-drop, get_or-drop}
use Rattle.std.proofs.lemmas.List.Sums.{sum_by_more, sum_by-cons}
use Rattle.rip_client.specs.Cutting.{frame_size, body_size, Fits, IsLongest, IsCut, whole, parts}

-- longer fronts have larger sums
sum_front : (m n : ℕ) (xs : List ℕ) → m ≤ n → sum (take m xs) ≤ sum (take n xs)
sum_front zero n xs h = omega arith
sum_front (suc m) zero xs h = absurd (omega (arith, h))
sum_front (suc m) (suc n) [] h = omega arith
sum_front (suc m) (suc n) (x ∷ xs) h =
    omega (arith, sum_front m n xs (omega (arith, h)), sum_by-cons (λ (k : ℕ). k) x (take m xs), sum_by-cons (λ (k : ℕ). k) x (take n xs))

-- and larger bodies
body_front : (number m n : ℕ) (xs : List ℕ) → m ≤ n → n ≤ length xs → body_size number (take m xs) ≤ body_size number (take n xs)
body_front number m n xs h low =
    omega (arith, h, sum_front m n xs h, length-take-le m xs (omega (arith, h, low)), length-take-le n xs low)

-- a front with one more item, whose comma and text take so many bytes
pub body_more : (number n : ℕ) (xs : List ℕ) (comma size d : ℕ) → n < length xs → size ≡ get_or xs n d → comma ≡ n - (n - 1) → body_size number (take (n + 1) xs) ≡ body_size number (take n xs) + (comma + size)
body_more number n xs comma size d low is k =
    omega (arith, is, k, sum_by_more (λ (k : ℕ). k) xs n d low, length-take-le n xs (omega (arith, low)), length-take-le (n + 1) xs (omega (arith, low)))

-- a front that fits is the longest where one more item does not fit
pub longest_here : (number n : ℕ) (xs : List ℕ) → n ≤ length xs → n ≤ 64 → body_size number (take n xs) ≤ 65536 → (n < length xs → (n ≡ 64) ⊎ (65536 < body_size number (take (n + 1) xs))) → IsLongest number xs n
longest_here number n xs low few short stop = record {
  within = low;
  fits = record { few = omega (arith, few, length-take-le n xs low); short = short };
  longest = λ more m l f. no more m l f (stop (omega (arith, m, l)));
}
  where
    no : (more : ℕ) → n < more → more ≤ length xs → Fits number (take more xs) → (n ≡ 64) ⊎ (65536 < body_size number (take (n + 1) xs)) → ⊥
    no more m l f (inl e) = omega (arith, e, m, f.few, length-take-le more xs l)
    no more m l f (inr e) = omega (arith, e, f.short, body_front number (n + 1) more xs (omega (arith, m)) l)

-- there is one longest front
not_longer : (number m n : ℕ) (xs : List ℕ) → IsLongest number xs m → IsLongest number xs n → n < m → ⊥
not_longer number m n xs a b h = b.longest m h a.within a.fits

longest_is_one : (number m n : ℕ) (xs : List ℕ) → IsLongest number xs m → IsLongest number xs n → m ≡ n
longest_is_one number m n xs a b = grind (arith, not_longer number m n xs a b, not_longer number n m xs b a)

-- where each text fits a batch of its own, the longest front of some items has some
pub takes_some : (number n d : ℕ) (xs : List ℕ) → IsLongest number xs n → frame_size number ≤ 41 → get_or xs 0 d ≤ 65495 → 0 < length xs → 0 < n
takes_some number n d xs a frame small some = grind (arith, no)
  where
    one : body_size number (take (0 + 1) xs) ≡ body_size number (take 0 xs) + (0 + get_or xs 0 d)
    one = body_more number 0 xs 0 (get_or xs 0 d) d some refl refl

    fits : Fits number (take 1 xs)
    fits = record { few = omega (arith, length-take-le 1 xs (omega (arith, some))); short = omega (arith, one, frame, small) }

    no : n ≡ 0 → ⊥
    no e = a.longest 1 (omega (arith, e)) (omega (arith, some)) fits

pub takes_behind : (number start n : ℕ) (xs : List ℕ) → IsLongest number (drop start xs) n → number < 2 ^ 64 → All (λ size. size ≤ 65495) xs → start < length xs → 0 < n
takes_behind number start n xs a low each some =
    takes_some number n 0 (drop start xs) a (omega (arith, length-decimal-le 20 number (lit< tt) (omega (arith, low)) low)) (omega (arith, get_or-drop start xs 0 0, each start 0 some)) (omega (arith, some, length-drop start xs))

-- the rest is the last batch, or the batches behind the longest front are cut from what it leaves
pub cut_whole : (number n : ℕ) (sizes : List ℕ) → IsLongest number sizes n → n ≡ length sizes → IsCut number sizes (n ∷ [])
cut_whole number n sizes longest all =
    subst (λ k. IsCut number sizes (k ∷ [])) (sym all) (whole number sizes (subst (λ k. IsLongest number sizes k) all longest))

-- a list is cut in one way
pub cut_same : (number : ℕ) (sizes counts others : List ℕ) → IsCut number sizes counts → IsCut number sizes others → counts ≡ others
cut_same number sizes counts others (whole _ _ a) (whole _ _ b) = refl
cut_same number sizes counts others (whole _ _ a) (parts _ _ n more b low rest) = absurd (omega (arith, low, longest_is_one number (length sizes) n sizes a b))
cut_same number sizes counts others (parts _ _ n more b low rest) (whole _ _ a) = absurd (omega (arith, low, longest_is_one number (length sizes) n sizes a b))
cut_same number sizes counts others (parts _ _ m xs a l r) (parts _ _ n ys b h s) =
    let first : m ≡ n = longest_is_one number m n sizes a b in
    let s' = subst (λ k. IsCut (number + 1) (drop k sizes) ys) (sym first) s in
    let rest : xs ≡ ys = cut_same (number + 1) (drop m sizes) xs ys r s' in
    cc
