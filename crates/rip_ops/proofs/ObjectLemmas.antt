-- An object of a world that is put in place of another.
use Rattle.std.proofs.Common.{◌≡◌, ℕ, zero, suc, ◌-◌, ◌<◌, ◌≤◌, Bool, true, false, cond, List, [], ◌∷◌, length, None, Some, refl, ap, ◌∙◌, arith, nat_lt, slice_get}
use Rattle.std.specs.Prelude.{slice_set}
use Rattle.std.proofs.lemmas.Bool.Decides.{nat_tests}
use Rattle.std.proofs.lemmas.Option.{slice_get_within}
use Rattle.rip_heap.specs.World.{World, Object, IsObject, object_at, with_object}

-- what is put at a place stands there
pub slice_get-set : {X : Type 0} (xs : List X) (i : ℕ) (y : X) → i < length xs → slice_get (slice_set xs i y) i ≡ Some y
slice_get-set [] i y h = absurd (omega (arith, h))
slice_get-set (z ∷ xs) zero y h = refl
slice_get-set (z ∷ xs) (suc i) y h = slice_get-set xs i y (omega arith)

-- its number is not that of a built-in
object_at-from : (w : World) (n : ℕ) (o : Object) → object_at w n ≡ Some o → (128 ≤ n) × (slice_get w.objects (n - 128) ≡ Some o)
object_at-from w n o e = by (nat_lt n 128) refl e
  where
    by : (b : Bool) → nat_lt n 128 ≡ b → cond b None (slice_get w.objects (n - 128)) ≡ Some o → (128 ≤ n) × (slice_get w.objects (n - 128) ≡ Some o)
    by true h f = cc
    by false h f = (grind (arith, nat_tests), f)

object_at-is : (w : World) (n : ℕ) → 128 ≤ n → object_at w n ≡ slice_get w.objects (n - 128)
object_at-is w n h = let low : nat_lt n 128 ≡ false = grind (arith, nat_tests) in ap (λ b. cond b None (slice_get w.objects (n - 128))) low

-- a number with an object is that of one
pub IsObject-at : (w : World) (n : ℕ) (o : Object) → object_at w n ≡ Some o → IsObject w n
IsObject-at w n o e =
    let from = object_at-from w n o e in
    let low : 128 ≤ n = from.0 in
    let h : n - 128 < length w.objects = slice_get_within w.objects (n - 128) o from.1 in
    (low, omega arith)

-- the object that was put is there
pub object_at-set : (w : World) (n : ℕ) (old new : Object) → object_at w n ≡ Some old → object_at (with_object w n new) n ≡ Some new
object_at-set w n old new e =
    let from = object_at-from w n old e in
    object_at-is (with_object w n new) n from.0 ∙ slice_get-set w.objects (n - 128) new (slice_get_within w.objects (n - 128) old from.1)

-- a world with an object has some
pub objects-some : (w : World) (n : ℕ) (o : Object) → object_at w n ≡ Some o → (k : ℕ) × (length w.objects ≡ suc k)
objects-some w n o e = by w.objects (slice_get_within w.objects (n - 128) o (object_at-from w n o e).1)
  where
    by : (objects : List Object) → n - 128 < length objects → (k : ℕ) × (length objects ≡ suc k)
    by [] h = absurd (omega (arith, h))
    by (x ∷ objects) h = (length objects, refl)
