-- The gestures of a plan may be told.
use Rattle.std.proofs.Common.{◌≡◌, ℕ, zero, suc, List, [], ◌∷◌, Some, slice_get, subst}
use Rattle.std.specs.List.{AllByRecursion}
use Rattle.rip_client.specs.Sizes.{IsGesture}
use Rattle.rip_wire.specs.declared.gesture.Gesture.{Gesture}
use Rattle.rip_wire.specs.declared.gesture.Gesture.TheVariants.{Event, Flush}
use Rattle.rip_gen.specs.Plans.{IsInRange, IsPlan, Plan}

may_tell : (g : Gesture) → IsInRange g → IsGesture g
may_tell (Event r) is = is.1
may_tell Flush is = tt

at_place : (gs : List Gesture) (k : ℕ) (g : Gesture) → AllByRecursion IsInRange gs → slice_get gs k ≡ Some g → IsGesture g
at_place [] k g all get = cc
at_place (x ∷ gs) zero g all get = let h : x ≡ g = cc in subst IsGesture h (may_tell x all.0)
at_place (x ∷ gs) (suc k) g all get = at_place gs k g all.1 get

pub may_be_told : (plan : Plan) (k : ℕ) (g : Gesture) → IsPlan plan → slice_get plan.gestures k ≡ Some g → IsGesture g
may_be_told plan k g is get = at_place plan.gestures k g is.each get
