-- Along prototypes that are older than their objects, the bound of specs/Objects.antt is never met.
use Rattle.std.proofs.Common.{◌≡◌, ℕ, zero, suc, ◌+◌, ◌-◌, ◌<◌, ◌≤◌, Bool, true, false, cond, ◌⊎◌, inl, inr, length, Option, None, Some, refl, sym, ap, ◌∙◌, subst, arith, nat_lt, slice_get, slice_index_or, IfSome}
use Rattle.std.proofs.lemmas.Bool.Decides.{nat_tests}
use Rattle.std.proofs.lemmas.Option.{slice_get_past, get_or_from_slice_get, slice_get_within}
use Rattle.std.specs.Prelude.{option_and_then}
use Rattle.rip_base.specs.declared.value.Span.{Span}
use Rattle.rip_base.specs.declared.value.Value.{Value}
use Rattle.rip_heap.specs.Names.{named}
use Rattle.rip_heap.specs.Objects.{own, or_up, found_within, find}
use Rattle.rip_heap.specs.Sound.{HaveOlderProtos}
use Rattle.rip_heap.specs.World.{World, Object, object_at, proto_of, first_object}

-- two ways to go on that agree on the prototype
or_up-same : (v : Option Value) (proto : Option ℕ) (f g : ℕ → Option Value) → IfSome proto (λ n. f n ≡ g n) → or_up v proto f ≡ or_up v proto g
or_up-same (Some v) proto f g h = refl
or_up-same None None f g h = refl
or_up-same None (Some n) f g h = h

IfSome-then : {A : Type 0} (o : Option A) (P Q : A → Type 0) → ((x : A) → P x → Q x) → IfSome o P → IfSome o Q
IfSome-then None P Q f h = tt
IfSome-then (Some x) P Q f h = f x h

-- the prototype of an object of the world has a lower number
pub proto-older : (w : World) (n : ℕ) → HaveOlderProtos w.objects → IfSome (proto_of (object_at w n)) (λ up. (first_object ≤ up) × (up < n))
proto-older w n older = by (nat_lt n 128) refl
  where
    at : (o : Option Object) → slice_get w.objects (n - 128) ≡ o → 128 ≤ n → IfSome (proto_of o) (λ up. (first_object ≤ up) × (up < n))
    at None e low = tt
    at (Some o) e low =
        let here : slice_index_or w.objects (n - 128) o ≡ o = get_or_from_slice_get w.objects (n - 128) o o e in
        let bound : 128 + (n - 128) ≡ n = omega arith in
        subst (λ m. IfSome o.proto (λ up. (first_object ≤ up) × (up < m))) bound
        (subst (λ x. IfSome x.proto (λ up. (first_object ≤ up) × (up < 128 + (n - 128)))) here
        (older (n - 128) o (slice_get_within w.objects (n - 128) o e)))

    by : (b : Bool) → nat_lt n 128 ≡ b → IfSome (proto_of (cond b None (slice_get w.objects (n - 128)))) (λ up. (first_object ≤ up) × (up < n))
    by true e = tt
    by false e = at (slice_get w.objects (n - 128)) refl (grind (arith, nat_tests))

-- a number that is past the objects is that of none
object_at-past : (w : World) (n : ℕ) → 128 + length w.objects ≤ n → object_at w n ≡ None
object_at-past w n h = by (nat_lt n 128)
  where
    by : (b : Bool) → cond b None (slice_get w.objects (n - 128)) ≡ None
    by true = refl
    by false = slice_get_past w.objects (n - 128) (omega arith)

object_at-below : (w : World) (n : ℕ) → n < 128 → object_at w n ≡ None
object_at-below w n h = by (nat_lt n 128) (grind (arith, nat_tests))
  where
    by : (b : Bool) → b ≡ true → cond b None (slice_get w.objects (n - 128)) ≡ None
    by true e = refl
    by false e = cc

-- nothing is found from a number that is that of no object
found_within-none : (k : ℕ) (w : World) (n : ℕ) (name : Span) → object_at w n ≡ None → found_within k w n name ≡ None
found_within-none zero w n name e = refl
found_within-none (suc k) w n name e =
    ap (λ o. or_up (option_and_then (λ object. named w.pool name object.properties) o) (proto_of o) (λ up. found_within k w up name)) e

-- a bound above the number is enough
enough : (k : ℕ) (w : World) (n : ℕ) (name : Span) → HaveOlderProtos w.objects → n < 128 + k → found_within k w n name ≡ found_within (suc k) w n name
enough zero w n name older h = sym (found_within-none 1 w n name (object_at-below w n h))
enough (suc k) w n name older h =
    or_up-same (own w n name) (proto_of (object_at w n)) (λ up. found_within k w up name) (λ up. found_within (suc k) w up name)
    (IfSome-then (proto_of (object_at w n)) (λ up. (first_object ≤ up) × (up < n)) (λ up. found_within k w up name ≡ found_within (suc k) w up name)
    (λ up p. enough k w up name older (omega (arith, p.1, h))) (proto-older w n older))

-- what is found is the own value, or else what is found from the prototype
pub find_up : (w : World) (n : ℕ) (name : Span) → HaveOlderProtos w.objects → find w n name ≡ or_up (own w n name) (proto_of (object_at w n)) (λ up. find w up name)
unfolding find
find_up w n name older = by (search arith)
  where
    by : (n < 128 + length w.objects) ⊎ (128 + length w.objects ≤ n) → found_within (length w.objects) w n name ≡ found_within (suc (length w.objects)) w n name
    by (inl h) = enough (length w.objects) w n name older h
    by (inr h) = found_within-none (length w.objects) w n name (object_at-past w n h) ∙ sym (found_within-none (suc (length w.objects)) w n name (object_at-past w n h))
