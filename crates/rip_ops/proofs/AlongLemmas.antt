-- Along prototypes that are older than their objects, no bound on how many are looked at is ever met.
use Rattle.std.proofs.Common.{◌≡◌, ℕ, zero, suc, ◌+◌, ◌-◌, ◌<◌, ◌≤◌, Bool, false, Option, None, Some, refl, sym, ap, ◌∙◌, arith, IfSome}
use Rattle.std.specs.Prelude.{◌==◌, ◌||◌}
use Rattle.rip_heap.specs.Sound.{HaveOlderProtos}
use Rattle.rip_heap.specs.World.{World, object_at, proto_of, first_object}
use Rattle.rip_heap.proofs.FindLemmas.{proto-older}
use Rattle.rip_ops.specs.Instances.{met, is_within, is_above}
use Rattle.rip_ops.specs.Laws.{FollowsPrototypes}

-- INSTANCES

met-same : (proto : Option ℕ) (p n : ℕ) (f g : ℕ → Bool) → IfSome proto (λ up. (first_object ≤ up) × (up < n)) → ((up : ℕ) → up < n → f up ≡ g up) → met proto p f ≡ met proto p g
met-same None p n f g older h = refl
met-same (Some up) p n f g older h = ap (λ b. (up == p) || b) (h up older.1)

-- one prototype more makes no difference where as many are looked at as the object's number tells
enough : (w : World) (p : ℕ) → HaveOlderProtos w.objects → (k n : ℕ) → n ≤ k → is_within (suc k) w n p ≡ is_within k w n p
enough w p old zero n h = met-same (proto_of (object_at w n)) p n (λ up. is_within zero w up p) (λ up. false) (proto-older w n old) (λ up below. refl) ∙ nothing (proto_of (object_at w n)) (proto-older w n old)
  where
    nothing : (proto : Option ℕ) → IfSome proto (λ up. (first_object ≤ up) × (up < n)) → met proto p (λ up. false) ≡ false
    nothing None older = refl
    nothing (Some up) older = absurd (omega (arith, older.1, h))
enough w p old (suc k) n h =
    met-same (proto_of (object_at w n)) p n (λ up. is_within (suc k) w up p) (λ up. is_within k w up p) (proto-older w n old)
    (λ up below. enough w p old k up (omega (arith, below, h)))

many : (w : World) (p : ℕ) → HaveOlderProtos w.objects → (more n : ℕ) → is_within (more + n) w n p ≡ is_within n w n p
many w p old zero n = let same : zero + n ≡ n = omega arith in ap (λ k. is_within k w n p) same
many w p old (suc more) n =
    let longer : suc more + n ≡ suc (more + n) = omega arith in
    ap (λ k. is_within k w n p) longer ∙ enough w p old (more + n) n (omega arith) ∙ many w p old more n

-- an object is above another where it is its prototype or is above its prototype
pub follows : (w : World) → HaveOlderProtos w.objects → FollowsPrototypes w
unfolding is_above
follows w old zero p = sym (enough w p old zero zero (omega arith))
follows w old (suc m) p =
    met-same (proto_of (object_at w (suc m))) p (suc m) (λ up. is_within m w up p) (λ up. is_within up w up p) (proto-older w (suc m) old) lower
  where
    lower : (up : ℕ) → up < suc m → is_within m w up p ≡ is_within up w up p
    lower up below = let split : m ≡ (m - up) + up = omega (arith, below) in ap (λ k. is_within k w up p) split ∙ many w p old (m - up) up
