-- Along prototypes that are older than their objects, no bound on how many are looked at is ever met.
use Rattle.std.proofs.Common.{◌≡◌, ℕ, zero, suc, ◌+◌, ◌-◌, ◌<◌, ◌≤◌, cond, Option, None, Some, refl, ap, ◌∙◌, arith, IfSome}
use Rattle.std.specs.Prelude.{is_some}
use Rattle.rip_base.specs.declared.value.Span.{Span}
use Rattle.rip_heap.specs.Objects.{own}
use Rattle.rip_heap.specs.Sound.{HaveOlderProtos}
use Rattle.rip_heap.specs.World.{World, object_at, class_of, proto_of, first_object}
use Rattle.rip_heap.specs.declared.keys.Found.{Found}
use Rattle.rip_heap.specs.declared.keys.Found.TheVariants.{Here, Barred}
use Rattle.rip_heap.specs.Keys.{is_barred, further, look_up_within, look_up}
use Rattle.rip_heap.specs.Laws.{LooksAlongPrototypes}
use Rattle.rip_heap.proofs.FindLemmas.{proto-older}

-- where a look-up ends at an object, given where it ends from its prototype on
abbrev at_object : World → ℕ → Span → (ℕ → Found) → Found
at_object w n name up =
    cond (is_barred w.pool name (class_of (object_at w n))) Barred
    (cond (is_some (own w n name)) Here (further (proto_of (object_at w n)) up))

further-same : (proto : Option ℕ) (n : ℕ) (f g : ℕ → Found) → IfSome proto (λ up. (first_object ≤ up) × (up < n)) → ((up : ℕ) → up < n → f up ≡ g up) → further proto f ≡ further proto g
further-same None n f g older h = refl
further-same (Some up) n f g older h = h up older.1

at_object-same : (w : World) (n : ℕ) (name : Span) (f g : ℕ → Found) → HaveOlderProtos w.objects → ((up : ℕ) → up < n → f up ≡ g up) → at_object w n name f ≡ at_object w n name g
at_object-same w n name f g old h =
    ap (λ o. cond (is_barred w.pool name (class_of (object_at w n))) Barred (cond (is_some (own w n name)) Here o))
    (further-same (proto_of (object_at w n)) n f g (proto-older w n old) h)

sufficient : (w : World) (name : Span) → HaveOlderProtos w.objects → (k n : ℕ) → n < k → look_up_within (suc k) w n name ≡ look_up_within k w n name
sufficient w name old zero n h = absurd (omega (arith, h))
sufficient w name old (suc k) n h =
    at_object-same w n name (λ up. look_up_within (suc k) w up name) (λ up. look_up_within k w up name) old
    (λ up below. sufficient w name old k up (omega (arith, below, h)))

plenty : (w : World) (name : Span) → HaveOlderProtos w.objects → (more n : ℕ) → look_up_within (more + suc n) w n name ≡ look_up_within (suc n) w n name
plenty w name old zero n = let same : zero + suc n ≡ suc n = omega arith in ap (λ k. look_up_within k w n name) same
plenty w name old (suc more) n =
    let longer : suc more + suc n ≡ suc (more + suc n) = omega arith in
    ap (λ k. look_up_within k w n name) longer ∙ sufficient w name old (more + suc n) n (omega arith) ∙ plenty w name old more n

-- a name is looked for on the object and then from its prototype on
pub looks : (w : World) → HaveOlderProtos w.objects → LooksAlongPrototypes w
unfolding look_up
looks w old n name = at_object-same w n name (λ up. look_up_within n w up name) (λ up. look_up_within (suc up) w up name) old lower
  where
    lower : (up : ℕ) → up < n → look_up_within n w up name ≡ look_up_within (suc up) w up name
    lower up below = let split : n ≡ (n - suc up) + suc up = omega (arith, below) in ap (λ k. look_up_within k w up name) split ∙ plenty w name old (n - suc up) up
