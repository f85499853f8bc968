-- One step of a look-up along prototypes, with what it hands back.
use Rattle.std.proofs.Common.{◌≡◌, ℕ, Bool, true, false, cond, Option, None, Some, refl, ap, ◌∙◌}
use Rattle.std.specs.Prelude.{is_some}
use Rattle.rip_base.specs.declared.value.Span.{Span}
use Rattle.rip_base.specs.declared.value.Value.{Value}
use Rattle.rip_heap.specs.Objects.{own, or_up, find}
use Rattle.rip_heap.specs.Sound.{HaveOlderProtos}
use Rattle.rip_heap.specs.World.{World, object_at, class_of, proto_of}
use Rattle.rip_heap.specs.declared.keys.Found.TheVariants.{Here, Barred}
use Rattle.rip_heap.specs.declared.keys.LookedUp.{LookedUp}
use Rattle.rip_heap.specs.declared.keys.LookedUp.TheVariants.{Value as Gives, Barred as GivesBarred, Nowhere as GivesNowhere}
use Rattle.rip_heap.specs.Keys.{is_barred, further, look_up, looked_up, handed_back}
use Rattle.rip_heap.proofs.AlongLemmas.{looks}
use Rattle.rip_heap.proofs.FindLemmas.{find_up}

-- what is handed back from the prototype on
abbrev pub beyond : Option ℕ → (ℕ → LookedUp) → LookedUp
beyond None up = GivesNowhere
beyond (Some n) up = up n

-- the own value, or else what is handed back further up
abbrev pub own_or : Option Value → LookedUp → LookedUp
own_or (Some v) other = Gives v
own_or None other = other

pub looked_up_step : (w : World) (n : ℕ) (name : Span) → HaveOlderProtos w.objects
    → looked_up w n name ≡ cond (is_barred w.pool name (class_of (object_at w n))) GivesBarred (own_or (own w n name) (beyond (proto_of (object_at w n)) (λ up. looked_up w up name)))
looked_up_step w n name older =
    ap (handed_back (find w n name)) (looks w older n name)
    ∙ ap (λ v. handed_back v (cond (is_barred w.pool name (class_of (object_at w n))) Barred (cond (is_some (own w n name)) Here (further (proto_of (object_at w n)) (λ up. look_up w up name))))) (find_up w n name older)
    ∙ by (is_barred w.pool name (class_of (object_at w n))) (own w n name) (proto_of (object_at w n))
  where
    by : (b : Bool) (v : Option Value) (proto : Option ℕ)
        → handed_back (or_up v proto (λ up. find w up name)) (cond b Barred (cond (is_some v) Here (further proto (λ up. look_up w up name))))
        ≡ cond b GivesBarred (own_or v (beyond proto (λ up. looked_up w up name)))
    by true v proto = refl
    by false (Some v) proto = refl
    by false None None = refl
    by false None (Some up) = refl
