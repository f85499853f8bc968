-- Laws of worlds, in words that no step of a world uses.
use Rattle.std.specs.Prelude.{◌≡◌, ℕ, false, Some, is_some, if◌then◌else◌}
use Rattle.rip_base.specs.declared.value.Span.{Span}
use Rattle.rip_base.specs.declared.value.Value.{Value}
use Rattle.rip_values.specs.declared.fixed.FixedText.{FixedText}
use Rattle.rip_values.specs.FixedTable.{text_of}
use Rattle.rip_values.specs.Pool.{text_at}
use Rattle.rip_heap.specs.declared.limits.HeapLimits.{HeapLimits}
use Rattle.rip_heap.specs.Conversions.{span_of}
use Rattle.rip_heap.specs.Growth.{Grows}
use Rattle.rip_heap.specs.Names.{same_text}
use Rattle.rip_heap.specs.Keys.{is_barred, further, look_up}
use Rattle.rip_heap.specs.declared.keys.Found.TheVariants.{Here, Barred}
use Rattle.rip_heap.specs.Objects.{own, put}
use Rattle.rip_heap.specs.World.{World, IsObject, class_of, empty_world, object_at, proto_of}

-- what is put is read: after it the object's own property of this name has the value
abbrev pub PutsAreRead : Type 0
PutsAreRead = (w next : World) (n : ℕ) (name : Span) (v : Value) → IsObject w n → put w n name v ≡ Some next → own next n name ≡ Some v

-- no other property changes: none of another object, and none of another name
abbrev pub PutsLeaveOthers : Type 0
PutsLeaveOthers = (w next : World) (n m : ℕ) (name other : Span) (v : Value)
    → (m ≡ n → same_text w.pool name other ≡ false) → put w n name v ≡ Some next → own next m other ≡ own w m other

-- in every world that came of an empty one each fixed text stands at its span
abbrev pub FixedTextsStand : Type 0
FixedTextsStand = (limits : HeapLimits) (w : World) (fixed : FixedText) → Grows (empty_world limits) w → text_at w.pool (span_of fixed) ≡ text_of fixed

-- a name is looked for on the object and then from its prototype on (8.12.2)
abbrev pub LooksAlongPrototypes : World → Type 0
LooksAlongPrototypes w = (n : ℕ) (name : Span) → look_up w n name ≡ (
    if is_barred w.pool name (class_of (object_at w n)) then Barred
    else if is_some (own w n name) then Here
    else further (proto_of (object_at w n)) (λ up. look_up w up name))
