-- What a member of the document answers, of the world and the tree before it, with both after it.
use Rattle.std.specs.Prelude.{◌≡◌, ℕ, ◌+◌, Bool, true, false, nat_le, if◌then◌else◌, Option, None, Some, List, length, unwrap_or}
use Rattle.rip_values.specs.declared.fixed.FixedText.TheVariants.{Empty}
use Rattle.rip_base.specs.declared.page.NodeKind.{NodeKind}
use Rattle.rip_base.specs.declared.page.NodeKind.TheVariants.{Document, Element, Text as TextKind, Comment}
use Rattle.rip_base.specs.declared.value.Fault.TheVariants.{NotInProfile, TextTooLong}
use Rattle.rip_base.specs.declared.value.Limit.TheVariants.{Units}
use Rattle.rip_base.specs.declared.value.Span.{Span}
use Rattle.rip_base.specs.declared.value.Value.{Value}
use Rattle.rip_base.specs.declared.value.Value.TheVariants.{Null, Text, Object}
use Rattle.rip_values.specs.Pool.{held, span_behind, with_text}
use Rattle.rip_heap.specs.declared.host.HostDone.{HostDone}
use Rattle.rip_heap.specs.declared.host.HostDone.TheVariants as host
use Rattle.rip_heap.specs.Conversions.{span_of}
use Rattle.rip_heap.specs.Growth.{Belongs, Grows}
use Rattle.rip_heap.specs.World.{World, first_node}
use Rattle.rip_dom.specs.Tree.{Tree}

-- VALUES

-- a node as a value
abbrev pub node_value : ℕ → Value
node_value n = Object (first_node + n)

-- a node as a value, or null where there is none
abbrev pub node_or_null : Option ℕ → Value
node_or_null None = Null
node_or_null (Some n) = node_value n

-- a text of the world as a value
abbrev pub text_value : World → Span → Value
text_value w span = Text (held w.pool span)

-- a text as a value, or null where there is none
abbrev pub text_or_null : World → Option Span → Value
text_or_null w None = Null
text_or_null w (Some span) = text_value w span

-- the value of an attribute; where it is absent, the empty text
abbrev pub attribute_value : World → Option Span → Value
attribute_value w value = text_value w (unwrap_or value (span_of Empty))

-- the kind is that of the document
abbrev pub is_document : NodeKind → Bool
is_document Element = false
is_document TextKind = false
is_document Comment = false
is_document Document = true

-- ANSWERS THAT LEAVE THE TREE AS IT IS

-- a value, and the world after it
abbrev pub gives : Value → World → HostDone × World
gives v w = (host.Value v, w)

-- the member is outside the profile
abbrev pub outside : World → HostDone × World
outside w = (host.Fault NotInProfile, w)

-- the world with a text more, which costs its length
abbrev pub with_new_text : World → List ℕ → World
with_new_text w text = record w { pool = with_text w.pool text (length text) }

-- a new text: its length is judged before its charge
abbrev pub new_text : World → List ℕ → HostDone × World
new_text w text =
    if nat_le (length text) w.pool.text_limit then
    (if nat_le (w.pool.used + length text) w.pool.limit
    then gives (text_value (with_new_text w text) (span_behind w.pool text)) (with_new_text w text)
    else (host.Limit Units, w))
    else (host.Fault TextTooLong, w)

-- only texts were added to the world
pub record AddsTexts (old new : World) : Type 0 where
  pub grows : Grows old new
  pub objects : new.objects ≡ old.objects

-- what holds of each answer: a value is of the world after it, a fault and a limit leave the world as it was, and memory
-- is never wanting
abbrev pub IsAnswered : World → HostDone → World → Type 0
IsAnswered old (host.Value v) new = Belongs new v
IsAnswered old host.TypeFault new = Unit {0}
IsAnswered old (host.Dom code) new = Unit {0}
IsAnswered old (host.Fault fault) new = new ≡ old
IsAnswered old (host.Limit limit) new = new ≡ old
IsAnswered old host.Memory new = ⊥

-- what holds of the tree after each answer: only a value may change it, and its limit stands
abbrev pub KeepsTree : Tree → HostDone → Tree → Type 0
KeepsTree old (host.Value v) new = new.limit ≡ old.limit
KeepsTree old host.TypeFault new = new ≡ old
KeepsTree old (host.Dom code) new = new ≡ old
KeepsTree old (host.Fault fault) new = new ≡ old
KeepsTree old (host.Limit limit) new = new ≡ old
KeepsTree old host.Memory new = new ≡ old
