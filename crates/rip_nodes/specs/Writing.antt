-- Members of nodes that are written (DOM Level 2 Core 1.2).
use Rattle.std.specs.Prelude.{ℕ}
use Rattle.rip_values.specs.declared.fixed.FixedText.TheVariants.{Empty, Id as IdText}
use Rattle.rip_base.specs.declared.page.NodeKind.{NodeKind}
use Rattle.rip_base.specs.declared.page.NodeKind.TheVariants.{Document, Element, Text, Comment}
use Rattle.rip_base.specs.declared.value.Fault.TheVariants.{NotInProfile}
use Rattle.rip_base.specs.declared.value.Span.{Span}
use Rattle.rip_base.specs.declared.value.Value.{Value}
use Rattle.rip_base.specs.declared.value.Value.TheVariants.{Undefined, Null, Bool as Boolean, Num, NaN, Text as TextValue, Object}
use Rattle.rip_heap.specs.declared.host.HostDone.{HostDone}
use Rattle.rip_heap.specs.declared.host.HostDone.TheVariants as host
use Rattle.rip_heap.specs.Conversions.{span_of}
use Rattle.rip_heap.specs.World.{World}
use Rattle.rip_dom.specs.Tree.{Tree, node_at}
use Rattle.rip_dom.specs.Writing.{is_past, written}
use Rattle.rip_nodes.specs.declared.member.NodeMember.{NodeMember}
use Rattle.rip_nodes.specs.declared.member.NodeMember.TheVariants as member
use Rattle.rip_nodes.specs.Attributes.{attribute_given}
use Rattle.rip_nodes.specs.Texts.{text_span, with_text}

-- a member that is written answers undefined; one that is not there, or not to be written, is outside the profile
abbrev pub not_written : World → Tree → HostDone × World × Tree
not_written w t = (host.Fault NotInProfile, w, t)

-- null and undefined are written as the empty text
abbrev pub or_empty : Value → Value
or_empty Undefined = TextValue (span_of Empty)
or_empty Null = TextValue (span_of Empty)
or_empty (Boolean b) = Boolean b
or_empty (Num z) = Num z
or_empty NaN = NaN
or_empty (TextValue span) = TextValue span
or_empty (Object n) = Object n

-- the text of this value is written, in place of a text or of all children
abbrev pub text_written : World → Tree → ℕ → Value → HostDone × World × Tree
text_written w t n v =
    with_text w t (is_past t n (text_span w.pool v)) v (λ text x. (host.Value Undefined, x, written t n text))

-- 1.2, nodeValue: of a text or comment
abbrev pub node_value_written : World → Tree → ℕ → NodeKind → Value → HostDone × World × Tree
node_value_written w t n Document v = not_written w t
node_value_written w t n Element v = not_written w t
node_value_written w t n Text v = text_written w t n (or_empty v)
node_value_written w t n Comment v = text_written w t n (or_empty v)

-- DOM Level 3 Core 1.4, textContent: of all but the document
abbrev pub text_content_written : World → Tree → ℕ → NodeKind → Value → HostDone × World × Tree
text_content_written w t n Document v = not_written w t
text_content_written w t n Element v = text_written w t n (or_empty v)
text_content_written w t n Text v = text_written w t n (or_empty v)
text_content_written w t n Comment v = text_written w t n (or_empty v)

-- 1.2, an attribute that a member stands for (DOM Level 2 HTML 1.6.1): of elements alone
abbrev pub attribute_written : World → Tree → ℕ → NodeKind → Span → Value → HostDone × World × Tree
attribute_written w t n Element name v = attribute_given w t n name v
attribute_written w t n Document name v = not_written w t
attribute_written w t n Text name v = not_written w t
attribute_written w t n Comment name v = not_written w t

-- what it means to write this member of a node, where the text `class` stands at this span
abbrev pub node_written : World → Tree → Span → ℕ → NodeMember → Value → HostDone × World × Tree
node_written w t class n member.GetElementById v = not_written w t
node_written w t class n member.CreateElement v = not_written w t
node_written w t class n member.CreateTextNode v = not_written w t
node_written w t class n member.Body v = not_written w t
node_written w t class n member.DocumentElement v = not_written w t
node_written w t class n member.NodeType v = not_written w t
node_written w t class n member.NodeName v = not_written w t
node_written w t class n member.TagName v = not_written w t
node_written w t class n member.NodeValue v = node_value_written w t n (node_at t n).kind v
node_written w t class n member.ParentNode v = not_written w t
node_written w t class n member.FirstChild v = not_written w t
node_written w t class n member.LastChild v = not_written w t
node_written w t class n member.NextSibling v = not_written w t
node_written w t class n member.PreviousSibling v = not_written w t
node_written w t class n member.HasChildNodes v = not_written w t
node_written w t class n member.AppendChild v = not_written w t
node_written w t class n member.InsertBefore v = not_written w t
node_written w t class n member.ReplaceChild v = not_written w t
node_written w t class n member.RemoveChild v = not_written w t
node_written w t class n member.TextContent v = text_content_written w t n (node_at t n).kind v
node_written w t class n member.GetAttribute v = not_written w t
node_written w t class n member.HasAttribute v = not_written w t
node_written w t class n member.SetAttribute v = not_written w t
node_written w t class n member.RemoveAttribute v = not_written w t
node_written w t class n member.Id v = attribute_written w t n (node_at t n).kind (span_of IdText) v
node_written w t class n member.ClassName v = attribute_written w t n (node_at t n).kind class v
node_written w t class n member.AddEventListener v = not_written w t
node_written w t class n member.RemoveEventListener v = not_written w t
