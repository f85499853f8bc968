-- Members that are read (DOM Level 2 Core 1.2), in the order of its interfaces.
use Rattle.std.specs.Prelude.{ℕ, pos, Bool, true, false, Option, None, Some, List, unwrap_or, find, codes}
use Rattle.rip_values.specs.declared.fixed.FixedText.{FixedText}
use Rattle.rip_values.specs.declared.fixed.FixedText.TheVariants.{Empty, TextName, CommentName, DocumentName}
use Rattle.rip_base.specs.declared.page.NodeKind.{NodeKind}
use Rattle.rip_base.specs.declared.page.NodeKind.TheVariants.{Document, Element, Text, Comment}
use Rattle.rip_values.specs.declared.builtin.Builtin.{Builtin}
use Rattle.rip_values.specs.declared.builtin.Builtin.TheVariants as call
use Rattle.rip_base.specs.declared.value.Span.{Span}
use Rattle.rip_base.specs.declared.value.Value.{Value}
use Rattle.rip_base.specs.declared.value.Value.TheVariants.{Null, Num, Object}
use Rattle.rip_values.specs.Builtins.{number_of}
use Rattle.rip_values.specs.Pool.{text_at}
use Rattle.rip_heap.specs.declared.host.HostDone.{HostDone}
use Rattle.rip_heap.specs.Conversions.{span_of}
use Rattle.rip_heap.specs.World.{World}
use Rattle.rip_dom.specs.declared.letters.Letters.TheVariants.{Capital}
use Rattle.rip_dom.specs.Letters.{text_in}
use Rattle.rip_dom.specs.Lists.{first_of, last_or}
use Rattle.rip_dom.specs.Names.{attribute_of}
use Rattle.rip_dom.specs.Reading.{text_below}
use Rattle.rip_dom.specs.Tree.{Tree, node_at, parent_of, children_of, next_of, previous_of, is_element}
use Rattle.rip_nodes.specs.declared.member.NodeMember.{NodeMember}
use Rattle.rip_nodes.specs.declared.member.NodeMember.TheVariants as member
use Rattle.rip_nodes.specs.Answers.{attribute_value, gives, is_document, new_text, node_or_null, outside, text_or_null, text_value}

-- a fixed text as a value
abbrev pub fixed_value : World → FixedText → Value
fixed_value w fixed = text_value w (span_of fixed)

-- the number of the kind (1.2, nodeType)
abbrev pub type_of : NodeKind → ℕ
type_of Element = 1
type_of Text = 3
type_of Comment = 8
type_of Document = 9

-- the name of an element
abbrev pub element_name : Option Span → Span
element_name name = unwrap_or name (span_of Empty)

-- 1.2, nodeName: of an element its name in capitals, which is a new text
abbrev pub node_name : World → NodeKind → Option Span → HostDone × World
node_name w Element name = new_text w (text_in Capital (text_at w.pool (element_name name)))
node_name w Text name = gives (fixed_value w TextName) w
node_name w Comment name = gives (fixed_value w CommentName) w
node_name w Document name = gives (fixed_value w DocumentName) w

-- the number of the kind as a value
abbrev pub type_value : NodeKind → Value
type_value kind = Num (pos (type_of kind))

-- 1.2, nodeValue: of a text or comment its text
abbrev pub node_text : World → NodeKind → Option Span → Value
node_text w Element text = Null
node_text w Text text = text_or_null w text
node_text w Comment text = text_or_null w text
node_text w Document text = Null

-- DOM Level 3 Core 1.4, textContent
abbrev pub text_content : World → Tree → ℕ → NodeKind → HostDone × World
text_content w t n Document = gives Null w
text_content w t n Element = new_text w (text_below w.pool t n)
text_content w t n Text = gives (node_text w Text (node_at t n).text) w
text_content w t n Comment = gives (node_text w Comment (node_at t n).text) w

-- the element below the document (1.2, documentElement)
abbrev pub document_element : Tree → Option ℕ
document_element t = find (λ n. is_element (node_at t n).kind) (children_of t 0)

-- a function as the member of a node that has it, and outside the profile elsewhere
abbrev pub method : Bool → Builtin → World → HostDone × World
method true b w = gives (Object (number_of b)) w
method false b w = outside w

-- the member of a node that has it, and outside the profile elsewhere
abbrev pub if_has : Bool → World → HostDone × World → HostDone × World
if_has true w answer = answer
if_has false w answer = outside w

-- tagName, of elements alone
abbrev pub tag_name : World → NodeKind → Option Span → HostDone × World
tag_name w kind name = if_has (is_element kind) w (node_name w kind name)

-- the attribute of this name as the member of an element (DOM Level 2 HTML 1.6.1)
abbrev pub attribute_read : World → Tree → ℕ → List ℕ → HostDone × World
attribute_read w t n name = if_has (is_element (node_at t n).kind) w (gives (attribute_value w (attribute_of w.pool t n name)) w)

-- what a node has as this member, on a page with this body
abbrev pub node_member : World → Tree → Option ℕ → ℕ → NodeMember → HostDone × World
node_member w t body n member.GetElementById = method (is_document (node_at t n).kind) call.GetElementById w
node_member w t body n member.CreateElement = method (is_document (node_at t n).kind) call.CreateElement w
node_member w t body n member.CreateTextNode = method (is_document (node_at t n).kind) call.CreateTextNode w
node_member w t body n member.Body = if_has (is_document (node_at t n).kind) w (gives (node_or_null body) w)
node_member w t body n member.DocumentElement = if_has (is_document (node_at t n).kind) w (gives (node_or_null (document_element t)) w)
node_member w t body n member.NodeType = gives (type_value (node_at t n).kind) w
node_member w t body n member.NodeName = node_name w (node_at t n).kind (node_at t n).name
node_member w t body n member.TagName = tag_name w (node_at t n).kind (node_at t n).name
node_member w t body n member.NodeValue = gives (node_text w (node_at t n).kind (node_at t n).text) w
node_member w t body n member.ParentNode = gives (node_or_null (parent_of t n)) w
node_member w t body n member.FirstChild = gives (node_or_null (first_of (children_of t n))) w
node_member w t body n member.LastChild = gives (node_or_null (last_or None (children_of t n))) w
node_member w t body n member.NextSibling = gives (node_or_null (next_of t n (parent_of t n))) w
node_member w t body n member.PreviousSibling = gives (node_or_null (previous_of t n (parent_of t n))) w
node_member w t body n member.HasChildNodes = method true call.HasChildNodes w
node_member w t body n member.AppendChild = method true call.AppendChild w
node_member w t body n member.InsertBefore = method true call.InsertBefore w
node_member w t body n member.ReplaceChild = method true call.ReplaceChild w
node_member w t body n member.RemoveChild = method true call.RemoveChild w
node_member w t body n member.TextContent = text_content w t n (node_at t n).kind
node_member w t body n member.GetAttribute = method (is_element (node_at t n).kind) call.GetAttribute w
node_member w t body n member.HasAttribute = method (is_element (node_at t n).kind) call.HasAttribute w
node_member w t body n member.SetAttribute = method (is_element (node_at t n).kind) call.SetAttribute w
node_member w t body n member.RemoveAttribute = method (is_element (node_at t n).kind) call.RemoveAttribute w
node_member w t body n member.Id = attribute_read w t n (codes "id")
node_member w t body n member.ClassName = attribute_read w t n (codes "class")
node_member w t body n member.AddEventListener = method true call.AddEventListener w
node_member w t body n member.RemoveEventListener = method true call.RemoveEventListener w
