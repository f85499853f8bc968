-- The nodes of a page in document order (DOM Level 2 Core 1.2): the number of a node is its place in the list.
use Rattle.std.specs.Prelude.{ℕ, suc, ◌+◌, List, [], ◌∷◌, ◌++◌, length, Some, None}
use Rattle.rip_base.specs.declared.page.PageNode.{PageNode}
use Rattle.rip_base.specs.declared.page.NodeKind.TheVariants.{Document, Element, Text, Comment}
use Rattle.rip_markup.specs.declared.tag.StartTag.{StartTag}
use Rattle.rip_html.specs.Forests.{Forest, Nothing, Words, Remark, Void, Nested}
use Rattle.rip_html.specs.Grammar.{Parts, page_forest}

-- the document, which has no parent
abbrev pub document_node : PageNode
document_node = record { kind = Document; name = []; text = []; attributes = []; parent = None }

-- the element that a tag begins, whose parent has this number
abbrev pub element_node : ℕ → StartTag → PageNode
element_node parent tag = record { kind = Element; name = tag.name; text = []; attributes = tag.attributes; parent = Some parent }

-- a text, if it isn't empty
abbrev pub text_nodes : ℕ → List ℕ → List PageNode
text_nodes parent [] = []
text_nodes parent (c ∷ units) = record { kind = Text; name = []; text = c ∷ units; attributes = []; parent = Some parent } ∷ []

-- a comment
abbrev pub comment_node : ℕ → List ℕ → PageNode
comment_node parent units = record { kind = Comment; name = []; text = units; attributes = []; parent = Some parent }

-- The nodes of a forest whose parent has the first number, where the first of them gets the second number: an element
-- stands before its content, and that before what follows it.
abbrev pub forest_nodes : ℕ → ℕ → Forest → List PageNode
forest_nodes parent next Nothing = []
forest_nodes parent next (Words run others) = text_nodes parent run.units ++ forest_nodes parent (next + length (text_nodes parent run.units)) others
forest_nodes parent next (Remark units others) = comment_node parent units ∷ forest_nodes parent (suc next) others
forest_nodes parent next (Void tag others) = element_node parent tag ∷ forest_nodes parent (suc next) others
forest_nodes parent next (Nested tag content others) =
    element_node parent tag ∷ (forest_nodes next (suc next) content ++ forest_nodes parent (suc next + length (forest_nodes next (suc next) content)) others)

-- the nodes of a page: the document and what stands in it
abbrev pub page_nodes : Parts → List PageNode
page_nodes p = document_node ∷ forest_nodes 0 1 (page_forest p)
