-- The page subset as a grammar over tokens: HTML (13.1, 4.1.1, 4.2.1, 4.3.1), narrowed to pages that need no mending.
use Rattle.std.specs.Prelude.{◌≡◌, ℕ, suc, ◌<◌, true, false, List, [], ◌∷◌, ◌++◌, None, codes}
use Rattle.std.specs.Str.{bytes_eq}
use Rattle.std.specs.List.{AllByRecursion}
use Rattle.rip_markup.specs.Words.{is_among}
use Rattle.rip_markup.specs.declared.tag.StartTag.{StartTag}
use Rattle.rip_markup.specs.declared.token.TextRun.{TextRun}
use Rattle.rip_markup.specs.declared.token.Token.{Token}
use Rattle.rip_markup.specs.declared.token.Token.TheVariants as T
use Rattle.rip_html.specs.Tags.{head_names, is_script, is_void, is_outside}
use Rattle.rip_html.specs.Forests.{Forest, Nothing, Words, Remark, Void, Nested, end_of, forest_tokens, followed, elements}

-- a text that nothing speaks against, of space alone
abbrev pub IsSpace : TextRun → Type 0
IsSpace run = (run.fault ≡ None) × (run.space ≡ run.count)

-- a start tag of this name that nothing speaks against
abbrev pub IsTag : List ℕ → StartTag → Type 0
IsTag name tag = (tag.fault ≡ None) × (bytes_eq tag.name name ≡ true)

-- What may stand in an element, where so many elements are open with it: no script and none of the elements that the
-- subset leaves out; an element with content where fewer than 200 are open.
abbrev pub IsContent : ℕ → Forest → Type 0
IsContent depth Nothing = Unit {0}
IsContent depth (Words run others) = (run.fault ≡ None) × IsContent depth others
IsContent depth (Remark units others) = IsContent depth others
IsContent depth (Void tag others) = (tag.fault ≡ None) × (is_script tag.name ≡ false) × (is_outside tag.name ≡ false) × (is_void tag.name ≡ true) × IsContent depth others
IsContent depth (Nested tag content others) =
    (tag.fault ≡ None) × (is_script tag.name ≡ false) × (is_outside tag.name ≡ false) × (is_void tag.name ≡ false) × (depth < 200) × IsContent (suc depth) content × IsContent depth others

-- what may stand in the head, with html and head open: space, comments, and elements that speak of the page
abbrev pub IsHead : Forest → Type 0
IsHead Nothing = Unit {0}
IsHead (Words run others) = IsSpace run × IsHead others
IsHead (Remark units others) = IsHead others
IsHead (Void tag others) = (tag.fault ≡ None) × (is_among head_names tag.name ≡ true) × (is_void tag.name ≡ true) × IsHead others
IsHead (Nested tag content others) = (tag.fault ≡ None) × (is_among head_names tag.name ≡ true) × (is_void tag.name ≡ false) × IsContent 3 content × IsHead others

-- what may stand at the end of the body, with html and body open: scripts, and space beside them
abbrev pub IsScripts : Forest → Type 0
IsScripts Nothing = Unit {0}
IsScripts (Words run others) = IsSpace run × IsScripts others
IsScripts (Remark units others) = ⊥
IsScripts (Void tag others) = ⊥
IsScripts (Nested tag content others) = (tag.fault ≡ None) × (is_script tag.name ≡ true) × IsContent 3 content × IsScripts others

-- what may stand between the parts of a page, and is dropped: space and comments
abbrev pub IsDropped : Token → Type 0
IsDropped (T.Text run) = IsSpace run
IsDropped (T.Comment units) = Unit {0}
IsDropped _ = ⊥

-- a doctype and what is dropped behind it, or none
abbrev pub IsDoctype : List Token → Type 0
IsDoctype [] = Unit {0}
IsDoctype (T.Doctype ∷ behind) = AllByRecursion IsDropped behind
IsDoctype _ = ⊥

-- the parts of a page, with what stands between them
pub record Parts : Type 0 where
  pub beginning : List Token
  pub doctype : List Token
  pub html : StartTag
  pub before_head : List Token
  pub head_tag : StartTag
  pub head : Forest
  pub before_body : List Token
  pub body_tag : StartTag
  pub content : Forest
  pub scripts : Forest
  pub behind_body : List Token
  pub behind_html : List Token

-- the tokens of these parts
abbrev pub end_tokens : Parts → List Token
end_tokens p = end_of (codes "body") ∷ (p.behind_body ++ (end_of (codes "html") ∷ (p.behind_html ++ (T.End ∷ []))))

-- the same from the body on
abbrev pub body_tokens : Parts → List Token
body_tokens p = T.StartTag p.body_tag ∷ forest_tokens p.content (forest_tokens p.scripts (end_tokens p))

-- the same from the head on
abbrev pub head_tokens : Parts → List Token
head_tokens p = T.StartTag p.head_tag ∷ forest_tokens p.head (end_of (codes "head") ∷ (p.before_body ++ body_tokens p))

-- the tokens of a page with these parts
abbrev pub page_tokens : Parts → List Token
page_tokens p = p.beginning ++ (p.doctype ++ (T.StartTag p.html ∷ (p.before_head ++ head_tokens p)))

-- these parts make a page
pub record AreParts (p : Parts) : Type 0 where
  pub beginning : AllByRecursion IsDropped p.beginning
  pub doctype : IsDoctype p.doctype
  pub html : IsTag (codes "html") p.html
  pub before_head : AllByRecursion IsDropped p.before_head
  pub head_tag : IsTag (codes "head") p.head_tag
  pub head : IsHead p.head
  pub before_body : AllByRecursion IsDropped p.before_body
  pub body_tag : IsTag (codes "body") p.body_tag
  pub content : IsContent 2 p.content
  pub scripts : IsScripts p.scripts
  pub behind_body : AllByRecursion IsDropped p.behind_body
  pub behind_html : AllByRecursion IsDropped p.behind_html

-- the elements of a page, one within another; what is dropped is not among them
abbrev pub page_forest : Parts → Forest
page_forest p = Nested p.html (Nested p.head_tag (elements p.head) (Nested p.body_tag (followed p.content p.scripts) Nothing)) Nothing
