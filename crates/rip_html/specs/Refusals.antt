-- The refusals of the page subset: which token is refused where it stands, at which of its units, and as what.
use Rattle.std.specs.Prelude.{ℕ, ◌+◌, Bool, not, ◌||◌, ◌&&◌, ◌==◌, nat_lt, nat_le, if◌then◌else◌, List, [], ◌∷◌, length, Option, Some, None, option_map, codes}
use Rattle.std.specs.Str.{bytes_eq}
use Rattle.rip_base.specs.declared.page.PageKind.{PageKind}
use Rattle.rip_base.specs.declared.page.PageKind.TheVariants as K
use Rattle.rip_markup.specs.Words.{is_among}
use Rattle.rip_markup.specs.Fault.{fault, shifted, option_or}
use Rattle.rip_markup.specs.declared.fault.Fault.{Fault}
use Rattle.rip_markup.specs.declared.token.TextRun.{TextRun}
use Rattle.rip_markup.specs.declared.token.Token.{Token}
use Rattle.rip_markup.specs.declared.token.Token.TheVariants as T
use Rattle.rip_markup.specs.declared.token.Placed.{Placed}
use Rattle.rip_html.specs.declared.part.Part.{Part}
use Rattle.rip_html.specs.declared.part.Part.TheVariants as P
use Rattle.rip_html.specs.Tags.{head_names, is_script, is_void, is_outside}
use Rattle.rip_html.specs.Standings.{Standing, first_standing, after}

-- a text where space alone may stand
abbrev pub text_kind : PageKind → TextRun → Option PageKind
text_kind kind run = if run.space == run.count then None else Some kind

-- an end tag of the second name where that of the first should stand
abbrev pub end_kind : PageKind → List ℕ → List ℕ → Option PageKind
end_kind kind due name = if bytes_eq name due then None else Some kind

-- a start tag in an element, where so many elements are open with it
abbrev pub content_kind : ℕ → List ℕ → Option PageKind
content_kind depth name =
    if is_script name then Some K.ScriptNotLast
    else (if is_outside name then Some K.NotInSubset
    else (if not (is_void name) && nat_le 200 depth then Some K.TooNested
    else None))

-- where the start tag of this part should stand
abbrev pub due_kind : List ℕ → Token → Option PageKind
due_kind due (T.Text run) = text_kind K.TextOutside run
due_kind due (T.Comment units) = None
due_kind due T.OpenComment = None
due_kind due (T.StartTag tag) = end_kind K.MissingPart due tag.name
due_kind due (T.EndTag end) = Some K.MissingPart
due_kind due T.Doctype = Some K.MissingPart
due_kind due T.Stray = Some K.MissingPart
due_kind due T.End = Some K.MissingPart

-- at the beginning of a page, where a doctype may stand too
abbrev pub beginning_kind : Token → Option PageKind
beginning_kind T.Doctype = None
beginning_kind token = due_kind (codes "html") token

-- a start tag in the head
abbrev pub head_tag_kind : List ℕ → Option PageKind
head_tag_kind name = if is_among head_names name then None else (if is_script name then Some K.ScriptNotLast else Some K.NotInSubset)

-- in the head
abbrev pub head_kind : Token → Option PageKind
head_kind (T.Text run) = text_kind K.TextOutside run
head_kind (T.Comment units) = None
head_kind T.OpenComment = None
head_kind (T.StartTag tag) = head_tag_kind tag.name
head_kind (T.EndTag end) = end_kind K.Misnested (codes "head") end.name
head_kind T.Doctype = Some K.BadTag
head_kind T.Stray = None
head_kind T.End = Some K.MissingPart

-- a start tag in the body
abbrev pub body_tag_kind : List ℕ → Option PageKind
body_tag_kind name = if is_script name then None else content_kind 2 name

-- in the body before its scripts
abbrev pub body_kind : Token → Option PageKind
body_kind (T.Text run) = None
body_kind (T.Comment units) = None
body_kind T.OpenComment = None
body_kind (T.StartTag tag) = body_tag_kind tag.name
body_kind (T.EndTag end) = end_kind K.Misnested (codes "body") end.name
body_kind T.Doctype = Some K.BadTag
body_kind T.Stray = None
body_kind T.End = Some K.MissingPart

-- in the body behind a script
abbrev pub scripts_kind : Token → Option PageKind
scripts_kind (T.Text run) = text_kind K.ScriptNotLast run
scripts_kind (T.Comment units) = Some K.ScriptNotLast
scripts_kind T.OpenComment = None
scripts_kind (T.StartTag tag) = end_kind K.ScriptNotLast (codes "script") tag.name
scripts_kind (T.EndTag end) = end_kind K.Misnested (codes "body") end.name
scripts_kind T.Doctype = Some K.BadTag
scripts_kind T.Stray = None
scripts_kind T.End = Some K.MissingPart

-- behind the body, where `</html>` should stand
abbrev pub closing_kind : Token → Option PageKind
closing_kind (T.Text run) = text_kind K.TextOutside run
closing_kind (T.Comment units) = None
closing_kind T.OpenComment = None
closing_kind (T.StartTag tag) = Some K.MissingPart
closing_kind (T.EndTag end) = end_kind K.MissingPart (codes "html") end.name
closing_kind T.Doctype = Some K.MissingPart
closing_kind T.Stray = Some K.MissingPart
closing_kind T.End = Some K.MissingPart

-- behind `</html>`
abbrev pub ended_kind : Token → Option PageKind
ended_kind (T.Text run) = text_kind K.TextOutside run
ended_kind (T.Comment units) = None
ended_kind T.OpenComment = None
ended_kind (T.StartTag tag) = Some K.TextOutside
ended_kind (T.EndTag end) = Some K.Misnested
ended_kind T.Doctype = Some K.BadTag
ended_kind T.Stray = None
ended_kind T.End = None

-- in a part and in no element within it
abbrev pub part_kind : Part → Token → Option PageKind
part_kind P.Beginning token = beginning_kind token
part_kind P.BehindDoctype token = due_kind (codes "html") token
part_kind P.InHtml token = due_kind (codes "head") token
part_kind P.InHead token = head_kind token
part_kind P.BehindHead token = due_kind (codes "body") token
part_kind P.InBody token = body_kind token
part_kind P.InScripts token = scripts_kind token
part_kind P.BehindBody token = closing_kind token
part_kind P.BehindHtml token = ended_kind token

-- in an element of this name within head or body, where so many elements are open with it
abbrev pub element_kind : List ℕ → ℕ → Token → Option PageKind
element_kind innermost depth (T.Text run) = None
element_kind innermost depth (T.Comment units) = None
element_kind innermost depth T.OpenComment = None
element_kind innermost depth (T.StartTag tag) = content_kind depth tag.name
element_kind innermost depth (T.EndTag end) = end_kind K.Misnested innermost end.name
element_kind innermost depth T.Doctype = Some K.BadTag
element_kind innermost depth T.Stray = None
element_kind innermost depth T.End = Some K.Misnested

-- as what a token is refused for the place at which it stands; html and head or body count among the open elements
abbrev pub kind_at : Part → List (List ℕ) → Token → Option PageKind
kind_at part [] token = part_kind part token
kind_at part (innermost ∷ others) token = element_kind innermost (3 + length others) token

-- the unit of a token at which it is refused for its place: of a text the first that isn't space
abbrev pub place_offset : Token → ℕ
place_offset (T.Text run) = run.space
place_offset _ = 0

-- where and as what a token is refused for itself
abbrev pub own_fault : Token → Option Fault
own_fault (T.Text run) = run.fault
own_fault (T.StartTag tag) = tag.fault
own_fault (T.EndTag end) = if end.whole then None else Some (fault 0 K.BadTag)
own_fault T.OpenComment = Some (fault 0 K.OpenComment)
own_fault T.Stray = Some (fault 0 K.BadTag)
own_fault (T.Comment units) = None
own_fault T.Doctype = None
own_fault T.End = None

-- the order in which the kinds at one place count
abbrev pub rank : PageKind → ℕ
rank K.NotUtf8 = 0
rank K.MissingPart = 1
rank K.BadTag = 2
rank K.BadAttribute = 3
rank K.DoubleAttribute = 4
rank K.BadReference = 5
rank K.OpenComment = 6
rank K.Misnested = 7
rank K.TextOutside = 8
rank K.ScriptNotLast = 9
rank K.ExternalScript = 10
rank K.NotInSubset = 11
rank K.TooNested = 12

-- the second fault counts before the first: its place is less, or at one place its kind
abbrev pub is_before : Fault → Fault → Bool
is_before first second = nat_lt second.offset first.offset || ((second.offset == first.offset) && nat_lt (rank second.kind) (rank first.kind))

-- the one of two faults that counts, where there is one
abbrev pub least_fault : Option Fault → Option Fault → Option Fault
least_fault None second = second
least_fault (Some first) None = Some first
least_fault (Some first) (Some second) = if is_before first second then Some second else Some first

-- where and as what a token that stands here is refused, counted from its first unit
abbrev pub refusal_at : Standing → Token → Option Fault
refusal_at s token = least_fault (option_map (fault (place_offset token)) (kind_at s.part s.open_names token)) (own_fault token)

-- The first refusal among these tokens, where the first of them stands here. Its offset is a place in the page's text.
abbrev pub refusal_from : Standing → List Placed → Option Fault
refusal_from s [] = None
refusal_from s (t ∷ others) = option_or (option_map (shifted t.place) (refusal_at s t.token)) (refusal_from (after s t.token) others)

-- the first refusal among the tokens of a page
abbrev pub first_refusal : List Placed → Option Fault
first_refusal tokens = refusal_from first_standing tokens
