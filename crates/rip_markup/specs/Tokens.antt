-- The tokens of a page: its texts, tags, comments and doctypes, one behind another (HTML 13.2.5), up to the end of the
-- page or to the first that is refused for itself. Units by number: 60 is `<`, 62 `>`, 10 LF.
use Rattle.std.specs.Prelude.{◌≡◌, ℕ, ◌+◌, Bool, true, false, not, ◌&&◌, ◌==◌, nat_lt, if◌then◌else◌, List, [], ◌∷◌, length, drop, Option, Some, None, is_some, option_map, take_while, MatchBool, codes}
use Rattle.std.specs.Str.{bytes_eq}
use Rattle.std.specs.List.{prefix_len}
use Rattle.rip_base.specs.Units.{small_text, begins}
use Rattle.rip_markup.specs.Units.{is_space, is_name_unit}
use Rattle.rip_markup.specs.Words.{begins_with}
use Rattle.rip_markup.specs.Steps.{decoded, bad_reference}
use Rattle.rip_markup.specs.Scans.{behind}
use Rattle.rip_markup.specs.Forms.{form_of, stops, before}
use Rattle.rip_markup.specs.Fault.{fault}
use Rattle.rip_markup.specs.Tags.{IsStartTag}
use Rattle.rip_markup.specs.declared.fault.Fault.{Fault}
use Rattle.rip_markup.specs.declared.form.Form.{Form}
use Rattle.rip_markup.specs.declared.form.Form.TheVariants as F
use Rattle.rip_markup.specs.declared.form.Stop.TheVariants as S
use Rattle.rip_markup.specs.declared.tag.StartTag.{StartTag}
use Rattle.rip_markup.specs.declared.token.Token.{Token}
use Rattle.rip_markup.specs.declared.token.Token.TheVariants as T
use Rattle.rip_markup.specs.declared.token.TextRun.{TextRun}
use Rattle.rip_markup.specs.declared.token.EndTag.{EndTag}
use Rattle.rip_markup.specs.declared.token.Placed.{Placed}
use Rattle.rip_markup.specs.declared.token.Content.{Content}
use Rattle.rip_markup.specs.declared.token.Content.TheVariants as C
use Rattle.rip_base.specs.declared.page.PageKind.TheVariants.{BadReference, NotInSubset}

-- a text with references that is spelled so
abbrev pub text_run : List ℕ → TextRun
text_run body = record {
  units = decoded 0 body;
  space = prefix_len is_space body;
  count = length body;
  fault = option_map (λ place. fault place BadReference) (bad_reference 0 0 body);
}

-- a text that stands for itself
abbrev pub raw_run : List ℕ → Option Fault → TextRun
raw_run body found = record { units = body; space = prefix_len is_space body; count = length body; fault = found }

-- a script holds no `<!--`
abbrev pub script_fault : List ℕ → Option Fault
script_fault body =
    let place = length (before (stops S.CommentOpen) body) in
    if nat_lt place (length body) then Some (fault place NotInSubset) else None

-- a unit of a text between tags
abbrev pub is_text : ℕ → Bool
is_text c = not (c == 60)

-- what stands behind the text of a comment, whose `<!--` these units follow
abbrev pub behind_comment : List ℕ → List ℕ
behind_comment text = drop (length (before (stops S.CommentClose) text)) text

-- the comment whose `<!--` these units follow: what stands before the first `-->`, if one stands there
abbrev pub comment_token : List ℕ → Token
comment_token text = if begins_with (codes "-->") (behind_comment text) then T.Comment (before (stops S.CommentClose) text) else T.OpenComment

-- how many units a comment has with `<!--` and `-->`
abbrev pub comment_count : List ℕ → ℕ
comment_count text = if begins_with (codes "-->") (behind_comment text) then length (before (stops S.CommentClose) text) + 7 else 0

-- the end tag whose `</` these units follow: a name, space or none, and `>`
abbrev pub end_tag : List ℕ → EndTag
end_tag named = record {
  name = small_text (take_while is_name_unit named);
  whole = begins (λ c. c == 62) (behind is_space (behind is_name_unit named));
}

-- how many units a whole end tag has
abbrev pub end_tag_count : List ℕ → ℕ
end_tag_count named =
    if begins (λ c. c == 62) (behind is_space (behind is_name_unit named)) then prefix_len is_name_unit named + prefix_len is_space (behind is_name_unit named) + 3 else 0

-- the token, of so many units, that a text of this form begins with
abbrev pub ReadsForm : Form → List ℕ → Token → ℕ → Type 0
ReadsForm F.End text token count = (token ≡ T.End) × (count ≡ 0)
ReadsForm F.Text text token count = (token ≡ T.Text (text_run (take_while is_text text))) × (count ≡ prefix_len is_text text)
ReadsForm F.StartTag text token count = (tag : StartTag) × IsStartTag (drop 1 text) tag count × (token ≡ T.StartTag tag)
ReadsForm F.EndTag text token count = (token ≡ T.EndTag (end_tag (drop 2 text))) × (count ≡ end_tag_count (drop 2 text))
ReadsForm F.Comment text token count = (token ≡ comment_token (drop 4 text)) × (count ≡ comment_count (drop 4 text))
ReadsForm F.Doctype text token count = (token ≡ T.Doctype) × (count ≡ prefix_len (λ c. not (c == 62)) (drop 9 text) + 10)
ReadsForm F.Stray text token count = (token ≡ T.Stray) × (count ≡ 0)

-- the token, of so many units, that a text begins with, in an element of this content (HTML 13.1.2)
abbrev pub Reads : Content → List ℕ → Token → ℕ → Type 0
Reads C.Script text token count = let body = before (stops S.ScriptEnd) text in (token ≡ T.Text (raw_run body (script_fault body))) × (count ≡ length body)
Reads C.Style text token count = let body = before (stops S.StyleEnd) text in (token ≡ T.Text (raw_run body None)) × (count ≡ length body)
Reads C.Title text token count = let body = before (stops S.TitleEnd) text in (token ≡ T.Text (text_run body)) × (count ≡ length body)
Reads C.Textarea text token count = let body = before (stops S.TextareaEnd) text in (token ≡ T.Text (text_run body)) × (count ≡ length body)
Reads _ text token count = ReadsForm (form_of text) text token count

-- no token follows this one: the page ends, or the token is refused for itself
abbrev pub is_last : Token → Bool
is_last T.End = true
is_last (T.Text run) = is_some run.fault
is_last (T.StartTag tag) = is_some tag.fault
is_last (T.EndTag end) = not end.whole
is_last (T.Comment units) = false
is_last T.OpenComment = true
is_last T.Doctype = false
is_last T.Stray = true

-- the content of an element of this name
abbrev pub content_of : List ℕ → Content
content_of name =
    if bytes_eq name (codes "script") then C.Script
    else (if bytes_eq name (codes "style") then C.Style
    else (if bytes_eq name (codes "title") then C.Title
    else (if bytes_eq name (codes "textarea") then C.Textarea
    else (if bytes_eq name (codes "pre") then C.Preformatted
    else C.Markup))))

-- what follows a token: the content of the element that it begins
abbrev pub content_after : Token → Content
content_after (T.StartTag tag) = content_of tag.name
content_after _ = C.Markup

-- where one LF at the beginning of the content is dropped
abbrev pub drops_line : Content → Bool
drops_line C.Preformatted = true
drops_line C.Textarea = true
drops_line _ = false

-- how many units are dropped
abbrev pub dropped : Content → List ℕ → ℕ
dropped content text = if drops_line content && begins (λ c. c == 10) text then 1 else 0

-- The text, which begins at this place in an element of this content, is these tokens, up to the first that is the last.
abbrev pub AreTokens : ℕ → Content → List ℕ → List Placed → Type 0
AreTokens place content text [] = ⊥
AreTokens place content text (t ∷ others) =
    let start = drop (dropped content text) text in
    (count : ℕ) × (t.place ≡ place + dropped content text) × Reads content start t.token count
    × MatchBool (is_last t.token) (others ≡ []) (AreTokens (t.place + count) (content_after t.token) (drop count start) others)

-- the text of a page, with lines that end in LF, is these tokens
abbrev pub IsTokens : List ℕ → List Placed → Type 0
IsTokens text tokens = AreTokens 0 C.Markup text tokens

-- a page has one list of tokens
abbrev pub HasOneList : Type 0
HasOneList = (text : List ℕ) (tokens others : List Placed) → IsTokens text tokens → IsTokens text others → tokens ≡ others

-- each text has tokens
abbrev pub HasSomeList : Type 0
HasSomeList = (text : List ℕ) → (tokens : List Placed) × IsTokens text tokens
