-- What a page begins with at a place, by its first units (HTML 13.1, 13.2.5). Units by number: 60 is `<`, 62 `>`.
use Rattle.std.specs.Prelude.{ℕ, Bool, true, false, not, ◌&&◌, ◌==◌, if◌then◌else◌, List, [], ◌∷◌, length, drop, codes}
use Rattle.rip_base.specs.Units.{small_unit, begins}
use Rattle.rip_markup.specs.Units.{is_space, is_letter}
use Rattle.rip_markup.specs.Words.{begins_with}
use Rattle.rip_markup.specs.Scans.{behind}
use Rattle.rip_markup.specs.declared.form.Form.{Form}
use Rattle.rip_markup.specs.declared.form.Form.TheVariants as F
use Rattle.rip_markup.specs.declared.form.Stop.{Stop}
use Rattle.rip_markup.specs.declared.form.Stop.TheVariants as S

-- the text begins with these small letters and other units, in any case
abbrev pub begins_small : List ℕ → List ℕ → Bool
begins_small [] text = true
begins_small (c ∷ front) [] = false
begins_small (c ∷ front) (d ∷ text) = (small_unit d == c) && begins_small front text

-- a doctype stands behind the `<`: `!doctype` in any case, and somewhere a `>`
abbrev pub is_doctype : List ℕ → Bool
is_doctype rest = begins_small (codes "!doctype") rest && begins (λ c. c == 62) (behind (λ c. not (c == 62)) (drop 8 rest))

-- an end tag's name stands behind the `<`
abbrev pub begins_end_tag : List ℕ → Bool
begins_end_tag [] = false
begins_end_tag (c ∷ rest) = (c == 47) && begins is_letter rest

-- what stands behind a `<`
abbrev pub markup_form : List ℕ → Form
markup_form rest =
    if begins is_letter rest then F.StartTag
    else (if begins_end_tag rest then F.EndTag
    else (if begins_with (codes "!--") rest then F.Comment
    else (if is_doctype rest then F.Doctype
    else F.Stray)))

-- what the text begins with
abbrev pub form_of : List ℕ → Form
form_of [] = F.End
form_of (c ∷ rest) = if c == 60 then markup_form rest else F.Text

-- a whole end tag of this name stands here, in any case; the units are those from its `<` to its name
abbrev pub is_end_tag : List ℕ → List ℕ → Bool
is_end_tag front text = begins_small front text && begins (λ c. c == 62) (behind is_space (drop (length front) text))

-- A run of units stops here: a comment closes, one opens, or the text of an element ends. That of a script or a style
-- ends at its end tag's name, whatever follows; that of a title or a textarea at a whole end tag (HTML 13.1.2.6).
abbrev pub stops : Stop → List ℕ → Bool
stops S.CommentClose text = begins_with (codes "-->") text
stops S.CommentOpen text = begins_with (codes "<!--") text
stops S.ScriptEnd text = begins_small (codes "</script") text
stops S.StyleEnd text = begins_small (codes "</style") text
stops S.TitleEnd text = is_end_tag (codes "</title") text
stops S.TextareaEnd text = is_end_tag (codes "</textarea") text

-- the units before the first place where the text passes, or all of them where it passes nowhere
abbrev pub before : (List ℕ → Bool) → List ℕ → List ℕ
before passes [] = []
before passes (c ∷ rest) = if passes (c ∷ rest) then [] else c ∷ before passes rest
