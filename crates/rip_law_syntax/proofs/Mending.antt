-- A token is refused for its place exactly where it is so mended.
use Rattle.std.proofs.Common.{◌≡◌, ℕ, ◌<◌, ◌≤◌, min, Bool, true, false, cond, ◌&&◌, ◌||◌, ◌==◌, nat_lt, List, [], ◌∷◌, Option, Some, None, option_map, refl, sym, ap, ◌∙◌, arith, ltb-true, ltb-false, eqb-true, eq-eqb}
use Rattle.std.proofs.lemmas.Option.{same_Some}
use Rattle.rip_base.specs.declared.page.PageKind.{PageKind}
use Rattle.rip_base.specs.declared.page.PageKind.TheVariants as K
use Rattle.rip_markup.specs.Fault.{fault}
use Rattle.rip_markup.specs.Tokens.{is_last}
use Rattle.rip_markup.specs.declared.fault.Fault.{Fault}
use Rattle.rip_markup.specs.declared.tag.StartTag.{StartTag}
use Rattle.rip_markup.specs.declared.token.EndTag.{EndTag}
use Rattle.rip_markup.specs.declared.token.TextRun.{TextRun}
use Rattle.rip_markup.specs.declared.token.Token.{Token}
use Rattle.rip_markup.specs.declared.token.Token.TheVariants as T
use Rattle.rip_html.specs.Refusals.{kind_at, place_offset, own_fault, rank, least_fault, text_kind}
use Rattle.rip_law_syntax.specs.Offending.{mended, earliest}
use Rattle.rip_law_syntax.specs.Places.{Stage, Beginning, BehindDoctype, InHtml, InHead, BehindHead, InBody, InScripts, BehindBody, BehindHtml, standing_in}

-- THE KINDS OF A MENDED TOKEN

text_kinds : (stage : Stage) (names : List (List ℕ)) (run : TextRun) → kind_at (standing_in stage names).part names (mended (T.Text run)) ≡ kind_at (standing_in stage names).part names (T.Text run)
text_kinds Beginning [] run = refl
text_kinds BehindDoctype [] run = refl
text_kinds InHtml [] run = refl
text_kinds InHead [] run = refl
text_kinds BehindHead [] run = refl
text_kinds InBody [] run = refl
text_kinds InScripts [] run = refl
text_kinds BehindBody [] run = refl
text_kinds BehindHtml [] run = refl
text_kinds stage (name ∷ names) run = refl

start_kinds : (stage : Stage) (names : List (List ℕ)) (tag : StartTag) → kind_at (standing_in stage names).part names (mended (T.StartTag tag)) ≡ kind_at (standing_in stage names).part names (T.StartTag tag)
start_kinds Beginning [] tag = refl
start_kinds BehindDoctype [] tag = refl
start_kinds InHtml [] tag = refl
start_kinds InHead [] tag = refl
start_kinds BehindHead [] tag = refl
start_kinds InBody [] tag = refl
start_kinds InScripts [] tag = refl
start_kinds BehindBody [] tag = refl
start_kinds BehindHtml [] tag = refl
start_kinds stage (name ∷ names) tag = refl

end_kinds : (stage : Stage) (names : List (List ℕ)) (end : EndTag) → kind_at (standing_in stage names).part names (mended (T.EndTag end)) ≡ kind_at (standing_in stage names).part names (T.EndTag end)
end_kinds Beginning [] end = refl
end_kinds BehindDoctype [] end = refl
end_kinds InHtml [] end = refl
end_kinds InHead [] end = refl
end_kinds BehindHead [] end = refl
end_kinds InBody [] end = refl
end_kinds InScripts [] end = refl
end_kinds BehindBody [] end = refl
end_kinds BehindHtml [] end = refl
end_kinds stage (name ∷ names) end = refl

open_comment : (stage : Stage) (names : List (List ℕ)) → kind_at (standing_in stage names).part names T.OpenComment ≡ None
open_comment Beginning [] = refl
open_comment BehindDoctype [] = refl
open_comment InHtml [] = refl
open_comment InHead [] = refl
open_comment BehindHead [] = refl
open_comment InBody [] = refl
open_comment InScripts [] = refl
open_comment BehindBody [] = refl
open_comment BehindHtml [] = refl
open_comment stage (name ∷ names) = refl

stray : (stage : Stage) (names : List (List ℕ)) → kind_at (standing_in stage names).part names (mended T.Stray) ≡ None → kind_at (standing_in stage names).part names T.Stray ≡ None
stray Beginning [] e = absurd (cc)
stray BehindDoctype [] e = absurd (cc)
stray InHtml [] e = absurd (cc)
stray InHead [] e = refl
stray BehindHead [] e = absurd (cc)
stray InBody [] e = refl
stray InScripts [] e = refl
stray BehindBody [] e = absurd (cc)
stray BehindHtml [] e = refl
stray stage (name ∷ names) e = refl

-- a token that may stand here mended may stand here
pub mended_stands : (stage : Stage) (names : List (List ℕ)) (t : Token) → kind_at (standing_in stage names).part names (mended t) ≡ None → kind_at (standing_in stage names).part names t ≡ None
mended_stands stage names (T.Text run) e = sym (text_kinds stage names run) ∙ e
mended_stands stage names (T.Comment units) e = e
mended_stands stage names (T.StartTag tag) e = sym (start_kinds stage names tag) ∙ e
mended_stands stage names (T.EndTag end) e = sym (end_kinds stage names end) ∙ e
mended_stands stage names T.OpenComment e = open_comment stage names
mended_stands stage names T.Doctype e = e
mended_stands stage names T.Stray e = stray stage names e
mended_stands stage names T.End e = e

space_fits : (kind : PageKind) (run : TextRun) → run.space ≡ run.count → text_kind kind run ≡ None
space_fits kind run e = ap (λ b. cond b None (Some kind)) (eq-eqb run.space run.count e)

-- a text of space may stand everywhere
pub space_stands : (stage : Stage) (names : List (List ℕ)) (run : TextRun) → run.space ≡ run.count → kind_at (standing_in stage names).part names (T.Text run) ≡ None
space_stands Beginning [] run e = space_fits K.TextOutside run e
space_stands BehindDoctype [] run e = space_fits K.TextOutside run e
space_stands InHtml [] run e = space_fits K.TextOutside run e
space_stands InHead [] run e = space_fits K.TextOutside run e
space_stands BehindHead [] run e = space_fits K.TextOutside run e
space_stands InBody [] run e = refl
space_stands InScripts [] run e = space_fits K.ScriptNotLast run e
space_stands BehindBody [] run e = space_fits K.TextOutside run e
space_stands BehindHtml [] run e = space_fits K.TextOutside run e
space_stands stage (name ∷ names) run e = refl

-- nothing is wrong with a mended token itself
pub mended_whole : (t : Token) → own_fault (mended t) ≡ None
mended_whole (T.Text run) = refl
mended_whole (T.Comment units) = refl
mended_whole (T.StartTag tag) = refl
mended_whole (T.EndTag end) = refl
mended_whole T.OpenComment = refl
mended_whole T.Doctype = refl
mended_whole T.Stray = refl
mended_whole T.End = refl

-- a token with which something is wrong itself is not the last once it is mended
pub mended_goes_on : (t : Token) (f : Fault → Fault) (found : Fault) → option_map f (own_fault t) ≡ Some found → is_last (mended t) ≡ false
mended_goes_on (T.Text run) f found e = refl
mended_goes_on (T.Comment units) f found e = refl
mended_goes_on (T.StartTag tag) f found e = refl
mended_goes_on (T.EndTag end) f found e = refl
mended_goes_on T.OpenComment f found e = refl
mended_goes_on T.Doctype f found e = refl
mended_goes_on T.Stray f found e = refl
mended_goes_on T.End f found e = absurd (cc)

-- THE UNIT AT WHICH A TOKEN IS REFUSED FOR ITS PLACE

pub offset_is : (x found : Fault) → Some x ≡ Some found → x.offset ≡ found.offset
offset_is x found e = ap (λ (f : Fault). f.offset) (same_Some x found e)

lesser : (b c d : Bool) (first own found : Fault) → nat_lt own.offset first.offset ≡ b → (own.offset == first.offset) ≡ c
    → cond (b || (c && d)) (Some own) (Some first) ≡ Some found → found.offset ≡ min first.offset own.offset
lesser true c d first own found p q e =
    let less : own.offset < first.offset = ltb-true own.offset first.offset p in
    let is : own.offset ≡ found.offset = offset_is own found e in
    omega (arith, less, is)
lesser false true true first own found p q e =
    let same : own.offset ≡ first.offset = eqb-true own.offset first.offset q in
    let is : own.offset ≡ found.offset = offset_is own found e in
    omega (arith, same, is)
lesser false true false first own found p q e =
    let most : first.offset ≤ own.offset = ltb-false own.offset first.offset p in
    let is : first.offset ≡ found.offset = offset_is first found e in
    omega (arith, most, is)
lesser false false d first own found p q e =
    let most : first.offset ≤ own.offset = ltb-false own.offset first.offset p in
    let is : first.offset ≡ found.offset = offset_is first found e in
    omega (arith, most, is)

least_offset : (offset : ℕ) (kind : PageKind) (own : Option Fault) (found : Fault) → least_fault (Some (fault offset kind)) own ≡ Some found → found.offset ≡ earliest offset own
least_offset offset kind None found e = sym (offset_is (fault offset kind) found e)
least_offset offset kind (Some own) found e =
    lesser (nat_lt own.offset offset) (own.offset == offset) (nat_lt (rank own.kind) (rank kind)) (fault offset kind) own found refl refl e

-- a kind, and what is wrong with the token itself
place_by : (offset : ℕ) (o : Option PageKind) (kind : PageKind) (own : Option Fault) (found : Fault) → o ≡ Some kind → least_fault (option_map (fault offset) o) own ≡ Some found → found.offset ≡ earliest offset own
place_by offset o kind own found is e =
    least_offset offset kind own found (sym (ap (λ (k : Option PageKind). least_fault (option_map (fault offset) k) own) is) ∙ e)

-- something is wrong with the token at its first unit
at_first : (o : Option PageKind) (wrong : PageKind) (found : Fault) → least_fault (option_map (fault 0) o) (Some (fault 0 wrong)) ≡ Some found → found.offset ≡ earliest 0 (Some (fault 0 wrong))
at_first None wrong found e =
    let is : found.offset ≡ 0 = sym (offset_is (fault 0 wrong) found e) in
    omega (arith, is)
at_first (Some kind) wrong found e = least_offset 0 kind (Some (fault 0 wrong)) found e

-- where a token is refused that may not stand here mended
pub place_refused : (stage : Stage) (names : List (List ℕ)) (t : Token) (kind : PageKind) (found : Fault) → kind_at (standing_in stage names).part names (mended t) ≡ Some kind
    → least_fault (option_map (fault (place_offset t)) (kind_at (standing_in stage names).part names t)) (own_fault t) ≡ Some found → found.offset ≡ earliest (place_offset t) (own_fault t)
place_refused stage names (T.Text run) kind found is e = place_by run.space (kind_at (standing_in stage names).part names (T.Text run)) kind run.fault found (sym (text_kinds stage names run) ∙ is) e
place_refused stage names (T.Comment units) kind found is e = place_by 0 (kind_at (standing_in stage names).part names (T.Comment units)) kind None found is e
place_refused stage names (T.StartTag tag) kind found is e = place_by 0 (kind_at (standing_in stage names).part names (T.StartTag tag)) kind tag.fault found (sym (start_kinds stage names tag) ∙ is) e
place_refused stage names (T.EndTag end) kind found is e = place_by 0 (kind_at (standing_in stage names).part names (T.EndTag end)) kind (own_fault (T.EndTag end)) found (sym (end_kinds stage names end) ∙ is) e
place_refused stage names T.OpenComment kind found is e = at_first (kind_at (standing_in stage names).part names T.OpenComment) K.OpenComment found e
place_refused stage names T.Doctype kind found is e = place_by 0 (kind_at (standing_in stage names).part names T.Doctype) kind None found is e
place_refused stage names T.Stray kind found is e = at_first (kind_at (standing_in stage names).part names T.Stray) K.BadTag found e
place_refused stage names T.End kind found is e = place_by 0 (kind_at (standing_in stage names).part names T.End) kind None found is e
