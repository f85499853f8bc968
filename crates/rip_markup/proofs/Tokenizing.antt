-- The loop over the tokens of a page.
use Rattle.std.proofs.Common.{◌≡◌, ℕ, ◌+◌, ◌*◌, ◌<◌, ◌≤◌, ◌==◌, Bool, true, false, not, cond, List, [], ◌∷◌, ◌++◌, length, drop, MatchBool, refl, sym, ap, ◌∙◌, subst, ⊎_elim, arith, append_assoc}
use Rattle.std.specs.List.{prefix_len}
use Rattle.std.proofs.lemmas.Bool.{false≢true, true≢false, not_from_false}
use Rattle.std.specs.Prelude.{codes}
use Rattle.rip_base.specs.Units.{begins}
use Rattle.rip_markup.specs.Units.{is_space, is_name_unit}
use Rattle.rip_markup.specs.Scans.{behind}
use Rattle.rip_markup.specs.declared.form.Stop.TheVariants as S
use Rattle.rip_markup.specs.Forms.{form_of, markup_form, stops, before}
use Rattle.rip_markup.specs.Words.{begins_with}
use Rattle.rip_markup.specs.Tokens.{ReadsForm, Reads, is_last, content_after, dropped, AreTokens, IsTokens, is_text, comment_token, comment_count, end_tag, end_tag_count, behind_comment}
use Rattle.rip_markup.specs.declared.form.Form.{Form}
use Rattle.rip_markup.specs.declared.form.Form.TheVariants as F
use Rattle.rip_markup.specs.declared.token.Token.{Token}
use Rattle.rip_markup.specs.declared.token.Token.TheVariants as T
use Rattle.rip_markup.specs.declared.token.Placed.{Placed}
use Rattle.rip_markup.specs.declared.token.Content.{Content}
use Rattle.rip_markup.specs.declared.token.Content.TheVariants as C
use Rattle.rip_markup.proofs.Choice.{chosen}
use Rattle.rip_markup.proofs.Runs.{run_more}
use Rattle.rip_markup.proofs.Fronts.{is_markup, markup_is}

-- whatever tokens the rest is, the text is those that were read and these
abbrev pub Goes : List ℕ → ℕ → Content → List ℕ → List Placed → Type 0
Goes text place content rest made = (more : List Placed) → AreTokens place content rest more → IsTokens text (made ++ more)

-- a text in an element is followed by markup
abbrev pub rank : Content → ℕ
rank C.Markup = 0
rank C.Preformatted = 0
rank _ = 1

rank_small : (content : Content) → rank content ≤ 1
rank_small C.Markup = omega arith
rank_small C.Preformatted = omega arith
rank_small C.Script = omega arith
rank_small C.Style = omega arith
rank_small C.Title = omega arith
rank_small C.Textarea = omega arith

pub at_last : (b : Bool) (P Q : Type 0) → b ≡ true → P → MatchBool b P Q
at_last true P Q e p = p
at_last false P Q e p = absurd (false≢true e)

pub at_more : (b : Bool) (P Q : Type 0) → b ≡ false → Q → MatchBool b P Q
at_more true P Q e q = absurd (true≢false e)
at_more false P Q e q = q

-- the last token ends the list
pub ends_here : (text : List ℕ) (place : ℕ) (content : Content) (rest start : List ℕ) (made list : List Placed) (skipped count : ℕ) (token : Token) (last : Bool) → Goes text place content rest made → skipped ≡ dropped content rest → start ≡ drop skipped rest → Reads content start token count → last ≡ is_last token → last ≡ true → list ≡ made ++ (record { place = place + skipped; token = token } ∷ []) → IsTokens text list
ends_here text place content rest start made list skipped count token last goes skipped-is start-is reads last-is ends list-is =
    let one : Placed = record { place = place + skipped; token = token } in
    let starts : start ≡ drop (dropped content rest) rest = start-is ∙ ap (λ n. drop n rest) skipped-is in
    subst (IsTokens text) (sym list-is)
    (goes (one ∷ []) (count, ap (λ n. place + n) skipped-is, subst (λ u. Reads content u token count) starts reads, at_last (is_last token) _ _ (sym last-is ∙ ends) refl))

-- a token that isn't the last goes on
pub goes_on : (text : List ℕ) (place : ℕ) (content next : Content) (rest start after : List ℕ) (made list : List Placed) (skipped count : ℕ) (token : Token) (last : Bool) → Goes text place content rest made → skipped ≡ dropped content rest → start ≡ drop skipped rest → Reads content start token count → last ≡ is_last token → last ≡ false → next ≡ content_after token → list ≡ made ++ (record { place = place + skipped; token = token } ∷ []) → after ≡ drop count start → Goes text (place + skipped + count) next after list
goes_on text place content next rest start after made list skipped count token last goes skipped-is start-is reads last-is more next-is list-is after-is others are =
    let one : Placed = record { place = place + skipped; token = token } in
    let starts : start ≡ drop (dropped content rest) rest = start-is ∙ ap (λ n. drop n rest) skipped-is in
    let tail : AreTokens (place + skipped + count) (content_after token) (drop count (drop (dropped content rest) rest)) others =
    subst (λ u. AreTokens (place + skipped + count) (content_after token) u others) (after-is ∙ ap (drop count) starts) (subst (λ (k : Content). AreTokens (place + skipped + count) k after others) next-is are) in
    subst (λ l. IsTokens text (l ++ others)) (sym list-is)
    (subst (IsTokens text) (sym (append_assoc made (one ∷ []) others))
    (goes (one ∷ others) (count, ap (λ n. place + n) skipped-is, subst (λ u. Reads content u token count) starts reads, at_more (is_last token) _ _ (sym last-is ∙ more) tail)))

text_some : (text : List ℕ) → F.Text ≡ form_of text → 0 < prefix_len is_text text
text_some [] e = absurd (cc)
text_some (c ∷ rest) e =
    ⊎_elim
    (λ less. absurd (true≢false (sym (markup_is rest) ∙ ap is_markup less.1)))
    (λ other. let one = run_more is_text c rest (not_from_false (c == 60) other.0) in omega (arith, one))
    (chosen (c == 60) (markup_form rest) F.Text F.Text (sym e))

-- what is read only where a test holds
last_by : (b : Bool) (units : List ℕ) (count : ℕ) → is_last (cond b (T.Comment units) T.OpenComment) ≡ false → 0 < cond b (count + 7) 0
last_by true units count e = omega arith
last_by false units count e = absurd (true≢false e)

comment_some : (text : List ℕ) → is_last (comment_token text) ≡ false → 0 < comment_count text
comment_some text e = last_by (begins_with (codes "-->") (behind_comment text)) (before (stops S.CommentClose) text) (length (before (stops S.CommentClose) text)) e

whole_by : (b : Bool) (count : ℕ) → not b ≡ false → 0 < cond b (count + 3) 0
whole_by true count e = omega arith
whole_by false count e = absurd (true≢false e)

end_some : (named : List ℕ) → is_last (T.EndTag (end_tag named)) ≡ false → 0 < end_tag_count named
end_some named e = whole_by (begins (λ c. c == 62) (behind is_space (behind is_name_unit named))) (prefix_len is_name_unit named + prefix_len is_space (behind is_name_unit named)) e

form_some : (form : Form) (text : List ℕ) (token : Token) (count : ℕ) → form ≡ form_of text → ReadsForm form text token count → is_last token ≡ false → 0 < count
form_some F.End text token count form reads more = absurd (true≢false (ap is_last (sym reads.0) ∙ more))
form_some F.Text text token count form reads more = subst (λ n. 0 < n) (sym reads.1) (text_some text form)
form_some F.StartTag text token count form reads more = let tag = reads.1 in omega (arith, tag.count-is, tag.read.place-is)
form_some F.EndTag text token count form reads more = subst (λ n. 0 < n) (sym reads.1) (end_some (drop 2 text) (ap is_last (sym reads.0) ∙ more))
form_some F.Comment text token count form reads more = subst (λ n. 0 < n) (sym reads.1) (comment_some (drop 4 text) (ap is_last (sym reads.0) ∙ more))
form_some F.Doctype text token count form reads more = omega (arith, reads.1)
form_some F.Stray text token count form reads more = absurd (true≢false (ap is_last (sym reads.0) ∙ more))

-- each token takes units, or is a text that markup follows
pub token_progress : (content next : Content) (start : List ℕ) (token : Token) (count left : ℕ) → Reads content start token count → is_last token ≡ false → next ≡ content_after token → left + count ≡ length start → 2 * left + rank next < 2 * length start + rank content
token_progress C.Markup next start token count left reads more next-is split = let some = form_some (form_of start) start token count refl reads more in let small = rank_small next in omega arith
token_progress C.Preformatted next start token count left reads more next-is split = let some = form_some (form_of start) start token count refl reads more in let small = rank_small next in omega arith
token_progress C.Script next start token count left reads more next-is split = let none = ap rank (next-is ∙ ap content_after reads.0) in omega arith
token_progress C.Style next start token count left reads more next-is split = let none = ap rank (next-is ∙ ap content_after reads.0) in omega arith
token_progress C.Title next start token count left reads more next-is split = let none = ap rank (next-is ∙ ap content_after reads.0) in omega arith
token_progress C.Textarea next start token count left reads more next-is split = let none = ap rank (next-is ∙ ap content_after reads.0) in omega arith
