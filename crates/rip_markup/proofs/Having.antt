-- Each text has tokens.
use Rattle.std.proofs.Common.{◌≡◌, ℕ, zero, suc, ◌+◌, ◌*◌, ◌<◌, ◌≤◌, Bool, true, false, List, [], ◌∷◌, length, drop, map, take_while, Option, Some, None, ◌⊎◌, inl, inr, ⊎_elim, refl, sym, ap, ◌∙◌, arith, length-drop}
use Rattle.std.proofs.lemmas.Bool.{false≢true}
use Rattle.rip_base.specs.Units.{small_text, begins}
use Rattle.rip_markup.specs.Units.{is_space, is_letter, is_name_unit}
use Rattle.rip_markup.specs.Attributes.{Written, attribute_text, LeadsAttribute, LeadsAttributes}
use Rattle.rip_markup.specs.Scans.{behind, attribute_at}
use Rattle.rip_markup.specs.Ends.{has_solidus, end_count}
use Rattle.rip_markup.specs.Forms.{form_of, stops, before}
use Rattle.rip_markup.specs.Tags.{pair_of, attributes_fault, attributes_length, are_against, tag_end, tag_fault, IsStartTag}
use Rattle.rip_markup.specs.Tokens.{text_run, raw_run, script_fault, is_text, comment_token, comment_count, end_tag, end_tag_count, ReadsForm, Reads, is_last, content_after, dropped, AreTokens, IsTokens}
use Rattle.rip_markup.specs.declared.form.Form.{Form}
use Rattle.rip_markup.specs.declared.form.Form.TheVariants as F
use Rattle.rip_markup.specs.declared.form.Stop.TheVariants as S
use Rattle.rip_markup.specs.declared.tag.StartTag.{StartTag}
use Rattle.rip_markup.specs.declared.token.Token.{Token}
use Rattle.rip_markup.specs.declared.token.Token.TheVariants as T
use Rattle.rip_markup.specs.declared.token.Placed.{Placed}
use Rattle.rip_markup.specs.declared.token.Content.{Content}
use Rattle.rip_markup.specs.declared.token.Content.TheVariants as C
use Rattle.rip_markup.proofs.Parts.{attribute_long}
use Rattle.rip_markup.proofs.Runs.{run_all, run_stops, run_splits, run_begins_by}
use Rattle.rip_markup.proofs.Classes.{letter_name}
use Rattle.rip_markup.proofs.Standing.{attribute_stands, none_stands}
use Rattle.rip_markup.proofs.Fronts.{start_form}
use Rattle.rip_markup.proofs.Tokenizing.{rank, at_last, at_more, token_progress}
use Rattle.rip_markup.proofs.Within.{reads_within, dropped_within}
use Rattle.std.specs.List.{prefix_len}
use Rattle.std.specs.Prelude.{◌==◌, not}

abbrev SomeAttributes : List ℕ → Type 0
SomeAttributes text = (ws : List Written) × (rest : List ℕ) × LeadsAttributes text ws rest

attributes_by : (text : List ℕ) (o : Option Written) → attribute_at text ≡ o → ((a : Written) (rest : List ℕ) → LeadsAttribute text a rest → SomeAttributes rest) → SomeAttributes text
attributes_by text None e go = ([], text, (refl, none_stands text e))
attributes_by text (Some a) e go =
    let s = attribute_stands text a e in
    let r = go a s.0 s.1 in
    (a ∷ r.0, r.1, (s.0, s.1, r.2))

spaced_some : (units : List ℕ) → begins is_space units ≡ true → 0 < length units
spaced_some [] b = absurd (false≢true b)
spaced_some (c ∷ units) b = omega arith

shorter : (text : List ℕ) (a : Written) (rest : List ℕ) → LeadsAttribute text a rest → length rest < length text
shorter text a rest h =
    let long : length text ≡ length (attribute_text a rest) = ap length h.0 in
    omega (arith, long, attribute_long a rest, spaced_some a.space h.1.spaced)

some_attributes : (fuel : ℕ) (text : List ℕ) → length text < fuel → SomeAttributes text
some_attributes zero text h = absurd (omega arith)
some_attributes (suc fuel) text h = attributes_by text (attribute_at text) refl (λ a rest leads. some_attributes fuel rest (omega (arith, shorter text a rest leads)))

some_tag : (text : List ℕ) → begins is_letter text ≡ true → (tag : StartTag) × (count : ℕ) × IsStartTag text tag count
some_tag text letter =
    let spelled = take_while is_name_unit text in
    let name = small_text spelled in
    let after = behind is_name_unit text in
    let r = some_attributes (suc (length after)) after (omega arith) in
    let ws = r.0 in
    let rest = r.1 in
    let found = attributes_fault name (1 + length spelled) [] ws in
    let against = are_against name [] ws in
    let place = 1 + length spelled + attributes_length ws in
    let tag : StartTag = record { name = name; attributes = map pair_of ws; solidus = has_solidus (tag_end rest); fault = tag_fault name against found place (tag_end rest) } in
    let is : IsStartTag text tag (place + end_count (tag_end rest)) = record {
      name = spelled;
      after = after;
      splits = run_splits is_name_unit text;
      letter = run_begins_by is_name_unit is_letter text letter_name letter;
      each = run_all is_name_unit text;
      longest = run_stops is_name_unit text;
      name-is = refl;
      rest = rest;
      found = found;
      against = against;
      place = place;
      read = record { attributes = ws; leads = r.2; pairs-is = refl; found-is = refl; against-is = refl; place-is = refl };
      fault-is = refl;
      solidus-is = refl;
      count-is = refl;
    } in
    (tag, place + end_count (tag_end rest), is)

some_form : (form : Form) (text : List ℕ) → form ≡ form_of text → (t : Token) × (count : ℕ) × ReadsForm form text t count
some_form F.End text e = (T.End, 0, (refl, refl))
some_form F.Text text e = (T.Text (text_run (take_while is_text text)), prefix_len is_text text, (refl, refl))
some_form F.StartTag text e =
    let s = start_form text e in
    let r = some_tag (drop 1 text) s.1 in
    (T.StartTag r.0, r.1, (r.0, r.2, refl))
some_form F.EndTag text e = (T.EndTag (end_tag (drop 2 text)), end_tag_count (drop 2 text), (refl, refl))
some_form F.Comment text e = (comment_token (drop 4 text), comment_count (drop 4 text), (refl, refl))
some_form F.Doctype text e = (T.Doctype, prefix_len (λ c. not (c == 62)) (drop 9 text) + 10, (refl, refl))
some_form F.Stray text e = (T.Stray, 0, (refl, refl))

some_token : (content : Content) (text : List ℕ) → (t : Token) × (count : ℕ) × Reads content text t count
some_token C.Markup text = some_form (form_of text) text refl
some_token C.Preformatted text = some_form (form_of text) text refl
some_token C.Script text = let body = before (stops S.ScriptEnd) text in (T.Text (raw_run body (script_fault body)), length body, (refl, refl))
some_token C.Style text = let body = before (stops S.StyleEnd) text in (T.Text (raw_run body None), length body, (refl, refl))
some_token C.Title text = let body = before (stops S.TitleEnd) text in (T.Text (text_run body), length body, (refl, refl))
some_token C.Textarea text = let body = before (stops S.TextareaEnd) text in (T.Text (text_run body), length body, (refl, refl))

last_or_more : (b : Bool) → (b ≡ true) ⊎ (b ≡ false)
last_or_more true = inl refl
last_or_more false = inr refl

abbrev SomeTokens : ℕ → Content → List ℕ → Type 0
SomeTokens place content text = (ts : List Placed) × AreTokens place content text ts

some_tokens : (fuel : ℕ) (place : ℕ) (content : Content) (text : List ℕ) → 2 * length text + rank content < fuel → SomeTokens place content text
some_tokens zero place content text h = absurd (omega arith)
some_tokens (suc fuel) place content text h =
    let start = drop (dropped content text) text in
    let r = some_token content start in
    let token = r.0 in
    let count = r.1 in
    let one : Placed = record { place = place + dropped content text; token = token } in
    let fits = reads_within content start token count r.2 in
    let cut = length-drop (dropped content text) text in
    let back = length-drop count start in
    ⊎_elim
    (λ (last : is_last token ≡ true). let made : SomeTokens place content text = (one ∷ [], (count, refl, r.2, at_last (is_last token) _ _ last refl)) in made)
    (λ (more : is_last token ≡ false).
    let left : length (drop count start) + count ≡ length start = omega (arith, fits.0) in
    let less = token_progress content (content_after token) start token count (length (drop count start)) r.2 more refl left in
    let others = some_tokens fuel (one.place + count) (content_after token) (drop count start) (omega arith) in
    let made : SomeTokens place content text = (one ∷ others.0, (count, refl, r.2, at_more (is_last token) _ _ more others.1)) in made)
    (last_or_more (is_last token))

pub text_tokens : (text : List ℕ) → (ts : List Placed) × IsTokens text ts
text_tokens text = some_tokens (suc (2 * length text + rank C.Markup)) 0 C.Markup text (omega arith)
