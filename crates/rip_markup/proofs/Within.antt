-- Tokens stand within the text, and so do their faults.
use Rattle.std.proofs.Common.{◌≡◌, ℕ, zero, suc, ◌+◌, ◌≤◌, Bool, true, false, not, cond, ◌&&◌, ◌==◌, List, [], ◌∷◌, ◌++◌, length, drop, take_while, Option, Some, None, IfSome, option_map, MatchBool, refl, sym, ap, ◌∙◌, subst, arith, length-append, length-drop, bytes_eq, nat_lt}
use Rattle.std.proofs.lemmas.List.Sums.{prefix_len-le-length}
use Rattle.std.proofs.lemmas.List.Folds.{length-prefix_len}
use Rattle.std.proofs.lemmas.Bool.{false≢true}
use Rattle.std.specs.Prelude.{codes}
use Rattle.std.specs.List.{prefix_len, AllByRecursion}
use Rattle.rip_base.specs.declared.page.PageKind.{PageKind}
use Rattle.rip_base.specs.declared.page.PageKind.TheVariants.{BadTag, BadAttribute, DoubleAttribute, BadReference, ExternalScript, NotInSubset}
use Rattle.rip_base.specs.Units.{small_text, begins}
use Rattle.rip_markup.specs.Units.{is_space, is_name_unit}
use Rattle.rip_markup.specs.Words.{is_among, void_names, begins_with, script_types}
use Rattle.rip_markup.specs.Attributes.{Written, attribute_text, value_units, value_offset, LeadsAttributes}
use Rattle.rip_markup.specs.Scans.{behind}
use Rattle.rip_markup.specs.Steps.{step_at, bad_reference}
use Rattle.rip_markup.specs.Fault.{fault, shifted, option_or}
use Rattle.rip_markup.specs.Ends.{end_count, end_space}
use Rattle.rip_markup.specs.Forms.{form_of, stops, before}
use Rattle.rip_markup.specs.Tags.{end_behind, tag_end, read_of, is_value, type_fault, own_fault, attribute_fault, attributes_length, attributes_fault, tag_fault, IsStartTag}
use Rattle.rip_markup.specs.Tokens.{text_run, raw_run, script_fault, is_text, behind_comment, comment_token, comment_count, end_tag, end_tag_count, ReadsForm, Reads, is_last, content_after, dropped, drops_line, AreTokens, IsTokens}
use Rattle.rip_markup.specs.Within.{FaultWithin, TokenWithin, PlacedWithin}
use Rattle.rip_markup.specs.declared.fault.Fault.{Fault}
use Rattle.rip_markup.specs.declared.form.Form.{Form}
use Rattle.rip_markup.specs.declared.form.Form.TheVariants as F
use Rattle.rip_markup.specs.declared.form.Stop.TheVariants as S
use Rattle.rip_markup.specs.declared.reference.TextStep.{TextStep}
use Rattle.rip_markup.specs.declared.reference.TextStep.TheVariants as Step
use Rattle.rip_markup.specs.declared.tag.TagEnd.{TagEnd}
use Rattle.rip_markup.specs.declared.tag.TagEnd.TheVariants.{Closed, Malformed, NoAttribute}
use Rattle.rip_markup.specs.declared.tag.StartTag.{StartTag}
use Rattle.rip_markup.specs.declared.token.Token.{Token}
use Rattle.rip_markup.specs.declared.token.Token.TheVariants as T
use Rattle.rip_markup.specs.declared.token.Placed.{Placed}
use Rattle.rip_markup.specs.declared.token.Content.{Content}
use Rattle.rip_markup.specs.declared.token.Content.TheVariants as C
use Rattle.rip_markup.proofs.Parts.{attribute_long, attribute_length}
use Rattle.rip_markup.proofs.Fronts.{doctype_form, comment_form, end_form, start_form}

-- a place or a fault, if there is one, is at most so far behind
place_more : (o : Option ℕ) (a b : ℕ) → a ≤ b → IfSome o (λ p. p ≤ a) → IfSome o (λ p. p ≤ b)
place_more None a b h k = tt
place_more (Some p) a b h k = omega arith

fault_more : (o : Option Fault) (a b : ℕ) → a ≤ b → FaultWithin o a → FaultWithin o b
fault_more None a b h k = tt
fault_more (Some f) a b h k = omega arith

fault_cond : (b : Bool) (f : Fault) (o : Option Fault) (n : ℕ) → f.offset ≤ n → FaultWithin o n → FaultWithin (cond b (Some f) o) n
fault_cond true f o n h k = h
fault_cond false f o n h k = k

fault_or : (o p : Option Fault) (n : ℕ) → FaultWithin o n → FaultWithin p n → FaultWithin (option_or o p) n
fault_or None p n h k = k
fault_or (Some f) p n h k = h

fault_at : (o : Option ℕ) (kind : PageKind) (n : ℕ) → IfSome o (λ p. p ≤ n) → FaultWithin (option_map (λ place. fault place kind) o) n
fault_at None kind n h = tt
fault_at (Some p) kind n h = h

fault_shifted : (o : Option Fault) (d n : ℕ) → FaultWithin o n → FaultWithin (option_map (shifted d) o) (d + n)
fault_shifted None d n h = tt
fault_shifted (Some f) d n h = omega arith

place_shifted : (o : Option ℕ) (d n : ℕ) → IfSome o (λ p. p ≤ n) → IfSome (option_map (λ place. d + place) o) (λ p. p ≤ d + n)
place_shifted None d n h = tt
place_shifted (Some p) d n h = omega arith

-- a reference that is none stands in the text
bad_by : (step : TextStep) (place : ℕ) (rest : List ℕ) → ((n : ℕ) → IfSome (bad_reference (suc place) n rest) (λ p. p ≤ suc place + length rest)) → IfSome (elim step [ Step.End ↦ None | Step.Itself u ↦ bad_reference (suc place) 0 rest | Step.Reference r ↦ bad_reference (suc place) r.count rest | Step.Bad ↦ Some place ]) (λ p. p ≤ place + suc (length rest))
bad_by Step.End place rest go = tt
bad_by (Step.Itself u) place rest go = place_more (bad_reference (suc place) 0 rest) _ _ (omega arith) (go 0)
bad_by (Step.Reference r) place rest go = place_more (bad_reference (suc place) r.count rest) _ _ (omega arith) (go r.count)
bad_by Step.Bad place rest go = omega arith

bad_within : (text : List ℕ) (place n : ℕ) → IfSome (bad_reference place n text) (λ p. p ≤ place + length text)
bad_within [] place n = tt
bad_within (c ∷ rest) place (suc n) = place_more (bad_reference (suc place) n rest) _ _ (omega arith) (bad_within rest (suc place) n)
bad_within (c ∷ rest) place zero = bad_by (step_at c rest) place rest (λ n. bad_within rest (suc place) n)

-- an attribute is refused within itself
own_within : (tag : List ℕ) (a : Written) → FaultWithin (own_fault tag (read_of a)) (length a.name + value_offset a.value + length (value_units a.value))
own_within tag a =
    let n = length a.name + value_offset a.value + length (value_units a.value) in
    let r = read_of a in
    let value = value_units a.value in
    let bad : IfSome (bad_reference 0 0 value) (λ p. p ≤ length value) = place_more (bad_reference 0 0 value) (0 + length value) (length value) (omega arith) (bad_within value 0 0) in
    fault_cond (bytes_eq tag (codes "script") && bytes_eq r.name (codes "src")) (fault 0 ExternalScript) _ n (omega arith)
    (fault_cond (begins_with (codes "on") r.name) (fault 0 NotInSubset) _ n (omega arith)
    (fault_or (type_fault tag r) (option_map (λ place. fault place BadReference) r.bad) n
    (fault_cond (bytes_eq tag (codes "script") && bytes_eq r.name (codes "type") && not (is_value script_types r)) (fault 0 NotInSubset) None n (omega arith) tt)
    (fault_at r.bad BadReference n (place_shifted (bad_reference 0 0 value) (length a.name + value_offset a.value) (length value) bad))))

attribute_within : (tag : List ℕ) (double : Bool) (a : Written) → FaultWithin (attribute_fault tag double (read_of a)) (length a.name + value_offset a.value + length (value_units a.value))
attribute_within tag double a = fault_cond double (fault 0 DoubleAttribute) (own_fault tag (read_of a)) _ (omega arith) (own_within tag a)

attributes_within : (ws : List Written) (tag : List ℕ) (place : ℕ) (seen : List (List ℕ)) → FaultWithin (attributes_fault tag place seen ws) (place + attributes_length ws)
attributes_within [] tag place seen = tt
attributes_within (a ∷ others) tag place seen =
    let own = attribute_fault tag (is_among seen (small_text a.name)) (read_of a) in
    let whole = attributes_fault tag (place + length (attribute_text a [])) (seen ++ small_text a.name ∷ []) others in
    let most = place + (length (attribute_text a []) + attributes_length others) in
    fault_or (option_map (shifted (place + length a.space)) own) whole most
    (fault_more (option_map (shifted (place + length a.space)) own) _ most (omega (arith, attribute_long a []))
    (fault_shifted own (place + length a.space) (length a.name + value_offset a.value + length (value_units a.value)) (attribute_within tag (is_among seen (small_text a.name)) a)))
    (fault_more whole _ most (omega arith) (attributes_within others tag (place + length (attribute_text a [])) (seen ++ small_text a.name ∷ [])))

leads_long : (ws : List Written) (text rest : List ℕ) → LeadsAttributes text ws rest → length text ≡ attributes_length ws + length rest
leads_long [] text rest h = ap length h.0 ∙ omega arith
leads_long (a ∷ others) text rest h = omega (arith, ap length h.1.0, attribute_length a h.0, leads_long others h.0 rest h.2)

-- the end of a tag stands in what is left
solidus_long : (rest : List ℕ) → begins (λ d. d == 62) rest ≡ true → 1 ≤ length rest
solidus_long [] e = absurd (false≢true e)
solidus_long (c ∷ rest) e = omega arith

end_by : (a b c : Bool) (space : ℕ) (rest : List ℕ) → (b ≡ true → 1 ≤ length rest) → let end = cond a (Closed false (space + 1)) (cond b (Closed true (space + 2)) (cond c Malformed (NoAttribute space))) in end_space end + end_count end ≤ space + suc (length rest)
end_by true b c space rest h = omega arith
end_by false true c space rest h = let some = h refl in omega arith
end_by false false true space rest h = omega arith
end_by false false false space rest h = omega arith

and_second : (a b : Bool) → (a && b) ≡ true → b ≡ true
and_second true b e = e
and_second false b e = absurd (false≢true e)

end_within : (space : ℕ) (text : List ℕ) → end_space (end_behind space text) + end_count (end_behind space text) ≤ space + length text
end_within space [] = omega arith
end_within space (c ∷ rest) = end_by (c == 62) ((c == 47) && begins (λ d. d == 62) rest) (space == 0) space rest (λ e. solidus_long rest (and_second (c == 47) _ e))

tag_end_within : (rest : List ℕ) → end_space (tag_end rest) + end_count (tag_end rest) ≤ length rest
tag_end_within rest =
    let one = end_within (prefix_len is_space rest) (behind is_space rest) in
    let cut = length-drop (prefix_len is_space rest) rest in
    let small = prefix_len-le-length is_space rest in
    omega arith

tag_by : (tag : List ℕ) (against : Bool) (found : Option Fault) (place : ℕ) (end : TagEnd) → FaultWithin found place → FaultWithin (tag_fault tag against found place end) (place + end_space end)
tag_by tag against found place Malformed h = omega arith
tag_by tag against found place (NoAttribute space) h = fault_or found (Some (fault (place + space) BadAttribute)) (place + space) (fault_more found place (place + space) (omega arith) h) (omega arith)
tag_by tag against found place (Closed solidus count) h =
    fault_cond (solidus && not (is_among void_names tag)) (fault 0 BadTag) _ (place + 0) (omega arith)
    (fault_cond against (fault 0 NotInSubset) found (place + 0) (omega arith) (fault_more found place (place + 0) (omega arith) h))

pub start_within : (text : List ℕ) (tag : StartTag) (count : ℕ) → IsStartTag text tag count → (count ≤ 1 + length text) × FaultWithin tag.fault (1 + length text)
start_within text tag count it =
    let r = it.read in
    let parts : length text ≡ length it.name + length it.after = ap length it.splits ∙ length-append it.name it.after in
    let long = leads_long r.attributes it.after it.rest r.leads in
    let end = tag_end_within it.rest in
    let inner : FaultWithin it.found it.place = subst (λ n. FaultWithin it.found n) r.place-is (subst (λ (o : Option Fault). FaultWithin o (1 + length it.name + attributes_length r.attributes)) r.found-is (attributes_within r.attributes (small_text it.name) (1 + length it.name) [])) in
    let whole : FaultWithin tag.fault (it.place + end_space (tag_end it.rest)) = subst (λ (o : Option Fault). FaultWithin o (it.place + end_space (tag_end it.rest))) (sym it.fault-is) (tag_by (small_text it.name) it.against it.found it.place (tag_end it.rest) inner) in
    (omega (arith, it.count-is, r.place-is, parts, long, end), fault_more tag.fault _ _ (omega (arith, r.place-is, parts, long, end)) whole)

before_by : (b : Bool) (c : ℕ) (rest more : List ℕ) → length more ≤ length rest → length (cond b [] (c ∷ more)) ≤ suc (length rest)
before_by true c rest more h = omega arith
before_by false c rest more h = omega arith

before_within : (passes : List ℕ → Bool) (text : List ℕ) → length (before passes text) ≤ length text
before_within passes [] = omega arith
before_within passes (c ∷ rest) = before_by (passes (c ∷ rest)) c rest (before passes rest) (before_within passes rest)

run_within : (body : List ℕ) (n : ℕ) → length body ≤ n → TokenWithin n (T.Text (text_run body))
run_within body n h =
    let space = prefix_len-le-length is_space body in
    let bad = bad_within body 0 0 in (
      omega arith,
      fault_more (option_map (λ place. fault place BadReference) (bad_reference 0 0 body)) (0 + length body) n (omega arith) (fault_at (bad_reference 0 0 body) BadReference (0 + length body) bad),
    )

raw_within : (body : List ℕ) (found : Option Fault) (n : ℕ) → length body ≤ n → FaultWithin found (length body) → TokenWithin n (T.Text (raw_run body found))
raw_within body found n h k = let space = prefix_len-le-length is_space body in (omega arith, fault_more found (length body) n h k)

script_by : (b : Bool) (place n : ℕ) → place ≤ n → FaultWithin (cond b (Some (fault place NotInSubset)) None) n
script_by b place n h = fault_cond b (fault place NotInSubset) None n h tt

-- what is read is within the text
abbrev pub Fits : ℕ → Token → ℕ → Type 0
Fits n token count = (count ≤ n) × TokenWithin n token

fits_is : (n : ℕ) (t u : Token) (count other : ℕ) → t ≡ u → count ≡ other → Fits n u other → Fits n t count
fits_is n t u count other p q h = subst (λ k. Fits n t k) (sym q) (subst (λ (k : Token). Fits n k other) (sym p) h)

begins_long : (p : ℕ → Bool) (text : List ℕ) → begins p text ≡ true → 1 ≤ length text
begins_long p [] e = absurd (false≢true e)
begins_long p (c ∷ text) e = omega arith

begins_with_long : (front text : List ℕ) → begins_with front text ≡ true → length front ≤ length text
begins_with_long [] text e = omega arith
begins_with_long (c ∷ front) [] e = absurd (false≢true e)
begins_with_long (c ∷ front) (d ∷ text) e = let more = begins_with_long front text (and_second (d == c) (begins_with front text) e) in omega arith

end_count_by : (b : Bool) (p q n : ℕ) → (b ≡ true → p + q + 1 ≤ n) → cond b (p + q + 3) 0 ≤ n + 2
end_count_by true p q n h = let some = h refl in omega arith
end_count_by false p q n h = omega arith

end_tag_within : (named : List ℕ) → end_tag_count named ≤ length named + 2
end_tag_within named =
    let after = behind is_name_unit named in
    let rest = behind is_space after in
    let p = prefix_len-le-length is_name_unit named in
    let q = prefix_len-le-length is_space after in
    let cut = length-drop (prefix_len is_name_unit named) named in
    let cut-after = length-drop (prefix_len is_space after) after in
    end_count_by (begins (λ c. c == 62) rest) (prefix_len is_name_unit named) (prefix_len is_space after) (length named) (λ e. let some = begins_long (λ c. c == 62) rest e in omega arith)

comment_count_by : (b : Bool) (k n : ℕ) → (b ≡ true → k + 3 ≤ n) → cond b (k + 7) 0 ≤ n + 4
comment_count_by true k n h = let some = h refl in omega arith
comment_count_by false k n h = omega arith

comment_within : (text : List ℕ) → comment_count text ≤ length text + 4
comment_within text =
    let k = length (before (stops S.CommentClose) text) in
    let small = before_within (stops S.CommentClose) text in
    let cut = length-drop k text in
    comment_count_by (begins_with (codes "-->") (behind_comment text)) k (length text) (λ e. let three : 3 ≤ length (behind_comment text) = begins_with_long (codes "-->") (behind_comment text) e in omega arith)

comment_by : (b : Bool) (n : ℕ) (units : List ℕ) → TokenWithin n (cond b (T.Comment units) T.OpenComment)
comment_by true n units = tt
comment_by false n units = tt

form_within : (form : Form) (text : List ℕ) (t : Token) (count : ℕ) → form ≡ form_of text → ReadsForm form text t count → Fits (length text) t count
form_within F.End text t count e reads = fits_is (length text) t T.End count 0 reads.0 reads.1 (omega arith, tt)
form_within F.Text text t count e reads =
    let body = take_while is_text text in
    let long : length body ≡ prefix_len is_text text = length-prefix_len is_text text in
    let small = prefix_len-le-length is_text text in
    fits_is (length text) t (T.Text (text_run body)) count (prefix_len is_text text) reads.0 reads.1 (small, run_within body (length text) (omega arith))
form_within F.StartTag text t count e reads =
    let some = start_form text e in
    let cut = length-drop 1 text in
    let within = start_within (drop 1 text) reads.0 count reads.1 in
    let long : 1 + length (drop 1 text) ≡ length text = omega (arith, some.0) in
    fits_is (length text) t (T.StartTag reads.0) count count reads.2 refl (subst (λ n. count ≤ n) long within.0, subst (λ n. FaultWithin reads.0.fault n) long within.1)
form_within F.EndTag text t count e reads =
    let some = end_form text e in
    let cut = length-drop 2 text in
    let within = end_tag_within (drop 2 text) in
    fits_is (length text) t (T.EndTag (end_tag (drop 2 text))) count (end_tag_count (drop 2 text)) reads.0 reads.1 (omega arith, tt)
form_within F.Comment text t count e reads =
    let some = comment_form text e in
    let cut = length-drop 4 text in
    let within = comment_within (drop 4 text) in
    fits_is (length text) t (comment_token (drop 4 text)) count (comment_count (drop 4 text)) reads.0 reads.1
    (omega arith, comment_by (begins_with (codes "-->") (behind_comment (drop 4 text))) (length text) (before (stops S.CommentClose) (drop 4 text)))
form_within F.Doctype text t count e reads =
    let some = doctype_form text e in
    fits_is (length text) t T.Doctype count (prefix_len (λ c. not (c == 62)) (drop 9 text) + 10) reads.0 reads.1 (some.1, tt)
form_within F.Stray text t count e reads = fits_is (length text) t T.Stray count 0 reads.0 reads.1 (omega arith, tt)

pub reads_within : (content : Content) (text : List ℕ) (t : Token) (count : ℕ) → Reads content text t count → Fits (length text) t count
reads_within C.Markup text t count reads = form_within (form_of text) text t count refl reads
reads_within C.Preformatted text t count reads = form_within (form_of text) text t count refl reads
reads_within C.Script text t count reads =
    let body = before (stops S.ScriptEnd) text in
    let small = before_within (stops S.ScriptEnd) text in
    let place = length (before (stops S.CommentOpen) body) in
    let found = script_by (nat_lt place (length body)) place (length body) (before_within (stops S.CommentOpen) body) in
    fits_is (length text) t (T.Text (raw_run body (script_fault body))) count (length body) reads.0 reads.1 (small, raw_within body (script_fault body) (length text) small found)
reads_within C.Style text t count reads =
    let body = before (stops S.StyleEnd) text in
    let small = before_within (stops S.StyleEnd) text in
    fits_is (length text) t (T.Text (raw_run body None)) count (length body) reads.0 reads.1 (small, raw_within body None (length text) small tt)
reads_within C.Title text t count reads =
    let body = before (stops S.TitleEnd) text in
    let small = before_within (stops S.TitleEnd) text in
    fits_is (length text) t (T.Text (text_run body)) count (length body) reads.0 reads.1 (small, run_within body (length text) small)
reads_within C.Textarea text t count reads =
    let body = before (stops S.TextareaEnd) text in
    let small = before_within (stops S.TextareaEnd) text in
    fits_is (length text) t (T.Text (text_run body)) count (length body) reads.0 reads.1 (small, run_within body (length text) small)

dropped_by : (a b : Bool) (n : ℕ) → (b ≡ true → 1 ≤ n) → cond (a && b) 1 0 ≤ n
dropped_by true true n h = h refl
dropped_by true false n h = omega arith
dropped_by false b n h = omega arith

pub dropped_within : (content : Content) (text : List ℕ) → dropped content text ≤ length text
dropped_within content text = dropped_by (drops_line content) (begins (λ c. c == 10) text) (length text) (begins_long (λ c. c == 10) text)

both_to : (b : Bool) (P Q R : Type 0) → (P → R) → (Q → R) → MatchBool b P Q → R
both_to true P Q R f g h = f h
both_to false P Q R f g h = g h

pub tokens_within : (tokens : List Placed) (place : ℕ) (content : Content) (text : List ℕ) → AreTokens place content text tokens → AllByRecursion (PlacedWithin (place + length text)) tokens
tokens_within [] place content text h = absurd h
tokens_within (t ∷ others) place content text h =
    let start = drop (dropped content text) text in
    let small = dropped_within content text in
    let cut = length-drop (dropped content text) text in
    let count = h.0 in
    let fits = reads_within content start t.token count h.2 in
    let back = length-drop count start in
    let at = h.1 in
    let end : t.place + length start ≡ place + length text = omega arith in
    let within : t.place + length start ≤ place + length text = omega arith in
    let next : (t.place + count) + length (drop count start) ≡ place + length text = omega (arith, fits.0) in (
      (length start, within, fits.1),
      both_to (is_last t.token) (others ≡ []) (AreTokens (t.place + count) (content_after t.token) (drop count start) others) (AllByRecursion (PlacedWithin (place + length text)) others)
          (λ e. subst (λ (l : List Placed). AllByRecursion (PlacedWithin (place + length text)) l) (sym e) tt)
          (λ k. subst (λ n. AllByRecursion (PlacedWithin n) others) next (tokens_within others (t.place + count) (content_after t.token) (drop count start) k))
          h.3,
    )

pub text_within : (text : List ℕ) (tokens : List Placed) → IsTokens text tokens → AllByRecursion (PlacedWithin (length text)) tokens
text_within text tokens h = subst (λ n. AllByRecursion (PlacedWithin n) tokens) (omega arith) (tokens_within tokens 0 C.Markup text h)
