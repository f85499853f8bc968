-- Tokens have units of their own.
use Rattle.std.proofs.Common.{◌≡◌, ℕ, ◌+◌, ◌≤◌, Bool, true, false, cond, ◌==◌, List, [], ◌∷◌, MatchBool, length, drop, take_while, refl, sym, subst, arith, length-drop}
use Rattle.std.proofs.lemmas.List.Folds.{length-prefix_len}
use Rattle.std.specs.Prelude.{codes, Option, None}
use Rattle.std.specs.List.{prefix_len}
use Rattle.rip_base.specs.Units.{begins}
use Rattle.rip_markup.specs.Counts.{one_if_any, least_units, least_of_all}
use Rattle.rip_markup.specs.Units.{is_space, is_name_unit}
use Rattle.rip_markup.specs.Words.{begins_with}
use Rattle.rip_markup.specs.Steps.{decoded}
use Rattle.rip_markup.specs.Scans.{behind}
use Rattle.rip_markup.specs.Forms.{form_of, stops, before}
use Rattle.rip_markup.specs.Tokens.{text_run, raw_run, script_fault, is_text, behind_comment, end_tag, end_tag_count, ReadsForm, Reads, is_last, content_after, dropped, AreTokens, IsTokens}
use Rattle.rip_markup.specs.declared.fault.Fault.{Fault}
use Rattle.rip_markup.specs.declared.form.Form.{Form}
use Rattle.rip_markup.specs.declared.form.Form.TheVariants as F
use Rattle.rip_markup.specs.declared.form.Stop.TheVariants as S
use Rattle.rip_markup.specs.declared.token.Token.{Token}
use Rattle.rip_markup.specs.declared.token.Token.TheVariants as T
use Rattle.rip_markup.specs.declared.token.Placed.{Placed}
use Rattle.rip_markup.specs.declared.token.Content.{Content}
use Rattle.rip_markup.specs.declared.token.Content.TheVariants as C
use Rattle.rip_markup.proofs.Within.{reads_within, dropped_within}

counts_is : (t u : Token) (count other : ℕ) → t ≡ u → count ≡ other → least_units u ≤ other → least_units t ≤ count
counts_is t u count other p q h = subst (λ k. least_units t ≤ k) (sym q) (subst (λ (k : Token). least_units k ≤ other) (sym p) h)

any_one : (units : List ℕ) → one_if_any units ≤ 1
any_one [] = omega arith
any_one (c ∷ units) = omega arith

plain_any : (body : List ℕ) → one_if_any body ≤ length body
plain_any [] = omega arith
plain_any (c ∷ body) = omega arith

decoded_any : (body : List ℕ) → one_if_any (decoded 0 body) ≤ length body
decoded_any [] = omega arith
decoded_any (c ∷ body) = omega (arith, any_one (decoded 0 (c ∷ body)))

end_counts : (b : Bool) (p q : ℕ) → cond b 1 0 ≤ cond b (p + q + 3) 0
end_counts true p q = omega arith
end_counts false p q = omega arith

comment_counts : (b : Bool) (units : List ℕ) (n : ℕ) → least_units (cond b (T.Comment units) T.OpenComment) ≤ cond b (n + 7) 0
comment_counts true units n = omega arith
comment_counts false units n = omega arith

form_counts : (form : Form) (text : List ℕ) (t : Token) (count : ℕ) → ReadsForm form text t count → least_units t ≤ count
form_counts F.End text t count reads = counts_is t T.End count 0 reads.0 reads.1 (omega arith)
form_counts F.Text text t count reads =
    let body = take_while is_text text in
    let long : length body ≡ prefix_len is_text text = length-prefix_len is_text text in
    counts_is t (T.Text (text_run body)) count (prefix_len is_text text) reads.0 reads.1 (omega (arith, long, decoded_any body))
form_counts F.StartTag text t count reads =
    let it = reads.1 in
    let r = it.read in
    counts_is t (T.StartTag reads.0) count count reads.2 refl (omega (arith, it.count-is, r.place-is))
form_counts F.EndTag text t count reads =
    let named = drop 2 text in
    let rest = behind is_name_unit named in
    counts_is t (T.EndTag (end_tag named)) count (end_tag_count named) reads.0 reads.1
    (end_counts (begins (λ c. c == 62) (behind is_space rest)) (prefix_len is_name_unit named) (prefix_len is_space rest))
form_counts F.Comment text t count reads =
    let body = drop 4 text in
    let units = before (stops S.CommentClose) body in
    counts_is t _ count _ reads.0 reads.1 (comment_counts (begins_with (codes "-->") (behind_comment body)) units (length units))
form_counts F.Doctype text t count reads = counts_is t T.Doctype count count reads.0 refl (omega arith)
form_counts F.Stray text t count reads = counts_is t T.Stray count 0 reads.0 reads.1 (omega arith)

raw_counts : (body : List ℕ) (found : Option Fault) (t : Token) (count : ℕ) → (t ≡ T.Text (raw_run body found)) × (count ≡ length body) → least_units t ≤ count
raw_counts body found t count reads = counts_is t (T.Text (raw_run body found)) count (length body) reads.0 reads.1 (plain_any body)

run_counts : (body : List ℕ) (t : Token) (count : ℕ) → (t ≡ T.Text (text_run body)) × (count ≡ length body) → least_units t ≤ count
run_counts body t count reads = counts_is t (T.Text (text_run body)) count (length body) reads.0 reads.1 (decoded_any body)

reads_counts : (content : Content) (text : List ℕ) (t : Token) (count : ℕ) → Reads content text t count → least_units t ≤ count
reads_counts C.Markup text t count reads = form_counts (form_of text) text t count reads
reads_counts C.Preformatted text t count reads = form_counts (form_of text) text t count reads
reads_counts C.Script text t count reads = let body = before (stops S.ScriptEnd) text in raw_counts body (script_fault body) t count reads
reads_counts C.Style text t count reads = raw_counts (before (stops S.StyleEnd) text) None t count reads
reads_counts C.Title text t count reads = run_counts (before (stops S.TitleEnd) text) t count reads
reads_counts C.Textarea text t count reads = run_counts (before (stops S.TextareaEnd) text) t count reads

both_to : (b : Bool) (P Q R : Type 0) → (P → R) → (Q → R) → MatchBool b P Q → R
both_to true P Q R f g h = f h
both_to false P Q R f g h = g h

tokens_count : (tokens : List Placed) (place : ℕ) (content : Content) (text : List ℕ) → AreTokens place content text tokens → least_of_all tokens ≤ length text
tokens_count [] place content text h = absurd h
tokens_count (t ∷ others) place content text h =
    let start = drop (dropped content text) text in
    let small = dropped_within content text in
    let cut = length-drop (dropped content text) text in
    let count = h.0 in
    let fits = reads_within content start t.token count h.2 in
    let here = reads_counts content start t.token count h.2 in
    let back = length-drop count start in
    both_to (is_last t.token) (others ≡ []) (AreTokens (t.place + count) (content_after t.token) (drop count start) others) (least_of_all (t ∷ others) ≤ length text)
    (λ e. subst (λ (l : List Placed). least_of_all (t ∷ l) ≤ length text) (sym e) (omega (arith, here, small, cut, fits.0)))
    (λ k. omega (arith, here, small, cut, back, fits.0, tokens_count others (t.place + count) (content_after t.token) (drop count start) k))
    h.3

pub units_counted : (text : List ℕ) (tokens : List Placed) → IsTokens text tokens → least_of_all tokens ≤ length text
units_counted text tokens h = tokens_count tokens 0 C.Markup text h
