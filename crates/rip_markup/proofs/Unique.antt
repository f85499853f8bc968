-- A page has one list of tokens.
use Rattle.std.proofs.Common.{◌≡◌, ℕ, ◌+◌, Bool, true, false, List, [], ◌∷◌, length, drop, map, take_while, Option, MatchBool, refl, sym, ap, ◌∙◌, subst}
use Rattle.std.proofs.lemmas.Option.{same_Some}
use Rattle.std.proofs.lemmas.List.{drop_at}
use Rattle.rip_base.specs.Units.{small_text}
use Rattle.rip_markup.specs.Units.{is_name_unit}
use Rattle.rip_markup.specs.Attributes.{Written, attribute_text, LeadsAttribute, LeadsAttributes}
use Rattle.rip_markup.specs.Scans.{behind, attribute_at}
use Rattle.rip_markup.specs.Ends.{has_solidus, end_count}
use Rattle.rip_markup.specs.Forms.{form_of}
use Rattle.rip_markup.specs.Tags.{pair_of, attributes_fault, attributes_length, are_against, tag_end, tag_fault, AreRead, IsStartTag}
use Rattle.rip_markup.specs.Tokens.{ReadsForm, Reads, is_last, content_after, dropped, AreTokens}
use Rattle.rip_markup.specs.declared.fault.Fault.{Fault}
use Rattle.rip_markup.specs.declared.form.Form.{Form}
use Rattle.rip_markup.specs.declared.form.Form.TheVariants as F
use Rattle.rip_markup.specs.declared.tag.StartTag.{StartTag}
use Rattle.rip_markup.specs.declared.token.Token.{Token}
use Rattle.rip_markup.specs.declared.token.Token.TheVariants as T
use Rattle.rip_markup.specs.declared.token.Placed.{Placed}
use Rattle.rip_markup.specs.declared.token.Content.{Content}
use Rattle.rip_markup.specs.declared.token.Content.TheVariants as C
use Rattle.rip_base.specs.declared.page.Attribute.{Attribute}
use Rattle.rip_markup.proofs.Runs.{run_is, behind_is}
use Rattle.rip_markup.proofs.Standing.{attribute_seen}
use Rattle.rip_markup.proofs.Parts.{attribute_text-append}

-- an attribute that stands there is the one that stands there
one_attribute : (text : List ℕ) (a b : Written) (r s : List ℕ) → LeadsAttribute text a r → LeadsAttribute text b s → (a ≡ b) × (r ≡ s)
one_attribute text a b r s x y =
    let same : a ≡ b = same_Some a b (sym (attribute_seen a r x.1) ∙ sym (ap attribute_at x.0) ∙ ap attribute_at y.0 ∙ attribute_seen b s y.1) in
    let front = attribute_text a [] in
    let left : drop (length front) text ≡ r = ap (drop (length front)) (x.0 ∙ attribute_text-append a r) ∙ drop_at front r (length front) refl in
    let right : drop (length front) text ≡ s = ap (drop (length front)) (y.0 ∙ ap (λ (w : Written). attribute_text w s) (sym same) ∙ attribute_text-append a s) ∙ drop_at front s (length front) refl in
    (same, sym left ∙ right)

one_list : (text : List ℕ) (ws bs : List Written) (r s : List ℕ) → LeadsAttributes text ws r → LeadsAttributes text bs s → (ws ≡ bs) × (r ≡ s)
one_list text [] [] r s x y = (refl, sym x.0 ∙ y.0)
one_list text [] (b ∷ bs) r s x y = absurd (x.1 b y.0 (subst (λ u. LeadsAttribute u b y.0) x.0 y.1))
one_list text (a ∷ ws) [] r s x y = absurd (y.1 a x.0 (subst (λ u. LeadsAttribute u a x.0) y.0 x.1))
one_list text (a ∷ ws) (b ∷ bs) r s x y =
    let head = one_attribute text a b x.0 y.0 x.1 y.1 in
    let tail = one_list x.0 ws bs r s x.2 (subst (λ u. LeadsAttributes u bs s) (sym head.1) y.2) in
    let heads = head.0 in
    let tails = tail.0 in
    ((λ i. heads i ∷ tails i), tail.1)

record SameRead (rest rest' : List ℕ) (pairs pairs' : List Attribute) (found found' : Option Fault) (against against' : Bool) (place place' : ℕ) : Type 0 where
  rests : rest ≡ rest'
  all : pairs ≡ pairs'
  founds : found ≡ found'
  againsts : against ≡ against'
  places : place ≡ place'

one_read : (tag : List ℕ) (start : ℕ) (text rest rest' : List ℕ) (pairs pairs' : List Attribute) (found found' : Option Fault) (against against' : Bool) (place place' : ℕ) → AreRead tag start text rest pairs found against place → AreRead tag start text rest' pairs' found' against' place' → SameRead rest rest' pairs pairs' found found' against against' place place'
one_read tag start text rest rest' pairs pairs' found found' against against' place place' x y =
    let same = one_list text x.attributes y.attributes rest rest' x.leads y.leads in
    record {
      rests = same.1;
      all = sym x.pairs-is ∙ ap (map pair_of) same.0 ∙ y.pairs-is;
      founds = sym x.found-is ∙ ap (attributes_fault tag start []) same.0 ∙ y.found-is;
      againsts = sym x.against-is ∙ ap (are_against tag []) same.0 ∙ y.against-is;
      places = sym x.place-is ∙ ap (λ l. start + attributes_length l) same.0 ∙ y.place-is;
    }

one_start : (units : List ℕ) (t u : StartTag) (n m : ℕ) → IsStartTag units t n → IsStartTag units u m → (t ≡ u) × (n ≡ m)
one_start units t u n m x y =
    let names : x.name ≡ y.name = sym (run_is is_name_unit x.name x.after x.each x.longest) ∙ ap (take_while is_name_unit) (sym x.splits ∙ y.splits) ∙ run_is is_name_unit y.name y.after y.each y.longest in
    let afters : x.after ≡ y.after = sym (behind_is is_name_unit x.name x.after x.each x.longest) ∙ ap (behind is_name_unit) (sym x.splits ∙ y.splits) ∙ behind_is is_name_unit y.name y.after y.each y.longest in
    let other : AreRead (small_text x.name) (1 + length x.name) x.after y.rest u.attributes y.found y.against y.place =
    subst (λ a. AreRead (small_text x.name) (1 + length x.name) a y.rest u.attributes y.found y.against y.place) (sym afters)
    (subst (λ k. AreRead (small_text k) (1 + length k) y.after y.rest u.attributes y.found y.against y.place) (sym names) y.read) in
    let same = one_read (small_text x.name) (1 + length x.name) x.after x.rest y.rest t.attributes u.attributes x.found y.found x.against y.against x.place y.place x.read other in
    let rests = same.rests in
    let founds = same.founds in
    let againsts = same.againsts in
    let places = same.places in
    let name-same : t.name ≡ u.name = x.name-is ∙ ap small_text names ∙ sym y.name-is in
    let all = same.all in
    let solid : t.solidus ≡ u.solidus = x.solidus-is ∙ ap (λ r. has_solidus (tag_end r)) rests ∙ sym y.solidus-is in
    let faults : t.fault ≡ u.fault = x.fault-is ∙ (λ i. tag_fault (small_text (names i)) (againsts i) (founds i) (places i) (tag_end (rests i))) ∙ sym y.fault-is in (
      (λ i. record { name = name-same i; attributes = all i; solidus = solid i; fault = faults i }),
      x.count-is ∙ (λ i. places i + end_count (tag_end (rests i))) ∙ sym y.count-is,
    )

one_form : (form : Form) (text : List ℕ) (t u : Token) (n m : ℕ) → ReadsForm form text t n → ReadsForm form text u m → (t ≡ u) × (n ≡ m)
one_form F.End text t u n m x y = (x.0 ∙ sym y.0, x.1 ∙ sym y.1)
one_form F.Text text t u n m x y = (x.0 ∙ sym y.0, x.1 ∙ sym y.1)
one_form F.StartTag text t u n m x y =
    let one = one_start (drop 1 text) x.0 y.0 n m x.1 y.1 in
    (x.2 ∙ ap (λ (g : StartTag). T.StartTag g) one.0 ∙ sym y.2, one.1)
one_form F.EndTag text t u n m x y = (x.0 ∙ sym y.0, x.1 ∙ sym y.1)
one_form F.Comment text t u n m x y = (x.0 ∙ sym y.0, x.1 ∙ sym y.1)
one_form F.Doctype text t u n m x y = (x.0 ∙ sym y.0, x.1 ∙ sym y.1)
one_form F.Stray text t u n m x y = (x.0 ∙ sym y.0, x.1 ∙ sym y.1)

one_token : (content : Content) (text : List ℕ) (t u : Token) (n m : ℕ) → Reads content text t n → Reads content text u m → (t ≡ u) × (n ≡ m)
one_token C.Markup text t u n m x y = one_form (form_of text) text t u n m x y
one_token C.Preformatted text t u n m x y = one_form (form_of text) text t u n m x y
one_token C.Script text t u n m x y = (x.0 ∙ sym y.0, x.1 ∙ sym y.1)
one_token C.Style text t u n m x y = (x.0 ∙ sym y.0, x.1 ∙ sym y.1)
one_token C.Title text t u n m x y = (x.0 ∙ sym y.0, x.1 ∙ sym y.1)
one_token C.Textarea text t u n m x y = (x.0 ∙ sym y.0, x.1 ∙ sym y.1)

both_ways : (b : Bool) (P Q P' Q' : Type 0) (R : Type 0) → MatchBool b P Q → MatchBool b P' Q' → (P → P' → R) → (Q → Q' → R) → R
both_ways true P Q P' Q' R x y left right = left x y
both_ways false P Q P' Q' R x y left right = right x y

-- a text has one list of tokens
pub one_reading : (place : ℕ) (content : Content) (text : List ℕ) (ts us : List Placed) → AreTokens place content text ts → AreTokens place content text us → ts ≡ us
one_reading place content text [] us x y = absurd x
one_reading place content text (t ∷ ts) [] x y = absurd y
one_reading place content text (t ∷ ts) (u ∷ us) x y =
    let start = drop (dropped content text) text in
    let one = one_token content start t.token u.token x.0 y.0 x.2 y.2 in
    let tokens = one.0 in
    let counts = one.1 in
    let places : t.place ≡ u.place = x.1 ∙ sym y.1 in
    let head : t ≡ u = λ i. record { place = places i; token = tokens i } in
    let left = MatchBool (is_last t.token) (us ≡ []) (AreTokens (t.place + x.0) (content_after t.token) (drop x.0 start) us) in
    let other : left = subst (λ (n : ℕ). MatchBool (is_last t.token) (us ≡ []) (AreTokens (t.place + n) (content_after t.token) (drop n start) us)) (sym counts)
    (subst (λ (w : Placed). MatchBool (is_last w.token) (us ≡ []) (AreTokens (w.place + y.0) (content_after w.token) (drop y.0 start) us)) (sym head) y.3) in
    let tail : ts ≡ us = both_ways (is_last t.token) _ _ _ _ (ts ≡ us) x.3 other (λ p q. p ∙ sym q) (λ p q. one_reading (t.place + x.0) (content_after t.token) (drop x.0 start) ts us p q) in
    (λ i. head i ∷ tail i)
