-- Bytes are read in one way.
use Rattle.std.proofs.Common.{◌≡◌, ℕ, ◌+◌, Bool, true, false, List, [], ◌∷◌, Option, Some, None, ◌⊎◌, inl, inr, refl, sym, ap, ◌∙◌, subst}
use Rattle.std.proofs.lemmas.Option.{same_Some}
use Rattle.std.proofs.lemmas.Bool.{false≢true}
use Rattle.std.proofs.lemmas.Str.{IsUtf8-from_is_utf8, is_utf8-from_IsUtf8}
use Rattle.std.specs.Str.{is_utf8}
use Rattle.std.specs.Str.Lossy.{utf8_valid_len}
use Rattle.rip_base.specs.Page.{Contents}
use Rattle.rip_base.specs.Text.{encode_utf16_all, IsSameText}
use Rattle.rip_base.specs.declared.page.PageKind.TheVariants.{NotUtf8}
use Rattle.rip_base.specs.declared.page.PageKind.{PageKind}
use Rattle.rip_base.proofs.TextLemmas.{IsSameText-units}
use Rattle.rip_markup.specs.Input.{mark_count, unmarked, lines, bytes_before, IsTextOf, IsTextRefusal}
use Rattle.rip_markup.specs.Fault.{fault}
use Rattle.rip_markup.specs.Tokens.{IsTokens}
use Rattle.rip_markup.specs.declared.fault.Fault.{Fault}
use Rattle.rip_markup.specs.declared.input.PageText.{PageText}
use Rattle.rip_markup.specs.declared.token.Placed.{Placed}
use Rattle.rip_markup.specs.declared.refusal.PageRefusal.TheVariants.{At}
use Rattle.rip_markup.proofs.Having.{text_tokens}
use Rattle.rip_markup.proofs.Unique.{one_reading}
use Rattle.rip_html.specs.Building.{built}
use Rattle.rip_html.specs.Nodes.{document_node, page_nodes}
use Rattle.rip_html.specs.Scripts.{script_numbers}
use Rattle.rip_html.specs.Refusals.{first_refusal}
use Rattle.rip_html.specs.Pages.{HasTokens, PageOf, IsTokenRefusal, IsRefusedAt}
use Rattle.rip_html.proofs.Choice.{some_not_none}
use Rattle.rip_html.proofs.Lasting.{accepted_made, made_accepted}
use Rattle.rip_html.proofs.Numbering.{built_page}

one_text : (bytes : List ℕ) (text other : PageText) → IsTextOf bytes text → IsTextOf bytes other → text ≡ other
one_text bytes text other x y =
    let marks : text.mark ≡ other.mark = x.mark ∙ sym y.mark in
    let raws : text.raw ≡ other.raw = IsSameText-units (unmarked bytes) other.raw text.raw y.spelled x.spelled in
    let units : text.units ≡ other.units = x.normal ∙ ap (lines false) raws ∙ sym y.normal in
    (λ i. record { mark = marks i; raw = raws i; units = units i })

one_tokens : (bytes : List ℕ) (text other : PageText) (tokens others : List Placed) → HasTokens bytes text tokens → HasTokens bytes other others → (text ≡ other) × (tokens ≡ others)
one_tokens bytes text other tokens others x y =
    let texts = one_text bytes text other x.text-is y.text-is in
    let same : IsTokens text.units others = subst (λ (t : PageText). IsTokens t.units others) (sym texts) y.tokens-are in
    (texts, one_reading 0 _ text.units tokens others x.tokens-are same)

pub one_page : (bytes : List ℕ) (page other : Contents) → PageOf bytes page → PageOf bytes other → page ≡ other
one_page bytes page other x y =
    let lists : x.tokens ≡ y.tokens = (one_tokens bytes x.text y.text x.tokens y.tokens x.has y.has).1 in
    let nodes : page.nodes ≡ other.nodes =
    x.nodes-are ∙ sym (built_page x.tokens x.parts x.spelled x.are) ∙ ap (built [] (document_node ∷ [])) lists ∙ built_page y.tokens y.parts y.spelled y.are ∙ sym y.nodes-are in
    let scripts : page.scripts ≡ other.scripts = x.scripts-are ∙ ap (script_numbers 0) nodes ∙ sym y.scripts-are in
    (λ i. record { nodes = nodes i; scripts = scripts i })

-- bytes with a text are not refused for want of one
has_text : (bytes : List ℕ) (text : PageText) (place : ℕ) (kind : PageKind) → IsTextOf bytes text → IsTextRefusal bytes (At place kind) → ⊥
has_text bytes text place kind x y = y.0 (x.spelled.characters, (x.spelled.are, x.spelled.in_bytes))

same_fault : (n m : ℕ) (kind second : PageKind) → Some (fault n kind) ≡ Some (fault m second) → (n ≡ m) × (kind ≡ second)
same_fault n m kind second e =
    let same : fault n kind ≡ fault m second = same_Some (fault n kind) (fault m second) e in
    (ap (λ (f : Fault). f.offset) same, ap (λ (f : Fault). f.kind) same)

one_token_refusal : (bytes : List ℕ) (place other : ℕ) (kind second : PageKind) → IsTokenRefusal bytes place kind → IsTokenRefusal bytes other second → (place ≡ other) × (kind ≡ second)
one_token_refusal bytes place other kind second x y =
    let same = one_tokens bytes x.text y.text x.tokens y.tokens x.has y.has in
    let faults = same_fault x.unit y.unit kind second (sym x.first ∙ ap first_refusal same.1 ∙ y.first) in
    let texts = same.0 in
    let units = faults.0 in
    (x.place-is ∙ (λ i. (texts i).mark + bytes_before false (texts i).raw (units i)) ∙ sym y.place-is, faults.1)

pub one_refusal : (bytes : List ℕ) (place other : ℕ) (kind second : PageKind) → IsRefusedAt bytes place kind → IsRefusedAt bytes other second → (place ≡ other) × (kind ≡ second)
one_refusal bytes place other kind second (inl x) (inl y) = (x.1 ∙ sym y.1, x.2 ∙ sym y.2)
one_refusal bytes place other kind second (inl x) (inr y) = absurd (has_text bytes y.text place kind y.has.text-is x)
one_refusal bytes place other kind second (inr x) (inl y) = absurd (has_text bytes x.text other second x.has.text-is y)
one_refusal bytes place other kind second (inr x) (inr y) = one_token_refusal bytes place other kind second x y

pub never_both : (bytes : List ℕ) (page : Contents) (place : ℕ) (kind : PageKind) → PageOf bytes page → IsRefusedAt bytes place kind → ⊥
never_both bytes page place kind x (inl y) = has_text bytes x.text place kind x.has.text-is y
never_both bytes page place kind x (inr y) =
    let lists : y.tokens ≡ x.tokens = (one_tokens bytes y.text x.text y.tokens x.tokens y.has x.has).1 in
    some_not_none (fault y.unit kind) (sym y.first ∙ ap first_refusal lists ∙ made_accepted x.tokens x.parts x.spelled x.are)

-- bytes with a text have a page or a refusal
refused_or_page : (bytes : List ℕ) (text : PageText) (tokens : List Placed) (found : Option Fault) → HasTokens bytes text tokens → first_refusal tokens ≡ found → ((page : Contents) × PageOf bytes page) ⊎ ((place : ℕ) × (kind : PageKind) × IsRefusedAt bytes place kind)
refused_or_page bytes text tokens None has e =
    let made = accepted_made text.units tokens has.tokens-are e in
    let page : Contents = record { nodes = page_nodes made.parts; scripts = script_numbers 0 (page_nodes made.parts) } in
    inl (page, record { text = text; tokens = tokens; has = has; parts = made.parts; spelled = made.spelled; are = made.are; nodes-are = refl; scripts-are = refl })
refused_or_page bytes text tokens (Some f) has e =
    inr (text.mark + bytes_before false text.raw f.offset, f.kind, inr (record { text = text; tokens = tokens; has = has; unit = f.offset; first = e; place-is = refl }))

reading_by : (bytes : List ℕ) (b : Bool) → is_utf8 (unmarked bytes) ≡ b → ((page : Contents) × PageOf bytes page) ⊎ ((place : ℕ) × (kind : PageKind) × IsRefusedAt bytes place kind)
reading_by bytes true e =
    let u = IsUtf8-from_is_utf8 (unmarked bytes) e in
    let raw = encode_utf16_all u.0 in
    let text : PageText = record { mark = mark_count bytes; raw = raw; units = lines false raw } in
    let same : IsSameText (unmarked bytes) raw = record { characters = u.0; are = u.1.0; in_bytes = u.1.1; in_units = refl } in
    let tokens = text_tokens text.units in
    refused_or_page bytes text tokens.0 (first_refusal tokens.0) (record { text-is = record { mark = refl; spelled = same; normal = refl }; tokens-are = tokens.1 }) refl
reading_by bytes false e =
    inr (mark_count bytes + utf8_valid_len (unmarked bytes), NotUtf8, inl ((λ u. false≢true (sym e ∙ is_utf8-from_IsUtf8 (unmarked bytes) u)), refl, refl))

pub some_reading : (bytes : List ℕ) → ((page : Contents) × PageOf bytes page) ⊎ ((place : ℕ) × (kind : PageKind) × IsRefusedAt bytes place kind)
some_reading bytes = reading_by bytes (is_utf8 (unmarked bytes)) refl
