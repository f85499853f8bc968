use Rattle.std.proofs.Common.{◌≡◌, ◌^◌, length, arith, List, [], ◌∷◌, None, sym, ap, ◌∙◌, subst}
use Rattle.rip_markup.specs.Tokens.{IsTokens}
use Rattle.rip_markup.specs.declared.input.PageText.{PageText}
use Rattle.rip_markup.specs.declared.token.Placed.{Placed}
use Rattle.rip_html.specs.Building.{built}
use Rattle.rip_html.specs.Nodes.{document_node}
use Rattle.rip_html.specs.Refusals.{first_refusal}
use Rattle.rip_html.specs.Scripts.{script_numbers}
use Rattle.std.specs.List.{AllByRecursion}
use Rattle.rip_markup.specs.Within.{PlacedWithin}
use Rattle.rip_markup.proofs.Within.{text_within}
use Rattle.rip_html.proofs.Bytes.{page_text_within}
use Rattle.rip_html.proofs.Reaching.{further}
use Rattle.rip_html.proofs.Choice.{some_not_none}
use Rattle.rip_html.proofs.Counting.{nodes_few}
use Rattle.rip_html.proofs.Lasting.{accepted_made, made_accepted}
use Rattle.rip_html.proofs.Numbering.{built_page}
use Rattle.rip_html.proofs.reader.read_page.Goals as goal

pub first_refusal-requires : goal.first_refusal-requires
first_refusal-requires c =
    let list = c.in_ok-list.list in
    let text = c.in_ok-text.text in
    let within = page_text_within c.args.bytes.now text c.in_ok-text.ensures.found in
    let are : IsTokens text.units list = subst (λ u. IsTokens u list) c.as_slice.ensures c.in_ok-list.ensures.found in
    let all = further (length text.units) (2 ^ 32) list (omega (arith, within.units, c.in_ok-text.ensures.counted)) (text_within text.units list are) in
    subst (λ (l : List Placed). AllByRecursion (PlacedWithin (2 ^ 32)) l) (sym c.as_slice-2.ensures) all

pub page_of-requires : goal.page_of-requires
page_of-requires c =
    let list = c.in_ok-list.list in
    let are : IsTokens c.in_ok-text.text.units list = subst (λ u. IsTokens u list) c.as_slice.ensures c.in_ok-list.ensures.found in
    let none : first_refusal list ≡ None = sym (ap first_refusal c.as_slice-2.ensures) ∙ sym c.in_ok-fault.ensures ∙ c.in-None.is in
    let within = page_text_within c.args.bytes.now c.in_ok-text.text c.in_ok-text.ensures.found in
    omega (arith, nodes_few c.in_ok-text.text.units list are none, within.units, c.in_ok-text.ensures.counted)

pub refused_at-requires-clause-within : goal.refused_at-requires-clause-within
refused_at-requires-clause-within c =
    let within = page_text_within c.args.bytes.now c.in_ok-text.text c.in_ok-text.ensures.found in
    omega (arith, within.places c.in-Some.fault.offset, c.in_ok-text.ensures.counted)

pub returns-in-Some-clause-only : goal.returns-in-Some-clause-only
returns-in-Some-clause-only c = λ page is.
    let texts : c.in_ok-text.text ≡ is.text = c.in_ok-text.ensures.only is.text is.has.text-is in
    let units = c.as_slice.ensures ∙ ap (λ (t : PageText). t.units) texts in
    let lists : c.in_ok-list.list ≡ is.tokens = c.in_ok-list.ensures.only is.tokens (subst (λ u. IsTokens u is.tokens) (sym units) is.has.tokens-are) in
    let none : first_refusal is.tokens ≡ None = made_accepted is.tokens is.parts is.spelled is.are in
    let seen : c.as_slice-2.result.now ≡ is.tokens = c.as_slice-2.ensures ∙ lists in
    absurd (some_not_none c.in-Some.fault (sym c.in-Some.is ∙ c.in_ok-fault.ensures ∙ ap first_refusal seen ∙ none))

pub returns-clause-found : goal.returns-clause-found
returns-clause-found c =
    let list = c.in_ok-list.list in
    let are : IsTokens c.in_ok-text.text.units list = subst (λ u. IsTokens u list) c.as_slice.ensures c.in_ok-list.ensures.found in
    let seen : c.as_slice-2.result.now ≡ list = c.as_slice-2.ensures in
    let none : first_refusal list ≡ None = sym (ap first_refusal seen) ∙ sym c.in_ok-fault.ensures ∙ c.in-None.is in
    let made = accepted_made c.in_ok-text.text.units list are none in
    record {
      text = c.in_ok-text.text;
      tokens = list;
      has = record { text-is = c.in_ok-text.ensures.found; tokens-are = are };
      parts = made.parts;
      spelled = made.spelled;
      are = made.are;
      nodes-are = c.in_ok-page_of-in-None.ensures.nodes ∙ built_page list made.parts made.spelled made.are;
      scripts-are = c.in_ok-page_of-in-None.ensures.scripts;
    }

pub returns-clause-only : goal.returns-clause-only
returns-clause-only c = λ page is.
    let texts : c.in_ok-text.text ≡ is.text = c.in_ok-text.ensures.only is.text is.has.text-is in
    let units = c.as_slice.ensures ∙ ap (λ (t : PageText). t.units) texts in
    let lists : c.in_ok-list.list ≡ is.tokens = c.in_ok-list.ensures.only is.tokens (subst (λ u. IsTokens u is.tokens) (sym units) is.has.tokens-are) in
    let nodes : c.in_ok-page_of-in-None.field-0.nodes ≡ page.nodes = c.in_ok-page_of-in-None.ensures.nodes ∙ ap (built [] (document_node ∷ [])) lists ∙ built_page is.tokens is.parts is.spelled is.are ∙ sym is.nodes-are in
    let scripts : c.in_ok-page_of-in-None.field-0.scripts ≡ page.scripts = c.in_ok-page_of-in-None.ensures.scripts ∙ ap (script_numbers 0) nodes ∙ sym is.scripts-are in
    (λ i. record { nodes = nodes i; scripts = scripts i })
