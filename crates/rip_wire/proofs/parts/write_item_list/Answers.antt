use Rattle.std.proofs.Common.{◌≡◌, [], ◌++◌, sym, ap, ap₂, ◌∙◌, map}
use Rattle.json.specs.Print.{print}
use Rattle.serde_json.proofs.Texts.{print-outline}
use Rattle.rip_wire.specs.Items.{reported_of, item_value, list_of}
use Rattle.rip_wire.specs.Tokens.{tokens_of}
use Rattle.rip_wire.proofs.parts.write_item_list.Goals as goal

pub returns : goal.returns
returns c =
    let d = list_of (map item_value (map reported_of c.args.items.now)) in
    let before : c.write_list_of_items.new.out.before ≡ [] = c.write_list_of_items.ensures.before ∙ c.new-out.ensures.before ∙ c.in_ok-with_capacity.ensures.items in
    let written : c.write_list_of_items.new.out.tokens ≡ tokens_of d = c.in_ok-write_list_of_items.ensures.tokens ∙ ap (λ ts. ts ++ tokens_of d) c.new-out.ensures.tokens in
    c.from_vec.ensures ∙ c.into_inner.ensures.items ∙ ap₂ (λ b ts. b ++ print ts) before written ∙ print-outline d
