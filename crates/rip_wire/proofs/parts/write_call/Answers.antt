use Rattle.std.proofs.Common.{◌≡◌, [], ◌++◌, sym, ap, ap₂, ◌∙◌, map}
use Rattle.json.specs.Print.{print}
use Rattle.serde_json.proofs.Texts.{print-outline}
use Rattle.rip_data.specs.Datum.{trees_in}
use Rattle.rip_wire.specs.Calls.{call_value}
use Rattle.rip_wire.specs.Tokens.{tokens_of}
use Rattle.rip_wire.proofs.parts.write_call.Goals as goal

pub returns : goal.returns
returns c =
    let d = call_value c.args.name.now (trees_in c.args.args.now) in
    let before : c.write_pair.new.out.before ≡ [] = c.write_pair.ensures.before ∙ c.new-out.ensures.before ∙ c.in_ok-with_capacity.ensures.items in
    let written : c.write_pair.new.out.tokens ≡ tokens_of d = c.in_ok-write_pair.ensures.tokens ∙ ap (λ ts. ts ++ tokens_of d) c.new-out.ensures.tokens in
    c.from_vec.ensures ∙ c.into_inner.ensures.items ∙ ap₂ (λ b ts. b ++ print ts) before written ∙ print-outline d
