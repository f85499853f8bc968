use Rattle.std.proofs.Common.{◌≡◌, [], ◌++◌, ap, ap₂, ◌∙◌}
use Rattle.json.specs.Print.{print}
use Rattle.serde_json.proofs.Texts.{print-outline}
use Rattle.rip_wire.specs.Tokens.{tokens_of}
use Rattle.rip_server.specs.Saying.{error_value}
use Rattle.rip_server.proofs.turn.said.error_body.Goals as goal

pub returns : goal.returns
returns c =
    let d = error_value c.args.word.now in
    let before : c.write_error.new.out.before ≡ [] = c.write_error.ensures.before ∙ c.new-out.ensures.before ∙ c.in_ok-with_capacity.ensures.items in
    let written : c.write_error.new.out.tokens ≡ tokens_of d = c.in_ok-write_error.ensures.tokens ∙ ap (λ ts. ts ++ tokens_of d) c.new-out.ensures.tokens in
    c.from_vec.ensures ∙ c.into_inner.ensures.items ∙ ap₂ (λ b ts. b ++ print ts) before written ∙ print-outline d
