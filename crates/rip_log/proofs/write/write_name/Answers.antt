use Rattle.std.proofs.Common.{◌≡◌, [], ◌++◌, ap, ap₂, ◌∙◌}
use Rattle.json.specs.Print.{print}
use Rattle.serde_json.proofs.Texts.{print-outline}
use Rattle.rip_data.specs.Datum.{data_of}
use Rattle.rip_data.specs.Datum as tree
use Rattle.rip_data.specs.Written.{tokens_of}
use Rattle.rip_log.proofs.write.write_name.Goals as goal

pub returns : goal.returns
returns c =
    let t = tree.text c.args.name.now in
    let before : c.write_string.new.out.before ≡ [] = c.write_string.ensures.before ∙ c.new-out.ensures.before ∙ c.in_ok-with_capacity.ensures.items in
    let written : c.write_string.new.out.tokens ≡ tokens_of t = c.in_ok-write_string.ensures.tokens ∙ ap (λ ts. ts ++ tokens_of t) c.new-out.ensures.tokens in
    c.from_vec.ensures ∙ c.into_inner.ensures.items ∙ ap₂ (λ b ts. b ++ print ts) before written ∙ print-outline (data_of t)
