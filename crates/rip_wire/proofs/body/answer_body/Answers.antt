use Rattle.std.proofs.Common.{◌≡◌, [], ◌++◌, sym, ap, ap₂, ◌∙◌, subst, IsUtf8}
use Rattle.json.specs.Print.{print}
use Rattle.serde_json.proofs.Texts.{print-outline}
use Rattle.rip_wire.specs.Answers.{said, answer_value}
use Rattle.rip_wire.specs.Tokens.{tokens_of}
use Rattle.rip_wire.proofs.body.answer_body.Goals as goal

pub returns-clause-text : goal.returns-clause-text
returns-clause-text c =
    let d = answer_value (said c.args.number c.args.ended c.args.served.now) in
    let before : c.write_members.new.out.before ≡ [] = c.write_members.ensures.before ∙ c.new-out.ensures.before ∙ c.in_ok-with_capacity.ensures.items in
    let written : c.write_members.new.out.tokens ≡ tokens_of d = c.in_ok-write_members.ensures.tokens ∙ ap (λ ts. ts ++ tokens_of d) c.new-out.ensures.tokens in
    c.from_vec.ensures ∙ c.into_inner.ensures.items ∙ ap₂ (λ b ts. b ++ print ts) before written ∙ print-outline d

pub returns-clause-utf8 : goal.returns-clause-utf8
returns-clause-utf8 c =
    let before : c.write_members.new.out.before ≡ [] = c.write_members.ensures.before ∙ c.new-out.ensures.before ∙ c.in_ok-with_capacity.ensures.items in
    let bytes : c.from_vec.result ≡ print c.write_members.new.out.tokens =
    c.from_vec.ensures ∙ c.into_inner.ensures.items ∙ ap (λ b. b ++ print c.write_members.new.out.tokens) before in
    subst IsUtf8 (sym bytes) c.into_inner.ensures.utf8
