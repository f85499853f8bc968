use Rattle.std.proofs.Common.{◌≡◌, [], ◌∷◌, ◌++◌, map, ap, ap₂, ◌∙◌, rules}
use Rattle.std.specs.Prelude.{codes}
use Rattle.rip_data.specs.Datum.{tree_of, text, object, field, no_fields, field_of, fields_of}
use Rattle.rip_data.specs.declared.datum.Datum as datum
use Rattle.rip_data.specs.declared.datum.Datum.{Datum}
use Rattle.rip_data.proofs.DataLemmas.{tree_of-Fields}
use Rattle.rip_store.specs.Apply.{word}
use Rattle.rip_store.proofs.refusal.Refusal.reply.Goals as goal

pub returns : goal.returns
returns c =
    let w = c.in_ok-word.word in
    let items : c.push.new.self.items ≡ (c.in_ok-name.name, datum.Text w) ∷ [] = c.in_ok-push.ensures.items ∙ ap (λ fs. fs ++ (c.in_ok-name.name, datum.Text w) ∷ []) c.in_ok-fields.ensures.items in
    let texts : tree_of (datum.Text w) ≡ text w = search (rules, datum.the_lemmas) in
    let name : c.in_ok-name.name ≡ codes "error" = c.in_ok-name.ensures in
    let said : w ≡ word c.args.self = c.in_ok-word.ensures ∙ c.word.ensures in
    tree_of-Fields c.push.new.self
    ∙ ap (λ fs. object (fields_of (map field_of fs))) items
    ∙ ap₂ (λ n t. object (field n t no_fields)) name (texts ∙ ap text said)
