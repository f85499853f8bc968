use Rattle.std.proofs.Common.{◌∙◌, sym, ap}
use Rattle.rip_forms.specs.Controls.{part_of}
use Rattle.rip_host.specs.FormMembers.{form_written, value_written}
use Rattle.rip_host.proofs.browser.Browser.write_form.Goals as goal

pub returns-in-Value-clause-answer : goal.returns-in-Value-clause-answer
returns-in-Value-clause-answer c =
    c.write_value.ensures.answer
    ∙ ap (λ p. value_written c.args.heap.now c.args.self.now c.args.n p c.args.v.now) (c.part_of-part.ensures ∙ ap (λ q. part_of q c.args.self.now.dom c.args.n) c.pool.ensures)
    ∙ ap (λ m. form_written c.args.heap.now c.args.self.now c.args.n m c.args.v.now) (sym c.in-Value.is)
