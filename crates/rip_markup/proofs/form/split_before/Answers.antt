use Rattle.std.proofs.Common.{◌∙◌, ap, take}
use Rattle.rip_markup.specs.Forms.{stops}
use Rattle.rip_markup.proofs.Fronts.{before_front}
use Rattle.rip_markup.proofs.form.split_before.Goals as goal

pub returns-clause-front : goal.returns-clause-front
returns-clause-front c = c.split_at.ensures.front ∙ ap (λ n. take n c.args.text.now) c.count_before-count.ensures.value ∙ before_front (stops c.args.stop) c.args.text.now
