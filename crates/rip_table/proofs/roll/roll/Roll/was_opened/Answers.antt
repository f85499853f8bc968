-- An identifier has a place where a session was opened with it.
use Rattle.std.proofs.Common.{◌∙◌, ap, Option, ℕ}
use Rattle.std.specs.Prelude.{is_some}
use Rattle.rip_table.proofs.TellLemmas.{opened_told}
use Rattle.rip_table.proofs.roll.roll.Roll.was_opened.Goals as goal

pub returns : goal.returns
returns g c = λ limit h k.
    c.is_some.ensures ∙ ap (λ (o : Option ℕ). is_some o) c.ordinal.ensures ∙ opened_told limit c.args.self.now h c.args.id k
