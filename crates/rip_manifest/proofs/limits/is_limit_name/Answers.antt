use Rattle.std.proofs.Common.{sym}
use Rattle.rip_manifest.proofs.LimitLemmas.{is_limit_name-none}
use Rattle.rip_manifest.proofs.limits.is_limit_name.Goals as goal

pub returns-in_default : goal.returns-in_default
returns-in_default c =
    let none = c.in_default in
    sym (is_limit_name-none _ _ none.not-fuel none.not-cells none.not-units none.not-nodes none.not-depth none.not-queue none.not-sessions none.not-text none.not-replies)
