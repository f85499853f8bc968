use Rattle.std.proofs.Common.{rules, ◌==◌, not}
use Rattle.std.proofs.lemmas.Fn.{filter_same}
use Rattle.rip_real.proofs.Journals.{others_kept, other_number}
use Rattle.rip_real.proofs.journal.strike.Goals as goal

pub returns : goal.returns
returns c =
    others_kept _ _ c.args.c (λ d. not (d == c.args.c))
    (filter_same _ (λ d. not (d == c.args.c)) _ (λ x b f' k. search rules) _ _ c.retain.ensures.filtered)
    (other_number c.args.c)
