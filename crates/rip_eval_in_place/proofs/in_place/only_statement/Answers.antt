use Rattle.std.proofs.Common.{sym}
use Rattle.rip_eval_in_place.proofs.InPlace.{only_child}
use Rattle.rip_eval_in_place.proofs.in_place.only_statement.Goals as goal

pub returns-else-is_declaration : goal.returns-else-is_declaration
returns-else-is_declaration c =
    (only_child c.args.p.now c.args.at.now.node c.in-Some.statement (sym c.in-Some.ensures.child) (sym c.in-None-child_at.ensures.child), (cc))
