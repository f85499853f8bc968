use Rattle.std.proofs.Common.{sym}
use Rattle.rip_eval_in_place.proofs.InPlace.{initialiser_of}
use Rattle.rip_eval_in_place.proofs.in_place.only_initialiser.Goals as goal

pub returns-in-None-child_at : goal.returns-in-None-child_at
returns-in-None-child_at c =
    initialiser_of c.args.p.now c.args.at.now.node c.in-Some.declarator c.child_at-in-None-child_at.result (cc) (sym c.in-Some.ensures.child) (sym c.in-None-child_at.ensures.child)
    c.child_at-in-None-child_at.ensures.child
