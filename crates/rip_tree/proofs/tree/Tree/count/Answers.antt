use Rattle.std.proofs.Common.{length, subst}
use Rattle.rip_tree.specs.Branches.{Plant, ChildrenFollow}
use Rattle.rip_tree.proofs.Reading.{ChildrenFollow-all}
use Rattle.rip_tree.proofs.tree.Tree.count.Goals as goal

pub returns-clause-follow : goal.returns-clause-follow
returns-clause-follow c =
    subst (λ (p : Plant). ChildrenFollow (length p.branches) p.branches) c.self.view_is
    (ChildrenFollow-all c.self.inside.links.items c.self.inside.rows.items c.self.invariant.follow)
