use Rattle.std.proofs.Common.{subst}
use Rattle.rip_tree.specs.Program.{ChildrenAreCounted}
use Rattle.rip_tree.proofs.Reading.{counted-inside}
use Rattle.rip_tree.proofs.program.Program.children_are_counted.Goals as goal

pub returns : goal.returns
returns c =
    let trees = c.self.inside.trees in
    subst ChildrenAreCounted c.self.view_is
    (λ id place. counted-inside trees.links.items trees.rows.items id place c.self.invariant.joined.within c.self.invariant.linked)
