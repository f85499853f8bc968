use Rattle.std.proofs.Common.{◌≡◌, ◌+◌, ◌-◌, ◌<◌, ◌++◌, [], ◌∷◌, List, length, reverse, sym, ap, subst, rules}
use Rattle.rip_tree.specs.Branches.{Branch, AreBetween}
use Rattle.rip_tree.specs.Making.{Growth, with_branch, branches_at}
use Rattle.rip_tree.proofs.Growing.{branches_at-pushed, IsGrown-pushed}
use Rattle.rip_tree.proofs.maker.TreeMaker.push.Goals as goal

pub invariant_of-self-2 : goal.invariant_of-self-2
invariant_of-self-2 c =
    let links : c.extend_from_slice.new.self.items ≡ c.self.inside.links.items ++ c.args.children.now = search rules in
    let rows : c.push.new.self.items ≡ c.self.inside.rows.items ++ record { node = c.args.node; start = c.len-start.result; end = c.len.result } ∷ [] = search rules in
    IsGrown-pushed c.self.inside.total c.args.node c.self.inside.links.items c.args.children.now c.extend_from_slice.new.self.items c.self.inside.rows.items c.push.new.self.items c.len-start.result c.len.result _
    links (search rules) (search rules) rows c.self.invariant
    (subst (λ (g : Growth). length g.branches < g.total) (sym c.self.view_is) c.requires.room)
    (subst (λ (g : Growth). AreBetween (g.total - (length g.branches + 1)) g.total c.args.children.now) (sym c.self.view_is) c.requires.above)

pub returns-clause-made : goal.returns-clause-made
returns-clause-made c =
    let links : c.extend_from_slice.new.self.items ≡ c.self.inside.links.items ++ c.args.children.now = search rules in
    let rows : c.push.new.self.items ≡ c.self.inside.rows.items ++ record { node = c.args.node; start = c.len-start.result; end = c.len.result } ∷ [] = search rules in
    let with_branches : List Branch → Growth = λ bs. record { total = c.self.inside.total; branches = bs; units = c.self.inside.units.items } in
    subst (λ (g : Growth). with_branches (branches_at c.extend_from_slice.new.self.items (reverse c.push.new.self.items)) ≡ with_branch g c.args.node c.args.children.now) c.self.view_is
    (ap with_branches (branches_at-pushed c.args.node c.self.inside.links.items c.args.children.now c.extend_from_slice.new.self.items c.self.inside.rows.items c.push.new.self.items c.len-start.result c.len.result
    links (search rules) (search rules) rows c.self.invariant.within))
