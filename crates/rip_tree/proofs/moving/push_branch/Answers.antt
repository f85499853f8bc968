use Rattle.std.proofs.Common.{◌≡◌, ◌∙◌, ◌++◌, ◌∷◌, [], List, ap, map, rules}
use Rattle.rip_tree.specs.Branches.{Branch}
use Rattle.rip_tree.specs.Making.{branches_at}
use Rattle.rip_tree.specs.Program.{moved_child}
use Rattle.rip_tree.specs.declared.form.Form.{Form}
use Rattle.rip_tree.proofs.Joining.{row_of, branches_at-behind, LieWithin-behind}
use Rattle.rip_tree.proofs.moving.push_branch.Goals as goal

pub returns-clause-within : goal.returns-clause-within
returns-clause-within c =
    LieWithin-behind (record { place = c.args.node.place; form = c.form.result }) c.args.links.now.items (map (moved_child c.args.by.branches) c.args.children.now) c.push_children.new.links.items
    c.args.rows.now.items c.push.new.self.items c.len-start.result c.len.result
    c.in_ok-push_children.ensures (search rules) (search rules) c.in_ok-push.ensures.items c.requires.within

pub returns-clause-moved : goal.returns-clause-moved
returns-clause-moved c =
    let with_form : Form → List Branch = λ f. branches_at c.args.links.now.items c.args.rows.now.items ++ record { node = record { place = c.args.node.place; form = f }; children = map (moved_child c.args.by.branches) c.args.children.now } ∷ [] in
    branches_at-behind (record { place = c.args.node.place; form = c.form.result }) c.args.links.now.items (map (moved_child c.args.by.branches) c.args.children.now) c.push_children.new.links.items
    c.args.rows.now.items c.push.new.self.items c.len-start.result c.len.result
    c.in_ok-push_children.ensures (search rules) (search rules) c.in_ok-push.ensures.items c.requires.within
    ∙ ap with_form c.form.ensures
