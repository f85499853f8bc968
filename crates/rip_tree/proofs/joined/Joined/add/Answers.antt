use Rattle.std.proofs.Common.{rules, ◌≡◌, ◌+◌, ◌∙◌, ap, sym, subst, length, arith}
use Rattle.std.proofs.lemmas.Grind.{common_steps}
use Rattle.rip_tree.specs.Branches.{ChildrenFollow}
use Rattle.rip_tree.specs.Making.{branches_at}
use Rattle.rip_tree.proofs.Joining.{follow-added, count-added}
use Rattle.rip_tree.proofs.joined.Joined.add.Goals as goal

pub returns-clause-kept : goal.returns-clause-kept
returns-clause-kept c =
    let old = c.args.self.now in
    let new = c.push_branches.new in
    let rows = c.as_slice.result.now in
    let links = c.as_slice-2.result.now in
    let behind : ChildrenFollow (length rows) (branches_at links rows) =
    subst (λ rs. ChildrenFollow (length rs) (branches_at links rs)) (sym c.as_slice.ensures.value)
    (subst (λ ls. ChildrenFollow (length c.tree.inside.rows.items) (branches_at ls c.tree.inside.rows.items)) (sym c.as_slice-2.ensures.value) c.tree.invariant.follow) in
    let count : length new.rows.items ≡ length old.rows.items + length rows =
    count-added c.len-2.result c.len-branches.result c.len-units.result old.links.items links new.links.items old.rows.items rows new.rows.items c.in_ok-push_branches.ensures.moved in
    let first : c.len-branches.result ≡ length old.rows.items = omega arith in
    record {
      within = c.in_ok-push_branches.ensures.within;
      follow = follow-added c.len-2.result c.len-branches.result c.len-units.result old.links.items links new.links.items old.rows.items rows new.rows.items
          c.in_ok-push_branches.ensures.moved first c.requires.follow behind;
      numbered = omega (arith, count, c.if-len-most.false, ap length c.as_slice.ensures.value);
      spanned = grind (arith, common_steps);
      listed = grind (arith, common_steps);
    }
