use Rattle.std.proofs.Common.{◌≡◌, ℕ, ◌<◌, ◌≤◌, ◌∙◌, sym, ap, subst, length, Option, None, IfSome, arith}
use Rattle.std.specs.Prelude.{slice_range}
use Rattle.rip_tree.specs.Branches.{child_at, child_of}
use Rattle.rip_tree.specs.Making.{branches_at}
use Rattle.rip_tree.proofs.Joining.{follow-child}
use Rattle.rip_tree.proofs.Reading.{child_of-none, child_of-row, LieWithin-row}
use Rattle.rip_tree.proofs.joined.Joined.child.Goals as goal

pub returns-then-id-len-clause-child : goal.returns-then-id-len-clause-child
returns-then-id-len-clause-child c = sym (child_of-none c.args.self.now.links.items c.args.self.now.rows.items c.args.id c.args.place (omega arith))

pub range_of-children-requires-clause-order : goal.range_of-children-requires-clause-order
range_of-children-requires-clause-order c =
    (LieWithin-row (length c.args.self.now.links.items) c.args.self.now.rows.items c.args.id c.index-row.result.now c.index-row.ensures c.requires.within (omega arith)).0

pub range_of-children-requires-clause-within : goal.range_of-children-requires-clause-within
range_of-children-requires-clause-within c =
    let inside : c.index-row.result.now.end ≤ length c.args.self.now.links.items =
    (LieWithin-row (length c.args.self.now.links.items) c.args.self.now.rows.items c.args.id c.index-row.result.now c.index-row.ensures c.requires.within (omega arith)).1 in
    omega (arith, inside, ap (length {A = Option ℕ}) c.as_slice.ensures.value)

pub returns-clause-child : goal.returns-clause-child
returns-clause-child c =
    c.child_in.ensures
    ∙ ap (λ cs. child_at cs c.args.place)
    (c.range_of-children.ensures ∙ ap (λ ls. slice_range ls c.index-row.result.now.start c.index-row.result.now.end) c.as_slice.ensures.value)
    ∙ sym (child_of-row c.args.self.now.links.items c.args.self.now.rows.items c.args.id c.args.place c.index-row.result.now c.index-row.ensures (omega arith))

pub returns-clause-above : goal.returns-clause-above
returns-clause-above c =
    let branches = branches_at c.args.self.now.links.items c.args.self.now.rows.items in
    let found : c.child_in.result ≡ child_of branches c.args.id c.args.place =
    c.child_in.ensures
    ∙ ap (λ cs. child_at cs c.args.place)
    (c.range_of-children.ensures ∙ ap (λ ls. slice_range ls c.index-row.result.now.start c.index-row.result.now.end) c.as_slice.ensures.value)
    ∙ sym (child_of-row c.args.self.now.links.items c.args.self.now.rows.items c.args.id c.args.place c.index-row.result.now c.index-row.ensures (omega arith)) in
    subst (λ (o : Option ℕ). IfSome o (λ n. (c.args.id < n) × (n < length branches))) (sym found) (follow-child branches c.args.id c.args.place c.requires.follow)
