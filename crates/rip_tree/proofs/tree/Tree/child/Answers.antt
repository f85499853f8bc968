use Rattle.std.proofs.Common.{◌≡◌, ℕ, ◌<◌, ◌≤◌, ◌∙◌, sym, ap, subst, length, Option, None, IfSome, arith}
use Rattle.std.specs.Prelude.{slice_range}
use Rattle.std.proofs.lemmas.List.{length-map}
use Rattle.rip_tree.specs.Branches.{Plant, child_at, child_of}
use Rattle.rip_tree.specs.Making.{branch_at, branches_at}
use Rattle.rip_tree.proofs.Reading.{child_of-none, child_of-row, LieWithin-row, ChildrenFollow-child}
use Rattle.rip_tree.proofs.tree.Tree.child.Goals as goal

pub returns-then-id-len-clause-child : goal.returns-then-id-len-clause-child
returns-then-id-len-clause-child c =
    subst (λ (p : Plant). None ≡ child_of p.branches c.args.id c.args.place) c.self.view_is
    (sym (child_of-none c.self.inside.links.items c.self.inside.rows.items c.args.id c.args.place (omega arith)))

pub range_of-children-requires-clause-order : goal.range_of-children-requires-clause-order
range_of-children-requires-clause-order c =
    (LieWithin-row (length c.self.inside.links.items) c.self.inside.rows.items c.args.id c.index-row.result.now c.index-row.ensures c.self.invariant.within (omega arith)).0

pub range_of-children-requires-clause-within : goal.range_of-children-requires-clause-within
range_of-children-requires-clause-within c =
    let inside : c.index-row.result.now.end ≤ length c.self.inside.links.items =
    (LieWithin-row (length c.self.inside.links.items) c.self.inside.rows.items c.args.id c.index-row.result.now c.index-row.ensures c.self.invariant.within (omega arith)).1 in
    omega (arith, inside, ap (length {A = Option ℕ}) c.as_slice.ensures.value)

pub returns-clause-child : goal.returns-clause-child
returns-clause-child c =
    subst (λ (p : Plant). c.child_in.result ≡ child_of p.branches c.args.id c.args.place) c.self.view_is
    (c.child_in.ensures
    ∙ ap (λ cs. child_at cs c.args.place)
    (c.range_of-children.ensures ∙ ap (λ ls. slice_range ls c.index-row.result.now.start c.index-row.result.now.end) c.as_slice.ensures.value)
    ∙ sym (child_of-row c.self.inside.links.items c.self.inside.rows.items c.args.id c.args.place c.index-row.result.now c.index-row.ensures (omega arith)))

pub returns-clause-above : goal.returns-clause-above
returns-clause-above c =
    let as_many : length (branches_at c.self.inside.links.items c.self.inside.rows.items) ≡ length c.self.inside.rows.items =
    length-map c.self.inside.rows.items (branch_at c.self.inside.links.items) in
    let found : c.child_in.result ≡ child_of (branches_at c.self.inside.links.items c.self.inside.rows.items) c.args.id c.args.place =
    c.child_in.ensures
    ∙ ap (λ cs. child_at cs c.args.place)
    (c.range_of-children.ensures ∙ ap (λ ls. slice_range ls c.index-row.result.now.start c.index-row.result.now.end) c.as_slice.ensures.value)
    ∙ sym (child_of-row c.self.inside.links.items c.self.inside.rows.items c.args.id c.args.place c.index-row.result.now c.index-row.ensures (omega arith)) in
    let follow : IfSome (child_of (branches_at c.self.inside.links.items c.self.inside.rows.items) c.args.id c.args.place) (λ n. (c.args.id < n) × (n < length c.self.inside.rows.items)) =
    ChildrenFollow-child (length c.self.inside.rows.items) (branches_at c.self.inside.links.items c.self.inside.rows.items) c.args.id c.args.place c.args.id c.self.invariant.follow (omega arith) (omega arith) in
    subst (λ (p : Plant). IfSome c.child_in.result (λ n. (c.args.id < n) × (n < length p.branches))) c.self.view_is
    (subst (λ (o : Option ℕ). IfSome o (λ n. (c.args.id < n) × (n < length (branches_at c.self.inside.links.items c.self.inside.rows.items)))) (sym found)
    (subst (λ m. IfSome (child_of (branches_at c.self.inside.links.items c.self.inside.rows.items) c.args.id c.args.place) (λ n. (c.args.id < n) × (n < m))) (sym as_many) follow))
