use Rattle.std.proofs.Common.{◌≡◌, ◌≤◌, ◌∙◌, [], sym, ap, subst, length, Option, ℕ, arith}
use Rattle.std.specs.Prelude.{slice_range}
use Rattle.rip_tree.specs.Branches.{Plant, links_of}
use Rattle.rip_tree.proofs.Reading.{LieWithin-row, links_of-none, links_of-row}
use Rattle.rip_tree.proofs.tree.Tree.children.Goals as goal

pub returns-then-id-len : goal.returns-then-id-len
returns-then-id-len c =
    subst (λ (p : Plant). [] ≡ links_of p.branches c.args.id) c.self.view_is
    (sym (links_of-none c.self.inside.links.items c.self.inside.rows.items c.args.id (omega arith)))

pub range_of-requires-clause-order : goal.range_of-requires-clause-order
range_of-requires-clause-order c =
    (LieWithin-row (length c.self.inside.links.items) c.self.inside.rows.items c.args.id c.index-own.result.now c.index-own.ensures c.self.invariant.within (omega arith)).0

pub range_of-requires-clause-within : goal.range_of-requires-clause-within
range_of-requires-clause-within c =
    let inside : c.index-own.result.now.end ≤ length c.self.inside.links.items =
    (LieWithin-row (length c.self.inside.links.items) c.self.inside.rows.items c.args.id c.index-own.result.now c.index-own.ensures c.self.invariant.within (omega arith)).1 in
    omega (arith, inside, ap (length {A = Option ℕ}) c.as_slice.ensures.value)

pub returns : goal.returns
returns c =
    subst (λ (p : Plant). c.range_of.result.now ≡ links_of p.branches c.args.id) c.self.view_is
    (c.range_of.ensures
    ∙ ap (λ ls. slice_range ls c.index-own.result.now.start c.index-own.result.now.end) c.as_slice.ensures.value
    ∙ sym (links_of-row c.self.inside.links.items c.self.inside.rows.items c.args.id c.index-own.result.now c.index-own.ensures (omega arith)))
