use Rattle.std.proofs.Common.{◌≡◌, ◌+◌, ◌++◌, ◌∷◌, [], None, Some, length, refl, sym, ◌∙◌, ap, subst, arith}
use Rattle.std.proofs.lemmas.List.{nil_from_length}
use Rattle.rip_tree.specs.Branches.{AreBetween, links_of}
use Rattle.rip_script.specs.Texts.{child_lines, lines_below}
use Rattle.rip_script.proofs.Drawing.{are_open-more, children_before, children_follow, lines_absent, lines_closed, lines_opened, lines_start}
use Rattle.rip_script.proofs.draw.open_children.Goals as goal

pub loop-child-init : goal.loop-child-init
loop-child-init c =
    let bs = c.args.tree.now.branches in
    let all : c.into_iter-child-iterator.result.iter.rest.now ≡ links_of bs c.args.branch.id =
    ap (λ it. it.iter.rest.now) c.into_iter-child-iterator.ensures.into_iter_gives ∙ ap (λ it. it.rest.now) c.rev-child-items.ensures.source ∙ c.iter.ensures.rest ∙ c.children.ensures in
    record {
      lines = lines_start (child_lines (λ child. lines_below (length bs) bs (c.args.branch.level + 1) child)) _ _ _ all;
      follow = subst (λ cs. AreBetween c.args.branch.id (length bs) cs) (sym all) (children_follow bs c.args.branch.id c.count-count.ensures.follow);
      opened = c.requires.opened;
    }

pub loop-child-preserved-in-Continue-1 : goal.loop-child-preserved-in-Continue-1
loop-child-preserved-in-Continue-1 c =
    let bs = c.args.tree.now.branches in
    let before = c.next.new.self.iter.rest.now in
    let here = c.loop-child.child-iterator.iter.rest.now in
    let id = c.in-Some-child.id in
    let all : here ≡ before ++ Some id ∷ [] = c.in-Some.ensures.steps ∙ ap (λ child. before ++ child ∷ []) c.in-Some-child.is in
    let parts = children_before c.args.branch.id (length bs) here before (Some id) all c.loop-child.invariant.follow in
    record {
      lines = sym (lines_opened bs (child_lines (λ child. lines_below (length bs) bs (c.args.branch.level + 1) child)) here before c.loop-child.stack.items c.push.new.self.items (record { id = id; level = c.args.branch.level + 1 }) id all refl c.in_ok-push.ensures.items) ∙ c.loop-child.invariant.lines;
      follow = parts.0;
      opened = are_open-more bs c.loop-child.stack.items c.push.new.self.items (record { id = id; level = c.args.branch.level + 1 }) c.in_ok-push.ensures.items (record { there = parts.1.1; level = omega (arith, parts.1.0, c.requires.branch.level) }) c.loop-child.invariant.opened;
    }

pub loop-child-preserved : goal.loop-child-preserved
loop-child-preserved c =
    let bs = c.args.tree.now.branches in
    let before = c.next.new.self.iter.rest.now in
    let here = c.loop-child.child-iterator.iter.rest.now in
    let all : here ≡ before ++ None ∷ [] = c.in-Some.ensures.steps ∙ ap (λ child. before ++ child ∷ []) c.in_default.is in
    let parts = children_before c.args.branch.id (length bs) here before None all c.loop-child.invariant.follow in
    record {
      lines = sym (lines_absent (child_lines (λ child. lines_below (length bs) bs (c.args.branch.level + 1) child)) here before _ all refl) ∙ c.loop-child.invariant.lines;
      follow = parts.0;
      opened = c.loop-child.invariant.opened;
    }

pub returns-clause-lines : goal.returns-clause-lines
returns-clause-lines c =
    let none : c.loop-child.child-iterator.iter.rest.now ≡ [] = nil_from_length _ c.in-None.ensures.steps.0 in
    lines_closed c.args.tree.now.branches c.count-count.ensures.follow c.args.branch c.args.stack.now.items c.loop-child.stack.items c.loop-child.child-iterator.iter.rest.now c.requires.branch none c.loop-child.invariant.lines
