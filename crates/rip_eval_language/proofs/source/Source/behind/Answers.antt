use Rattle.std.proofs.Common.{◌≡◌, ◌+◌, ◌∙◌, ap, arith, subst}
use Rattle.rip_tree.specs.Program.{ChildrenAreCounted}
use Rattle.rip_eval_language.specs.Reading.{Loaded, children_from}
use Rattle.rip_eval_language.proofs.Children.{child_behind, children_behind}
use Rattle.rip_eval_language.proofs.source.Source.behind.Goals as goal

pub returns : goal.returns
returns c =
    let p = c.args.self.now in
    let next = c.saturating_add.result in
    let place = c.args.place + c.args.by in
    let counted = subst ChildrenAreCounted (ap (λ (p : Loaded). p.code) c.self.view_is) c.children_are_counted.ensures in
    record {
      place = c.saturating_add.ensures;
      next = λ id.
          let before : next ≡ next + 0 = omega arith in
          let behind : place + 0 ≡ place = omega arith in
          ap (children_from p id) before ∙ children_behind p place next 0 counted c.saturating_add.ensures id ∙ ap (children_from p id) behind;
      child = child_behind p place next counted c.saturating_add.ensures;
      further = children_behind p place next 1 counted c.saturating_add.ensures;
    }
