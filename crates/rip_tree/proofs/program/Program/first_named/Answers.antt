use Rattle.std.proofs.Common.{◌≡◌, ◌≤◌, ◌∙◌, ap, sym, subst, arith}
use Rattle.rip_tree.specs.Firsts.{first_named, name_at}
use Rattle.rip_tree.specs.Joining.{grove_of}
use Rattle.rip_tree.specs.Program.{Code}
use Rattle.rip_tree.proofs.Naming.{firsts_have_names, noted_at, noted_past}
use Rattle.rip_tree.proofs.program.Program.first_named.Goals as goal

pub returns-then-id-len-clause-first : goal.returns-then-id-len-clause-first
returns-then-id-len-clause-first c =
    let p = c.self.inside in
    noted_past (grove_of p.trees) p.firsts.items c.args.id c.self.invariant.named (omega arith)
    ∙ ap (λ (code : Code). first_named code.grove c.args.id) c.self.view_is

pub returns-clause-first : goal.returns-clause-first
returns-clause-first c =
    let p = c.self.inside in
    c.index.ensures
    ∙ noted_at (grove_of p.trees) p.firsts.items c.args.id c.index.result.now c.self.invariant.named (omega arith)
    ∙ ap (λ (code : Code). first_named code.grove c.args.id) c.self.view_is

pub returns-clause-before : goal.returns-clause-before
returns-clause-before c =
    let p = c.self.inside in
    let is : c.index.result.now ≡ first_named (grove_of p.trees) c.args.id =
    c.index.ensures ∙ noted_at (grove_of p.trees) p.firsts.items c.args.id c.index.result.now c.self.invariant.named (omega arith) in
    subst (λ n. n ≤ c.args.id) (sym is) (firsts_have_names (grove_of p.trees) c.args.id).0

pub returns-clause-same : goal.returns-clause-same
returns-clause-same c =
    let p = c.self.inside in
    let is : c.index.result.now ≡ first_named (grove_of p.trees) c.args.id =
    c.index.ensures ∙ noted_at (grove_of p.trees) p.firsts.items c.args.id c.index.result.now c.self.invariant.named (omega arith) in
    subst (λ (code : Code). name_at code.grove c.index.result.now ≡ name_at code.grove c.args.id) c.self.view_is
    (ap (name_at (grove_of p.trees)) is ∙ (firsts_have_names (grove_of p.trees) c.args.id).1)
