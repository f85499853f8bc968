use Rattle.std.proofs.Common.{◌≡◌, ◌+◌, ◌-◌, ap, arith, rules}
use Rattle.rip_eval_rows.specs.Law.{Standing}
use Rattle.rip_eval_rows.specs.Stack.{framed, last_values, without_last}
use Rattle.rip_eval_rows.proofs.Nested.{at_last, inside_nested}
use Rattle.rip_eval_rows.proofs.run.Run.depth.Goals as goal

pub returns-in-Some-clause-within : goal.returns-in-Some-clause-within
returns-in-Some-clause-within c =
    let inside = c.self.inside in
    let os = inside.stack.frames in
    let most = inside.depth + 1 in
    let nested = inside_nested most inside.control os c.self.invariant.inside in
    let last = at_last most os (without_last os) (framed c.in-Some.frame.now (last_values os)) c.in-Some.ensures nested in
    let depth : inside.depth ≡ c.args.self.now.depth = ap (λ (m : Standing). m.depth) c.self.view_is in
    let r : c.saturating_sub-in-Some.result ≡ (inside.depth + 1) - c.in-Some.frame.now.at.room = search rules in
    omega (arith, last.2, depth, r)
