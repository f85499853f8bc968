use Rattle.std.proofs.Common.{rules, ◌≡◌, ◌-◌, length, take, ap, ◌∙◌, arith}
use Rattle.rip_parser.proofs.Reducing.{others-popped}
use Rattle.rip_parser.proofs.machine.Machine.end_operator.Goals as goal

pub returns : goal.returns
returns c =
    let items = c.self.inside.stack.items in
    let long : c.self.inside.stack.len ≡ length items = omega (arith, c.self.inside.stack.ok.0) in
    let gone = others-popped items c.pop.new.self.items (c.pop.ensures.rest ∙ ap (λ n. take (n - 1) items) long) in
    search rules
