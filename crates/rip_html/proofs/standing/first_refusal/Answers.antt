use Rattle.std.proofs.Common.{◌≤◌, ◌^◌, Option, sym, subst, arith}
use Rattle.rip_markup.specs.Within.{FaultWithin}
use Rattle.rip_markup.specs.declared.fault.Fault.{Fault}
use Rattle.rip_html.proofs.Reaching.{placed_there, refusal_within}
use Rattle.rip_html.proofs.standing.first_refusal.Goals as goal

pub shifted-requires : goal.shifted-requires
shifted-requires c =
    let x = c.placed-item.result in
    let there = placed_there (2 ^ 32) c.args.tokens.now c.loop-placed.placed-index x (omega arith) c.placed-item.is c.loop-placed.invariant.within in
    let within = refusal_within c.loop-placed.open x.token there.0 there.2 in
    let small : c.in-Some.fault.offset ≤ there.0 = subst (λ (o : Option Fault). FaultWithin o there.0) (sym c.in-Some.ensures) within in
    omega (arith, there.1, small)
