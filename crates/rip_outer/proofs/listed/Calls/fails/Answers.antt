use Rattle.std.proofs.Common.{◌≡◌, ◌+◌, ◌≤◌, subst, sym, arith, min}
use Rattle.rip_outer.specs.Calls.{failures_left}
use Rattle.rip_outer.proofs.Telling.{failures_fewer, failures_at}
use Rattle.rip_outer.proofs.listed.Calls.fails.Goals as goal

pub returns-clause-fewer : goal.returns-clause-fewer
returns-clause-fewer c = λ fails.
    let fits = c.is_listed-fails.ensures.fits fails in
    let next : c.saturating_add-self.result ≡ c.args.self.now.made + 1 = omega arith in
    rw next (failures_fewer c.args.self.now.made c.args.self.now.failing (c.is_listed-fails.ensures.listed.0 fails))

pub returns-clause-later : goal.returns-clause-later
returns-clause-later c = failures_at c.args.self.now.made c.saturating_add-self.result c.args.self.now.failing (omega arith)
