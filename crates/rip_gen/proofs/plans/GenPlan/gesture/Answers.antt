use Rattle.std.proofs.Common.{◌≡◌, ◌+◌, ◌-◌, ◌*◌, ◌≤◌, Some, length, slice_get, sym, subst}
use Rattle.rip_gen.specs.Plans.{Plan, place_of}
use Rattle.rip_gen.proofs.PlanLemmas.{at_place, place_low}
use Rattle.rip_gen.proofs.plans.GenPlan.gesture.Goals as goal

pub returns : goal.returns
returns c =
    let place = (c.args.round - 1) * c.self.inside.sessions + (c.args.session - 1) in
    let there : c.args.session ≤ c.self.inside.sessions = subst (λ (p : Plan). c.args.session ≤ p.sessions) (sym c.self.view_is) c.requires.there in
    let at = at_place c.self.inside.gestures.items place c.index.result.now (place_low c.args.round c.args.session c.self.inside.sessions (length c.self.inside.gestures.items) c.requires.first c.requires.last c.requires.from_one there c.self.invariant.0) c.index.ensures in
    subst (λ (p : Plan). slice_get p.gestures (place_of p c.args.round c.args.session) ≡ Some c.index.result.now) c.self.view_is at
