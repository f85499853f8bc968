use Rattle.std.proofs.Common.{◌≡◌, ◌<◌, ◌∙◌, length, vec_capacity, List, sym, ap, subst, arith}
use Rattle.std.specs.Prelude.{slice_set}
use Rattle.rip_forms.specs.declared.state.ControlState.{ControlState}
use Rattle.rip_forms.specs.States.{States, state_at, state_with, states_with}
use Rattle.rip_forms.specs.Kept.{filled}
use Rattle.rip_forms.proofs.StateLemmas.{AreReserved-set, filled-set, filled-length}
use Rattle.rip_forms.proofs.state.Forms.set.Goals as goal

pub returns : goal.returns
returns c =
    let below : c.args.n < c.self.inside.room =
    omega (arith, subst (λ (f : States). c.args.n < length f.nodes) (sym c.self.view_is) c.requires, filled-length c.self.inside.room c.self.inside.states.items, c.self.invariant.within) in
    rw (← c.self.view_is)
    (ap (λ (ns : List ControlState). record { nodes = ns; before_click = c.self.inside.before_click })
    (filled-set c.self.inside.room c.args.n c.self.inside.states.items c.put_state.new.states.items c.state_with-state.result c.self.invariant.within below c.put_state.ensures.put
    ∙ ap (slice_set (filled c.self.inside.room c.self.inside.states.items) c.args.n)
    (c.state_with-state.ensures ∙ ap (state_with c.args.set) (c.state.ensures ∙ ap (λ (f : States). state_at f c.args.n) (sym c.self.view_is)))))

pub invariant_of-self : goal.invariant_of-self
invariant_of-self c =
    let below : c.args.n < c.self.inside.room =
    omega (arith, subst (λ (f : States). c.args.n < length f.nodes) (sym c.self.view_is) c.requires, filled-length c.self.inside.room c.self.inside.states.items, c.self.invariant.within) in
    AreReserved-set c.self.inside.room c.args.n (vec_capacity c.self.inside.states) (vec_capacity c.put_state.new.states) c.self.inside.states.items c.put_state.new.states.items c.state_with-state.result c.self.invariant below c.put_state.ensures.put c.put_state.ensures.room
