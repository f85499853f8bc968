use Rattle.std.proofs.Common.{vec_capacity}
use Rattle.rip_forms.proofs.StateLemmas.{filled-room}
use Rattle.rip_forms.proofs.state.Forms.room.Goals as goal

pub returns : goal.returns
returns c = rw (← c.self.view_is) (filled-room c.self.inside.room (vec_capacity c.self.inside.states) c.self.inside.states.items c.self.invariant)
