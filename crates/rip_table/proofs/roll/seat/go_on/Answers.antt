-- A slice makes this of what the session has.
use Rattle.std.proofs.Common.{refl}
use Rattle.rip_history.specs.declared.sessions.Made.{Made}
use Rattle.rip_table.specs.declared.roll.seat.Advanced.{Advanced}
use Rattle.rip_table.specs.declared.roll.seat.Living.{Living}
use Rattle.rip_table.specs.declared.roll.seat.Notes.{Notes}
use Rattle.rip_table.proofs.SliceLemmas.{emptied, living_slice}
use Rattle.rip_table.proofs.roll.seat.go_on.Goals as goal

pub returns : goal.returns
returns g c = λ st meant calls at undone replied.
    let old = c.args.living.now in
    let p = c.resume-progress in
    let notes : Notes = record { opening = old.notes.opening; told = old.notes.told; making = c.replace.new.dest } in
    let mid : Living g.row.S-Session.Denot = record { session = p.new.session; standing = old.standing; notes = notes } in
    let before : Made = record { entries = c.new.result; served = c.replace.result } in
    let advanced : Advanced = record { batch = old.standing.last; entries = p.new.made.entries; progress = p.result; legacy = c.settle-legacy.result } in
    living_slice (g.S.Sessions.stands c.args.sessions.now) (g.S.Sessions.meaning c.args.sessions.now) st meant calls c.args.slice.now
    old mid c.settle-legacy.new.living before p.new.made advanced (g.V.Service.replies_as p.new.service meant)
    refl refl refl (emptied c.replace.new.dest c.new-2.result c.replace.ensures.after c.new-2.ensures.items) c.new.ensures.items (λ i. (c.replace.ensures.value i).items)
    refl refl (p.ensures st meant calls at undone replied) c.settle-legacy.ensures
