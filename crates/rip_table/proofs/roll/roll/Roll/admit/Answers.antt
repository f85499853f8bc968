-- The roll with one more batch.
use Rattle.std.proofs.Common.{◌≡◌, ◌∙◌, ◌<◌, ap, subst, ℕ, List, false}
use Rattle.rip_wire.specs.Batches.{contents_of}
use Rattle.rip_table.specs.Walks.{Rises, among, all_in, IsAdded}
use Rattle.rip_table.specs.declared.roll.roll.Roll.{Roll}
use Rattle.rip_table.proofs.CallLemmas.{admitted_call, same_busy}
use Rattle.rip_table.proofs.roll.roll.Roll.admit.Goals as goal

pub returns-clause-admitted : goal.returns-clause-admitted
returns-clause-admitted g c = λ limit turn h stages s r standing admits.
    let done = c.in_ok-admit_at.ensures in
    let busy = ap all_in done.busy ∙ same_busy c.args.self.now.busy c.reserve.new.self c.reserve.ensures.items c.reserve.ensures.next c.reserve.ensures.kept in
    let n = c.args.session in
    let new : Roll g.row.T.Denot = record { table = c.admit_at.new.self.table; busy = c.add.new.self; limit = c.admit_at.new.self.limit } in
    admitted_call (g.S.Sessions.stands c.args.sessions.now) (g.S.Sessions.meaning c.args.sessions.now) (g.S.Sessions.lawful c.args.sessions.now)
    limit turn n (contents_of c.args.batch) c.args.self.now new h stages s r standing admits
    c.requires.sound.table done.table done.limit done.admitted
    (subst (λ (xs : List ℕ). Rises 0 xs → among n xs ≡ false → 0 < n → IsAdded n xs (all_in c.add.new.self)) busy c.add.ensures.added)
