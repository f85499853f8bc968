-- The roll with one more session.
use Rattle.std.proofs.Common.{◌≡◌, ◌∙◌, ◌<◌, ap, subst, ℕ, List, false}
use Rattle.rip_table.specs.Walks.{Rises, among, all_in, IsAdded}
use Rattle.rip_table.specs.declared.roll.roll.Roll.{Roll}
use Rattle.rip_table.proofs.CallLemmas.{opened_call, same_busy}
use Rattle.rip_table.proofs.roll.roll.Roll.open.Goals as goal

pub returns-clause-opened : goal.returns-clause-opened
returns-clause-opened g c = λ limit turn h stages r.
    let done = c.in_ok-session.ensures in
    let n = c.in_ok-session.session in
    let busy = ap all_in done.busy ∙ same_busy c.args.self.now.busy c.reserve.new.self c.reserve.ensures.items c.reserve.ensures.next c.reserve.ensures.kept in
    let new : Roll g.row.T.Denot = record { table = c.insert.new.self.table; busy = c.add.new.self; limit = c.insert.new.self.limit } in
    opened_call (g.S.Sessions.stands c.args.sessions.now) (g.S.Sessions.meaning c.args.sessions.now) (g.S.Sessions.lawful c.args.sessions.now)
    limit turn n c.args.id c.args.seed c.args.time c.args.self.now new h stages c.in_ok-seat.seat r
    c.requires.sound.table done.table done.opens done.ordinal c.in_ok-seat.ensures.opened c.in_ok-seat.ensures.stands
    (subst (λ (xs : List ℕ). Rises 0 xs → among n xs ≡ false → 0 < n → IsAdded n xs (all_in c.add.new.self)) busy c.add.ensures.added) done.limit
