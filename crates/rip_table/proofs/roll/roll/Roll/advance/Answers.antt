-- The roll after a slice.
use Rattle.std.proofs.Common.{◌≡◌, ◌∙◌, ◌++◌, ◌∷◌, [], ℕ, List, cond, ap, refl}
use Rattle.rip_table.specs.Seats.{is_unfinished}
use Rattle.rip_table.specs.Walks.{passed, waiting_in}
use Rattle.rip_table.specs.declared.roll.roll.Roll.{Roll}
use Rattle.rip_table.proofs.CallLemmas.{advanced_call}
use Rattle.rip_table.proofs.roll.roll.Roll.advance.Goals as goal

pub returns-clause-went_on : goal.returns-clause-went_on
returns-clause-went_on g c = λ limit h stages meant r replied units.
    let n = c.args.slice.now.session in
    let rest = c.requires.next.0 in
    let a = c.advance_at-advanced in
    let old = c.args.self.now.busy in
    let before = passed old in
    let wait : waiting_in a.new.self.busy ≡ n ∷ rest = ap waiting_in a.ensures.busy ∙ c.requires.next.1 in
    let new : Roll g.row.T.Denot = record { table = a.new.self.table; busy = c.pass.new.self; limit = a.new.self.limit } in
    let went : passed c.pass.new.self ≡ cond (is_unfinished a.result.progress) (before ++ n ∷ []) before =
    c.pass.ensures.passed n rest wait ∙ (λ i. cond (c.is_busy.ensures i) (passed (a.ensures.busy i) ++ n ∷ []) (passed (a.ensures.busy i))) in
    advanced_call (g.S.Sessions.stands c.args.sessions.now) (g.S.Sessions.meaning c.args.sessions.now) (g.S.Sessions.lawful c.args.sessions.now)
    limit n before rest (passed c.pass.new.self) c.args.self.now new h stages meant c.args.slice.now a.result
    (g.V.Service.replies_as c.args.service.now meant) (g.V.Service.replies_as a.new.service meant) r
    c.requires.sound.table a.ensures.table refl units replied
    (ap (λ (t : List ℕ). before ++ t) c.requires.next.1)
    (ap (λ (t : List ℕ). passed c.pass.new.self ++ t) (c.pass.ensures.waiting n rest wait)) went a.ensures.limit
    (λ st calls seat live there undone done. a.ensures.advanced st meant calls seat live there undone done)
