use Rattle.std.proofs.Common.{◌≡◌, Option, Some, None, sym, ap, subst, ◌∙◌}
use Rattle.std.specs.Prelude.{codes, option_map}
use Rattle.rip_wire.specs.Batches.{contents_of}
use Rattle.rip_wire.specs.declared.item.Batch.{Batch}
use Rattle.rip_history.specs.Decisions.{batch_decision}
use Rattle.rip_history.specs.Requests.{Decision, error_body, on_batch_of, on_batch_to}
use Rattle.rip_history.specs.Standings.{standing_of}
use Rattle.rip_history.specs.declared.standing.Standing.{Standing}
use Rattle.rip_table.specs.Rolls.{IsRollOf}
use Rattle.rip_server.specs.Deciding.{ComesOr}
use Rattle.rip_server.proofs.DecidedLemmas.{refused_as}
use Rattle.rip_server.proofs.turn.decide.on_batch_to.Goals as goal

pub returns-in_default-clause-comes : goal.returns-in_default-clause-comes
returns-in_default-clause-comes g c = λ limit h stages roll.
    let s = g.S.Sessions in
    let n = c.args.session in
    let none : standing_of n h ≡ None = sym (c.standing.ensures limit h roll.kept) ∙ c.in_default.is in
    refused_as c.args.at.turn c.args.at.time 404 c.args.close (error_body (codes "session")) h stages
    (IsRollOf (s.stands c.args.sessions.now) (s.meaning c.args.sessions.now) limit c.args.roll.now)
    (on_batch_to n h (standing_of n h) (option_map contents_of c.args.asked)) c.refused.result
    (sym (ap (λ (o : Option Standing). on_batch_to n h o (option_map contents_of c.args.asked)) none))
    (c.refused.ensures c.args.at.turn c.args.at.time) roll

pub returns-in_default-asked-clause-comes : goal.returns-in_default-asked-clause-comes
returns-in_default-asked-clause-comes g c = λ limit h stages roll.
    let s = g.S.Sessions in
    let n = c.args.session in
    let st : Standing = c.in-Some.standing in
    let some : standing_of n h ≡ Some st = sym (c.standing.ensures limit h roll.kept) ∙ c.in-Some.is in
    refused_as c.args.at.turn c.args.at.time 400 c.args.close (error_body (codes "body")) h stages
    (IsRollOf (s.stands c.args.sessions.now) (s.meaning c.args.sessions.now) limit c.args.roll.now)
    (on_batch_to n h (standing_of n h) (option_map contents_of c.args.asked)) c.refused-in_default-asked.result
    (sym (ap (λ (o : Option Standing). on_batch_to n h o (option_map contents_of c.args.asked)) some
    ∙ ap (λ (a : Option Batch). on_batch_to n h (Some st) (option_map contents_of a)) c.in_default-asked.is))
    (c.refused-in_default-asked.ensures c.args.at.turn c.args.at.time) roll

pub returns-clause-comes : goal.returns-clause-comes
returns-clause-comes g c = λ limit h stages roll.
    let s = g.S.Sessions in
    let n = c.args.session in
    let st : Standing = c.in-Some.standing in
    let b : Batch = c.in-Some-asked.batch in
    let some : standing_of n h ≡ Some st = sym (c.standing.ensures limit h roll.kept) ∙ c.in-Some.is in
    let same : on_batch_of n h st (contents_of b) (batch_decision st b.number) ≡ on_batch_to n h (standing_of n h) (option_map contents_of c.args.asked) =
    sym (ap (λ (o : Option Standing). on_batch_to n h o (option_map contents_of c.args.asked)) some
    ∙ ap (λ (a : Option Batch). on_batch_to n h (Some st) (option_map contents_of a)) c.in-Some-asked.is) in
    let D : Decision → Type 0 = λ d.
    ComesOr c.args.at.turn c.args.at.time c.args.close h stages
    (IsRollOf (s.stands c.args.sessions.now) (s.meaning c.args.sessions.now) limit c.on_batch_of.new.roll) d c.on_batch_of.result in
    subst D same (c.on_batch_of.ensures.comes limit h stages roll some)
