-- The session in its seat.
use Rattle.std.proofs.Common.{ap, ◌∙◌, sym, subst, None, Some}
use Rattle.std.specs.Prelude.{option_and_then, is_some, IfSome}
use Rattle.rip_table.specs.Rolls.{IsLiveAt, seats}
use Rattle.rip_table.specs.Seats.{session_in}
use Rattle.rip_table.proofs.RollLemmas.{ordinal_is}
use Rattle.rip_table.proofs.TellLemmas.{lives_told, session_stands}
use Rattle.rip_table.proofs.roll.roll.Roll.session.Goals as goal

pub returns-in-Some-clause-session : goal.returns-in-Some-clause-session
returns-in-Some-clause-session g c =
    c.session.ensures ∙ ap (option_and_then session_in) (c.in-Some.ensures ∙ ordinal_is (seats c.args.self.now) c.args.ordinal)

pub returns-in-Some-clause-lives : goal.returns-in-Some-clause-lives
returns-in-Some-clause-lives g c = λ limit h k.
    ap is_some c.session.ensures ∙ lives_told limit c.args.self.now h c.args.ordinal (Some c.in-Some.seat.now) c.in-Some.ensures k

pub returns-in-Some-clause-stands : goal.returns-in-Some-clause-stands
returns-in-Some-clause-stands g c = λ sessions limit h stages is.
    let stands = g.S.Sessions.stands sessions in
    let m = g.S.Sessions.meaning sessions in
    subst (λ o. IfSome o (IsLiveAt stands m c.args.ordinal stages)) (sym c.session.ensures)
    (session_stands stands m limit c.args.self.now h stages c.args.ordinal (Some c.in-Some.seat.now) c.in-Some.ensures is)

pub returns-in-None-clause-session : goal.returns-in-None-clause-session
returns-in-None-clause-session g c = ap (option_and_then session_in) (c.in-None.ensures ∙ ordinal_is (seats c.args.self.now) c.args.ordinal)

pub returns-in-None-clause-lives : goal.returns-in-None-clause-lives
returns-in-None-clause-lives g c = λ limit h k. lives_told limit c.args.self.now h c.args.ordinal None c.in-None.ensures k
