use Rattle.std.proofs.Common.{ap, ◌∙◌, ◌++◌, subst}
use Rattle.rip_trace.specs.Said.{ended_line, opening_lines}
use Rattle.rip_session.proofs.OpeningLemmas.{on-ok}
use Rattle.rip_wire.specs.declared.ending.Reason.{Reason}
use Rattle.rip_drive.specs.Drivers.{IsDriven}
use Rattle.rip_drive.specs.Drivers as drivers
use Rattle.rip_drive.specs.Driving.{stop_reason}
use Rattle.rip_drive.proofs.Drives.{opened_refused}
use Rattle.rip_drive.proofs.Traces.{on-err}
use Rattle.rip_drive.proofs.driver.open_and_tell.Goals as goal

pub returns-in-Fine-clause-told : goal.returns-in-Fine-clause-told
returns-in-Fine-clause-told g c =
    let old = c.in_ok-write_opening.ensures ∙ ap (λ t. t ++ opening_lines 0) c.new-text.ensures in
    on-ok c.tell_all.result (λ text is. drivers.goes_on c.in_ok-play_opening.field-0 c.play_opening.new.self c.play_opening.new.store c.in_ok-play_opening.ensures c.in-Fine.is
    (subst (λ t. IsDriven g.A.Actor.session c.play_opening.new.self c.play_opening.new.store c.args.gestures.now t text) old is)) c.tell_all.ensures.told

pub returns-in-Fine-clause-refused : goal.returns-in-Fine-clause-refused
returns-in-Fine-clause-refused g c =
    on-err c.tell_all.result (λ why. opened_refused g.A.Actor.session g.A.Openable.opens c.args.actor c.play_opening.new.self c.args.store c.play_opening.new.store c.in_ok-play_opening.field-0 c.args.gestures.now why
    c.in_ok-play_opening.ensures c.in-Fine.is) c.tell_all.ensures.refused

pub returns-in_ok-write_ended-in-Stopped-clause-told : goal.returns-in_ok-write_ended-in-Stopped-clause-told
returns-in_ok-write_ended-in-Stopped-clause-told g c =
    let old = c.in_ok-write_opening.ensures ∙ ap (λ t. t ++ opening_lines 0) c.new-text.ensures in
    drivers.stops c.in_ok-play_opening.field-0 c.play_opening.new.self c.play_opening.new.store c.in-Stopped.item c.in-Stopped.stop c.in_ok-play_opening.ensures c.in-Stopped.is
    (c.into_bytes.ensures ∙ c.in_ok-write_ended-in-Stopped.ensures ∙ ap (λ (r : Reason). c.write_opening.new.text ++ ended_line r 0) c.reason_of.ensures ∙ ap (λ t. t ++ ended_line (stop_reason c.in-Stopped.stop) 0) old)
