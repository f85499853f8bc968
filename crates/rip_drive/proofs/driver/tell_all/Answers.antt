use Rattle.std.proofs.Common.{◌∙◌, ◌++◌, ap, arith, refl, subst, sym}
use Rattle.std.specs.Prelude.{◌≡◌, IfErr, None, Option}
use Rattle.std.proofs.lemmas.Result.{err_from_is_err_and}
use Rattle.rip_eval_rows.specs.declared.completion.Stop.{Stop}
use Rattle.rip_client.specs.Sizes.{IsGesture}
use Rattle.rip_trace.specs.Said.{ended_line}
use Rattle.rip_trace.specs.declared.gestures.LinedGesture.{LinedGesture}
use Rattle.rip_wire.specs.declared.ending.Reason.{Reason}
use Rattle.rip_drive.specs.declared.driver.Driver.{Driver}
use Rattle.rip_drive.specs.Drivers.{IsDriven, IsRefused, TellsSo}
use Rattle.rip_drive.proofs.Drives.{at_err, at_none, driven_refused, driven_stopped, driven_whole, leads_nothing, reads_more}
use Rattle.rip_drive.proofs.driver.tell_all.Goals as goal

pub loop-lined-init : goal.loop-lined-init
loop-lined-init g c = (leads_nothing g.A.Actor.session (record { client = c.new.result; store = c.args.store; text = c.args.text }) c.args.gestures.now, c.new.ensures.over)

pub tell-requires-clause-gesture : goal.tell-requires-clause-gesture
tell-requires-clause-gesture g c =
    subst (λ (l : LinedGesture). IsGesture l.gesture) (sym c.lined-item.is) (c.requires c.loop-lined.lined-index c.lined-item.result (omega arith))

pub returns-in_err-stop-clause-refused : goal.returns-in_err-stop-clause-refused
returns-in_err-stop-clause-refused g c =
    let x = g.A.Actor.session in
    let start : Driver g.row.A.Denot = record { client = c.new.result; store = c.args.store; text = c.args.text } in
    at_err (λ r. IfErr r (λ why. IsRefused x c.args.actor c.args.store c.args.gestures.now why)) c.from_residual.result c.in_err-stop.field-0.0
    (err_from_is_err_and c.from_residual.result c.from_residual.ensures.1)
    (driven_refused x c.args.actor c.args.store c.args.text start c.loop-lined.driver c.args.gestures.now c.loop-lined.lined-index c.lined-item.result c.in_err-stop.field-0.0
    (record { actor = c.new.ensures.actor; store = refl; number = c.new.ensures.number; waiting = c.new.ensures.waiting; text_is = refl })
    (omega arith) c.lined-item.is c.loop-lined.invariant.0 c.in_err-stop.ensures.refused)

pub returns-in-Some-clause-told : goal.returns-in-Some-clause-told
returns-in-Some-clause-told g c =
    let x = g.A.Actor.session in
    let start : Driver g.row.A.Denot = record { client = c.new.result; store = c.args.store; text = c.args.text } in
    let told = subst (λ (o : Option Stop). TellsSo x c.lined-item.result c.loop-lined.driver c.tell.new.self o) c.in-Some.is c.in_ok-stop.ensures.told in
    driven_stopped x c.args.actor c.args.store c.args.text start c.loop-lined.driver c.tell.new.self c.args.gestures.now c.loop-lined.lined-index c.lined-item.result c.in-Some.stop c.into_bytes.result
    (record { actor = c.new.ensures.actor; store = refl; number = c.new.ensures.number; waiting = c.new.ensures.waiting; text_is = refl })
    (omega arith) c.lined-item.is c.loop-lined.invariant.0 told
    (c.into_bytes.ensures ∙ c.in_ok-write_ended.ensures ∙ ap (λ (r : Reason). c.tell.new.self.text ++ ended_line r c.lined-item.result.line) c.reason_of.ensures)

pub loop-lined-preserved : goal.loop-lined-preserved
loop-lined-preserved g c =
    let x = g.A.Actor.session in
    let start : Driver g.row.A.Denot = record { client = c.new.result; store = c.args.store; text = c.args.text } in (
      reads_more x start c.loop-lined.driver c.tell.new.self c.args.gestures.now c.loop-lined.lined-index c.lined-item.result
          (omega arith) c.lined-item.is c.loop-lined.invariant.0 (at_none (λ o. TellsSo x c.lined-item.result c.loop-lined.driver c.tell.new.self o) c.in_ok-stop.field-0 c.in_default.not-Some c.in_ok-stop.ensures.told),
      at_none (λ o. o ≡ None → c.tell.new.self.client.over ≡ None) c.in_ok-stop.field-0 c.in_default.not-Some c.in_ok-stop.ensures.on refl,
    )

pub returns-clause-told : goal.returns-clause-told
returns-clause-told g c =
    let x = g.A.Actor.session in
    let start : Driver g.row.A.Denot = record { client = c.new.result; store = c.args.store; text = c.args.text } in
    subst (λ t. IsDriven x c.args.actor c.args.store c.args.gestures.now c.args.text t) (sym c.into_bytes-2.ensures)
    (driven_whole x c.args.actor c.args.store c.args.text start c.loop-lined.driver c.args.gestures.now c.loop-lined.lined-index
    (record { actor = c.new.ensures.actor; store = refl; number = c.new.ensures.number; waiting = c.new.ensures.waiting; text_is = refl })
    (omega arith) c.loop-lined.invariant.0)
