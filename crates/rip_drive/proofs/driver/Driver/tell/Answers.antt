use Rattle.std.proofs.Common.{◌∙◌, List, ◌∷◌, ◌++◌, ap, subst}
use Rattle.std.proofs.lemmas.Result.{err_from_is_err_and}
use Rattle.rip_client.specs.Bytes.{batches_of}
use Rattle.rip_trace.specs.declared.gestures.LinedGesture.{LinedGesture}
use Rattle.std.specs.Prelude.{IfErr}
use Rattle.rip_drive.specs.Drivers.{EndsSo, RefusesFrom}
use Rattle.rip_drive.specs.Driving.{batch_lines}
use Rattle.rip_drive.proofs.Drives.{at_err, fine_goes_on, refuses_so, tells_so}
use Rattle.rip_drive.proofs.driver.Driver.tell.Goals as goal

pub gesture-told-requires : goal.gesture-told-requires
gesture-told-requires g c = c.requires.gesture

pub returns-in_err-stop-clause-refused : goal.returns-in_err-stop-clause-refused
returns-in_err-stop-clause-refused g c =
    let x = g.A.Actor.session in
    let old = c.args.self.now in
    let new = record old { client = c.gesture-told.new.self; store = c.gesture-told.new.giver } in
    let lined = c.args.lined.now in
    at_err (λ r. IfErr r (λ why. (others : List LinedGesture) → RefusesFrom x old (lined ∷ others) why)) c.from_residual.result c.in_err-stop.field-0.0
    (err_from_is_err_and c.from_residual.result c.from_residual.ensures.1)
    (refuses_so x old new lined c.gesture-told.result.how c.in_err-stop.field-0.0 (batches_of c.gesture-told.result.batches.items) (c.gesture-told.ensures.told c.requires.on) c.in_err-stop.ensures.refused)

pub returns-clause-told : goal.returns-clause-told
returns-clause-told g c =
    let x = g.A.Actor.session in
    let old = c.args.self.now in
    let new = record old { client = c.gesture-told.new.self; store = c.gesture-told.new.giver; text = c.write_batches.new.text } in
    tells_so x old new c.args.lined.now c.gesture-told.result.how c.in_ok-stop.stop (batches_of c.gesture-told.result.batches.items) (c.gesture-told.ensures.told c.requires.on)
    (c.in_ok-write_batches.ensures ∙ ap (λ bs. old.text ++ batch_lines (batches_of bs)) c.as_slice.ensures.value) c.in_ok-stop.ensures.told

pub returns-clause-on : goal.returns-clause-on
returns-clause-on g c none =
    c.gesture-told.ensures.over c.requires.on
    ∙ fine_goes_on c.gesture-told.result.how (subst (EndsSo c.gesture-told.result.how) none c.in_ok-stop.ensures.told)
