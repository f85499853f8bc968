use Rattle.std.proofs.Common.{◌≡◌, refl, sym, subst, rules}
use Rattle.rip_drive.proofs.Legal.{gestures_legal}
use Rattle.rip_drive.specs.Driving.{IsRefusal}
use Rattle.rip_cli.specs.declared.input.Input.TheVariants.{Drive}
use Rattle.rip_cli.specs.declared.refusal.Refusal.TheVariants.{Gestures}
use Rattle.rip_cli.specs.Content.{content_bytes}
use Rattle.rip_cli.specs.Service.{IsTraceOf}
use Rattle.rip_cli.proofs.FileLemmas.{app_cause, gestures_cause, has_gestures, illegal_cause, is_app}
use Rattle.rip_cli.proofs.SettleLemmas.{refusal_settles, trace_settles}
use Rattle.rip_cli.proofs.top.settle_drive.Goals as goal

pub returns-in-Err-clause-settles : goal.returns-in-Err-clause-settles
returns-in-Err-clause-settles g c = λ rest.
    let i = Drive c.args.files.now in
    refusal_settles i rest _ _ _ _ c.refuse.result c.in-Err.refusal (app_cause i c.args.files.now.app c.in-Err.refusal refl c.requires c.in-Err.ensures.refused) c.refuse.ensures.put c.refuse.ensures.counted

pub returns-in-Err-load_gestures-clause-settles : goal.returns-in-Err-load_gestures-clause-settles
returns-in-Err-load_gestures-clause-settles g c = λ rest.
    let files = c.args.files.now in
    let app = is_app (Drive files) files.app c.in-Ok.app refl c.requires c.in-Ok.ensures.loaded in
    refusal_settles (Drive files) rest _ _ _ _ c.refuse-in-Err-load_gestures.result c.in-Err-load_gestures.refusal
    (gestures_cause files c.in-Ok.app c.in-Err-load_gestures.refusal c.requires app c.in-Err-load_gestures.ensures.refused)
    c.refuse-in-Err-load_gestures.ensures.put c.refuse-in-Err-load_gestures.ensures.counted

pub drive-requires : goal.drive-requires
drive-requires g c = gestures_legal (content_bytes c.args.files.now.third) c.in-Ok-load_gestures.gestures c.in-Ok-load_gestures.ensures.read

pub returns-in-Ok-drive-clause-settles : goal.returns-in-Ok-drive-clause-settles
returns-in-Ok-drive-clause-settles g c = λ rest.
    let files = c.args.files.now in
    let same : c.as_slice.result.now ≡ c.in-Ok-drive.trace = search rules in
    trace_settles files rest _ _ _ _ c.put_line.result c.as_slice.result.now
    (subst (λ text. IsTraceOf files text) (sym same) (record {
      app = c.in-Ok.app;
      is_app = is_app (Drive files) files.app c.in-Ok.app refl c.requires c.in-Ok.ensures.loaded;
      gestures = c.in-Ok-load_gestures.gestures;
      has = has_gestures files c.in-Ok-load_gestures.gestures c.requires c.in-Ok-load_gestures.ensures.read;
      driven = c.in-Ok-drive.ensures.told;
    }))
    c.put_line.ensures.put c.put_line.ensures.counted

pub returns-in-Err-Line-clause-settles : goal.returns-in-Err-Line-clause-settles
returns-in-Err-Line-clause-settles g c = λ rest.
    let files = c.args.files.now in
    let refused = subst (λ cause. IsRefusal c.in-Ok.app c.in-Ok-load_gestures.gestures cause) c.in-Err-Line.field-0-is c.in-Err-Line.ensures.refused in
    refusal_settles (Drive files) rest _ _ _ _ c.refuse-in-Err-Line.result (Gestures c.in-Err-Line.line)
    (illegal_cause files c.in-Ok.app c.in-Ok-load_gestures.gestures refused.0 c.in-Err-Line.line c.requires
    (is_app (Drive files) files.app c.in-Ok.app refl c.requires c.in-Ok.ensures.loaded) c.in-Ok-load_gestures.ensures.read refused.1)
    c.refuse-in-Err-Line.ensures.put c.refuse-in-Err-Line.ensures.counted
