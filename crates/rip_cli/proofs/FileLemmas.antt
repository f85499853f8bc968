-- What files that are not too long say of the application, the trace and the gestures.
use Rattle.std.proofs.Common.{◌≡◌, ◌∷◌, ℕ, List, [], Some, None, codes, refl, inl, inr, subst, sym}
use Rattle.rip_app.specs.App.{Loaded, AppOf, IsAppRefusal}
use Rattle.rip_app.specs.declared.refusal.AppRefusal.{AppRefusal}
use Rattle.rip_trace.specs.Gestures.{AreGestures}
use Rattle.rip_trace.specs.Traces.{Given, IsTrace}
use Rattle.rip_trace.specs.declared.gestures.LinedGesture.{LinedGesture}
use Rattle.rip_wire.specs.Batches.{Contents}
use Rattle.rip_drive.specs.Driving.{DrivesApp}
use Rattle.rip_drive.specs.Driving as driving
use Rattle.rip_cli.specs.Content.{content_bytes}
use Rattle.rip_cli.specs.Lines.{app_line}
use Rattle.rip_cli.specs.Input.{IsApp, HasTrace, HasGestures, Refuses, RefusesApp, FitsAll, app_files, first_too_long}
use Rattle.rip_cli.specs.Steps.{IsAppCause, IsTraceCause, IsGesturesCause, IsRefusedBy, app_input, file_word, refusal_line}
use Rattle.rip_cli.specs.declared.input.Content.{Content}
use Rattle.rip_cli.specs.declared.input.Content.TheVariants.{Bytes, TooLong}
use Rattle.rip_cli.specs.declared.input.AppInput.{AppInput}
use Rattle.rip_cli.specs.declared.input.ThreeFiles.{ThreeFiles}
use Rattle.rip_cli.specs.declared.input.Input.{Input}
use Rattle.rip_cli.specs.declared.input.Input.TheVariants.{Check, Replay, Serve, Drive, Generate}
use Rattle.rip_cli.specs.declared.refusal.Refusal.{Refusal}
use Rattle.rip_cli.specs.declared.refusal.Refusal.TheVariants as refusal

-- the contents of files that are not too long
page_fits : (page manifest : Content) → first_too_long ((codes "page", page) ∷ (codes "app", manifest) ∷ []) ≡ None → page ≡ Bytes (content_bytes page)
page_fits (Bytes content) manifest fits = refl
page_fits TooLong manifest fits = cc

manifest_fits : (page manifest : Content) → first_too_long ((codes "page", page) ∷ (codes "app", manifest) ∷ []) ≡ None → manifest ≡ Bytes (content_bytes manifest)
manifest_fits (Bytes content) (Bytes more) fits = refl
manifest_fits (Bytes content) TooLong fits = cc
manifest_fits TooLong manifest fits = cc

front_fits : (word : List ℕ) (page manifest third : Content) → first_too_long ((codes "page", page) ∷ (codes "app", manifest) ∷ (word, third) ∷ []) ≡ None
    → first_too_long ((codes "page", page) ∷ (codes "app", manifest) ∷ []) ≡ None
front_fits word (Bytes content) (Bytes more) third fits = refl
front_fits word (Bytes content) TooLong third fits = cc
front_fits word TooLong manifest third fits = cc

last_fits : (word : List ℕ) (page manifest third : Content) → first_too_long ((codes "page", page) ∷ (codes "app", manifest) ∷ (word, third) ∷ []) ≡ None
    → third ≡ Bytes (content_bytes third)
last_fits word (Bytes content) (Bytes more) (Bytes last) fits = refl
last_fits word (Bytes content) (Bytes more) TooLong fits = cc
last_fits word (Bytes content) TooLong third fits = cc
last_fits word TooLong manifest third fits = cc

-- page and manifest of input that is not too long
same_files : (i files : AppInput) → Some i ≡ Some files → i ≡ files
same_files i files e = cc

abbrev Fit : AppInput → Type 0
Fit files = first_too_long (app_files files) ≡ None

app_fits : (i : Input) (files : AppInput) → app_input i ≡ Some files → FitsAll i → Fit files
app_fits (Check i) files e fits = subst Fit (same_files i files e) fits
app_fits (Replay i turns) files e fits = subst Fit (same_files i.app files e) (front_fits (codes "trace") i.app.page i.app.manifest i.third fits)
app_fits (Serve i turns) files e fits = subst Fit (same_files i files e) fits
app_fits (Drive i) files e fits = subst Fit (same_files i.app files e) (front_fits (codes "gestures") i.app.page i.app.manifest i.third fits)
app_fits (Generate n) files e fits = cc

-- they are the application that was loaded
pub is_app : (i : Input) (files : AppInput) (app : Loaded) → app_input i ≡ Some files → FitsAll i
    → AppOf (content_bytes files.page) (content_bytes files.manifest) app → IsApp files app
is_app i files app e fits application =
    record {
      page = content_bytes files.page;
      manifest = content_bytes files.manifest;
      is_page = page_fits files.page files.manifest (app_fits i files e fits);
      is_manifest = manifest_fits files.page files.manifest (app_fits i files e fits);
      application = application;
    }

-- or are refused
refuses_app : (i : Input) (files : AppInput) (cause : AppRefusal) (line : List ℕ) → app_input i ≡ Some files → FitsAll i
    → IsAppRefusal (content_bytes files.page) (content_bytes files.manifest) cause → app_line cause ≡ Some line → RefusesApp files line
refuses_app i files cause line e fits refused text =
    record {
      page = content_bytes files.page;
      manifest = content_bytes files.manifest;
      is_page = page_fits files.page files.manifest (app_fits i files e fits);
      is_manifest = manifest_fits files.page files.manifest (app_fits i files e fits);
      refusal = cause;
      refused = refused;
      text = text;
    }

-- the trace that was read
pub has_trace : (i : ThreeFiles) (turns : ℕ) (given : Given) → FitsAll (Replay i turns) → IsTrace (content_bytes i.third) given → HasTrace i given
has_trace i turns given fits gives =
    record { trace = content_bytes i.third; is_trace = last_fits (codes "trace") i.app.page i.app.manifest i.third fits; gives = gives }

-- the gestures that were read
pub has_gestures : (i : ThreeFiles) (gestures : List LinedGesture) → FitsAll (Drive i) → AreGestures (content_bytes i.third) gestures → HasGestures i gestures
has_gestures i gestures fits are =
    record { text = content_bytes i.third; is_text = last_fits (codes "gestures") i.app.page i.app.manifest i.third fits; are = are }

same_line : (line other : List ℕ) → Some line ≡ Some other → other ≡ line
same_line line other e = cc

app_refuses : (i : Input) (files : AppInput) (line : List ℕ) → app_input i ≡ Some files → FitsAll i → RefusesApp files line → Refuses i line
app_refuses (Check i) files line e fits refused = inr (fits, subst (λ f. RefusesApp f line) (sym (same_files i files e)) refused)
app_refuses (Replay i turns) files line e fits refused = inr (fits, inl (subst (λ f. RefusesApp f line) (sym (same_files i.app files e)) refused))
app_refuses (Serve i turns) files line e fits refused = inr (fits, subst (λ f. RefusesApp f line) (sym (same_files i files e)) refused)
app_refuses (Drive i) files line e fits refused = inr (fits, inl (subst (λ f. RefusesApp f line) (sym (same_files i.app files e)) refused))
app_refuses (Generate n) files line e fits refused = cc

-- the cause of a refusal refuses the input by its line
pub refuses_by : (i : Input) (r : Refusal) (line : List ℕ) → IsRefusedBy i r → refusal_line r ≡ Some line → Refuses i line
refuses_by i (refusal.TooLong file) line cause e = inl (file_word file, cause, same_line _ line e)
refuses_by i (refusal.Application cause) line because e =
    let files = because.1.0 in
    let has = because.1.1 in
    app_refuses i files line has because.0 (refuses_app i files cause line has because.0 because.1.2 e)
refuses_by (Check i) (refusal.Trace number) line cause e = absurd cause
refuses_by (Serve i turns) (refusal.Trace number) line cause e = absurd cause
refuses_by (Drive i) (refusal.Trace number) line cause e = absurd cause
refuses_by (Generate n) (refusal.Trace number) line cause e = absurd cause
refuses_by (Generate n) (refusal.Gestures number) line cause e = absurd cause
refuses_by (Check i) (refusal.Gestures number) line cause e = absurd cause
refuses_by (Replay i turns) (refusal.Gestures number) line cause e = absurd cause
refuses_by (Serve i turns) (refusal.Gestures number) line cause e = absurd cause
refuses_by (Drive i) (refusal.Gestures number) line because e = inr (
  because.0,
  inr (record { app = because.1.0; is_app = because.1.1; number = number; refused_at = because.1.2; text = same_line _ line e }),
)
refuses_by (Replay i turns) (refusal.Trace number) line because e = inr (
  because.0,
  inr (record {
    app = because.1.0;
    is_app = because.1.1;
    trace = content_bytes i.third;
    is_trace = last_fits (codes "trace") i.app.page i.app.manifest i.third because.0;
    number = number;
    refused = because.2;
    text = same_line _ line e;
  }),
)
refuses_by i refusal.Memory line cause e = cc

-- why the application is refused is why the input is
pub app_cause : (i : Input) (files : AppInput) (r : Refusal) → app_input i ≡ Some files → FitsAll i → IsAppCause files r → IsRefusedBy i r
app_cause i files (refusal.TooLong file) e fits cause = absurd cause
app_cause i files (refusal.Application cause') e fits cause = (fits, (files, e, cause))
app_cause i files (refusal.Trace line) e fits cause = absurd cause
app_cause i files (refusal.Gestures line) e fits cause = absurd cause
app_cause i files refusal.Memory e fits cause = tt

-- and why the trace is, where there is an application
pub trace_cause : (i : ThreeFiles) (turns : ℕ) (app : Loaded) (r : Refusal) → FitsAll (Replay i turns) → IsApp i.app app → IsTraceCause i r
    → IsRefusedBy (Replay i turns) r
trace_cause i turns app (refusal.TooLong file) fits is cause = absurd cause
trace_cause i turns app (refusal.Application cause') fits is cause = absurd cause
trace_cause i turns app (refusal.Trace line) fits is cause = (fits, (app, is), cause)
trace_cause i turns app (refusal.Gestures line) fits is cause = absurd cause
trace_cause i turns app refusal.Memory fits is cause = tt

-- and why the gestures are, in their spelling
pub gestures_cause : (i : ThreeFiles) (app : Loaded) (r : Refusal) → FitsAll (Drive i) → IsApp i.app app → IsGesturesCause i r → IsRefusedBy (Drive i) r
gestures_cause i app (refusal.TooLong file) fits is cause = absurd cause
gestures_cause i app (refusal.Application cause') fits is cause = absurd cause
gestures_cause i app (refusal.Trace line) fits is cause = absurd cause
gestures_cause i app (refusal.Gestures line) fits is cause = (
  fits,
  (app, is, inl (record { text = content_bytes i.third; is_text = last_fits (codes "gestures") i.app.page i.app.manifest i.third fits; none = cause })),
)
gestures_cause i app refusal.Memory fits is cause = tt

-- or as they are driven
pub illegal_cause : (i : ThreeFiles) (app : Loaded) (gestures : List LinedGesture) (batches : List Contents) (line : ℕ) → FitsAll (Drive i) → IsApp i.app app
    → AreGestures (content_bytes i.third) gestures → DrivesApp app gestures batches (driving.refused line) → IsRefusedBy (Drive i) (refusal.Gestures line)
illegal_cause i app gestures batches line fits is are drives =
    (fits, (app, is, inr (record { gestures = gestures; has = has_gestures i gestures fits are; batches = batches; drives = drives })))
