-- A run whose files are accepted does what the words ask for.
use Rattle.std.proofs.Common.{◌≡◌, ℕ, ◌<◌, ◌≤◌, ◌⊎◌, inl, inr, List, [], ◌∷◌, length, Option, Some, None, refl, sym, ap, ◌∙◌, subst, arith, codes}
use Rattle.std.specs.Prelude.{IsSomeAnd}
use Rattle.rip_outer.specs.Reading.{contents_of, longest_file}
use Rattle.rip_outer.specs.declared.reading.NamedFile.{NamedFile}
use Rattle.rip_words.specs.Commands.{Task, checks, replays, serves, drives, generates, IsTask}
use Rattle.rip_words.proofs.WordLemmas.{tasks}
use Rattle.rip_app.specs.App.{Loaded, AppOf, IsAppRefusal}
use Rattle.rip_app.specs.declared.refusal.AppRefusal.{AppRefusal}
use Rattle.rip_app.proofs.Answering.{has_one_app, is_never_both}
use Rattle.rip_trace.specs.Gestures.{AreGestures, HasNoLineAt}
use Rattle.rip_trace.proofs.GestureTexts.{gestures_one}
use Rattle.rip_drive.specs.Driving.{DrivesApp}
use Rattle.rip_drive.specs.Driving as driving
use Rattle.rip_trace.specs.Traces.{IsRefusedAt}
use Rattle.rip_cli.specs.Run.{Told, Ran}
use Rattle.rip_cli.specs.Lines.{app_line}
use Rattle.rip_cli.specs.Input.{IsContentOf, IsAppOf, AreThreeOf, IsInputOf, AreRefusedAt, Refuses, RefusesApp, RefusesGestures, RefusesTrace, first_too_long}
use Rattle.rip_cli.specs.Laws.{HasBytes, HoldApp, HoldGestures, HoldTrace, AreAccepted, AcceptedIsDone}
use Rattle.rip_cli.specs.declared.input.Content.{Content}
use Rattle.rip_cli.specs.declared.input.Content.TheVariants.{Bytes, TooLong}
use Rattle.rip_cli.specs.declared.input.AppInput.{AppInput}
use Rattle.rip_cli.specs.declared.input.ThreeFiles.{ThreeFiles}
use Rattle.rip_cli.specs.declared.input.Input.{Input}
use Rattle.rip_cli.specs.declared.input.Input.TheVariants.{Check, Replay, Serve, Drive, Generate}
use Rattle.rip_cli.specs.declared.status.Status.TheVariants.{BadWords, BadInput}
use Rattle.rip_trace.proofs.TraceLemmas.{refusals}

-- what was read of a file is what it holds
same_content : (files : List NamedFile) (name bytes : List ℕ) (content : Content) → HasBytes files name bytes → IsContentOf (Some files) name content → content ≡ Bytes bytes
same_content files name bytes (Bytes other) has is = let same : other ≡ bytes = cc in ap Bytes same
same_content files name bytes TooLong has is = absurd (short (contents_of files name) has.0 is)
  where
    short : (x : Option (List ℕ)) → x ≡ Some bytes → IsSomeAnd x (λ b. longest_file < length b) → ⊥
    short None held long = cc
    short (Some b) held long = let same : b ≡ bytes = cc in let small : length bytes ≤ longest_file = has.1 in let much : longest_file < length b = long in omega (arith, ap length same)

-- the line for a refusal is none for want of memory
no_line : (bytes manifest : List ℕ) (loaded : Loaded) (refusal : AppRefusal) (line : List ℕ) → AppOf bytes manifest loaded → IsAppRefusal bytes manifest refusal → app_line refusal ≡ Some line → ⊥
no_line bytes manifest loaded refusal line is so text =
    let memory = is_never_both bytes manifest loaded refusal is so in
    let none = sym (ap app_line memory) ∙ text in
    cc

same_bytes : (content : Content) (bytes other : List ℕ) → content ≡ Bytes bytes → content ≡ Bytes other → other ≡ bytes
same_bytes content bytes other one two = cc

-- no file is too long
none_long : (bytes more : List ℕ) (page manifest : Content) → page ≡ Bytes bytes → manifest ≡ Bytes more
    → first_too_long ((codes "page", page) ∷ (codes "app", manifest) ∷ []) ≡ None
none_long bytes more (Bytes x) (Bytes y) p m = refl
none_long bytes more TooLong manifest p m = cc
none_long bytes more page TooLong p m = cc

none_longer : (word bytes more last : List ℕ) (page manifest third : Content) → page ≡ Bytes bytes → manifest ≡ Bytes more → third ≡ Bytes last
    → first_too_long ((codes "page", page) ∷ (codes "app", manifest) ∷ (word, third) ∷ []) ≡ None
none_longer word bytes more last (Bytes x) (Bytes y) (Bytes z) p m t = refl
none_longer word bytes more last TooLong manifest third p m t = cc
none_longer word bytes more last page TooLong third p m t = cc
none_longer word bytes more last page manifest TooLong p m t = cc

some_long : (x : Option (List ℕ)) (word : List ℕ) → x ≡ None → x ≡ Some word → ⊥
some_long x word none some = cc

module _ (files : List NamedFile) (page manifest : List ℕ) (hold : HoldApp files page manifest) (i : AppInput) (contents : IsAppOf (Some files) page manifest i) where
  page_is : i.page ≡ Bytes hold.page_bytes
  page_is = same_content files page hold.page_bytes i.page hold.has_page contents.0

  manifest_is : i.manifest ≡ Bytes hold.manifest_bytes
  manifest_is = same_content files manifest hold.manifest_bytes i.manifest hold.has_manifest contents.1

  app_stands : (line : List ℕ) → RefusesApp i line → ⊥
  app_stands line refused =
      let one = same_bytes i.page hold.page_bytes refused.page page_is refused.is_page in
      let two = same_bytes i.manifest hold.manifest_bytes refused.manifest manifest_is refused.is_manifest in
      no_line hold.page_bytes hold.manifest_bytes hold.app refused.refusal line hold.is
      (subst (λ m. IsAppRefusal hold.page_bytes m refused.refusal) two (subst (λ b. IsAppRefusal b refused.manifest refused.refusal) one refused.refused)) refused.text

trace_stands : (files : List NamedFile) (trace : List ℕ) (hold : HoldTrace files trace) (i : ThreeFiles) (line : List ℕ)
    → i.third ≡ Bytes hold.bytes → RefusesTrace i line → ⊥
trace_stands files trace hold i line is refused =
    let same = same_bytes i.third hold.bytes refused.trace is refused.is_trace in
    refusals.no_trace hold.bytes refused.number hold.given hold.is (subst (λ b. IsRefusedAt b refused.number) same refused.refused)

both_stand : (files : List NamedFile) (page manifest trace : List ℕ) (app : HoldApp files page manifest) (hold : HoldTrace files trace) (i : ThreeFiles) (line : List ℕ)
    → AreThreeOf (Some files) page manifest trace i → RefusesApp i.app line ⊎ RefusesTrace i line → ⊥
both_stand files page manifest trace app hold i line contents (inl refused) = app_stands files page manifest app i.app contents.0 line refused
both_stand files page manifest trace app hold i line contents (inr refused) =
    trace_stands files trace hold i line (same_content files trace hold.bytes i.third hold.has contents.1) refused

-- gestures that are legal are not refused
gestures_stand : (files : List NamedFile) (page manifest gestures : List ℕ) (app : HoldApp files page manifest) (hold : HoldGestures files app.app gestures) (i : ThreeFiles) (line : List ℕ)
    → AreThreeOf (Some files) page manifest gestures i → RefusesApp i.app line ⊎ RefusesGestures i line → ⊥
gestures_stand files page manifest gestures app hold i line contents (inl refused) = app_stands files page manifest app i.app contents.0 line refused
gestures_stand files page manifest gestures app hold i line contents (inr refused) = by refused.refused_at
  where
    text_is : i.third ≡ Bytes hold.bytes
    text_is = same_content files gestures hold.bytes i.third hold.has contents.1

    loaded : AppOf app.page_bytes app.manifest_bytes refused.app
    loaded =
        let one = same_bytes i.app.page app.page_bytes refused.is_app.page (page_is files page manifest app i.app contents.0) refused.is_app.is_page in
        let two = same_bytes i.app.manifest app.manifest_bytes refused.is_app.manifest (manifest_is files page manifest app i.app contents.0) refused.is_app.is_manifest in
        subst (λ m. AppOf app.page_bytes m refused.app) two (subst (λ b. AppOf b refused.is_app.manifest refused.app) one refused.is_app.application)

    same_app : refused.app ≡ app.app
    same_app = has_one_app app.page_bytes app.manifest_bytes refused.app app.app loaded app.is

    by : AreRefusedAt refused.app i refused.number → ⊥
    by (inl none) =
        let same = same_bytes i.third hold.bytes none.text text_is none.is_text in
        gestures_one.either hold.bytes refused.number hold.gestures hold.are (subst (λ b. HasNoLineAt b refused.number) same none.none)
    by (inr illegal) =
        let same = same_bytes i.third hold.bytes illegal.has.text text_is illegal.has.is_text in
        let one : illegal.gestures ≡ hold.gestures = gestures_one.gestures hold.bytes illegal.gestures hold.gestures (subst (λ b. AreGestures b illegal.gestures) same illegal.has.are) hold.are in
        hold.legal illegal.batches refused.number
        (subst (λ a. DrivesApp a hold.gestures illegal.batches (driving.refused refused.number)) same_app (subst (λ gs. DrivesApp refused.app gs illegal.batches (driving.refused refused.number)) one illegal.drives))

not_refused : (files : List NamedFile) (task : Task) (input : Input) (line : List ℕ) → AreAccepted files task → IsInputOf (Some files) task input
    → Refuses input line → ⊥
not_refused files (checks page app) (Check i) line hold contents (inl long) =
    some_long _ long.0 (none_long hold.page_bytes hold.manifest_bytes i.page i.manifest (page_is files page app hold i contents) (manifest_is files page app hold i contents)) long.1
not_refused files (checks page app) (Check i) line hold contents (inr form) = app_stands files page app hold i contents line form.1
not_refused files (checks page app) (Replay i most) line hold contents refuses = contents
not_refused files (checks page app) (Serve i most) line hold contents refuses = contents
not_refused files (checks page app) (Drive i) line hold contents refuses = contents
not_refused files (replays page app trace turns) (Replay i most) line hold contents (inl long) =
    some_long _ long.0 (none_longer (codes "trace") hold.0.page_bytes hold.0.manifest_bytes hold.1.bytes i.app.page i.app.manifest i.third
    (page_is files page app hold.0 i.app contents.0.0) (manifest_is files page app hold.0 i.app contents.0.0)
    (same_content files trace hold.1.bytes i.third hold.1.has contents.0.1)) long.1
not_refused files (replays page app trace turns) (Replay i most) line hold contents (inr form) =
    both_stand files page app trace hold.0 hold.1 i line contents.0 form.1
not_refused files (replays page app trace turns) (Check i) line hold contents refuses = contents
not_refused files (replays page app trace turns) (Serve i most) line hold contents refuses = contents
not_refused files (replays page app trace turns) (Drive i) line hold contents refuses = contents
not_refused files (serves page app address turns) (Serve i most) line hold contents (inl long) =
    some_long _ long.0 (none_long hold.page_bytes hold.manifest_bytes i.page i.manifest (page_is files page app hold i contents.0) (manifest_is files page app hold i contents.0)) long.1
not_refused files (serves page app address turns) (Serve i most) line hold contents (inr form) = app_stands files page app hold i contents.0 line form.1
not_refused files (serves page app address turns) (Check i) line hold contents refuses = contents
not_refused files (serves page app address turns) (Replay i most) line hold contents refuses = contents
not_refused files (serves page app address turns) (Drive i) line hold contents refuses = contents
not_refused files (drives page app gestures) (Drive i) line hold contents (inl long) =
    some_long _ long.0 (none_longer (codes "gestures") hold.0.page_bytes hold.0.manifest_bytes hold.1.bytes i.app.page i.app.manifest i.third
    (page_is files page app hold.0 i.app contents.0) (manifest_is files page app hold.0 i.app contents.0)
    (same_content files gestures hold.1.bytes i.third hold.1.has contents.1)) long.1
not_refused files (drives page app gestures) (Drive i) line hold contents (inr form) = gestures_stand files page app gestures hold.0 hold.1 i line contents form.1
not_refused files (drives page app gestures) (Check i) line hold contents refuses = contents
not_refused files (drives page app gestures) (Replay i most) line hold contents refuses = contents
not_refused files (drives page app gestures) (Serve i most) line hold contents refuses = contents
not_refused files (generates n) (Generate m) line hold contents (inl long) = some_long None long.0 refl long.1
not_refused files (generates n) (Generate m) line hold contents (inr form) = form.1
not_refused files (generates n) (Check i) line hold contents refuses = contents
not_refused files (generates n) (Replay i most) line hold contents refuses = contents
not_refused files (generates n) (Serve i most) line hold contents refuses = contents
not_refused files (generates n) (Drive i) line hold contents refuses = contents
not_refused files (checks page app) (Generate n) line hold contents refuses = contents
not_refused files (replays page app trace turns) (Generate n) line hold contents refuses = contents
not_refused files (serves page app address turns) (Generate n) line hold contents refuses = contents
not_refused files (drives page app gestures) (Generate n) line hold contents refuses = contents

module _ (words : List (List ℕ)) (task : Task) (old new : Told) (files : List NamedFile) (held : old.held ≡ Some files) (is : IsTask words task) (hold : AreAccepted files task) where
  no_other_words : Ran BadWords words old new → ⊥
  no_other_words ran = ran.1.no_form (task, is)

  no_refusal : Ran BadInput words old new → ⊥
  no_refusal ran =
      let puts = ran.1 in
      let same : puts.reads.task ≡ task = tasks words puts.reads.task task puts.reads.form is in
      not_refused files task puts.input puts.line hold
      (subst (λ t. IsInputOf (Some files) t puts.input) same (subst (λ h. IsInputOf h puts.reads.task puts.input) held puts.reads.contents)) puts.refuses

pub accepted_is_done : AcceptedIsDone
accepted_is_done status words task old new files held is hold ran = (
  λ e. no_other_words words task old new files held is hold (subst (λ s. Ran s words old new) e ran),
  λ e. no_refusal words task old new files held is hold (subst (λ s. Ran s words old new) e ran),
)
