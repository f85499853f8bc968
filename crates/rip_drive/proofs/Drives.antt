-- What gestures come to, gesture by gesture.
use Rattle.std.proofs.Common.{◌≡◌, ℕ, ◌+◌, ◌<◌, ◌≤◌, List, [], ◌∷◌, ◌++◌, length, get_or, drop, refl, sym, ap, subst, ◌∙◌, add-one, append_assoc}
use Rattle.std.specs.Prelude.{Err, None, Option, Result, Some}
use Rattle.std.proofs.Math.ListN.{drop_of_length-le}
use Rattle.std.proofs.Math.Seq.{drop-cons}
use Rattle.std.proofs.lemmas.Grind.{flat_map-append}
use Rattle.std.proofs.lemmas.List.{append-nil}
use Rattle.rip_eval_rows.specs.declared.close.Close.{Close}
use Rattle.rip_eval_rows.specs.declared.close.Close.TheVariants.{Fine, Refused, Mismatch, Stopped}
use Rattle.rip_eval_rows.specs.declared.completion.Stop.{Stop}
use Rattle.rip_store.specs.declared.store.Store.{Store}
use Rattle.rip_wire.specs.Batches.{Contents}
use Rattle.rip_trace.specs.Said.{batch_line}
use Rattle.rip_client.specs.Sizes.{ToldSo, end_of}
use Rattle.rip_client.specs.Truth.{Playing, TellsGesture}
use Rattle.rip_client.specs.declared.client.HowTold.{HowTold}
use Rattle.rip_client.specs.declared.client.HowTold.TheVariants as how
use Rattle.rip_trace.specs.declared.gestures.LinedGesture.{LinedGesture}
use Rattle.rip_client.specs.declared.whole.play.Over.{Over as Outcome}
use Rattle.rip_drive.specs.Drivers.{DrivesFrom, EndsSo, IsDriven, IsOpenedAndRefused, IsRefused, Leads, Opening, RefusesFrom, RefusesSo, TellsSo}
use Rattle.rip_drive.specs.Driving.{Drives, End, batch_lines, end_lines, refused, stopped, whole}
use Rattle.rip_drive.specs.Driving as driving
use Rattle.rip_drive.specs.declared.driver.DriveRefusal.{DriveRefusal}
use Rattle.rip_drive.specs.declared.driver.DriveRefusal.TheVariants as refusal
use Rattle.rip_drive.specs.declared.driver.Driver.{Driver}

lines-append : (xs ys : List Contents) → batch_lines (xs ++ ys) ≡ batch_lines xs ++ batch_lines ys
lines-append xs ys = flat_map-append (batch_line 0 1) xs ys

-- what an exit hands on
pub at_err : {T : Type 0} (P : Result T DriveRefusal → Type 0) (r : Result T DriveRefusal) (why : DriveRefusal) → ((e : DriveRefusal) × (r ≡ Err e) × (e ≡ why)) → P (Err why) → P r
at_err P r why p h = subst P (sym (p.1 ∙ ap Err p.2)) h

-- what is known where no stop was answered
pub at_none : (P : Option Stop → Type 0) (o : Option Stop) → ((stop : Stop) → o ≡ Some stop → ⊥) → P o → P None
at_none P None none h = h
at_none P (Some stop) none h = absurd (none stop refl)

-- ---- from gesture to gesture

pub leads_nothing : {A : Type 0} (x : Playing A Store) (o : Driver A) (gestures : List LinedGesture) → Leads x o gestures o gestures
leads_nothing x o gestures = record {
  batches = [];
  text = sym (append-nil o.text);
  leads = λ more end drives. drives;
}

leads_more : {A : Type 0} (x : Playing A Store) (o m n : Driver A) (gestures middle others : List LinedGesture) → Leads x o gestures m middle → Leads x m middle n others → Leads x o gestures n others
leads_more x o m n gestures middle others a b = record {
  batches = a.batches ++ b.batches;
  text = b.text ∙ ap (λ t. t ++ batch_lines b.batches) a.text ∙ append_assoc o.text (batch_lines a.batches) (batch_lines b.batches)
      ∙ ap (λ t. o.text ++ t) (sym (lines-append a.batches b.batches));
  leads = λ more end drives. subst (λ bs. DrivesFrom x o gestures bs end) (sym (append_assoc a.batches b.batches more)) (a.leads (b.batches ++ more) end (b.leads more end drives));
}

-- ---- a gesture

-- it was told so in the session of the driver
abbrev pub Told : {A : Type 0} → Playing A Store → Driver A → LinedGesture → Close → List Contents → Driver A → Type 0
Told x o lined close batches n =
    TellsGesture x lined.gesture o.client.actor o.store o.client.list.number o.client.waiting.items close batches n.client.actor n.store n.client.list.number n.client.waiting.items

-- however it was told
pub tells_so : {A : Type 0} (x : Playing A Store) (o n : Driver A) (lined : LinedGesture) (how : HowTold) (stop : Option Stop) (batches : List Contents) → ((close : Close) → ToldSo how close → Told x o lined close batches n) → n.text ≡ o.text ++ batch_lines batches → EndsSo how stop → TellsSo x lined o n stop
tells_so x o n lined how None batches told is ends = λ others. record {
  batches = batches;
  text = is;
  leads = λ more end drives. driving.told lined others _ _ _ _ _ _ _ _ batches more end (told Fine ends) drives;
}
tells_so x o n lined how (Some stop) batches told is ends = λ others. record {
  batches = batches;
  drives = driving.stops lined others _ _ _ _ _ _ _ _ batches ends.0 stop (told (Stopped ends.0 stop) ends.1);
  is = is;
}

pub refuses_so : {A : Type 0} (x : Playing A Store) (o n : Driver A) (lined : LinedGesture) (how : HowTold) (r : DriveRefusal) (batches : List Contents) → ((close : Close) → ToldSo how close → Told x o lined close batches n) → RefusesSo how lined.line r → (others : List LinedGesture) → RefusesFrom x o (lined ∷ others) r
refuses_so x o n lined how (refusal.Line k) batches told ends others =
    (batches, subst (λ m. DrivesFrom x o (lined ∷ others) batches (refused m)) (sym ends.0) (driving.refuses lined others _ _ _ _ _ _ _ _ batches ends.1 ends.2 (told (Refused ends.1 ends.2) ends.3)))
refuses_so x o n lined how refusal.Memory batches told ends others = tt

-- a client whose gesture was told to its end goes on
pub fine_goes_on : (how : HowTold) → ToldSo how Fine → end_of how ≡ None
fine_goes_on how.Whole fine = refl
fine_goes_on (how.Ended Fine) fine = refl
fine_goes_on (how.Ended (Refused item kind)) fine = cc
fine_goes_on (how.Ended (Mismatch item)) fine = cc
fine_goes_on (how.Ended (Stopped item stop)) fine = cc
fine_goes_on how.Memory fine = absurd fine

-- ---- gestures, by the index of the next

-- those before an index were told
abbrev pub Reads : {A : Type 0} → Playing A Store → Driver A → List LinedGesture → ℕ → Driver A → Type 0
Reads x o gestures i m = Leads x o gestures m (drop i gestures)

reads_at : {A : Type 0} (x : Playing A Store) (o m : Driver A) (gestures : List LinedGesture) (i : ℕ) (lined : LinedGesture) → i < length gestures → lined ≡ get_or gestures i lined → Reads x o gestures i m → Leads x o gestures m (lined ∷ drop (i + 1) gestures)
reads_at x o m gestures i lined within is reads =
    let next : drop i gestures ≡ lined ∷ drop (i + 1) gestures = drop-cons gestures i lined within ∙ (λ j. sym is j ∷ drop (sym (add-one i) j) gestures) in
    subst (λ others. Leads x o gestures m others) next reads

pub reads_more : {A : Type 0} (x : Playing A Store) (o m n : Driver A) (gestures : List LinedGesture) (i : ℕ) (lined : LinedGesture) → i < length gestures → lined ≡ get_or gestures i lined → Reads x o gestures i m → TellsSo x lined m n None → Reads x o gestures (i + 1) n
reads_more x o m n gestures i lined within is reads tells =
    leads_more x o m n gestures (lined ∷ drop (i + 1) gestures) (drop (i + 1) gestures) (reads_at x o m gestures i lined within is reads) (tells (drop (i + 1) gestures))

-- ---- how it ends

-- a driver before the first gesture
pub record Starts {A : Type 0} (a : A) (g : Store) (text : List ℕ) (o : Driver A) : Type 0 where
  pub actor : o.client.actor ≡ a
  pub store : o.store ≡ g
  pub number : o.client.list.number ≡ 1
  pub waiting : o.client.waiting.items ≡ []
  pub text_is : o.text ≡ text

started : {A : Type 0} (x : Playing A Store) (a : A) (g : Store) (text : List ℕ) (o : Driver A) (gestures : List LinedGesture) (batches : List Contents) (end : End) → Starts a g text o → DrivesFrom x o gestures batches end → Drives x gestures a g 1 [] batches end
started x a g text o gestures batches end starts drives =
    let actor = subst (λ b. Drives x gestures b o.store o.client.list.number o.client.waiting.items batches end) starts.actor drives in
    let store = subst (λ (h : Store). Drives x gestures a h o.client.list.number o.client.waiting.items batches end) starts.store actor in
    let number = subst (λ n. Drives x gestures a g n o.client.waiting.items batches end) starts.number store in
    subst (λ ks. Drives x gestures a g 1 ks batches end) starts.waiting number

-- all gestures were told
pub driven_whole : {A : Type 0} (x : Playing A Store) (a : A) (g : Store) (text : List ℕ) (o m : Driver A) (gestures : List LinedGesture) (i : ℕ) → Starts a g text o → length gestures ≤ i → Reads x o gestures i m → IsDriven x a g gestures text m.text
driven_whole x a g text o m gestures i starts past reads =
    let all = subst (λ others. Leads x o gestures m others) (drop_of_length-le gestures past) reads in
    record {
      batches = all.batches ++ [];
      end = whole;
      drives = started x a g text o gestures (all.batches ++ []) whole starts (all.leads [] whole (driving.none m.client.actor m.store m.client.list.number m.client.waiting.items));
      legal = tt;
      is = all.text ∙ ap (λ t. t ++ batch_lines all.batches) starts.text_is ∙ ap (λ t. text ++ t) (ap batch_lines (sym (append-nil all.batches)) ∙ sym (append-nil (batch_lines (all.batches ++ []))));
    }

-- a limit or a fault ended the session at a gesture
pub driven_stopped : {A : Type 0} (x : Playing A Store) (a : A) (g : Store) (text : List ℕ) (o m n : Driver A) (gestures : List LinedGesture) (i : ℕ) (lined : LinedGesture) (stop : Stop) (traced : List ℕ) → Starts a g text o → i < length gestures → lined ≡ get_or gestures i lined → Reads x o gestures i m → TellsSo x lined m n (Some stop) → traced ≡ n.text ++ end_lines (stopped stop lined.line) → IsDriven x a g gestures text traced
driven_stopped x a g text o m n gestures i lined stop traced starts within is reads tells written =
    let before = reads_at x o m gestures i lined within is reads in
    let last = tells (drop (i + 1) gestures) in
    record {
      batches = before.batches ++ last.batches;
      end = stopped stop lined.line;
      drives = started x a g text o gestures (before.batches ++ last.batches) (stopped stop lined.line) starts (before.leads last.batches (stopped stop lined.line) last.drives);
      legal = tt;
      is = written ∙ ap (λ t. t ++ end_lines (stopped stop lined.line)) (last.is ∙ ap (λ t. t ++ batch_lines last.batches) (before.text ∙ ap (λ t. t ++ batch_lines before.batches) starts.text_is)
          ∙ append_assoc text (batch_lines before.batches) (batch_lines last.batches) ∙ ap (λ t. text ++ t) (sym (lines-append before.batches last.batches)))
          ∙ append_assoc text (batch_lines (before.batches ++ last.batches)) (end_lines (stopped stop lined.line));
    }

-- a gesture is illegal at its place
pub driven_refused : {A : Type 0} (x : Playing A Store) (a : A) (g : Store) (text : List ℕ) (o m : Driver A) (gestures : List LinedGesture) (i : ℕ) (lined : LinedGesture) (r : DriveRefusal) → Starts a g text o → i < length gestures → lined ≡ get_or gestures i lined → Reads x o gestures i m → ((others : List LinedGesture) → RefusesFrom x m (lined ∷ others) r) → IsRefused x a g gestures r
driven_refused x a g text o m gestures i lined (refusal.Line n) starts within is reads refuses =
    let before = reads_at x o m gestures i lined within is reads in
    let last = refuses (drop (i + 1) gestures) in
    (before.batches ++ last.0, started x a g text o gestures (before.batches ++ last.0) (refused n) starts (before.leads last.0 (refused n) last.1))
driven_refused x a g text o m gestures i lined refusal.Memory starts within is reads refuses = tt

-- a gesture is illegal at its place in a session that was opened
pub opened_refused : {A : Type 0} (x : Playing A Store) (opens : Opening A) (a b : A) (g h : Store) (over : Outcome) (gestures : List LinedGesture) (why : DriveRefusal)
    → opens a g over b h → over.close ≡ Fine → IsRefused x b h gestures why → IsOpenedAndRefused x opens a g gestures why
opened_refused x opens a b g h over gestures (refusal.Line n) opened fine is = (over, b, h, opened, fine, is)
opened_refused x opens a b g h over gestures refusal.Memory opened fine is = tt
