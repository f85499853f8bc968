-- A page and a manifest have one answer.
use Rattle.std.proofs.Common.{◌≡◌, ◌≢◌, ℕ, zero, suc, ◌+◌, ◌-◌, ◌<◌, ◌≤◌, Bool, true, false, ltb, ltb-true, ltb-false, List, [], ◌∷◌, length, Option, Some, None, Result, Ok, Err, IfOk, IfErr, inl, inr, slice_get, refl, sym, ap, ◌∙◌, subst, arith}
use Rattle.std.specs.Prelude.{MatchResult, ◌⊎◌, option_and_then, option_map}
use Rattle.rip_base.specs.Page.{script_at, Contents as Page}
use Rattle.rip_base.specs.declared.page.PageKind.{PageKind}
use Rattle.rip_lexer.specs.declared.refusal.LexKind.{LexKind}
use Rattle.rip_lexer.specs.Tokens.{IsFirstRefusal}
use Rattle.rip_lexer.proofs.Lexing.{same_refusals, not_both_ways}
use Rattle.rip_tree.specs.Branches.{Plant}
use Rattle.rip_tree.specs.Program.{Code}
use Rattle.rip_parser.specs.declared.refusal.ParseKind.{ParseKind}
use Rattle.rip_parser.specs.Parsed.{IsTreeOf, IsNoTree}
use Rattle.rip_parser.proofs.Refusing.{have_one_tree, have_one_refusal, have_not_both}
use Rattle.rip_early.specs.declared.refusal.EarlyKind.{EarlyKind}
use Rattle.rip_early.specs.declared.refusal.EarlyRefusal.TheVariants as early
use Rattle.rip_early.specs.Mistakes.{AreClean, IsRefusalOf}
use Rattle.rip_early.specs.Program.{program_of}
use Rattle.rip_early.proofs.Firsts.{one_first, not_clean}
use Rattle.rip_html.specs.Pages.{PageOf, IsRefusedAt}
use Rattle.rip_html.proofs.Readings.{one_page, one_refusal, never_both}
use Rattle.rip_manifest.specs.Manifest.{ManifestOf, Contents as Manifest, IsRefused as IsNoManifest}
use Rattle.rip_manifest.specs.declared.refusal.ManifestKind.{ManifestKind}
use Rattle.rip_manifest.specs.declared.refusal.ManifestRefusal.{ManifestRefusal}
use Rattle.rip_manifest.specs.declared.refusal.ManifestRefusal.TheVariants as refused
use Rattle.rip_manifest.proofs.AnswerLemmas.{one_answer}
use Rattle.rip_app.specs.App.{Loaded, HasTreeAt, HaveTreesFrom, HaveTrees, IsReached, AreSound, AppOf, IsAppRefusal}
use Rattle.rip_app.specs.Laws.{HasOneApp, HasOneRefusal, IsNeverBoth, IsOrMemory}
use Rattle.rip_app.specs.declared.refusal.AppRefusal.{AppRefusal}
use Rattle.rip_app.specs.declared.refusal.AppRefusal.TheVariants as app

-- ---- what the bytes of a page come to, before the rest is looked at

-- why a script has no tree
pub data Stop : Type 0 where
  NoTokens : ℕ → LexKind → Stop
  NoTree : ℕ → ParseKind → Stop

-- no page; a page whose script with this number is the first with no tree; a page whose scripts have these trees
data Reading : Type 0 where
  NoPage : ℕ → PageKind → Reading
  Stopped : ℕ → Stop → Reading
  Read : Page → List Plant → Reading

abbrev pub IsStopped : List ℕ → Stop → Type 0
IsStopped script (NoTokens place kind) = IsFirstRefusal script place kind
IsStopped script (NoTree place kind) = IsNoTree script place kind

abbrev IsReading : List ℕ → Reading → Type 0
IsReading bytes (NoPage place kind) = IsRefusedAt bytes place kind
IsReading bytes (Stopped number stop) = (page : Page) × PageOf bytes page × (script : List ℕ) × IsReached page number script × IsStopped script stop
IsReading bytes (Read page trees) = PageOf bytes page × HaveTrees page trees

-- ---- a page comes to one thing

same-script : (script other : List ℕ) (x : Option (List ℕ)) → x ≡ Some script → x ≡ Some other → script ≡ other
same-script script other x one two = cc

trees-same : (page : Page) (number : ℕ) (trees others : List Plant) → length trees ≡ length others → HaveTreesFrom page number trees → HaveTreesFrom page number others → trees ≡ others
trees-same page number [] [] long a b = refl
trees-same page number [] (t ∷ ts) long a b = absurd (omega arith)
trees-same page number (t ∷ ts) [] long a b = absurd (omega arith)
trees-same page number (t ∷ ts) (u ∷ us) long a b =
    let same = same-script b.0.0 a.0.0 (script_at page number) b.0.1 a.0.1 in
    let first : t ≡ u = have_one_tree a.0.0 t u a.0.2 (subst (λ s. IsTreeOf s u) same b.0.2) in
    let rest = trees-same page (suc number) ts us (omega arith) a.1 b.1 in
    ap (λ x. x ∷ ts) first ∙ ap (λ xs. u ∷ xs) rest

tree-at : (page : Page) (number at : ℕ) (trees : List Plant) → HaveTreesFrom page number trees → number ≤ at → at < number + length trees → (tree : Plant) × HasTreeAt page at tree
tree-at page number at [] a from below = absurd (omega arith)
tree-at page number at (t ∷ ts) a from below = by (ltb number at) refl (λ next within. tree-at page (suc number) at ts a.1 next within)
  where
    by : (b : Bool) → ltb number at ≡ b → (suc number ≤ at → at < suc number + length ts → (tree : Plant) × HasTreeAt page at tree) → (tree : Plant) × HasTreeAt page at tree
    by true past go-on = let more = ltb-true number at past in go-on (omega arith) (omega arith)
    by false here go-on =
        let less = ltb-false number at here in
        let same : number ≡ at = omega arith in
        (t, subst (λ n. HasTreeAt page n t) same a.0)

-- a script with a tree is no script where reading stops
tree-not-stopped : (page : Page) (number : ℕ) (tree : Plant) (script : List ℕ) (stop : Stop) → HasTreeAt page number tree → script_at page number ≡ Some script → IsStopped script stop → ⊥
tree-not-stopped page number tree script (NoTokens place kind) a at is =
    let same = same-script a.0 script (script_at page number) a.1 at in
    let b : IsTreeOf script tree = subst (λ s. IsTreeOf s tree) same a.2 in
    not_both_ways script b.tokens place kind b.are is
tree-not-stopped page number tree script (NoTree place kind) a at is =
    let same = same-script a.0 script (script_at page number) a.1 at in
    have_not_both script tree place kind (subst (λ s. IsTreeOf s tree) same a.2) is

-- a script where reading stops is not reached behind it
not-behind : (page : Page) (number later : ℕ) (script other : List ℕ) (stop : Stop) → IsReached page number script → IsReached page later other → IsStopped script stop → number < later → ⊥
not-behind page number later script other stop a b is less =
    let here = a.next in
    let there = b.next in
    let tree = tree-at page 1 number b.before b.parsed (omega arith) (omega arith) in
    tree-not-stopped page number tree.0 script stop tree.1 a.text is

-- a page has as many scripts as are numbered
numbered : (numbers : List ℕ) (f : ℕ → Option (List ℕ)) (number : ℕ) (script : List ℕ) → 1 ≤ number → option_and_then f (slice_get numbers (number - 1)) ≡ Some script → number ≤ length numbers
numbered numbers f number script from is = by (ltb (length numbers) number) refl
  where
    none : (xs : List ℕ) (k : ℕ) → length xs ≤ k → slice_get xs k ≡ None
    none [] k past = refl
    none (x ∷ xs) zero past = absurd (omega arith)
    none (x ∷ xs) (suc k) past = none xs k (omega arith)

    by : (b : Bool) → ltb (length numbers) number ≡ b → number ≤ length numbers
    by true past =
        let more = ltb-true (length numbers) number past in
        let lost : option_and_then f (slice_get numbers (number - 1)) ≡ None = ap (option_and_then f) (none numbers (number - 1) (omega arith)) in
        cc
    by false within = let less = ltb-false (length numbers) number within in omega arith

-- reading does not stop where all scripts have trees
not-stopped : (page : Page) (trees : List Plant) (number : ℕ) (script : List ℕ) (stop : Stop) → HaveTrees page trees → IsReached page number script → IsStopped script stop → ⊥
not-stopped page trees number script stop have a is =
    let here = a.next in
    let all = have.all in
    let within = numbered page.scripts (λ n. option_map (λ x. x.text) (slice_get page.nodes n)) number script (omega arith) a.text in
    let tree = tree-at page 1 number trees have.each (omega arith) (omega arith) in
    tree-not-stopped page number tree.0 script stop tree.1 a.text is

same-number : (page : Page) (number other : ℕ) (script second : List ℕ) (stop why : Stop) → IsReached page number script → IsReached page other second → IsStopped script stop → IsStopped second why → number ≡ other
same-number page number other script second stop why a b is are = by (ltb number other) refl (ltb other number) refl
  where
    by : (x : Bool) → ltb number other ≡ x → (y : Bool) → ltb other number ≡ y → number ≡ other
    by true less y at = absurd (not-behind page number other script second stop a b is (ltb-true _ _ less))
    by false not_less true less = absurd (not-behind page other number second script why b a are (ltb-true _ _ less))
    by false one false two =
        let low = ltb-false _ _ one in
        let high = ltb-false _ _ two in
        omega arith

same-stop : (script : List ℕ) (stop why : Stop) → IsStopped script stop → IsStopped script why → stop ≡ why
same-stop script (NoTokens p k) (NoTokens q j) a b = let one = same_refusals script p q k j a b in ap (λ n. NoTokens n k) one.0 ∙ ap (NoTokens q) one.1
same-stop script (NoTokens p k) (NoTree q j) a b = absurd (not_both_ways script b.tokens p k b.are a)
same-stop script (NoTree p k) (NoTokens q j) a b = absurd (not_both_ways script a.tokens q j a.are b)
same-stop script (NoTree p k) (NoTree q j) a b = let one = have_one_refusal script p q k j a b in ap (λ n. NoTree n k) one.0 ∙ ap (NoTree q) one.1

one-reading : (bytes : List ℕ) (a b : Reading) → IsReading bytes a → IsReading bytes b → a ≡ b
one-reading bytes (NoPage p k) (NoPage q j) a b = let one = one_refusal bytes p q k j a b in ap (λ n. NoPage n k) one.0 ∙ ap (NoPage q) one.1
one-reading bytes (NoPage p k) (Stopped number stop) a b = absurd (never_both bytes b.0 p k b.1 a)
one-reading bytes (NoPage p k) (Read page trees) a b = absurd (never_both bytes page p k b.0 a)
one-reading bytes (Stopped number stop) (NoPage p k) a b = absurd (never_both bytes a.0 p k a.1 b)
one-reading bytes (Read page trees) (NoPage p k) a b = absurd (never_both bytes page p k a.0 b)
one-reading bytes (Stopped number stop) (Stopped other why) a b =
    let pages : b.0 ≡ a.0 = one_page bytes b.0 a.0 b.1 a.1 in
    let reached : IsReached a.0 other b.2 = subst (λ page. IsReached page other b.2) pages b.3 in
    let numbers : number ≡ other = same-number a.0 number other a.2 b.2 stop why a.3 reached a.4 b.4 in
    let scripts : b.2 ≡ a.2 = same-script b.2 a.2 (script_at a.0 other) reached.text (ap (λ n. script_at a.0 n) (sym numbers) ∙ a.3.text) in
    ap (λ n. Stopped n stop) numbers ∙ ap (Stopped other) (same-stop a.2 stop why a.4 (subst (λ s. IsStopped s why) scripts b.4))
one-reading bytes (Stopped number stop) (Read page trees) a b =
    let pages : a.0 ≡ page = one_page bytes a.0 page a.1 b.0 in
    absurd (not-stopped page trees number a.2 stop b.1 (subst (λ x. IsReached x number a.2) pages a.3) a.4)
one-reading bytes (Read page trees) (Stopped number stop) a b =
    let pages : b.0 ≡ page = one_page bytes b.0 page b.1 a.0 in
    absurd (not-stopped page trees number b.2 stop a.1 (subst (λ x. IsReached x number b.2) pages b.3) b.4)
one-reading bytes (Read page trees) (Read other more) a b =
    let pages : page ≡ other = one_page bytes page other a.0 b.0 in
    let have : HaveTrees page more = subst (λ x. HaveTrees x more) (sym pages) b.1 in
    let same : trees ≡ more = trees-same page 1 trees more (a.1.all ∙ sym have.all) a.1.each have.each in
    ap (λ x. Read x trees) pages ∙ ap (Read other) same

-- ---- what is answered, once the page is read

-- the answer is due to trees and a manifest
abbrev IsLate : List Plant → List ℕ → AppRefusal → Type 0
IsLate trees manifest (app.Early number place kind) = IsRefusalOf trees (early.At number place kind)
IsLate trees manifest (app.Manifest kind) = AreClean trees × IsNoManifest manifest (refused.Kind kind)
IsLate trees manifest app.LimitsTooLarge = AreClean trees × IsNoManifest manifest refused.LimitsTooLarge
IsLate trees manifest refusal = ⊥

-- the refusal is due to what the page came to
abbrev IsDue : Reading → List ℕ → AppRefusal → Type 0
IsDue (NoPage place kind) manifest refusal = refusal ≡ app.Page place kind
IsDue (Stopped number (NoTokens place kind)) manifest refusal = refusal ≡ app.Lex number place kind
IsDue (Stopped number (NoTree place kind)) manifest refusal = refusal ≡ app.Parse number place kind
IsDue (Read page trees) manifest refusal = IsLate trees manifest refusal

late-once : (trees : List Plant) (manifest : List ℕ) (a b : AppRefusal) → IsLate trees manifest a → IsLate trees manifest b → a ≡ b
late-once trees manifest (app.Early n p k) (app.Early m q j) x y =
    let one = one_first trees n m _ _ x y in
    ap (λ i. app.Early i p k) one.0 ∙ ap (λ z. app.Early m z.place z.kind) one.1
late-once trees manifest (app.Early n p k) (app.Manifest j) x y = absurd (not_clean trees n _ x y.0)
late-once trees manifest (app.Early n p k) app.LimitsTooLarge x y = absurd (not_clean trees n _ x y.0)
late-once trees manifest (app.Manifest j) (app.Early n p k) x y = absurd (not_clean trees n _ y x.0)
late-once trees manifest app.LimitsTooLarge (app.Early n p k) x y = absurd (not_clean trees n _ y x.0)
late-once trees manifest (app.Manifest k) (app.Manifest j) x y =
    let one = one_answer manifest (Err (refused.Kind k)) (Err (refused.Kind j)) x.1 y.1 in
    let kinds : k ≡ j = cc in
    ap app.Manifest kinds
late-once trees manifest (app.Manifest k) app.LimitsTooLarge x y =
    let one = one_answer manifest (Err (refused.Kind k)) (Err refused.LimitsTooLarge) x.1 y.1 in cc
late-once trees manifest app.LimitsTooLarge (app.Manifest k) x y =
    let one = one_answer manifest (Err refused.LimitsTooLarge) (Err (refused.Kind k)) x.1 y.1 in cc
late-once trees manifest app.LimitsTooLarge app.LimitsTooLarge x y = refl
late-once trees manifest (app.Page p k) b x y = absurd x
late-once trees manifest (app.Lex n p k) b x y = absurd x
late-once trees manifest (app.Parse n p k) b x y = absurd x
late-once trees manifest app.Memory b x y = absurd x
late-once trees manifest a (app.Page p k) x y = absurd y
late-once trees manifest a (app.Lex n p k) x y = absurd y
late-once trees manifest a (app.Parse n p k) x y = absurd y
late-once trees manifest a app.Memory x y = absurd y

due-once : (r : Reading) (manifest : List ℕ) (a b : AppRefusal) → IsDue r manifest a → IsDue r manifest b → a ≡ b
due-once (NoPage p k) manifest a b x y = x ∙ sym y
due-once (Stopped n (NoTokens p k)) manifest a b x y = x ∙ sym y
due-once (Stopped n (NoTree p k)) manifest a b x y = x ∙ sym y
due-once (Read page trees) manifest a b x y = late-once trees manifest a b x y

-- a refusal for a cause is due to what the page comes to
abbrev Due : List ℕ → List ℕ → AppRefusal → Type 0
Due bytes manifest refusal = (r : Reading) × IsReading bytes r × IsDue r manifest refusal

due : (bytes manifest : List ℕ) (refusal : AppRefusal) → IsAppRefusal bytes manifest refusal → refusal ≢ app.Memory → Due bytes manifest refusal
due bytes manifest (app.Page place kind) is other = (NoPage place kind, is, refl)
due bytes manifest (app.Lex n place kind) is other = (Stopped n (NoTokens place kind), (is.0, is.1, is.2.0, is.2.1, is.2.2), refl)
due bytes manifest (app.Parse n place kind) is other = (Stopped n (NoTree place kind), (is.0, is.1, is.2.0, is.2.1, is.2.2), refl)
due bytes manifest (app.Early n place kind) is other = (Read is.0 is.2.0, (is.1, is.2.1), is.2.2)
due bytes manifest (app.Manifest kind) is other = (Read is.0 is.2.0.0, (is.1, is.2.0.1.have), (is.2.0.1.clean, is.2.1))
due bytes manifest app.LimitsTooLarge is other = (Read is.0 is.2.0.0, (is.1, is.2.0.1.have), (is.2.0.1.clean, is.2.1))
due bytes manifest app.Memory is other = absurd (other refl)

-- ---- the laws

pub has_one_refusal : HasOneRefusal
has_one_refusal bytes manifest refusal other a b one two =
    let x = due bytes manifest refusal a one in
    let y = due bytes manifest other b two in
    let same : y.0 ≡ x.0 = one-reading bytes y.0 x.0 y.1 x.1 in
    due-once x.0 manifest refusal other x.2 (subst (λ r. IsDue r manifest other) same y.2)

-- trees with no early error and a manifest are refused for no cause
not-late : (trees : List Plant) (manifest : List ℕ) (says : Manifest) (refusal : AppRefusal) → AreClean trees → ManifestOf manifest says → IsLate trees manifest refusal → ⊥
not-late trees manifest says (app.Early n p k) clean is late = not_clean trees n _ late clean
not-late trees manifest says (app.Manifest k) clean is late = let one = one_answer manifest (Ok says) (Err (refused.Kind k)) is late.1 in cc
not-late trees manifest says app.LimitsTooLarge clean is late = let one = one_answer manifest (Ok says) (Err refused.LimitsTooLarge) is late.1 in cc
not-late trees manifest says refusal clean is late = late

not-due : (bytes manifest : List ℕ) (loaded : Loaded) (refusal : AppRefusal) → AppOf bytes manifest loaded → Due bytes manifest refusal → ⊥
not-due bytes manifest loaded refusal is (r, read, so) =
    let same : r ≡ Read loaded.page is.trees = one-reading bytes r (Read loaded.page is.trees) read (is.page, is.sound.have) in
    not-late is.trees manifest loaded.manifest refusal is.sound.clean is.said (subst (λ x. IsDue x manifest refusal) same so)

pub is_never_both : IsNeverBoth
is_never_both bytes manifest loaded app.Memory is refusal = refl
is_never_both bytes manifest loaded (app.Page p k) is refusal = absurd (not-due bytes manifest loaded (app.Page p k) is (due bytes manifest (app.Page p k) refusal (λ e. cc)))
is_never_both bytes manifest loaded (app.Lex n p k) is refusal = absurd (not-due bytes manifest loaded (app.Lex n p k) is (due bytes manifest (app.Lex n p k) refusal (λ e. cc)))
is_never_both bytes manifest loaded (app.Parse n p k) is refusal = absurd (not-due bytes manifest loaded (app.Parse n p k) is (due bytes manifest (app.Parse n p k) refusal (λ e. cc)))
is_never_both bytes manifest loaded (app.Early n p k) is refusal = absurd (not-due bytes manifest loaded (app.Early n p k) is (due bytes manifest (app.Early n p k) refusal (λ e. cc)))
is_never_both bytes manifest loaded (app.Manifest k) is refusal = absurd (not-due bytes manifest loaded (app.Manifest k) is (due bytes manifest (app.Manifest k) refusal (λ e. cc)))
is_never_both bytes manifest loaded app.LimitsTooLarge is refusal = absurd (not-due bytes manifest loaded app.LimitsTooLarge is (due bytes manifest app.LimitsTooLarge refusal (λ e. cc)))

abbrev page-of : Reading → Page → Page
page-of (Read page trees) other = page
page-of r other = other

abbrev trees-of : Reading → List Plant
trees-of (Read page trees) = trees
trees-of r = []

pub has_one_app : HasOneApp
has_one_app bytes manifest loaded other a b =
    let same : Read loaded.page a.trees ≡ Read other.page b.trees = one-reading bytes (Read loaded.page a.trees) (Read other.page b.trees) (a.page, a.sound.have) (b.page, b.sound.have) in
    let pages : loaded.page ≡ other.page = ap (λ r. page-of r loaded.page) same in
    let trees : a.trees ≡ b.trees = ap trees-of same in
    let says = one_answer manifest (Ok loaded.manifest) (Ok other.manifest) a.said b.said in
    let said : loaded.manifest ≡ other.manifest = cc in
    let made : Page → List ℕ → Code → Manifest → Loaded = λ page bytes program manifest. record { page = page; bytes = bytes; program = program; manifest = manifest } in
    ap (λ x. made x loaded.bytes loaded.program loaded.manifest) pages
    ∙ ap (λ x. made other.page x loaded.program loaded.manifest) (a.kept ∙ sym b.kept)
    ∙ ap (λ x. made other.page other.bytes x loaded.manifest) (a.program ∙ ap program_of trees ∙ sym b.program)
    ∙ ap (λ x. made other.page other.bytes other.program x) said

-- what is so is answered
pub only_app : (bytes manifest : List ℕ) (r : Result Loaded AppRefusal) → IfOk r (AppOf bytes manifest) → IfErr r (IsAppRefusal bytes manifest)
    → (loaded : Loaded) → AppOf bytes manifest loaded → MatchResult r (λ made. made ≡ loaded) (λ e. e ≡ app.Memory)
only_app bytes manifest (Ok made) found refusal loaded is = has_one_app bytes manifest made loaded found is
only_app bytes manifest (Err e) found refusal loaded is = is_never_both bytes manifest loaded e is refusal

-- whether memory ran out
memory : (e : AppRefusal) → (e ≡ app.Memory) ⊎ (e ≢ app.Memory)
memory app.Memory = inl refl
memory (app.Page p k) = inr (λ e. cc)
memory (app.Lex n p k) = inr (λ e. cc)
memory (app.Parse n p k) = inr (λ e. cc)
memory (app.Early n p k) = inr (λ e. cc)
memory (app.Manifest k) = inr (λ e. cc)
memory app.LimitsTooLarge = inr (λ e. cc)

pub first_cause : (bytes manifest : List ℕ) (r : Result Loaded AppRefusal) → IfOk r (AppOf bytes manifest) → IfErr r (IsAppRefusal bytes manifest)
    → (refusal : AppRefusal) → IsAppRefusal bytes manifest refusal → refusal ≢ app.Memory → MatchResult r (λ _. ⊥) (IsOrMemory refusal)
first_cause bytes manifest (Ok made) found so refusal is other = other (is_never_both bytes manifest made refusal found is)
first_cause bytes manifest (Err e) found so refusal is other = elim (memory e) [
  | inl none ↦ inr none
  | inr some ↦ inl (has_one_refusal bytes manifest e refusal so is some other)
]
