-- A page and a manifest have an application, or a first cause why they are none.
use Rattle.std.proofs.Common.{◌≡◌, ◌≢◌, ℕ, zero, suc, ◌+◌, ◌-◌, ◌<◌, ◌≤◌, ◌⊎◌, inl, inr, List, [], ◌∷◌, ◌++◌, length, Option, Some, None, Result, Ok, Err, slice_get, refl, sym, ap, ◌∙◌, subst, arith, length-append}
use Rattle.std.specs.Prelude.{option_and_then, option_map}
use Rattle.std.specs.List.{AllByRecursion}
use Rattle.rip_base.specs.Page.{script_at, Contents as Page}
use Rattle.rip_lexer.proofs.Existing.{a_reading}
use Rattle.rip_tree.specs.Branches.{Plant}
use Rattle.rip_parser.specs.Parsed.{IsTreeOf}
use Rattle.rip_parser.proofs.Existing.{has_reading}
use Rattle.rip_early.specs.Mistakes.{AreClean}
use Rattle.rip_early.specs.Program.{program_of}
use Rattle.rip_early.proofs.Answering.{an_answer as of_trees}
use Rattle.rip_html.specs.Pages.{PageOf}
use Rattle.rip_html.specs.Scripts.{script_numbers}
use Rattle.rip_html.proofs.Paging.{scripts_within}
use Rattle.rip_html.proofs.Readings.{some_reading}
use Rattle.rip_manifest.specs.Manifest.{Contents as Manifest, IsAnswer}
use Rattle.rip_manifest.specs.declared.refusal.ManifestRefusal.{ManifestRefusal}
use Rattle.rip_manifest.specs.declared.refusal.ManifestRefusal.TheVariants as refused
use Rattle.rip_manifest.proofs.Answering.{an_answer as of_manifest}
use Rattle.rip_app.specs.App.{Loaded, HasTreeAt, HaveTreesFrom, HaveTrees, IsReached, AppOf, IsAppRefusal}
use Rattle.rip_app.specs.Laws.{HasAnAnswer}
use Rattle.rip_app.specs.declared.refusal.AppRefusal.{AppRefusal}
use Rattle.rip_app.specs.declared.refusal.AppRefusal.TheVariants as app
use Rattle.rip_app.proofs.Answering.{Stop, NoTokens, NoTree, IsStopped}

-- ---- each number up to the count of scripts is that of a script

get_some : {X : Type 0} (xs : List X) (k : ℕ) → k < length xs → (x : X) × (slice_get xs k ≡ Some x)
get_some [] k less = absurd (omega arith)
get_some (x ∷ xs) zero less = (x, refl)
get_some (x ∷ xs) (suc k) less = get_some xs k (omega arith)

below_get : (n : ℕ) (numbers : List ℕ) (k x : ℕ) → AllByRecursion (λ m. m < n) numbers → slice_get numbers k ≡ Some x → x < n
below_get n [] k x below e = cc
below_get n (m ∷ numbers) zero x below e =
    let same : m ≡ x = some_same m x e in
    subst (λ y. y < n) same below.0
  where
    some_same : (a b : ℕ) → Some a ≡ Some b → a ≡ b
    some_same a b e = cc
below_get n (m ∷ numbers) (suc k) x below e = below_get n numbers k x below.1 e

-- the page has a script with this number
abbrev HasScript : Page → ℕ → Type 0
HasScript page number = (script : List ℕ) × (script_at page number ≡ Some script)

has_script : (bytes : List ℕ) (page : Page) (number : ℕ) → PageOf bytes page → 1 ≤ number → number ≤ length page.scripts → HasScript page number
has_script bytes page number is from to =
    let numbered = get_some page.scripts (number - 1) (omega arith) in
    let within : AllByRecursion (λ m. m < length page.nodes) page.scripts =
    subst (λ numbers. AllByRecursion (λ m. m < length page.nodes) numbers) (sym is.scripts-are)
    (subst (λ n. AllByRecursion (λ m. m < n) (script_numbers 0 page.nodes)) (let e : 0 + length page.nodes ≡ length page.nodes = omega arith in e) (scripts_within 0 page.nodes)) in
    let node = get_some page.nodes numbered.0 (below_get (length page.nodes) page.scripts (number - 1) numbered.0 within numbered.1) in (
      node.0.text,
      ap (option_and_then (λ n. option_map (λ x. x.text) (slice_get page.nodes n))) numbered.1 ∙ ap (option_map (λ x. x.text)) node.1,
    )

-- ---- the scripts of a page have trees, or one of them is the first with none

trees_append : (page : Page) (number : ℕ) (trees : List Plant) (tree : Plant) → HaveTreesFrom page number trees → HasTreeAt page (number + length trees) tree → HaveTreesFrom page number (trees ++ tree ∷ [])
trees_append page number [] tree have at = (subst (λ n. HasTreeAt page n tree) (let e : number + 0 ≡ number = omega arith in e) at, tt)
trees_append page number (t ∷ ts) tree have at =
    (have.0, trees_append page (suc number) ts tree have.1 (subst (λ n. HasTreeAt page n tree) (let e : number + suc (length ts) ≡ suc number + length ts = omega arith in e) at))

-- the scripts have trees, or reading stops at one
abbrev Outcome : Page → Type 0
Outcome page = ((trees : List Plant) × HaveTrees page trees) ⊎ ((number : ℕ) × (script : List ℕ) × IsReached page number script × (stop : Stop) × IsStopped script stop)

outcome_at : (page : Page) (before : List Plant) (script : List ℕ) → HaveTreesFrom page 1 before → script_at page (length before + 1) ≡ Some script
    → ((tree : Plant) → IsTreeOf script tree → Outcome page) → Outcome page
outcome_at page before script have text more =
    let reached : IsReached page (length before + 1) script = record { before = before; parsed = have; next = refl; text = text } in
    elim (a_reading script) [
      | inr refusal ↦ inr (length before + 1, script, reached, NoTokens refusal.0 refusal.1, refusal.2)
      | inl list ↦ elim (has_reading script list.0 list.1) [
        | inr refusal ↦ inr (length before + 1, script, reached, NoTree refusal.0 refusal.1, refusal.2)
        | inl tree ↦ more tree.0 tree.1
      ]
    ]

outcome_from : (page : Page) → ((number : ℕ) → 1 ≤ number → number ≤ length page.scripts → HasScript page number) → (left : ℕ) (before : List Plant)
    → length before + left ≡ length page.scripts → HaveTreesFrom page 1 before → Outcome page
outcome_from page there zero before all have = inl (before, record { each = have; all = omega arith })
outcome_from page there (suc left) before all have =
    let script = there (length before + 1) (omega arith) (omega arith) in
    outcome_at page before script.0 have script.1
    (λ tree is.
    outcome_from page there left (before ++ tree ∷ []) (omega (arith, length-append before (tree ∷ [])))
    (trees_append page 1 before tree have (subst (λ n. HasTreeAt page n tree) (let e : length before + 1 ≡ 1 + length before = omega arith in e) (script.0, script.1, is))))

scripts_read : (bytes : List ℕ) (page : Page) → PageOf bytes page → Outcome page
scripts_read bytes page is = outcome_from page (λ number from to. has_script bytes page number is from to) (length page.scripts) [] (omega arith) tt

-- ---- answers

-- there is an application, or a cause why there is none
abbrev Answered : List ℕ → List ℕ → Type 0
Answered bytes manifest = ((loaded : Loaded) × AppOf bytes manifest loaded) ⊎ ((refusal : AppRefusal) × (refusal ≢ app.Memory) × IsAppRefusal bytes manifest refusal)

refuse : (bytes manifest : List ℕ) (refusal : AppRefusal) → (refusal ≢ app.Memory) → IsAppRefusal bytes manifest refusal → Answered bytes manifest
refuse bytes manifest refusal other is = inr (refusal, other, is)

answer_stopped : (bytes manifest : List ℕ) (page : Page) → PageOf bytes page → (number : ℕ) (script : List ℕ) → IsReached page number script → (stop : Stop) → IsStopped script stop → Answered bytes manifest
answer_stopped bytes manifest page is number script reached (NoTokens place kind) stopped = refuse bytes manifest (app.Lex number place kind) (λ e. cc) (page, is, (script, reached, stopped))
answer_stopped bytes manifest page is number script reached (NoTree place kind) stopped = refuse bytes manifest (app.Parse number place kind) (λ e. cc) (page, is, (script, reached, stopped))

answer_sound : (bytes manifest : List ℕ) (page : Page) → PageOf bytes page → (trees : List Plant) → HaveTrees page trees → AreClean trees
    → (answer : Result Manifest ManifestRefusal) → IsAnswer manifest answer → Answered bytes manifest
answer_sound bytes manifest page is trees have clean (Ok says) said = inl (
  record { page = page; bytes = bytes; program = program_of trees; manifest = says },
  record { page = is; kept = refl; trees = trees; sound = record { have = have; clean = clean }; program = refl; said = said },
)
answer_sound bytes manifest page is trees have clean (Err (refused.Kind kind)) said =
    refuse bytes manifest (app.Manifest kind) (λ e. cc) (page, is, ((trees, record { have = have; clean = clean }), said))
answer_sound bytes manifest page is trees have clean (Err refused.LimitsTooLarge) said =
    refuse bytes manifest app.LimitsTooLarge (λ e. cc) (page, is, ((trees, record { have = have; clean = clean }), said))
answer_sound bytes manifest page is trees have clean (Err refused.Memory) said = absurd said

answer_trees : (bytes manifest : List ℕ) (page : Page) → PageOf bytes page → (trees : List Plant) → HaveTrees page trees → Answered bytes manifest
answer_trees bytes manifest page is trees have = elim (of_trees trees) [
  | inr early ↦ refuse bytes manifest (app.Early early.0 early.1.place early.1.kind) (λ e. cc) (page, is, (trees, have, early.2))
  | inl clean ↦ let answer = of_manifest manifest in answer_sound bytes manifest page is trees have clean answer.0 answer.1
]

pub has_an_answer : HasAnAnswer
has_an_answer bytes manifest = elim (some_reading bytes) [
  | inr refusal ↦ refuse bytes manifest (app.Page refusal.0 refusal.1) (λ e. cc) refusal.2
  | inl page ↦ elim (scripts_read bytes page.0 page.1) [
    | inl trees ↦ answer_trees bytes manifest page.0 page.1 trees.0 trees.1
    | inr stopped ↦ answer_stopped bytes manifest page.0 page.1 stopped.0 stopped.1 stopped.2 stopped.3 stopped.4
  ]
]
