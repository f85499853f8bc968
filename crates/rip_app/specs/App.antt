-- The application that a page and a manifest are, and why they are none.
use Rattle.std.specs.Prelude.{◌≡◌, ◌+◌, ℕ, suc, List, [], ◌∷◌, length, Some}
use Rattle.rip_base.specs.Page.{script_at, Contents as Page}
use Rattle.rip_base.specs.declared.page.PageKind.{PageKind}
use Rattle.rip_lexer.specs.declared.refusal.LexKind.{LexKind}
use Rattle.rip_lexer.specs.Tokens.{IsFirstRefusal}
use Rattle.rip_tree.specs.Branches.{Plant}
use Rattle.rip_tree.specs.Program.{Code}
use Rattle.rip_parser.specs.declared.refusal.ParseKind.{ParseKind}
use Rattle.rip_parser.specs.Parsed.{IsTreeOf, IsNoTree}
use Rattle.rip_early.specs.declared.refusal.EarlyKind.{EarlyKind}
use Rattle.rip_early.specs.declared.refusal.EarlyRefusal.TheVariants as early
use Rattle.rip_early.specs.Mistakes.{AreClean, IsRefusalOf}
use Rattle.rip_early.specs.Program.{program_of}
use Rattle.rip_html.specs.Pages.{PageOf, IsRefusedAt}
use Rattle.rip_manifest.specs.Manifest.{ManifestOf, Contents as Manifest, IsRefused as IsNoManifest}
use Rattle.rip_manifest.specs.declared.refusal.ManifestRefusal.{ManifestRefusal}
use Rattle.rip_manifest.specs.declared.refusal.ManifestRefusal.TheVariants as refused
use Rattle.rip_app.specs.declared.refusal.AppRefusal.{AppRefusal}
use Rattle.rip_app.specs.declared.refusal.AppRefusal.TheVariants as app

-- what an application holds: its page, the bytes of the page, the program of its scripts, and what the manifest says
pub record Loaded : Type 0 where
  pub page : Page
  pub bytes : List ℕ
  pub program : Code
  pub manifest : Manifest

-- THE SCRIPTS OF A PAGE

-- the script of the page with this number has this tree
abbrev pub HasTreeAt : Page → ℕ → Plant → Type 0
HasTreeAt page number tree = (script : List ℕ) × (script_at page number ≡ Some script) × IsTreeOf script tree

-- the scripts of the page from this number on, as many as there are trees, have these trees
abbrev pub HaveTreesFrom : Page → ℕ → List Plant → Type 0
HaveTreesFrom page number [] = Unit {0}
HaveTreesFrom page number (tree ∷ trees) = HasTreeAt page number tree × HaveTreesFrom page (suc number) trees

-- the scripts of the page, each and in their order, have these trees
pub record HaveTrees (page : Page) (trees : List Plant) : Type 0 where
  pub each : HaveTreesFrom page 1 trees
  pub all : length trees ≡ length page.scripts

-- the script with this number has these units, and the scripts before it have trees
pub record IsReached (page : Page) (number : ℕ) (script : List ℕ) : Type 0 where
  pub before : List Plant
  pub parsed : HaveTreesFrom page 1 before
  pub next : number ≡ length before + 1
  pub text : script_at page number ≡ Some script

-- the scripts before this one have trees, and its first construct that is refused stands at this place
abbrev pub HasNoTokens : Page → ℕ → ℕ → LexKind → Type 0
HasNoTokens page number place kind = (script : List ℕ) × IsReached page number script × IsFirstRefusal script place kind

-- the scripts before this one have trees, and it has tokens and no tree
abbrev pub HasNoTree : Page → ℕ → ℕ → ParseKind → Type 0
HasNoTree page number place kind = (script : List ℕ) × IsReached page number script × IsNoTree script place kind

-- all scripts have trees, and this is their first early error
abbrev pub IsMistaken : Page → ℕ → ℕ → EarlyKind → Type 0
IsMistaken page number place kind =
    (trees : List Plant) × HaveTrees page trees × IsRefusalOf trees (early.At number place kind)

-- the scripts have these trees, and no early error
pub record AreSound (page : Page) (trees : List Plant) : Type 0 where
  pub have : HaveTrees page trees
  pub clean : AreClean trees

-- THE APPLICATION

-- the application of the page's bytes and the manifest's
pub record AppOf (bytes manifest : List ℕ) (loaded : Loaded) : Type 0 where
  pub page : PageOf bytes loaded.page
  pub kept : loaded.bytes ≡ bytes
  pub trees : List Plant
  pub sound : AreSound loaded.page trees
  pub program : loaded.program ≡ program_of trees
  pub said : ManifestOf manifest loaded.manifest

-- the bytes are a page of which this holds
abbrev pub IsPageWith : List ℕ → (Page → Type 0) → Type 0
IsPageWith bytes Holds = (page : Page) × PageOf bytes page × Holds page

-- the scripts are sound, and the manifest's bytes are refused so
abbrev pub HasNoManifest : List ℕ → ManifestRefusal → Page → Type 0
HasNoManifest manifest refusal page = ((trees : List Plant) × AreSound page trees) × IsNoManifest manifest refusal

-- why the bytes of a page and a manifest are no application: the first cause in this order; nothing is said of want of
-- memory
abbrev pub IsAppRefusal : List ℕ → List ℕ → AppRefusal → Type 0
IsAppRefusal bytes manifest (app.Page place kind) = IsRefusedAt bytes place kind
IsAppRefusal bytes manifest (app.Lex number place kind) = IsPageWith bytes (λ page. HasNoTokens page number place kind)
IsAppRefusal bytes manifest (app.Parse number place kind) = IsPageWith bytes (λ page. HasNoTree page number place kind)
IsAppRefusal bytes manifest (app.Early number place kind) = IsPageWith bytes (λ page. IsMistaken page number place kind)
IsAppRefusal bytes manifest (app.Manifest kind) = IsPageWith bytes (HasNoManifest manifest (refused.Kind kind))
IsAppRefusal bytes manifest app.LimitsTooLarge = IsPageWith bytes (HasNoManifest manifest refused.LimitsTooLarge)
IsAppRefusal bytes manifest app.Memory = Unit {0}
