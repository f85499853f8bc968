-- How the refusals of the layers below are told, and what each part of loading says of its own. No public clause cites
-- this.
use Rattle.std.specs.Prelude.{◌≡◌, ℕ, Some, List}
use Rattle.rip_base.specs.Page.{script_at, Contents as Page}
use Rattle.rip_markup.specs.declared.refusal.PageRefusal.{PageRefusal}
use Rattle.rip_markup.specs.declared.refusal.PageRefusal.TheVariants as markup
use Rattle.rip_lexer.specs.declared.refusal.LexRefusal.{LexRefusal}
use Rattle.rip_lexer.specs.declared.refusal.LexRefusal.TheVariants as lex
use Rattle.rip_lexer.specs.Tokens.{IsFirstRefusal}
use Rattle.rip_tree.specs.Branches.{Plant}
use Rattle.rip_parser.specs.declared.refusal.ParseRefusal.{ParseRefusal}
use Rattle.rip_parser.specs.declared.refusal.ParseRefusal.TheVariants as parse
use Rattle.rip_parser.specs.Parsed.{IsNoTree}
use Rattle.rip_early.specs.Mistakes.{IsRefusalOf}
use Rattle.rip_early.specs.declared.refusal.EarlyRefusal.{EarlyRefusal}
use Rattle.rip_early.specs.declared.refusal.EarlyRefusal.TheVariants as early
use Rattle.rip_html.specs.Pages.{IsRefusedAt}
use Rattle.rip_manifest.specs.Manifest.{IsRefused}
use Rattle.rip_manifest.specs.declared.refusal.ManifestRefusal.{ManifestRefusal}
use Rattle.rip_manifest.specs.declared.refusal.ManifestRefusal.TheVariants as manifest
use Rattle.rip_app.specs.App.{HasNoTokens, HasNoTree, IsMistaken}
use Rattle.rip_app.specs.declared.refusal.AppRefusal.{AppRefusal}
use Rattle.rip_app.specs.declared.refusal.AppRefusal.TheVariants as app

-- how the refusals of the layers below are told
abbrev pub of_page : PageRefusal → AppRefusal
of_page (markup.At place kind) = app.Page place kind
of_page markup.Memory = app.Memory

-- how a refusal of tokens is told of a script
abbrev pub of_tokens : ℕ → LexRefusal → AppRefusal
of_tokens number (lex.At place kind) = app.Lex number place kind
of_tokens number lex.Memory = app.Memory

-- the same of a tree
abbrev pub of_tree : ℕ → ParseRefusal → AppRefusal
of_tree number (parse.At place kind) = app.Parse number place kind
of_tree number parse.Memory = app.Memory

-- the same of early errors
abbrev pub of_mistake : EarlyRefusal → AppRefusal
of_mistake (early.At number place kind) = app.Early number place kind
of_mistake early.Memory = app.Memory

-- how a refusal of a manifest is told
abbrev pub of_manifest : ManifestRefusal → AppRefusal
of_manifest (manifest.Kind kind) = app.Manifest kind
of_manifest manifest.LimitsTooLarge = app.LimitsTooLarge
of_manifest manifest.Memory = app.Memory

-- the bytes are no page
abbrev pub RefusesPage : List ℕ → AppRefusal → Type 0
RefusesPage bytes (app.Page place kind) = IsRefusedAt bytes place kind
RefusesPage bytes (app.Lex number place kind) = ⊥
RefusesPage bytes (app.Parse number place kind) = ⊥
RefusesPage bytes (app.Early number place kind) = ⊥
RefusesPage bytes (app.Manifest kind) = ⊥
RefusesPage bytes app.LimitsTooLarge = ⊥
RefusesPage bytes app.Memory = Unit {0}

-- the script with this number has no tokens, or no tree
abbrev pub RefusesScript : ℕ → List ℕ → AppRefusal → Type 0
RefusesScript number script (app.Page place kind) = ⊥
RefusesScript number script (app.Lex other place kind) = (other ≡ number) × IsFirstRefusal script place kind
RefusesScript number script (app.Parse other place kind) = (other ≡ number) × IsNoTree script place kind
RefusesScript number script (app.Early other place kind) = ⊥
RefusesScript number script (app.Manifest kind) = ⊥
RefusesScript number script app.LimitsTooLarge = ⊥
RefusesScript number script app.Memory = Unit {0}

-- the script of the page with this number has no tokens, or no tree
abbrev pub RefusesScriptAt : Page → ℕ → AppRefusal → Type 0
RefusesScriptAt page number refusal = (script : List ℕ) × (script_at page number ≡ Some script) × RefusesScript number script refusal

-- one of the page's scripts is the first that has no tokens, or no tree
abbrev pub RefusesScripts : Page → AppRefusal → Type 0
RefusesScripts page (app.Page place kind) = ⊥
RefusesScripts page (app.Lex number place kind) = HasNoTokens page number place kind
RefusesScripts page (app.Parse number place kind) = HasNoTree page number place kind
RefusesScripts page (app.Early number place kind) = ⊥
RefusesScripts page (app.Manifest kind) = ⊥
RefusesScripts page app.LimitsTooLarge = ⊥
RefusesScripts page app.Memory = Unit {0}

-- the trees have an early error
abbrev pub RefusesTrees : List Plant → AppRefusal → Type 0
RefusesTrees trees (app.Page place kind) = ⊥
RefusesTrees trees (app.Lex number place kind) = ⊥
RefusesTrees trees (app.Parse number place kind) = ⊥
RefusesTrees trees (app.Early number place kind) = IsRefusalOf trees (early.At number place kind)
RefusesTrees trees (app.Manifest kind) = ⊥
RefusesTrees trees app.LimitsTooLarge = ⊥
RefusesTrees trees app.Memory = Unit {0}

-- the page's scripts have no program
abbrev pub RefusesProgram : Page → AppRefusal → Type 0
RefusesProgram page (app.Page place kind) = ⊥
RefusesProgram page (app.Lex number place kind) = HasNoTokens page number place kind
RefusesProgram page (app.Parse number place kind) = HasNoTree page number place kind
RefusesProgram page (app.Early number place kind) = IsMistaken page number place kind
RefusesProgram page (app.Manifest kind) = ⊥
RefusesProgram page app.LimitsTooLarge = ⊥
RefusesProgram page app.Memory = Unit {0}

-- the bytes are no manifest
abbrev pub RefusesManifest : List ℕ → AppRefusal → Type 0
RefusesManifest bytes (app.Page place kind) = ⊥
RefusesManifest bytes (app.Lex number place kind) = ⊥
RefusesManifest bytes (app.Parse number place kind) = ⊥
RefusesManifest bytes (app.Early number place kind) = ⊥
RefusesManifest bytes (app.Manifest kind) = IsRefused bytes (manifest.Kind kind)
RefusesManifest bytes app.LimitsTooLarge = IsRefused bytes manifest.LimitsTooLarge
RefusesManifest bytes app.Memory = Unit {0}
