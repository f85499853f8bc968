-- What holds of all pages and manifests: they have one application, or they are refused for one first cause, and never
-- both.
use Rattle.std.specs.Prelude.{◌≡◌, ◌≢◌, ◌⊎◌, ℕ, List}
use Rattle.rip_app.specs.App.{Loaded, AppOf, IsAppRefusal}
use Rattle.rip_app.specs.declared.refusal.AppRefusal.{AppRefusal}
use Rattle.rip_app.specs.declared.refusal.AppRefusal.TheVariants as app

-- a page and a manifest have an application, or a cause why they have none; want of memory is no cause
abbrev pub HasAnAnswer : Type 0
HasAnAnswer = (bytes manifest : List ℕ)
    → ((loaded : Loaded) × AppOf bytes manifest loaded) ⊎ ((refusal : AppRefusal) × (refusal ≢ app.Memory) × IsAppRefusal bytes manifest refusal)

-- a page and a manifest have at most one application
abbrev pub HasOneApp : Type 0
HasOneApp = (bytes manifest : List ℕ) (loaded other : Loaded) → AppOf bytes manifest loaded → AppOf bytes manifest other → loaded ≡ other

-- the first cause why they have none is one; want of memory is no cause
abbrev pub HasOneRefusal : Type 0
HasOneRefusal = (bytes manifest : List ℕ) (refusal other : AppRefusal) → IsAppRefusal bytes manifest refusal → IsAppRefusal bytes manifest other
    → refusal ≢ app.Memory → other ≢ app.Memory → refusal ≡ other

-- what has an application is refused for no cause
abbrev pub IsNeverBoth : Type 0
IsNeverBoth = (bytes manifest : List ℕ) (loaded : Loaded) (refusal : AppRefusal) → AppOf bytes manifest loaded → IsAppRefusal bytes manifest refusal → refusal ≡ app.Memory

-- the refusal is this one, or memory ran out
abbrev pub IsOrMemory : AppRefusal → AppRefusal → Type 0
IsOrMemory refusal e = (e ≡ refusal) ⊎ (e ≡ app.Memory)
