-- The laws of manifests: any bytes have one answer.
use Rattle.std.specs.Prelude.{◌≡◌, ℕ, ◌+◌, ◌*◌, List, Result}
use Rattle.rip_limits.specs.declared.version.Version.TheVariants.{One}
use Rattle.rip_limits.specs.declared.limits.Limits.{Limits}
use Rattle.rip_manifest.specs.declared.refusal.ManifestRefusal.{ManifestRefusal}
use Rattle.rip_manifest.specs.Limits.{memory_of}
use Rattle.rip_manifest.specs.Manifest.{Contents, Says, IsAnswer}

-- bytes have an answer: they are a manifest, or they are refused for a cause
abbrev pub HasAnAnswer : Type 0
HasAnAnswer = (bytes : List ℕ) → (answer : Result Contents ManifestRefusal) × IsAnswer bytes answer

-- bytes have at most one answer: they are one manifest, or they are refused for one cause, and never both
abbrev pub HasOneAnswer : Type 0
HasOneAnswer =
    (bytes : List ℕ) (answer other : Result Contents ManifestRefusal)
    → IsAnswer bytes answer → IsAnswer bytes other → answer ≡ other

-- the longest text and the replies of a manifest of version 1, and its sum, as if it knew neither
pub record StandsAsOne (limits : Limits) : Type 0 where
  pub text : limits.text ≡ 65535
  pub replies : limits.replies ≡ 64
  pub memory : memory_of limits ≡ limits.sessions * (32 * limits.cells + 2 * limits.units + 64 * limits.nodes + 64 * limits.depth + limits.queue + 3145728)

-- each manifest of version 1 has them
abbrev pub VersionOneStands : Type 0
VersionOneStands = (bytes : List ℕ) (contents : Contents) → Says bytes contents → contents.stated.version ≡ One → StandsAsOne contents.limits
