-- What a manifest says, and why bytes are no manifest. JSON is that of RFC 8259.
use Rattle.std.specs.Prelude.{◌≡◌, ℕ, ◌<◌, ◌≤◌, List, codes, Option, Some, None, ⊤, Result, Ok, Err}
use Rattle.serde_json.specs.Data.{Data, number, unsigned, object, Members}
use Rattle.serde_json.specs.Events.{members_len}
use Rattle.serde_json.specs.Find.{get, get_member}
use Rattle.rip_data.specs.Reading.{answer_long}
use Rattle.rip_manifest.specs.declared.function.Function.{Function}
use Rattle.rip_limits.specs.declared.limits.Limits.{Limits}
use Rattle.rip_limits.specs.declared.version.Version.TheVariants as V
use Rattle.rip_limits.specs.declared.version.Language.{Language}
use Rattle.rip_limits.specs.declared.version.Language.TheVariants as L
use Rattle.rip_limits.specs.declared.version.Wire.{Wire}
use Rattle.rip_limits.specs.declared.version.Wire.TheVariants as W
use Rattle.rip_manifest.specs.declared.statement.Stated.{Stated}
use Rattle.rip_manifest.specs.Functions.{AreFunctions}
use Rattle.rip_manifest.specs.Limits.{AreLimits, memory_of}
use Rattle.rip_manifest.specs.declared.refusal.ManifestKind.{ManifestKind}
use Rattle.rip_manifest.specs.declared.refusal.ManifestKind.TheVariants as K
use Rattle.rip_manifest.specs.declared.refusal.ManifestRefusal.{ManifestRefusal}
use Rattle.rip_manifest.specs.declared.refusal.ManifestRefusal.TheVariants as R

-- what a manifest says
pub record Contents : Type 0 where
  pub stated : Stated
  pub functions : List Function
  pub limits : Limits

-- the members of a manifest: three, or five, which have a language and a wire beside
pub record Parts : Type 0 where
  pub version : Data
  pub beside : Option (Data × Data)
  pub functions : Data
  pub limits : Data

-- the object has this language and this wire and five members, or three members and neither
abbrev pub HasBeside : Members → Option (Data × Data) → Type 0
HasBeside members None = members_len members ≡ 3
HasBeside members (Some both) =
    (members_len members ≡ 5) × (get_member (codes "language") members ≡ Some both.0) × (get_member (codes "wire") members ≡ Some both.1)

-- the value is an object with exactly these members
pub record HasParts (value : Data) (parts : Parts) : Type 0 where
  pub members : Members
  pub are : value ≡ object members
  pub beside : HasBeside members parts.beside
  pub version : get_member (codes "version") members ≡ Some parts.version
  pub functions : get_member (codes "functions") members ≡ Some parts.functions
  pub limits : get_member (codes "limits") members ≡ Some parts.limits

-- the object has what manifests of both versions have
pub record HasShared (value : Data) (parts : Parts) : Type 0 where
  pub version : get (codes "version") value ≡ Some parts.version
  pub functions : get (codes "functions") value ≡ Some parts.functions
  pub limits : get (codes "limits") value ≡ Some parts.limits

-- the bytes are the JSON of this value, whose numbers are whole and which nests at most 8 deep
abbrev pub IsJson : List ℕ → Data → Type 0
IsJson bytes value = answer_long bytes ≡ Ok value

-- the bytes are the JSON of an object with exactly these members
abbrev pub ArePartsOf : List ℕ → Parts → Type 0
ArePartsOf bytes parts = (value : Data) × IsJson bytes value × HasParts value parts

-- the value names the language; none names language 2, which no page is judged in yet
abbrev pub IsLanguage : Data → Language → Type 0
IsLanguage value L.One = value ≡ number (unsigned 1)
IsLanguage value L.Two = ⊥

-- the value names the wire; none names wire 2, which no browser is served by yet
abbrev pub IsWire : Data → Wire → Type 0
IsWire value W.One = value ≡ number (unsigned 1)
IsWire value W.Two = ⊥

-- a version alone states that it is 1, and so are language and wire; one beside a language and a wire states that it is
-- 2, and which they are
abbrev pub AreStated : Data → Option (Data × Data) → Stated → Type 0
AreStated version None stated =
    (version ≡ number (unsigned 1)) × (stated ≡ record { version = V.One; language = L.One; wire = W.One })
AreStated version (Some both) stated =
    (version ≡ number (unsigned 2)) × (stated.version ≡ V.Two) × IsLanguage both.0 stated.language × IsWire both.1 stated.wire

-- the parts state this version, language and wire
abbrev pub State : Parts → Stated → Type 0
State parts stated = AreStated parts.version parts.beside stated

-- the parts state a version, a language and a wire that are known
abbrev pub StateSome : Parts → Type 0
StateSome parts = (stated : Stated) × State parts stated

-- the bytes state this, whatever functions and limits they name
abbrev pub IsStatedBy : List ℕ → Stated → Type 0
IsStatedBy bytes stated = (parts : Parts) × ArePartsOf bytes parts × State parts stated

-- what the bytes state, or nothing where they are refused for their syntax, their members or their version
abbrev pub IsStatement : List ℕ → Option Stated → Type 0
IsStatement bytes (Some stated) = IsStatedBy bytes stated
IsStatement bytes None = (stated : Stated) → ¬ IsStatedBy bytes stated

-- the bytes say this, whatever memory it takes
pub record Says (bytes : List ℕ) (contents : Contents) : Type 0 where
  pub parts : Parts
  pub are : ArePartsOf bytes parts
  pub stated : State parts contents.stated
  pub functions : AreFunctions parts.functions contents.functions
  pub limits : AreLimits contents.stated.version parts.limits contents.limits

-- the bytes that all sessions may take together: 2^32
abbrev pub most_memory : ℕ
most_memory = 4294967296

-- the bytes are a manifest that says this
abbrev pub ManifestOf : List ℕ → Contents → Type 0
ManifestOf bytes contents = Says bytes contents × (memory_of contents.limits ≤ most_memory)

-- why bytes are no manifest: the first cause in this order; want of memory is never a cause
abbrev pub IsRefused : List ℕ → ManifestRefusal → Type 0
IsRefused bytes (R.Kind K.Syntax) = (value : Data) → ¬ IsJson bytes value
IsRefused bytes (R.Kind K.Member) = (value : Data) × IsJson bytes value × ((parts : Parts) → ¬ HasParts value parts)
IsRefused bytes (R.Kind K.Version) = (parts : Parts) × ArePartsOf bytes parts × ¬ StateSome parts
IsRefused bytes (R.Kind K.Function) = (parts : Parts) × ArePartsOf bytes parts × StateSome parts × ((functions : List Function) → ¬ AreFunctions parts.functions functions)
IsRefused bytes (R.Kind K.LimitRange) =
    (parts : Parts) × ArePartsOf bytes parts × (some : StateSome parts) × ((functions : List Function) × AreFunctions parts.functions functions)
    × ((limits : Limits) → ¬ AreLimits some.0.version parts.limits limits)
IsRefused bytes R.LimitsTooLarge = (contents : Contents) × Says bytes contents × (most_memory < memory_of contents.limits)
IsRefused bytes R.Memory = ⊥

-- what is to be answered for the bytes
abbrev pub IsAnswer : List ℕ → Result Contents ManifestRefusal → Type 0
IsAnswer bytes (Ok contents) = ManifestOf bytes contents
IsAnswer bytes (Err refusal) = IsRefused bytes refusal

-- the refusal is this kind, from this cause, or memory ran out
abbrev pub IsKindFrom : ManifestKind → Type 0 → ManifestRefusal → Type 0
IsKindFrom kind Cause (R.Kind k) = (k ≡ kind) × Cause
IsKindFrom kind Cause R.LimitsTooLarge = ⊥
IsKindFrom kind Cause R.Memory = ⊤
