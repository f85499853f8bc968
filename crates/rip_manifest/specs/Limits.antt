-- The limits that a manifest names: members `LIMIT:NUMBER` of an object.
use Rattle.std.specs.Prelude.{◌≡◌, ℕ, ◌+◌, ◌*◌, ◌≤◌, List, [], ◌∷◌, codes, Option, Some, None, ⊤, Bool, IsTrue, bytes_eq}
use Rattle.std.specs.List.{list_any}
use Rattle.serde_json.specs.Data.{Data, number, unsigned, object, Members, no_members, member}
use Rattle.serde_json.specs.Find.{get}
use Rattle.rip_limits.specs.Limits.{default, greatest}
use Rattle.rip_limits.specs.declared.limits.Limits.{Limits}
use Rattle.rip_limits.specs.declared.version.Version.{Version}
use Rattle.rip_limits.specs.declared.version.Version.TheVariants.{One, Two}

-- the names that limits have in each version
abbrev pub limit_names : Version → List (List ℕ)
limit_names One = codes "fuel" ∷ codes "cells" ∷ codes "units" ∷ codes "nodes" ∷ codes "depth" ∷ codes "queue" ∷ codes "sessions" ∷ []
limit_names Two = codes "fuel" ∷ codes "cells" ∷ codes "units" ∷ codes "nodes" ∷ codes "depth" ∷ codes "queue" ∷ codes "sessions" ∷ codes "text" ∷ codes "replies" ∷ []

-- one of them
abbrev pub is_limit_name : Version → List ℕ → Bool
is_limit_name version name = list_any (λ known. bytes_eq known name) (limit_names version)

-- each member has the name of a limit
abbrev pub NameLimits : Version → Members → Type 0
NameLimits version no_members = ⊤
NameLimits version (member name value ms) = IsTrue (is_limit_name version name) × NameLimits version ms

-- the limit for which this value was found, or none: a whole number from 1 to the most, or the usual one
abbrev pub IsLimit : Option Data → ℕ → ℕ → ℕ → Type 0
IsLimit None usual most limit = limit ≡ usual
IsLimit (Some value) usual most limit = (value ≡ number (unsigned limit)) × (1 ≤ limit) × (limit ≤ most)

-- the value is an object that names limits of this version, and with the defaults of the others these are they
pub record AreLimits (version : Version) (value : Data) (limits : Limits) : Type 0 where
  pub members : Members
  pub are : value ≡ object members
  pub known : NameLimits version members
  pub fuel : IsLimit (get (codes "fuel") value) default.fuel (greatest version).fuel limits.fuel
  pub cells : IsLimit (get (codes "cells") value) default.cells (greatest version).cells limits.cells
  pub units : IsLimit (get (codes "units") value) default.units (greatest version).units limits.units
  pub nodes : IsLimit (get (codes "nodes") value) default.nodes (greatest version).nodes limits.nodes
  pub depth : IsLimit (get (codes "depth") value) default.depth (greatest version).depth limits.depth
  pub queue : IsLimit (get (codes "queue") value) default.queue (greatest version).queue limits.queue
  pub sessions : IsLimit (get (codes "sessions") value) default.sessions (greatest version).sessions limits.sessions
  pub text : IsLimit (get (codes "text") value) default.text (greatest version).text limits.text
  pub replies : IsLimit (get (codes "replies") value) default.replies (greatest version).replies limits.replies

-- the bytes that sessions with these limits may take
abbrev pub memory_of : Limits → ℕ
memory_of limits =
    limits.sessions * (32 * limits.cells + 2 * limits.units + 64 * limits.nodes + 64 * limits.depth + limits.queue + 2097152 + 16384 * limits.replies)
