-- Refusals as they are printed.
use Rattle.std.specs.Prelude.{List, ℕ, ◌++◌, codes, decimal}
use Rattle.rip_early.specs.declared.refusal.EarlyKind.{EarlyKind}
use Rattle.rip_early.specs.declared.refusal.EarlyKind.TheVariants.{NotStrict, Duplicate, BadBinding, BadDelete, UnknownGlobal, NoGlobalObject, BadJump}
use Rattle.rip_early.specs.declared.refusal.EarlyRefusal.{EarlyRefusal}
use Rattle.rip_early.specs.declared.refusal.EarlyRefusal.TheVariants.{At, Memory}

-- a kind by its name
abbrev pub kind_text : EarlyKind → List ℕ
kind_text NotStrict = codes "NotStrict"
kind_text Duplicate = codes "Duplicate"
kind_text BadBinding = codes "BadBinding"
kind_text BadDelete = codes "BadDelete"
kind_text UnknownGlobal = codes "UnknownGlobal"
kind_text NoGlobalObject = codes "NoGlobalObject"
kind_text BadJump = codes "BadJump"

-- a kind and its place, or `memory`
abbrev pub refusal_text : EarlyRefusal → List ℕ
refusal_text (At script place kind) = kind_text kind ++ codes " " ++ decimal place
refusal_text Memory = codes "memory"
