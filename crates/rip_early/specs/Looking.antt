-- What a name means, once the scopes that some nodes make were looked at.
use Rattle.std.specs.Prelude.{Bool, true, false, List, Option, Some}
use Rattle.rip_tree.specs.declared.program.Resolved.{Resolved}
use Rattle.rip_tree.specs.declared.program.Resolved.TheVariants.{Binding}
use Rattle.rip_early.specs.declared.meaning.Looked.{Looked}
use Rattle.rip_early.specs.declared.meaning.Looked.TheVariants.{Found, Past}
use Rattle.rip_early.specs.declared.meaning.Meaning.{Meaning}
use Rattle.rip_early.specs.Names.{Name}
use Rattle.rip_early.specs.Scopes.{Scope, meaning_in}

-- what a name means when it was looked for, and these scopes are left
abbrev pub after : Looked → List Scope → Name → Meaning
after (Found meaning) rest name = meaning
after (Past up) rest name = meaning_in up rest name

-- what a name means is a binding
abbrev pub is_binding : Option Resolved → Bool
is_binding (Some (Binding up place)) = true
is_binding _ = false
