-- What a walk over options keeps from step to step.
use Rattle.std.specs.Prelude.{ℕ, ◌-◌, ◌==◌, Bool, false, if◌then◌else◌, Option, None, Some, List}
use Rattle.rip_values.specs.Pool.{Texts}
use Rattle.rip_dom.specs.Tree.{Tree}
use Rattle.rip_forms.specs.Choices.{has_value}
use Rattle.rip_forms.specs.Options.{is_selected}

-- the step enters the option that is looked for
abbrev pub is_sought : ℕ → Option ℕ → Bool
is_sought left None = false
is_sought left (Some option) = left == 0

-- how many options are left to be passed, behind a step that enters one or none
abbrev pub fewer : ℕ → Option ℕ → ℕ
fewer left None = left
fewer left (Some option) = left - 1

-- how many options the step enters
abbrev pub more : Option ℕ → ℕ
more None = 0
more (Some option) = 1

-- the place of the last option with `selected`, where so many were entered before this step
abbrev pub found_behind : Texts → Tree → Option ℕ → ℕ → ℕ → ℕ
found_behind pool t None count found = found
found_behind pool t (Some option) count found = if is_selected pool t option then count else found

-- the step enters an option whose value is this text
abbrev pub is_wanted : Texts → Tree → List ℕ → Option ℕ → Bool
is_wanted pool t text None = false
is_wanted pool t text (Some option) = has_value pool t text option
