-- The list of all built-ins at a number.
use Rattle.std.proofs.Common.{◌≡◌, ℕ, Option, None, Some, refl, sym, ap, ◌∙◌}
use Rattle.std.specs.Prelude.{IfSome, slice_get}
use Rattle.rip_values.specs.declared.builtin.Builtin.{Builtin}
use Rattle.rip_values.specs.Builtins.{builtins, number_of}
use Rattle.rip_values.proofs.BuiltinTableLemmas.{slice_get-number_of}
use Rattle.rip_values.proofs.BuiltinLemmas.{IfSome-slice_get}
use Rattle.rip_ops.specs.Calls.{builtin_of}

-- the only built-in of a number is the one at its place
pub builtin_of-only : (number : ℕ) (found : Option Builtin) → IfSome found (λ b. number_of b ≡ number) → ((b : Builtin) → number_of b ≡ number → found ≡ Some b) → found ≡ builtin_of number
builtin_of-only number (Some b) is only = sym (slice_get-number_of b) ∙ ap (slice_get builtins) is
builtin_of-only number None is only = by (slice_get builtins number) (IfSome-slice_get number (slice_get builtins number) refl)
  where
    by : (o : Option Builtin) → IfSome o (λ b. number_of b ≡ number) → None ≡ o
    by None h = refl
    by (Some b) h = only b h
