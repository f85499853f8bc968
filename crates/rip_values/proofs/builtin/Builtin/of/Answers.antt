use Rattle.std.proofs.Common.{◌∙◌, ap, sym}
use Rattle.std.specs.Prelude.{slice_get}
use Rattle.rip_values.specs.Builtins.{builtins}
use Rattle.rip_values.proofs.BuiltinLemmas.{IfSome-slice_get}
use Rattle.rip_values.proofs.BuiltinTableLemmas.{slice_get-number_of}
use Rattle.rip_values.proofs.builtin.Builtin.of.Goals as goal

pub returns-clause-number : goal.returns-clause-number
unfolding builtins
returns-clause-number c = IfSome-slice_get c.args.number c.at_place.result c.at_place.ensures

pub returns-clause-only : goal.returns-clause-only
unfolding builtins
returns-clause-only c builtin e = c.at_place.ensures ∙ ap (slice_get builtins) (sym e) ∙ slice_get-number_of builtin
