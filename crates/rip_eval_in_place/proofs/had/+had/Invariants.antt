use Rattle.std.proofs.Common.{◌+◌, ◌*◌}
use Rattle.rip_eval_in_place.proofs.had.+had.Given as goal

abbrev pub decreases-had_part : goal.decreases-had_part
decreases-had_part l = 4 * l.height + 3

abbrev pub decreases-had_by_form : goal.decreases-had_by_form
decreases-had_by_form l = 4 * l.height + 2

abbrev pub decreases-had_inside : goal.decreases-had_inside
decreases-had_inside l = 4 * l.height

abbrev pub decreases-had_binary : goal.decreases-had_binary
decreases-had_binary l = 4 * l.height + 1

abbrev pub decreases-had_logical : goal.decreases-had_logical
decreases-had_logical l = 4 * l.height + 1

abbrev pub decreases-had_conditional : goal.decreases-had_conditional
decreases-had_conditional l = 4 * l.height + 1

abbrev pub decreases-had_unary : goal.decreases-had_unary
decreases-had_unary l = 4 * l.height + 1

abbrev pub decreases-had_member : goal.decreases-had_member
decreases-had_member l = 4 * l.height + 1

abbrev pub decreases-had_index : goal.decreases-had_index
decreases-had_index l = 4 * l.height + 1
