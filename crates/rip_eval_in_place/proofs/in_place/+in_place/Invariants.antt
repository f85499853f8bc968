use Rattle.std.proofs.Common.{◌+◌, ◌*◌}
use Rattle.rip_eval_in_place.proofs.in_place.+in_place.Given as goal

abbrev pub decreases-tried : goal.decreases-tried
decreases-tried l = 4 * l.height + 3

abbrev pub decreases-done_by_form : goal.decreases-done_by_form
decreases-done_by_form l = 4 * l.height + 2

abbrev pub decreases-done_inside : goal.decreases-done_inside
decreases-done_inside l = 4 * l.height

abbrev pub decreases-done_expression : goal.decreases-done_expression
decreases-done_expression l = 4 * l.height + 1

abbrev pub decreases-done_if : goal.decreases-done_if
decreases-done_if l = 4 * l.height + 1

abbrev pub decreases-done_return : goal.decreases-done_return
decreases-done_return l = 4 * l.height + 1

abbrev pub decreases-done_block : goal.decreases-done_block
decreases-done_block l = 4 * l.height + 1
