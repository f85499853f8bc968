use Rattle.std.proofs.Common.{◌≡◌, Err, unwrap_or, sym, ap, ◌∙◌}
use Rattle.rip_convert.specs.Arguments.{fault_of}
use Rattle.rip_convert.proofs.Calling.{judged_err}
use Rattle.rip_convert.proofs.row.judge.Goals as goal

pub returns-in-Err : goal.returns-in-Err
returns-in-Err c =
    let w = c.args.heap.now in
    let v = c.args.args.now in
    let first : c.first_fault.result ≡ fault_of 8 w v = c.first_fault.ensures.fault in
    judged_err w v c.in-Err.spent (sym c.in-Err.ensures.left) ∙ ap Err (ap (λ o. unwrap_or o c.in-Err.spent) (sym first) ∙ sym c.unwrap_or.ensures)
