use Rattle.std.proofs.Common.{◌≡◌, ◌++◌, OnOk, sym, subst}
use Rattle.std.specs.Fmt.{digits}
use Rattle.rip_http.specs.Answers.{status_line}
use Rattle.rip_http.proofs.answer.write_status.Goals as goal

pub returns-in-200 : goal.returns-in-200
unfolding digits
returns-in-200 c = subst (λ n. OnOk c.write.result (c.write.new.out.items ≡ c.args.out.now.items ++ status_line n)) (sym c.in-200.is) c.write.ensures

pub returns-in-400 : goal.returns-in-400
unfolding digits
returns-in-400 c = subst (λ n. OnOk c.write-in-400.result (c.write-in-400.new.out.items ≡ c.args.out.now.items ++ status_line n)) (sym c.in-400.is) c.write-in-400.ensures

pub returns-in-404 : goal.returns-in-404
unfolding digits
returns-in-404 c = subst (λ n. OnOk c.write-in-404.result (c.write-in-404.new.out.items ≡ c.args.out.now.items ++ status_line n)) (sym c.in-404.is) c.write-in-404.ensures

pub returns-in-405 : goal.returns-in-405
unfolding digits
returns-in-405 c = subst (λ n. OnOk c.write-in-405.result (c.write-in-405.new.out.items ≡ c.args.out.now.items ++ status_line n)) (sym c.in-405.is) c.write-in-405.ensures

pub returns-in-409 : goal.returns-in-409
unfolding digits
returns-in-409 c = subst (λ n. OnOk c.write-in-409.result (c.write-in-409.new.out.items ≡ c.args.out.now.items ++ status_line n)) (sym c.in-409.is) c.write-in-409.ensures

pub returns-in-410 : goal.returns-in-410
unfolding digits
returns-in-410 c = subst (λ n. OnOk c.write-in-410.result (c.write-in-410.new.out.items ≡ c.args.out.now.items ++ status_line n)) (sym c.in-410.is) c.write-in-410.ensures

pub returns-in-411 : goal.returns-in-411
unfolding digits
returns-in-411 c = subst (λ n. OnOk c.write-in-411.result (c.write-in-411.new.out.items ≡ c.args.out.now.items ++ status_line n)) (sym c.in-411.is) c.write-in-411.ensures

pub returns-in-413 : goal.returns-in-413
unfolding digits
returns-in-413 c = subst (λ n. OnOk c.write-in-413.result (c.write-in-413.new.out.items ≡ c.args.out.now.items ++ status_line n)) (sym c.in-413.is) c.write-in-413.ensures

pub returns-in-431 : goal.returns-in-431
unfolding digits
returns-in-431 c = subst (λ n. OnOk c.write-in-431.result (c.write-in-431.new.out.items ≡ c.args.out.now.items ++ status_line n)) (sym c.in-431.is) c.write-in-431.ensures

pub returns-in-500 : goal.returns-in-500
unfolding digits
returns-in-500 c = subst (λ n. OnOk c.write-in-500.result (c.write-in-500.new.out.items ≡ c.args.out.now.items ++ status_line n)) (sym c.in-500.is) c.write-in-500.ensures

pub returns-in-501 : goal.returns-in-501
unfolding digits
returns-in-501 c = subst (λ n. OnOk c.write-in-501.result (c.write-in-501.new.out.items ≡ c.args.out.now.items ++ status_line n)) (sym c.in-501.is) c.write-in-501.ensures

pub returns-in-503 : goal.returns-in-503
unfolding digits
returns-in-503 c = subst (λ n. OnOk c.write-in-503.result (c.write-in-503.new.out.items ≡ c.args.out.now.items ++ status_line n)) (sym c.in-503.is) c.write-in-503.ensures
