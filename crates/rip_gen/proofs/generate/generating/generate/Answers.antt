use Rattle.std.proofs.Common.{sym, subst}
use Rattle.rip_gen.specs.Plans.{IsPlan, Plan}
use Rattle.rip_gen.proofs.GeneratedLemmas.{generated_so}
use Rattle.rip_gen.proofs.generate.generating.generate.Goals as goal

pub trace_of-requires : goal.trace_of-requires
trace_of-requires c = subst (λ (p : Plan). IsPlan p) (sym c.in_ok-plan.ensures) (c.plans_are_in_range.ensures c.args.n)

pub returns : goal.returns
returns c =
    generated_so c.args.n c.in_ok-plan.plan c.in_ok-text.text c.as_slice.result.now c.in_ok-history.history c.as_slice-2.result.now c.as_slice-3.result.now c.sum_up.result c.in_ok-plan.ensures
    c.in_ok-text.ensures c.as_slice.ensures c.in_ok-history.ensures c.as_slice-2.ensures c.in_ok-check_pace.ensures c.as_slice-3.ensures c.sum_up.ensures
