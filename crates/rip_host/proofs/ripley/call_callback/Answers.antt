use Rattle.std.proofs.Common.{inl, sym, ◌∙◌}
use Rattle.rip_host.proofs.CallLemmas.{callable}
use Rattle.rip_host.proofs.ripley.call_callback.Goals as goal

pub returns-then-is_function_object-clause-belongs : goal.returns-then-is_function_object-clause-belongs
returns-then-is_function_object-clause-belongs c =
    inl (callable c.args.heap.now c.in-Object.n (sym c.is_function_object.ensures ∙ c.if-is_function_object.true))
