-- The line of generated work.
use Rattle.std.proofs.Common.{◌≡◌, ℕ, List, map, sym, subst}
use Rattle.std.specs.Prelude.{IfOk, Result}
use Rattle.rip_base.specs.declared.memory.NoMemory.{NoMemory}
use Rattle.rip_gen.specs.Plans.{Plan, plan_of}
use Rattle.rip_log.specs.Entries.{recorded_of}
use Rattle.rip_log.specs.declared.entry.Entry.{Entry}
use Rattle.rip_gen.specs.Trace.{IsTraceOf}
use Rattle.rip_gen.specs.Counts.{IsSummedUp}
use Rattle.rip_gen.specs.Forms.{IsTraceOfForm}
use Rattle.rip_gen.specs.Served.{IsServedForm}
use Rattle.rip_gen.specs.Generated.{IsGenerated}
use Rattle.rip_gen.specs.Pace.{IsPaced}
use Rattle.rip_gen.proofs.Results.{on_ok}

pub generated_so : (n : ℕ) (plan : Plan) (trace read : List ℕ) (entries one two : List Entry) (result : Result (List ℕ) NoMemory) → plan ≡ plan_of n → IsTraceOfForm plan trace
    → read ≡ trace → IsServedForm read (map recorded_of entries) → one ≡ entries → IsPaced (map recorded_of one) → two ≡ entries → IfOk result (IsSummedUp n (map recorded_of two))
    → IfOk result (IsGenerated n)
generated_so n plan trace read entries one two result is is_trace read_is served one_is paced two_is summed =
    let up : IfOk result (IsSummedUp n (map recorded_of entries)) = subst (λ (es : List Entry). IfOk result (IsSummedUp n (map recorded_of es))) two_is summed in
    on_ok (IsSummedUp n (map recorded_of entries)) (IsGenerated n) result (λ line sum. record {
      app = served.app;
      is_form = served.is_form;
      trace = read;
      is_trace = subst (λ text. IsTraceOf served.app (plan_of n) text) (sym read_is) ((subst (λ (p : Plan). IsTraceOfForm p trace) is is_trace).is served.app served.is_form);
      history = map recorded_of entries;
      served = served.served;
      paced = subst (λ (es : List Entry). IsPaced (map recorded_of es)) one_is paced;
      summed_up = sum;
    }) up
