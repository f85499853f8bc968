-- The line that sums up a history.
use Rattle.std.proofs.Common.{◌≡◌, ◌∙◌, ℕ, List, ap}
use Rattle.std.specs.Prelude.{IfOk, Result}
use Rattle.rip_base.specs.declared.memory.NoMemory.{NoMemory}
use Rattle.rip_gen.specs.Plans.{plan_of}
use Rattle.rip_log.specs.Entries.{Recorded}
use Rattle.rip_gen.specs.Counts.{EndsIn, IsSummedUp, generate_line, many}
use Rattle.rip_gen.specs.declared.generate.count.Kind.TheVariants.{End, Lack, Opening, Service}
use Rattle.rip_gen.proofs.Results.{on_ok}

pub summed_up_so : (n : ℕ) (history : List Recorded) (sessions turns calls ends : ℕ) (result : Result (List ℕ) NoMemory)
    → EndsIn turns history → many Lack history ≡ 0 → many Opening history ≡ sessions → sessions ≡ (plan_of n).sessions → calls ≡ many Service history → ends ≡ many End history
    → IfOk result (λ line. line ≡ generate_line n sessions calls ends turns) → IfOk result (IsSummedUp n history)
summed_up_so n history sessions turns calls ends result turn none opened is calls_are ends_are line_is =
    on_ok (λ line. line ≡ generate_line n sessions calls ends turns) (IsSummedUp n history) result (λ line is_line. record {
      opened = opened ∙ is;
      none_lacks = none;
      turns = turns;
      ends = turn;
      is = is_line ∙ ap (λ s. generate_line n s calls ends turns) is ∙ ap (λ k. generate_line n (plan_of n).sessions k ends turns) calls_are
          ∙ ap (λ k. generate_line n (plan_of n).sessions (many Service history) k turns) ends_are;
    }) line_is
