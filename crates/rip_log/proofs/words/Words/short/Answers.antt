use Rattle.std.proofs.Common.{arith}
use Rattle.rip_log.proofs.Numbers.{large_number}
use Rattle.rip_log.proofs.words.Words.short.Goals as goal

pub returns-clause-none : goal.returns-clause-none
returns-clause-none c =
    λ none. large_number c.args.self.now c.in_ok-number.field-0 c.number.new.self c.in_ok-number.ensures.some (omega arith) (c.short_of.ensures.none none)
