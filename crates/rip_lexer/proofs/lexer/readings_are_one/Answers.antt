use Rattle.rip_lexer.proofs.Existing.{a_reading}
use Rattle.rip_lexer.proofs.Lexing.{not_both_ways, same_refusals, same_tokens}
use Rattle.rip_lexer.proofs.Values.{one_value}
use Rattle.rip_lexer.proofs.lexer.readings_are_one.Goals as goal

pub returns-clause-some : goal.returns-clause-some
returns-clause-some c = a_reading

pub returns-clause-tokens : goal.returns-clause-tokens
returns-clause-tokens c = same_tokens

pub returns-clause-refusals : goal.returns-clause-refusals
returns-clause-refusals c = same_refusals

pub returns-clause-apart : goal.returns-clause-apart
returns-clause-apart c = not_both_ways

pub returns-clause-texts : goal.returns-clause-texts
returns-clause-texts c = one_value
