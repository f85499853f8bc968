use Rattle.rip_grammar.proofs.Offending.{others_offend, continuing_goes_on}
use Rattle.rip_grammar.proofs.Postfixes.{others_offend_behind_postfix, continuing_goes_on_behind_postfix}
use Rattle.rip_grammar.proofs.laws.other_words_offend.Goals as goal

pub returns-clause-others : goal.returns-clause-others
returns-clause-others c = others_offend

pub returns-clause-continuing : goal.returns-clause-continuing
returns-clause-continuing c = continuing_goes_on

pub returns-clause-others_behind_postfix : goal.returns-clause-others_behind_postfix
returns-clause-others_behind_postfix c = others_offend_behind_postfix

pub returns-clause-continuing_behind_postfix : goal.returns-clause-continuing_behind_postfix
returns-clause-continuing_behind_postfix c = continuing_goes_on_behind_postfix
