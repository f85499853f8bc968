use Rattle.std.proofs.Common.{◌∙◌, ap, sym}
use Rattle.rip_values.specs.FixedSearch.{fixed_text}
use Rattle.rip_values.proofs.FixedLemmas.{IfSome-fixed_text}
use Rattle.rip_values.proofs.FixedTableLemmas.{fixed_text-text_of}
use Rattle.rip_values.proofs.fixed.FixedText.of.Goals as goal

pub returns-clause-text : goal.returns-clause-text
returns-clause-text c = IfSome-fixed_text c.args.text.now c.spelled_so.result c.spelled_so.ensures

pub returns-clause-only : goal.returns-clause-only
returns-clause-only c fixed e = c.spelled_so.ensures ∙ ap fixed_text (sym e) ∙ fixed_text-text_of fixed
