use Rattle.rip_html.proofs.Readings.{some_reading, one_page, one_refusal, never_both}
use Rattle.rip_html.proofs.reader.exactly_one.Goals as goal

pub returns-clause-some : goal.returns-clause-some
returns-clause-some c = some_reading

pub returns-clause-page : goal.returns-clause-page
returns-clause-page c = one_page

pub returns-clause-refusal : goal.returns-clause-refusal
returns-clause-refusal c = one_refusal

pub returns-clause-exclusive : goal.returns-clause-exclusive
returns-clause-exclusive c = never_both
