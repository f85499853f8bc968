use Rattle.rip_headline.proofs.Replies.{are_due, are_served}
use Rattle.rip_headline.proofs.completeness.laws.replies_are_due.Goals as goal

pub returns-clause-due : goal.returns-clause-due
returns-clause-due c = are_due

pub returns-clause-served : goal.returns-clause-served
returns-clause-served c = are_served
