use Rattle.rip_headline.proofs.Histories.{broken_truth_is_served, truth_is_served}
use Rattle.rip_headline.proofs.completeness.laws.truth_is_served.Goals as goal

pub returns-clause-whole : goal.returns-clause-whole
returns-clause-whole c = truth_is_served

pub returns-clause-broken : goal.returns-clause-broken
returns-clause-broken c = broken_truth_is_served
