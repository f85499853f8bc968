use Rattle.rip_headline.proofs.ServedListLemmas.{histories_serve_by_lists, serve_by_lists}
use Rattle.rip_headline.proofs.prefixes.laws.sessions_serve_by_lists.Goals as goal

pub returns-clause-lists : goal.returns-clause-lists
returns-clause-lists c = serve_by_lists

pub returns-clause-histories : goal.returns-clause-histories
returns-clause-histories c = histories_serve_by_lists
