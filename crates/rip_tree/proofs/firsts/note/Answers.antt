use Rattle.std.proofs.Common.{Some}
use Rattle.std.proofs.lemmas.Map.Text.{btree_map_updates_str}
use Rattle.rip_tree.proofs.firsts.note.Goals as goal

pub returns-clause-noted : goal.returns-clause-noted
returns-clause-noted c = btree_map_updates_str c.args.name.now c.args.noted.now c.insert.new.self (Some c.args.id) c.in_ok-insert.ensures.updates
