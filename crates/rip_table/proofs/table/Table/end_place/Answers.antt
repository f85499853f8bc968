-- One live session less.
use Rattle.rip_table.proofs.TableLemmas.{some_live, ended_table}
use Rattle.rip_table.proofs.table.Table.end_place.Goals as goal

pub overflow_sub-self : goal.overflow_sub-self
overflow_sub-self g c = some_live c.args.self.now c.args.place c.requires.table c.requires.live

pub returns-clause-table : goal.returns-clause-table
returns-clause-table g c = ended_table c.args.self.now c.args.place c.requires.table c.requires.live
