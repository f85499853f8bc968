-- The values stay as many.
use Rattle.rip_table.proofs.TableLemmas.{lent_table}
use Rattle.rip_table.proofs.laws.lent_table_stays.Goals as goal

pub returns : goal.returns
returns g c = lent_table
