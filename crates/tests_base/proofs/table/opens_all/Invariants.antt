use Rattle.rip_table.specs.Table.{IsTable}
use Rattle.tests_base.proofs.table.opens_all.Given as goal

abbrev pub invariant-loop-number : goal.invariant-loop-number
invariant-loop-number l = IsTable l.table
