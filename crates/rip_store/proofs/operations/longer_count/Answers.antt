use Rattle.std.proofs.Common.{Ok, sym, ap, ◌∙◌, arith}
use Rattle.rip_data.specs.Datum.{tree_of}
use Rattle.rip_store.proofs.ListLemmas.{longer-range, longer-full, longer-ok, longer-few}
use Rattle.rip_store.proofs.operations.longer_count.Goals as goal

pub returns-in_default-clause-refused : goal.returns-in_default-clause-refused
returns-in_default-clause-refused c = longer-range _ (tree_of c.args.value.now) c.longer_size.result c.longer_size.ensures c.in_default.is

pub whole_of-requires : goal.whole_of-requires
whole_of-requires c = longer-few _ (tree_of c.args.value.now) c.in-Some.size c.in-Some.ensures (omega arith)

pub returns-then-size-gt-MAX_LENGTH-clause-refused : goal.returns-then-size-gt-MAX_LENGTH-clause-refused
returns-then-size-gt-MAX_LENGTH-clause-refused c = longer-full _ (tree_of c.args.value.now) c.in-Some.size c.in-Some.ensures (omega arith)

pub returns-clause-count : goal.returns-clause-count
returns-clause-count c = longer-ok _ (tree_of c.args.value.now) c.in-Some.size c.in-Some.ensures (omega arith) ∙ ap (λ z. Ok z) (sym c.whole_of.ensures)
