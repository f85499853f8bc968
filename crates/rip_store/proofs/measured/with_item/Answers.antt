use Rattle.rip_store.proofs.ListLemmas.{pushed-list, same-list}
use Rattle.rip_store.proofs.measured.with_item.Goals as goal
use Rattle.rip_store.proofs.measured.with_item.Goals.{in-Ok, in-Err}

pub returns-after-push-clause-pushed : goal.returns-after-push-clause-pushed
returns-after-push-clause-pushed c = elim c.match-push.branch [
  | in-Ok w ↦ rw w.result-is (pushed-list c.args.datum c.in-List.list c.push.new.self c.args.item c.in-List.is w.in-Ok.ensures.items)
  | in-Err w ↦ rw w.result-is tt
]

pub returns-after-push-clause-no_memory : goal.returns-after-push-clause-no_memory
returns-after-push-clause-no_memory c = elim c.match-push.branch [
  | in-Ok w ↦ rw w.result-is tt
  | in-Err w ↦ rw w.result-is (same-list c.args.datum c.in-List.list c.push.new.self c.in-List.is w.in-Err.ensures.items)
]
