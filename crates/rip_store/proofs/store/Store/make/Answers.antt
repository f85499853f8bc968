use Rattle.std.proofs.Common.{sym, subst}
use Rattle.rip_store.specs.Kept.{IsKept}
use Rattle.rip_store.proofs.KeptLemmas.{empty_kept}
use Rattle.rip_store.proofs.store.Store.make.Goals as goal

pub returns-clause-kept : goal.returns-clause-kept
returns-clause-kept c = subst IsKept (sym c.new.ensures) empty_kept
