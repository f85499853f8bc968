use Rattle.rip_store.specs.Args.{args_of}
use Rattle.rip_store.specs.Held.{functions_of, stored_of}
use Rattle.rip_store.proofs.KeptLemmas.{kept_after, replies_accepted}
use Rattle.rip_store.proofs.store.Store.apply.Goals as goal

pub returns-clause-kept : goal.returns-clause-kept
returns-clause-kept c =
    kept_after (functions_of c.args.self.now) (stored_of c.args.self.now) (stored_of c.call.new.self) c.args.name.now (args_of c.args.args.now) c.call.result c.call.ensures.stored c.call.ensures.no_memory

pub returns-clause-accepted : goal.returns-clause-accepted
returns-clause-accepted c =
    replies_accepted (functions_of c.args.self.now) (stored_of c.args.self.now) c.args.name.now (args_of c.args.args.now) c.call.result c.call.ensures.replies
