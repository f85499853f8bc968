use Rattle.rip_data.specs.Datum.{trees_in}
use Rattle.rip_store.specs.Args.{args_of}
use Rattle.rip_store.specs.Kept.{AreAccepted}
use Rattle.rip_history.proofs.ServiceLemmas.{on-success, replies_on}
use Rattle.rip_history.proofs.service.StoreService.apply.Goals as goal

-- src/service.rt:41:5
pub returns-clause-called : goal.returns-clause-called
returns-clause-called c service calls r =
    let args : AreAccepted (args_of c.args.args.now) = record { made = c.requires.are; shallow = c.requires.shallow; short = c.requires.short } in
    on-success c.apply.result
    (replies_on c.args.self.now c.apply.new.self service calls (c.args.name.now, trees_in c.args.args.now) r c.apply.ensures.functions (c.apply.ensures.kept r.kept args))
    c.apply.ensures.stored
