use Rattle.std.proofs.Common.{◌≡◌, ◌+◌, refl, ap}
use Rattle.rip_replica.specs.Items.{steps_of_item}
use Rattle.rip_browser.specs.Events.{most_steps, steps_of}
use Rattle.rip_browser.specs.Opening.{steps_of_opening}
use Rattle.rip_session.specs.declared.work.items.PageItems.{PageItems}
use Rattle.rip_session.proofs.ItemLemmas.{on-err, on-ok, same-left, same-plans, told-first, told-then}
use Rattle.rip_session.proofs.work.items.PageItemsItemsBrowserWork.next_of.Goals as goal

pub returns-in-Err-clause-plan : goal.returns-in-Err-clause-plan
returns-in-Err-clause-plan c =
    on-ok c.next_of.result
    (λ step h. told-first c.args.self.now (record { opening = c.next_of.new.self; batches = c.args.self.now.batches }) c.args.item.now c.in-Err.start c.args.number
    c.args.heap.now c.next_of.new.heap c.args.host.now c.next_of.new.host step c.in-Err.ensures h)
    c.next_of.ensures.plan

pub returns-in-Err-clause-memory : goal.returns-in-Err-clause-memory
returns-in-Err-clause-memory c =
    on-err c.next_of.result
    (λ h. (
      same-left c.args.self.now (record { opening = c.next_of.new.self; batches = c.args.self.now.batches }) h.0 refl,
      ap (λ n. n + steps_of_item most_steps (steps_of c.args.self.now.batches.flow) c.args.self.now.batches.under_way) h.1,
      h.2,
      h.3,
    ))
    c.next_of.ensures.memory

pub returns-in-Ok-clause-plan : goal.returns-in-Ok-clause-plan
returns-in-Ok-clause-plan c =
    on-ok c.next_of-in-Ok.result
    (λ step h. told-then c.args.self.now (record { opening = c.args.self.now.opening; batches = c.next_of-in-Ok.new.self }) c.args.item.now c.in-Ok.item.now c.args.number
    c.args.heap.now c.next_of-in-Ok.new.heap c.args.host.now c.next_of-in-Ok.new.host step c.in-Ok.ensures h)
    c.next_of-in-Ok.ensures.plan

pub returns-in-Ok-clause-item_plan : goal.returns-in-Ok-clause-item_plan
returns-in-Ok-clause-item_plan c = same-plans _ _ c.next_of-in-Ok.ensures.item_plan

pub returns-in-Ok-clause-memory : goal.returns-in-Ok-clause-memory
returns-in-Ok-clause-memory c =
    on-err c.next_of-in-Ok.result
    (λ h. (
      same-left c.args.self.now (record { opening = c.args.self.now.opening; batches = c.next_of-in-Ok.new.self }) refl h.0,
      ap (λ n. steps_of_opening c.args.self.now.opening.stage c.args.self.now.opening.begun c.args.self.now.opening.flow + n) h.1,
      h.2,
      h.3,
    ))
    c.next_of-in-Ok.ensures.memory
