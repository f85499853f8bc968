use Rattle.rip_session.proofs.ItemLemmas.{begun-work, same-plans}
use Rattle.rip_session.proofs.work.items.PageItemsItemsBrowserWork.begin.Goals as goal

pub returns-clause-item_plan : goal.returns-clause-item_plan
returns-clause-item_plan c = same-plans _ _ c.begin-2.ensures.item_plan

pub returns-clause-under_way : goal.returns-clause-under_way
returns-clause-under_way c =
    begun-work (record { opening = c.begin.new.self; batches = c.begin-2.new.self }) _ c.begin.ensures.under_way c.begin-2.ensures.under_way
