use Rattle.std.proofs.Common.{◌+◌, length, drop, ap, rules}
use Rattle.std.proofs.lemmas.Iterator.Adapters.{YieldsList-from_vec}
use Rattle.std.proofs.lemmas.Iterator.Consumers.{YieldsList-end, YieldsList-so_far, YieldsList-turn}
use Rattle.rip_data.specs.Datum.{trees_in}
use Rattle.rip_wire.specs.Items.{call, reported_of}
use Rattle.rip_wire.specs.declared.item.Item.TheVariants.{Call}
use Rattle.rip_gen.proofs.LieLemmas.{at_turn, items_end, items_go, items_over, no_call}
use Rattle.rip_gen.proofs.generate.lie.lie_in_items.Goals as goal

pub returns-in-Call : goal.returns-in-Call
returns-in-Call c =
    let all = c.args.items.items in
    let ys = c.loop-item.yielded in
    let x = c.in-Some.item in
    let far = YieldsList-so_far (YieldsList-from_vec {s = c.into_iter-item-iterator.result} c.args.items.items (search rules) (search rules)) c.loop-item.yielded c.loop-item.item-iterator c.loop-item.yielded_by in
    let turn = YieldsList-turn (YieldsList-from_vec {s = c.into_iter-item-iterator.result} c.args.items.items (search rules) (search rules)) c.loop-item.yielded c.loop-item.item-iterator c.loop-item.yielded_by c.next.result c.next.new.self c.in-Some.item c.in-Some.is c.next.ensures.steps in
    let name = c.in_ok-from_slice-in-Call.field-0 in
    let args = trees_in c.in-Call.args in
    let made = Call c.in-Call.number name c.in-Call.args in
    let both = items_end all ys c.loop-item.told.items c.push.new.self.items (drop (length ys + 1) all) x made c.in-Call.number c.in-Call.name args (at_turn all ys x far turn.0 turn.1) c.loop-item.invariant.0 c.loop-item.invariant.1
    c.in_ok-push-in-Call.ensures.items (ap reported_of c.in-Call.is) (ap (λ n. call c.in-Call.number n args) c.in_ok-from_slice-in-Call.ensures) in
    record { lied = both.0; told = both.1 }

pub loop-item-preserved : goal.loop-item-preserved
loop-item-preserved c =
    items_go c.loop-item.yielded c.loop-item.told.items c.push-in_default.new.self.items c.in-Some.item c.loop-item.invariant.0 c.loop-item.invariant.1
    c.in_ok-push-in_default.ensures.items (no_call c.in-Some.item c.in_default.not-Call)

pub returns : goal.returns
returns c =
    let end = YieldsList-end (YieldsList-from_vec {s = c.into_iter-item-iterator.result} c.args.items.items (search rules) (search rules)) c.loop-item.yielded c.loop-item.item-iterator c.loop-item.yielded_by c.next.result c.next.new.self c.in-None.is c.next.ensures.steps in
    let both = items_over c.args.items.items c.loop-item.yielded c.loop-item.told.items end.0 c.loop-item.invariant.0 c.loop-item.invariant.1 in
    record { lied = both.0; told = both.1 }
