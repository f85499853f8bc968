use Rattle.std.proofs.Common.{◌∙◌, ◌+◌, sym, length, drop, rules}
use Rattle.std.proofs.lemmas.Iterator.Adapters.{YieldsList-from_vec}
use Rattle.std.proofs.lemmas.Iterator.Consumers.{YieldsList-end, YieldsList-so_far, YieldsList-turn}
use Rattle.rip_gen.proofs.LieLemmas.{at_turn, batches_end, batches_go, batches_over}
use Rattle.rip_gen.proofs.generate.lie.lie_in.Goals as goal

pub returns-then-is_told : goal.returns-then-is_told
returns-then-is_told c =
    let all = c.args.batches.items in
    let ys = c.loop-batch.yielded in
    let x = c.in-Some.batch in
    let far = YieldsList-so_far (YieldsList-from_vec {s = c.into_iter-batch-iterator.result} c.args.batches.items (search rules) (search rules)) c.loop-batch.yielded c.loop-batch.batch-iterator c.loop-batch.yielded_by in
    let turn = YieldsList-turn (YieldsList-from_vec {s = c.into_iter-batch-iterator.result} c.args.batches.items (search rules) (search rules)) c.loop-batch.yielded c.loop-batch.batch-iterator c.loop-batch.yielded_by c.next.result c.next.new.self c.in-Some.batch c.in-Some.is c.next.ensures.steps in
    let both = batches_end all ys c.loop-batch.told.items c.push.new.self.items (drop (length ys + 1) all) x c.in_ok-batch.batch (at_turn all ys x far turn.0 turn.1) c.loop-batch.invariant.0 c.loop-batch.invariant.1
    c.in_ok-push.ensures.items c.in_ok-batch.ensures.lied (sym c.in_ok-batch.ensures.told ∙ c.if-is_told.true) in
    record { lied = both.0; told = both.1 }

pub loop-batch-preserved : goal.loop-batch-preserved
loop-batch-preserved c =
    batches_go c.loop-batch.yielded c.loop-batch.told.items c.push.new.self.items c.in-Some.batch c.in_ok-batch.batch c.loop-batch.invariant.0 c.loop-batch.invariant.1
    c.in_ok-push.ensures.items c.in_ok-batch.ensures.lied (sym c.in_ok-batch.ensures.told ∙ c.if-is_told.false)

pub returns : goal.returns
returns c =
    let end = YieldsList-end (YieldsList-from_vec {s = c.into_iter-batch-iterator.result} c.args.batches.items (search rules) (search rules)) c.loop-batch.yielded c.loop-batch.batch-iterator c.loop-batch.yielded_by c.next.result c.next.new.self c.in-None.is c.next.ensures.steps in
    let both = batches_over c.args.batches.items c.loop-batch.yielded c.loop-batch.told.items end.0 c.loop-batch.invariant.0 c.loop-batch.invariant.1 in
    record { lied = both.0; told = both.1 }
