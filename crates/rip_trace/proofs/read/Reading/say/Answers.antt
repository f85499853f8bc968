use Rattle.std.proofs.Common.{◌≡◌, ◌≢◌, [], take, drop, rules, ◌∙◌}
use Rattle.rip_trace.proofs.RequestLemmas.{take_least, drop_least, saying_more, saying_refused, saying_whole, none_left}
use Rattle.rip_trace.proofs.read.Reading.say.Goals as goal

pub returns-in_err-push-clause-other : goal.returns-in_err-push-clause-other
returns-in_err-push-clause-other c =
    let some : c.loop-rest.rest.now ≢ [] = search rules in
    let front : c.in_ok-from_slice.field-0 ≡ take 4096 c.loop-rest.rest.now = c.in_ok-from_slice.ensures ∙ c.split_at.ensures.front ∙ take_least 4096 c.piece_length.result c.loop-rest.rest.now c.piece_length.ensures in
    λ err. saying_refused c.args.self.now c.args.c c.args.bytes.now c.loop-rest.self c.loop-rest.rest.now c.in_ok-from_slice.field-0 c.loop-rest.invariant some front (c.in_err-push.ensures.other (search rules))

pub loop-rest-preserved : goal.loop-rest-preserved
loop-rest-preserved c =
    let some : c.loop-rest.rest.now ≢ [] = search rules in
    let front : c.in_ok-from_slice.field-0 ≡ take 4096 c.loop-rest.rest.now = c.in_ok-from_slice.ensures ∙ c.split_at.ensures.front ∙ take_least 4096 c.piece_length.result c.loop-rest.rest.now c.piece_length.ensures in
    let back : c.split_at.result.1.now ≡ drop 4096 c.loop-rest.rest.now = c.split_at.ensures.back ∙ drop_least 4096 c.piece_length.result c.loop-rest.rest.now c.piece_length.ensures in
    saying_more c.args.self.now c.args.c c.args.bytes.now c.loop-rest.self c.loop-rest.rest.now c.in_ok-from_slice.field-0 c.split_at.result.1.now c.push.new.self c.loop-rest.invariant some front back c.in_ok-push.ensures.ok c.in_ok-push.ensures.allowed

pub returns-clause-ok : goal.returns-clause-ok
returns-clause-ok c =
    saying_whole c.args.self.now c.args.c c.args.bytes.now c.loop-rest.self c.loop-rest.rest.now c.loop-rest.invariant (none_left c.is_empty.result c.loop-rest.rest.now c.is_empty.ensures c.loop-rest-test.false)
