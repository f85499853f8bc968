use Rattle.rip_server.proofs.PlaceLemmas.{none_more, none_at_all}
use Rattle.rip_server.proofs.connections.place_of.Goals as goal

pub returns-clause-none : goal.returns-clause-none
returns-clause-none c = none_at_all c.args.number c.args.list.now c.loop-place.place c.loop-place-test.false c.loop-place.invariant

pub loop-place-preserved : goal.loop-place-preserved
loop-place-preserved c =
    none_more c.args.number c.args.list.now c.loop-place.place c.index-list-place.result c.loop-place-test.true c.index-list-place.is c.if-connection-number.false
    c.loop-place.invariant
