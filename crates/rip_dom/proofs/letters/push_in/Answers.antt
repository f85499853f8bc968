use Rattle.rip_values.specs.Pool.{text_at}
use Rattle.rip_dom.proofs.LettersLemmas.{copied-none, copied-unit, copied-more, copied-room, copied-all, copied-span}
use Rattle.rip_dom.proofs.letters.push_in.Goals as goal

pub loop-i-init : goal.loop-i-init
loop-i-init c = copied-none c.args.letters c.args.pool.now c.end_of-end.new.pool c.args.text c.held-held.result c.held-held.ensures.span c.held-held.ensures.lies c.held-held.ensures.text c.requires c.end_of-end.ensures.added

pub push_unit-requires : goal.push_unit-requires
push_unit-requires c = copied-room c.args.letters c.args.pool.now c.loop-i.pool c.held-held.result (text_at c.args.pool.now c.args.text) c.loop-i.i c.loop-i.invariant c.loop-i-test.true

pub loop-i-preserved : goal.loop-i-preserved
loop-i-preserved c =
    let text = text_at c.args.pool.now c.args.text in
    copied-more c.args.letters c.args.pool.now c.loop-i.pool c.push_unit.new.pool c.held-held.result text c.loop-i.i c.unit_in-unit.result c.unit_at.result c.loop-i.invariant c.loop-i-test.true
    (copied-unit c.args.letters c.args.pool.now c.loop-i.pool c.held-held.result text c.loop-i.i c.unit_at.result c.loop-i.invariant c.unit_at.ensures)
    c.unit_in-unit.ensures c.push_unit.ensures

pub returns-clause-span : goal.returns-clause-span
returns-clause-span c = copied-span c.args.letters c.args.pool.now (text_at c.args.pool.now c.args.text) c.end_of-end.result c.held-held.result c.end_of-end.ensures.span c.loop-i.invariant.count
