use Rattle.std.proofs.Common.{◌≡◌, ◌+◌, ◌-◌, ◌<◌, ◌∙◌, length, refl, sym, ap, arith, rules}
use Rattle.rip_forms.proofs.StateLemmas.{fills-first, fills-more, fills-length, fills-all, filled-length}
use Rattle.rip_forms.proofs.state.fill.Goals as goal

pub loop-i-init : goal.loop-i-init
loop-i-init c = record {
  fills = fills-first c.len-i.result (c.args.n + 1) c.args.states.now.items (search rules);
  room = refl;
  end = refl;
}

pub push_reserved-requires : goal.push_reserved-requires
push_reserved-requires c =
    let l : length c.loop-i.states.items ≡ c.loop-i._i = fills-length c.loop-i._i (c.args.n + 1) c.args.states.now.items c.loop-i.states.items c.loop-i.invariant.fills in
    let r = c.loop-i.invariant.room in
    omega (arith, l, r, c.requires, c.loop-i-test.true)

pub loop-i-preserved : goal.loop-i-preserved
loop-i-preserved c = record {
  fills = fills-more c.loop-i._i (c.args.n + 1) c.args.states.now.items c.loop-i.states.items c.push_reserved.new.self.items c.loop-i.invariant.fills c.loop-i-test.true c.push_reserved.ensures.items;
  room = c.push_reserved.ensures.capacity ∙ c.loop-i.invariant.room;
  end = refl;
}

pub returns : goal.returns
returns c = record {
  filled = fills-all c.loop-i._i (c.args.n + 1) c.args.states.now.items c.loop-i.states.items c.loop-i.invariant.fills c.loop-i-test.false;
  length =
      let l : length c.loop-i.states.items ≡ c.loop-i._i = fills-length c.loop-i._i (c.args.n + 1) c.args.states.now.items c.loop-i.states.items c.loop-i.invariant.fills in
      let g = c.loop-i-test.false in
      omega arith;
  room = c.loop-i.invariant.room;
}
