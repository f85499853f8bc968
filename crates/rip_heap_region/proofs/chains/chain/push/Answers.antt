use Rattle.std.proofs.Common.{rules, ◌≡◌, ◌-◌, ◌++◌, ◌∷◌, [], length, ap, arith}
use Rattle.std.proofs.lemmas.List.{length-append}
use Rattle.rip_heap_region.specs.Pages.{Paged}
use Rattle.rip_heap_region.proofs.ChainLemmas.{chain_long, place_within}
use Rattle.rip_heap_region.proofs.ChangeLemmas.{first_pushed, later_pushed, pushed_chain, pushed_hung, pushed_properties, slot_for}
use Rattle.rip_heap_region.proofs.chains.chain.push.Goals as goal

pub returns-then-chain-eq0 : goal.returns-then-chain-eq0
returns-then-chain-eq0 c =
    let old = c.args.pages.now.properties in
    let new = c.push.new.self.properties in
    let pushed = first_pushed c.args.chain old new c.args.property c.len-place.result (ap (λ (p : Paged). p.properties) c.push.ensures) c.len-place.ensures c.if-chain-eq0.true in
    record {
      row = search rules;
      one = pushed.size;
      links = pushed.links;
      chain = pushed_chain c.args.chain _ old new c.args.property pushed c.requires.chain;
      count = pushed.count;
      places = pushed.stands;
      properties = pushed_properties c.args.chain _ old new c.args.property pushed c.requires.chain;
      all = λ chains at is are. pushed_hung chains at c.args.chain _ old new c.args.property is are c.requires.chain pushed;
    }

pub set_next-requires : goal.set_next-requires
set_next-requires c =
    let old = c.args.pages.now.properties in
    let more : c.push.new.self.properties ≡ old ++ slot_for c.args.property ∷ [] = ap (λ (p : Paged). p.properties) c.push.ensures in
    let last = place_within old c.args.chain (c.args.chain.count - 1) c.args.chain.last c.requires.chain (c.requires.chain.last (omega (arith, c.if-chain-eq0.false))) in
    record { within = omega (arith, last, ap length more, length-append old (slot_for c.args.property ∷ [])) }

pub overflow_add-result : goal.overflow_add-result
overflow_add-result c =
    let old = c.args.pages.now.properties in
    let more : c.push.new.self.properties ≡ old ++ slot_for c.args.property ∷ [] = ap (λ (p : Paged). p.properties) c.push.ensures in
    omega (arith, chain_long old c.args.chain c.requires.chain, c.len-place.ensures, ap length more, length-append old (slot_for c.args.property ∷ []))

pub returns : goal.returns
returns c =
    let old = c.args.pages.now.properties in
    let new = c.set_next.new.self.properties in
    let pushed = later_pushed c.args.chain old c.push.new.self.properties new c.args.property c.len-place.result c.requires.chain (ap (λ (p : Paged). p.properties) c.push.ensures) c.len-place.ensures
    c.if-chain-eq0.false (ap (λ (p : Paged). p.properties) c.set_next.ensures) in
    record {
      row = search rules;
      one = pushed.size;
      links = pushed.links;
      chain = pushed_chain c.args.chain _ old new c.args.property pushed c.requires.chain;
      count = pushed.count;
      places = pushed.stands;
      properties = pushed_properties c.args.chain _ old new c.args.property pushed c.requires.chain;
      all = λ chains at is are. pushed_hung chains at c.args.chain _ old new c.args.property is are c.requires.chain pushed;
    }
