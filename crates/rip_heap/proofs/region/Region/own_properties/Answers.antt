use Rattle.std.proofs.Common.{◌≡◌, arith, ap, ◌∙◌, subst, sym}
use Rattle.rip_heap_region.specs.Chains.{properties_of}
use Rattle.rip_heap.specs.HeadSlots.{chain_in}
use Rattle.rip_heap.specs.Region.{Kept, properties_here}
use Rattle.rip_heap.proofs.RegionLemmas.{chain_here, chain_is, properties_are}
use Rattle.rip_heap.proofs.region.Region.own_properties.Goals as goal

pub of-requires : goal.of-requires
of-requires c = record {
  chain = chain_here c.self.inside.pages c.args.at c.chain_in-chain.result (omega (arith, c.if-at-len.false, c.len.ensures)) (c.chain_in-chain.ensures ∙ ap chain_in c.get.ensures) c.self.invariant.chains;
}

pub returns : goal.returns
returns c =
    c.of.ensures ∙ ap (properties_of c.self.inside.pages.properties) (c.chain_in-chain.ensures ∙ ap chain_in c.get.ensures ∙ sym (chain_is c.self.inside.pages c.args.at (omega (arith, c.if-at-len.false, c.len.ensures))))
    ∙ subst (λ (k : Kept). properties_of c.self.inside.pages.properties (Rattle.rip_heap_region.specs.Chains.chain_at (Rattle.rip_heap.specs.Region.chains_in c.self.inside.pages) c.args.at) ≡ properties_here k c.args.at) c.self.view_is
    (sym (properties_are c.self.inside.pages c.args.at (omega (arith, c.if-at-len.false, c.len.ensures))))
