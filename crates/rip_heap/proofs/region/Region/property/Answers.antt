use Rattle.std.proofs.Common.{◌≡◌, None, ap, arith, ◌∙◌, slice_get, subst, sym, Some}
use Rattle.std.specs.Prelude.{option_map}
use Rattle.rip_heap_region.specs.Chains.{property_in}
use Rattle.rip_heap_region.proofs.ChainLemmas.{place_within}
use Rattle.rip_heap_region.specs.Pages.{slot_at}
use Rattle.rip_heap.specs.HeadSlots.{chain_in}
use Rattle.rip_heap.specs.Region.{Kept, properties_here}
use Rattle.rip_heap.proofs.RegionLemmas.{chain_here, property_read}
use Rattle.rip_heap.proofs.region.Region.property.Goals as goal

pub nth-requires : goal.nth-requires
nth-requires c = record {
  chain = chain_here c.self.inside.pages c.args.at c.chain_in-chain.result (omega (arith, c.if-at-len.false, c.len.ensures)) (c.chain_in-chain.ensures ∙ ap chain_in c.get.ensures) c.self.invariant.chains;
}

pub returns-in_err-place : goal.returns-in_err-place
returns-in_err-place c =
    c.from_residual.ensures
    ∙ subst (λ (k : Kept). None ≡ slice_get (properties_here k c.args.at) c.args.number) c.self.view_is
    (sym (property_read c.self.inside.pages c.args.at c.chain_in-chain.result c.args.number None (omega (arith, c.if-at-len.false, c.len.ensures)) (c.chain_in-chain.ensures ∙ ap chain_in c.get.ensures)
    (sym c.in_err-place.was ∙ c.nth.ensures)))

pub get-slot-requires : goal.get-slot-requires
get-slot-requires c = record {
  within = place_within c.self.inside.pages.properties c.chain_in-chain.result c.args.number c.in_ok-place.place
      (chain_here c.self.inside.pages c.args.at c.chain_in-chain.result (omega (arith, c.if-at-len.false, c.len.ensures)) (c.chain_in-chain.ensures ∙ ap chain_in c.get.ensures) c.self.invariant.chains)
      (sym c.nth.ensures ∙ c.in_ok-place.was);
}

pub returns : goal.returns
returns c =
    ap (λ s. Some (property_in s)) c.get-slot.ensures
    ∙ subst (λ (k : Kept). Some (property_in (slot_at c.self.inside.pages.properties c.in_ok-place.place)) ≡ slice_get (properties_here k c.args.at) c.args.number) c.self.view_is
    (sym (property_read c.self.inside.pages c.args.at c.chain_in-chain.result c.args.number (Some c.in_ok-place.place) (omega (arith, c.if-at-len.false, c.len.ensures)) (c.chain_in-chain.ensures ∙ ap chain_in c.get.ensures)
    (sym c.in_ok-place.was ∙ c.nth.ensures)))
