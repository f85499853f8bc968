use Rattle.std.proofs.Common.{◌≡◌, ◌≢◌, ◌-◌, ◌∷◌, [], refl, map, sym, ap, subst}
use Rattle.std.specs.Prelude.{remove, slice_set}
use Rattle.rip_heap_region.specs.declared.pages.slot.Slot.{Slot}
use Rattle.rip_heap_region.specs.Pages.{Paged}
use Rattle.rip_heap_region.specs.declared.chains.chain.Chain.{Chain}
use Rattle.rip_heap_region.specs.Chains.{AreHung, places_of, properties_of}
use Rattle.rip_heap_region.proofs.ChainLemmas.{chain_alone, chain_of, place_within}
use Rattle.rip_heap_region.proofs.ChangeLemmas.{first_less, later_less, led_past}
use Rattle.rip_heap_region.proofs.chains.chain.unlink.Goals as goal
use Rattle.rip_heap_region.proofs.chains.chain.unlink.Goals.{then-place-chain-2, else-place-chain-2}

pub get-requires : goal.get-requires
get-requires c = record { within = place_within c.args.pages.now.properties c.args.chain c.requires.among.number c.args.place c.requires.chain c.requires.among.is }

pub returns-then-place-chain-clause-all : goal.returns-then-place-chain-clause-all
returns-then-place-chain-clause-all c =
    λ chains at number one there are.
    first_less chains at number c.args.chain c.args.pages.now.properties c.args.place c.get.result.now.next one there are c.requires.chain c.if-place-chain.true (ap (λ (slot : Slot). slot.next) c.get.ensures)

pub set_next-requires : goal.set_next-requires
set_next-requires c =
    let before = c.place_before-before.ensures c.requires.among.number c.requires.among.is in
    record { within = place_within c.args.pages.now.properties c.args.chain (c.requires.among.number - 1) c.place_before-before.result c.requires.chain before }

pub returns-clause-all : goal.returns-clause-all
returns-clause-all c =
    let old = c.args.pages.now.properties in
    let led : c.set_next.new.self.properties ≡ led_past old c.place_before-before.result c.get.result.now.next = ap (λ (p : Paged). p.properties) c.set_next.ensures in
    let ends : c.args.place ≡ c.args.chain.last → c.if-place-chain-2.result ≡ c.place_before-before.result =
    elim c.if-place-chain-2.branch [ then-place-chain-2 w ↦ λ e. w.result-is | else-place-chain-2 w ↦ λ e. absurd (w.if-place-chain-2.false e) ] in
    let stays : c.args.place ≢ c.args.chain.last → c.if-place-chain-2.result ≡ c.args.chain.last =
    elim c.if-place-chain-2.branch [ then-place-chain-2 w ↦ λ ne. absurd (ne w.if-place-chain-2.true) | else-place-chain-2 w ↦ λ ne. w.result-is ] in
    λ chains at number one there are.
    subst (λ slots. AreHung (slice_set chains at (record { first = c.args.chain.first; last = c.if-place-chain-2.result; count = c.args.chain.count - 1 })) slots (slice_set (map (places_of old) chains) at (remove (places_of old c.args.chain) number)) (slice_set (map (properties_of old) chains) at (remove (properties_of old c.args.chain) number))) (sym led)
    (later_less chains at number c.args.chain old c.args.place c.place_before-before.result c.get.result.now.next c.if-place-chain-2.result one there are c.requires.chain c.if-place-chain.false
    (ap (λ (slot : Slot). slot.next) c.get.ensures) (c.place_before-before.ensures number there) ends stays)

pub returns-then-place-chain-clause-chain : goal.returns-then-place-chain-clause-chain
returns-then-place-chain-clause-chain c =
    let old = c.args.pages.now.properties in
    let chain : Chain = record { first = c.get.result.now.next; last = c.args.chain.last; count = c.args.chain.count - 1 } in
    let hung = returns-then-place-chain-clause-all c (c.args.chain ∷ []) 0 c.requires.among.number refl c.requires.among.is (chain_alone old c.args.chain c.requires.chain) in
    chain_of (chain ∷ []) old 0 chain hung.hang refl

pub returns-clause-chain : goal.returns-clause-chain
returns-clause-chain c =
    let old = c.args.pages.now.properties in
    let chain : Chain = record { first = c.args.chain.first; last = c.if-place-chain-2.result; count = c.args.chain.count - 1 } in
    let hung = returns-clause-all c (c.args.chain ∷ []) 0 c.requires.among.number refl c.requires.among.is (chain_alone old c.args.chain c.requires.chain) in
    chain_of (chain ∷ []) c.set_next.new.self.properties 0 chain hung.hang refl
