use Rattle.std.proofs.Common.{◌≡◌, map, sym, ap, subst}
use Rattle.std.specs.Prelude.{slice_set}
use Rattle.rip_heap_region.specs.Pages.{Paged}
use Rattle.rip_heap_region.specs.Chains.{AreHung, places_of, properties_of, with_value}
use Rattle.rip_heap_region.proofs.ChangeLemmas.{valued, valued_hung}
use Rattle.rip_heap_region.proofs.chains.chain.set_value.Goals as goal

pub returns-clause-all : goal.returns-clause-all
returns-clause-all c =
    let old = c.args.pages.now.properties in
    let is : c.set_value.new.self.properties ≡ valued old c.args.place c.args.value = ap (λ (p : Paged). p.properties) c.set_value.ensures in
    λ chains at number chain one there are.
    subst (λ slots. AreHung chains slots (map (places_of old) chains) (slice_set (map (properties_of old) chains) at (with_value (properties_of old chain) number c.args.value))) (sym is)
    (valued_hung chains at number chain old c.args.place c.args.value one there are c.requires.within)
