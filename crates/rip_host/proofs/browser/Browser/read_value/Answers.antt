use Rattle.std.proofs.Common.{rules, subst}
use Rattle.rip_heap.specs.Lending.{PoolGrows}
use Rattle.rip_forms.specs.Values.{value_of}
use Rattle.rip_host.proofs.ReadingLemmas.{value-grows}
use Rattle.rip_host.proofs.browser.Browser.read_value.Goals as goal

pub with_texts-requires-clause-adds : goal.with_texts-requires-clause-adds
with_texts-requires-clause-adds c = λ r f' left h.
    let value = value_of h.shown.now c.args.self.now.dom c.args.self.now.forms c.args.n in
    subst (λ p. PoolGrows p left) h.shows (value-grows c.args.self.now.dom value h.shown.now r left (search rules))
