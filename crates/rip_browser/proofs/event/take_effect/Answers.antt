use Rattle.std.proofs.Common.{rules, subst, sym}
use Rattle.rip_heap.specs.Lending.{PoolGrows}
use Rattle.rip_heap.specs.World.{World}
use Rattle.rip_host.specs.Visit.{Fits}
use Rattle.rip_browser.specs.Events.{with_forms}
use Rattle.rip_browser.proofs.EffectLemmas.{applied-grows, fits-lent}
use Rattle.rip_browser.proofs.event.take_effect.Goals as goal

pub with_texts-requires-clause-adds : goal.with_texts-requires-clause-adds
with_texts-requires-clause-adds c = λ r f' left h.
    subst (λ p. PoolGrows p left) h.shows
    (applied-grows c.args.browser.now.dom c.args.report.now (record { pool = h.shown.now; states = c.args.browser.now.forms }) r (record { pool = left; states = f'.1.now })
    (search rules))

pub returns-clause-fits : goal.returns-clause-fits
returns-clause-fits c =
    let forms = c.with_texts.new.add.1.now in
    let P : World → Type 0 = λ w. Fits (with_forms c.args.browser.now forms) w in
    subst P (sym c.with_texts.ensures.rest)
    (fits-lent c.args.browser.now c.args.heap.now c.args.report.now c.with_texts.ensures.called.shown.now c.with_texts.new.self.pool forms c.with_texts.result
    c.with_texts.ensures.called.shows c.requires.fits (search rules) c.requires.room)
