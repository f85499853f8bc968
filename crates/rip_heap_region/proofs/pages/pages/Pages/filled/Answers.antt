use Rattle.std.proofs.Common.{◌≡◌, ◌∙◌, sym, ap, arith}
use Rattle.rip_heap_region.specs.Pages.{Paged, filled}
use Rattle.rip_heap_region.proofs.RowLemmas.{filled-sized}
use Rattle.rip_heap_region.proofs.pages.pages.Pages.filled.Goals as goal

pub returns-clause-filled : goal.returns-clause-filled
returns-clause-filled c =
    c.self.invariant.counted
    ∙ sym (filled-sized c.self.inside.slots.items c.self.inside.starts.items c.self.inside.lens c.self.inside.room)
    ∙ ap filled c.self.view_is

pub returns-clause-within : goal.returns-clause-within
returns-clause-within c =
    let sized : filled c.args.self.now ≡ c.self.inside.filled =
    ap filled (sym c.self.view_is)
    ∙ filled-sized c.self.inside.slots.items c.self.inside.starts.items c.self.inside.lens c.self.inside.room
    ∙ sym c.self.invariant.counted in
    omega (arith, sized, c.self.invariant.within, ap (λ (rows : Paged). rows.room) c.self.view_is)
