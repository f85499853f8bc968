use Rattle.std.proofs.Common.{◌∙◌, sym, ap, length}
use Rattle.rip_heap_region.specs.Pages.{row_of}
use Rattle.rip_heap_region.proofs.RowLemmas.{row-sized}
use Rattle.rip_heap_region.proofs.pages.pages.Pages.len.Goals as goal

pub returns : goal.returns
returns c =
    c.of.ensures
    ∙ sym (row-sized c.args.row c.self.inside.slots.items c.self.inside.starts.items c.self.inside.lens c.self.inside.room)
    ∙ ap (λ rows. length (row_of c.args.row rows)) c.self.view_is
