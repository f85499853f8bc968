use Rattle.std.proofs.Common.{◌≡◌, ◌≤◌, [], ap, subst, sym, ◌∙◌}
use Rattle.rip_base.specs.Page.{Contents}
use Rattle.rip_values.specs.Pool.{Texts}
use Rattle.rip_session.proofs.OpeningLemmas.{no-page-passes}
use Rattle.rip_session.proofs.opening.open_without_page.Goals as goal

pub unreachable-requires : goal.unreachable-requires
unreachable-requires c =
    let within = subst (λ (t : Texts). t.used ≤ t.limit) (c.pool.ensures ∙ sym c.pool_mut.ensures.value) c.free.ensures.within in
    let none : c.new-page.result.nodes ≡ [] = ap (λ (p : Contents). p.nodes) c.new-page.ensures ∙ c.new.ensures in
    no-page-passes c.new-page.result.nodes c.limits.result.now c.pool_mut.result.now c.make.new.pool c.args.seed c.args.time c.in-Err-Limit.field-0-0
    none within (rw c.in-Err-Limit.field-0-is at c.in-Err-Limit.ensures.begins)
