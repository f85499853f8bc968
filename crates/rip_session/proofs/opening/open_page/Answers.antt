use Rattle.std.proofs.Common.{◌≡◌, None, refl, sym, ap, ◌∙◌}
use Rattle.rip_session.specs.Opening.{with_scope, without_page}
use Rattle.rip_session.proofs.OpeningLemmas.{begun-limit, on-ok, page-opens, page-refuses}
use Rattle.rip_session.proofs.opening.open_page.Goals as goal

pub load_program-requires : goal.load_program-requires
load_program-requires c =
    c.in-Ok.ensures.fits (record c.args.heap { pool = c.make.new.pool }) refl
    (begun-limit c.args.app.now c.args.heap None c.requires ∙ sym (ap (λ l. l.cells) c.limits-limits.ensures.value))

pub returns-in-Ok-clause-opened : goal.returns-in-Ok-clause-opened
returns-in-Ok-clause-opened c =
    on-ok c.load_program.result
    (λ o h. h ∙ page-opens c.args.app.now c.args.heap c.page.result.now c.limits-limits.result.now c.pool_mut.result.now c.make.new.pool c.args.seed c.args.time c.in-Ok.browser
    c.page.ensures c.limits-limits.ensures.value c.pool_mut.ensures.value c.in-Ok.ensures.begins)
    c.load_program.ensures.opened

pub returns-in-Err-Limit-clause-opened : goal.returns-in-Err-Limit-clause-opened
returns-in-Err-Limit-clause-opened c =
    let refuses : without_page c.args.app.now c.in-Err-Limit.limit c.args.heap c.args.seed c.args.time ≡ with_scope c.args.app.now c.args.heap c.args.seed c.args.time =
    page-refuses c.args.app.now c.args.heap c.page.result.now c.limits-limits.result.now c.pool_mut.result.now c.make.new.pool c.args.seed c.args.time c.in-Err-Limit.limit
    c.page.ensures c.limits-limits.ensures.value c.pool_mut.ensures.value (rw c.in-Err-Limit.field-0-is at c.in-Err-Limit.ensures.begins) in
    on-ok c.open_again.result
    (λ o h.
    let e : o ≡ without_page c.args.app.now c.in-Err-Limit.limit c.args.heap c.args.seed c.args.time = cc (h, c.in-Err-Limit.limit-is) in
    e ∙ refuses)
    (c.open_again.ensures.opened c.args.heap c.requires)
