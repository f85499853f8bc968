use Rattle.std.proofs.Common.{◌∙◌, List, map, ap, subst}
use Rattle.rip_log.specs.Entries.{Recorded, recorded_of}
use Rattle.rip_log.specs.Histories.{history_text}
use Rattle.rip_outer.specs.Outside.{also, Front}
use Rattle.rip_server.proofs.TellLemmas.{told_idle, told_cut, told_finished}
use Rattle.rip_server.proofs.turn.advance.tell.Goals as goal

pub returns-in_err-put_entries-clause-told : goal.returns-in_err-put_entries-clause-told
returns-in_err-put_entries-clause-told g c = λ site limit h es page kept done entries.
    told_cut site c.args.turn c.args.session c.args.advanced.batch es c.args.advanced.progress h c.from_residual.result _ _ _ _ c.from_residual.ensures.0
    (subst (λ (xs : List Recorded). Front (history_text xs) (g.K.Sink.held c.args.out.now) (g.K.Sink.held c.put_entries.new.out))
    (ap (map recorded_of) c.as_slice.ensures.value ∙ entries) c.in_err-put_entries.ensures.logged)

pub returns-in-Busy-clause-told : goal.returns-in-Busy-clause-told
returns-in-Busy-clause-told g c = λ site limit h es page kept done entries.
    told_idle site c.args.turn c.args.session c.args.advanced.batch es c.args.advanced.progress h _ _ _ c.in-Busy.is
    (c.in_ok-put_entries.ensures.logged
    ∙ ap (λ (xs : List Recorded). also (history_text xs) (g.K.Sink.held c.args.out.now)) (ap (map recorded_of) c.as_slice.ensures.value ∙ entries))

pub returns-clause-told : goal.returns-clause-told
returns-clause-told g c = λ site limit h es page kept done entries.
    told_finished site c.args.turn c.args.session c.args.advanced.batch es c.args.advanced.progress c.in-Finished.how c.args.advanced.legacy h c.finish.result _ _ _ _ _ c.in-Finished.is done
    (c.in_ok-put_entries.ensures.logged
    ∙ ap (λ (xs : List Recorded). also (history_text xs) (g.K.Sink.held c.args.out.now)) (ap (map recorded_of) c.as_slice.ensures.value ∙ entries))
    (λ so. c.finish.ensures.finished site limit h page kept so)
