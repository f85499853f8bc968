use Rattle.std.proofs.Common.{◌≡◌, [], ◌∷◌, ◌++◌, refl, sym, ap, subst, ◌∙◌}
use Rattle.std.specs.Prelude.{codes}
use Rattle.std.proofs.lemmas.Result.{IfOk-from_err}
use Rattle.rip_log.specs.Entries.{admitted, entry_text, recorded_of}
use Rattle.rip_wire.specs.Batches.{contents_of}
use Rattle.rip_wire.specs.declared.item.Batch.{Batch}
use Rattle.rip_history.specs.Decisions.{batch_decision}
use Rattle.rip_history.specs.Requests.{admits, error_body}
use Rattle.rip_history.specs.declared.decision.BatchDecision.TheVariants.{Admit}
use Rattle.rip_table.specs.Rolls.{IsRollOf}
use Rattle.rip_server.specs.Deciding.{Comes}
use Rattle.rip_history.specs.Run.{stage_of, with_batch_at}
use Rattle.rip_server.proofs.DecideLemmas.{comes_memory, comes_or, comes_refused}
use Rattle.rip_server.proofs.turn.decide.admit.Goals as goal

pub returns-in_err-line-clause-comes : goal.returns-in_err-line-clause-comes
returns-in_err-line-clause-comes g c = λ limit h stages st roll stands admit.
    let s = g.S.Sessions in
    let A = IsRollOf (s.stands c.args.sessions.now) (s.meaning c.args.sessions.now) limit c.args.roll.now in
    comes_or c.args.at.turn c.args.at.time c.args.close h stages A (admits c.args.session (contents_of c.args.batch)) c.from_residual.result
    (IfOk-from_err c.from_residual.result (Comes c.args.at.turn c.args.at.time c.args.close h stages A (admits c.args.session (contents_of c.args.batch))) c.from_residual.ensures.0)

pub returns-in-Ok-clause-comes : goal.returns-in-Ok-clause-comes
returns-in-Ok-clause-comes g c = λ limit h stages st roll stands admit.
    let s = g.S.Sessions in
    let turn = c.args.at.turn in
    let time = c.args.at.time in
    let A = IsRollOf (s.stands c.args.sessions.now) (s.meaning c.args.sessions.now) limit c.admit.new.self in
    let same : c.batch_in.result ≡ c.args.batch = c.batch_in.ensures turn c.args.session c.args.batch c.admission-entry.ensures in
    let N : Batch → Type 0 = λ b. batch_decision st b.number ≡ Admit in
    let R : Batch → Type 0 = λ b. A (h ++ admitted turn c.args.session (contents_of b) ∷ []) (with_batch_at c.args.session (contents_of b) (stage_of c.args.session stages) stages) in
    comes_or turn time c.args.close h stages A (admits c.args.session (contents_of c.args.batch)) _ (record {
      tells = record {
        line = (admitted turn c.args.session (contents_of c.args.batch), refl, c.in_ok-line.ensures ∙ ap (λ e. entry_text (recorded_of e)) c.admission-entry.ensures);
        answer = refl;
        owed = refl;
      };
      after = subst R same (c.in-Ok.ensures.admitted limit turn h stages st roll stands (subst N (sym same) admit));
    })

pub returns-in-Err-clause-comes : goal.returns-in-Err-clause-comes
returns-in-Err-clause-comes g c = λ limit h stages st roll stands admit.
    let s = g.S.Sessions in
    let turn = c.args.at.turn in
    let time = c.args.at.time in
    let A = IsRollOf (s.stands c.args.sessions.now) (s.meaning c.args.sessions.now) limit c.admit.new.self in
    comes_memory turn time c.args.close h stages A (admits c.args.session (contents_of c.args.batch)) c.refused.result
    (comes_refused turn time 503 c.args.close (error_body (codes "memory")) h stages A c.refused.result
    (c.refused.ensures turn time) (c.in-Err.ensures.memory limit h stages roll))
