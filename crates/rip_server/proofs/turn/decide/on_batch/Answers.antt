use Rattle.std.proofs.Common.{◌≡◌, ℕ, List, Option, Some, None, sym, ap, subst, ◌∙◌}
use Rattle.std.specs.Prelude.{Err, codes, option_map}
use Rattle.rip_wire.specs.Batches.{Contents, Spells, SpellsNone, contents_of}
use Rattle.rip_wire.specs.declared.item.Batch.{Batch}
use Rattle.rip_history.specs.Requests.{Says, error_body, fails, for_session, identifier_in, named_by, on_batch_to}
use Rattle.rip_history.specs.Standings.{standing_of}
use Rattle.rip_table.specs.Rolls.{IsRollOf}
use Rattle.rip_server.proofs.DecideLemmas.{batch_comes, comes_or, comes_refused, memory_comes}
use Rattle.rip_server.proofs.turn.decide.on_batch.Goals as goal
use Rattle.rip_server.proofs.turn.decide.on_batch.Goals.{in-Ok, in-Err-Body}

pub returns-in-Err-Memory-clause-comes : goal.returns-in-Err-Memory-clause-comes
returns-in-Err-Memory-clause-comes g c = λ limit h stages roll.
    let s = g.S.Sessions in
    let m = c.args.message.now in
    let A = IsRollOf (s.stands c.args.sessions.now) (s.meaning c.args.sessions.now) limit c.args.roll.now in
    let turn = c.args.at.turn in
    let time = c.args.at.time in
    memory_comes limit turn time m h stages A c.refused.result
    (comes_refused turn time 503 m.close (error_body (codes "memory")) h stages A c.refused.result (c.refused.ensures turn time) roll)

pub returns-in_default-clause-comes : goal.returns-in_default-clause-comes
returns-in_default-clause-comes g c = λ limit h stages roll.
    let s = g.S.Sessions in
    let m = c.args.message.now in
    let A = IsRollOf (s.stands c.args.sessions.now) (s.meaning c.args.sessions.now) limit c.args.roll.now in
    let turn = c.args.at.turn in
    let time = c.args.at.time in
    let P : Option Batch → Type 0 = λ a. Says m.body (option_map contents_of a) in
    let says : Says m.body (option_map contents_of c.match-read_batch.asked) = elim c.match-read_batch.branch [
      | in-Ok w ↦ subst P (sym w.asked-is) (subst (λ (x : List ℕ). Spells x (contents_of w.in-Ok.batch)) c.as_slice.ensures w.in-Ok.ensures.ok)
      | in-Err-Body w ↦ subst P (sym w.asked-is) (subst (λ (x : List ℕ). SpellsNone x) c.as_slice.ensures (w.in-Err-Body.ensures.body (ap (λ e. Err e) w.in-Err-Body.field-0-is)))
    ] in
    let none : named_by (identifier_in m.segment) h ≡ None =
    ap (λ (x : List ℕ). named_by (identifier_in x) h) (sym c.as_slice-2.ensures) ∙ sym (c.named.ensures limit h roll.kept) ∙ c.in_default.is in
    let b : Option Contents = option_map contents_of c.match-read_batch.asked in
    batch_comes limit turn time m h stages A c.refused-in_default.result b (fails 404 (codes "session")) c.requires.route says
    (ap (λ (o : Option ℕ). for_session o (λ n. on_batch_to n h (standing_of n h) b)) none)
    (comes_or turn time m.close h stages A (fails 404 (codes "session")) c.refused-in_default.result
    (comes_refused turn time 404 m.close (error_body (codes "session")) h stages A c.refused-in_default.result (c.refused-in_default.ensures turn time) roll))

pub returns-clause-comes : goal.returns-clause-comes
returns-clause-comes g c = λ limit h stages roll.
    let s = g.S.Sessions in
    let m = c.args.message.now in
    let A = IsRollOf (s.stands c.args.sessions.now) (s.meaning c.args.sessions.now) limit c.on_batch_to.new.roll in
    let P : Option Batch → Type 0 = λ a. Says m.body (option_map contents_of a) in
    let says : Says m.body (option_map contents_of c.match-read_batch.asked) = elim c.match-read_batch.branch [
      | in-Ok w ↦ subst P (sym w.asked-is) (subst (λ (x : List ℕ). Spells x (contents_of w.in-Ok.batch)) c.as_slice.ensures w.in-Ok.ensures.ok)
      | in-Err-Body w ↦ subst P (sym w.asked-is) (subst (λ (x : List ℕ). SpellsNone x) c.as_slice.ensures (w.in-Err-Body.ensures.body (ap (λ e. Err e) w.in-Err-Body.field-0-is)))
    ] in
    let k : ℕ = c.in-Some.session in
    let some : named_by (identifier_in m.segment) h ≡ Some k =
    ap (λ (x : List ℕ). named_by (identifier_in x) h) (sym c.as_slice-2.ensures) ∙ sym (c.named.ensures limit h roll.kept) ∙ c.in-Some.is in
    let b : Option Contents = option_map contents_of c.match-read_batch.asked in
    batch_comes limit c.args.at.turn c.args.at.time m h stages A c.on_batch_to.result b (on_batch_to k h (standing_of k h) b) c.requires.route says
    (ap (λ (o : Option ℕ). for_session o (λ n. on_batch_to n h (standing_of n h) b)) some)
    (c.on_batch_to.ensures.comes limit h stages roll)
