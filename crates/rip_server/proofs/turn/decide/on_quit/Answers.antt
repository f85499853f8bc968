use Rattle.std.proofs.Common.{◌≡◌, ℕ, List, Option, Some, None, sym, ap, ◌∙◌}
use Rattle.std.specs.Prelude.{codes}
use Rattle.rip_history.specs.Decisions.{close_decision}
use Rattle.rip_history.specs.Requests.{error_body, fails, for_session, identifier_in, named_by, on_close_of, on_close_to}
use Rattle.rip_history.specs.Standings.{standing_of}
use Rattle.rip_history.specs.declared.standing.Standing.{Standing}
use Rattle.rip_table.specs.Rolls.{IsRollOf}
use Rattle.rip_server.proofs.DecideLemmas.{comes_refused, quit_comes}
use Rattle.rip_server.proofs.turn.decide.on_quit.Goals as goal

pub returns-in_default-clause-comes : goal.returns-in_default-clause-comes
returns-in_default-clause-comes g c = λ sessions limit h stages roll.
    let s = g.S.Sessions in
    let m = c.args.message.now in
    let A = IsRollOf (s.stands sessions) (s.meaning sessions) limit c.args.roll.now in
    let turn = c.args.at.turn in
    let time = c.args.at.time in
    let none : named_by (identifier_in m.segment) h ≡ None =
    ap (λ (x : List ℕ). named_by (identifier_in x) h) (sym c.as_slice.ensures) ∙ sym (c.named.ensures limit h roll.kept) ∙ c.in_default.is in
    quit_comes limit turn time m h stages A c.refused.result (fails 404 (codes "session")) c.requires.route
    (ap (λ (o : Option ℕ). for_session o (λ n. on_close_to n (standing_of n h))) none)
    (comes_refused turn time 404 m.close (error_body (codes "session")) h stages A c.refused.result (c.refused.ensures turn time) roll)

pub returns-in_default-standing-clause-comes : goal.returns-in_default-standing-clause-comes
returns-in_default-standing-clause-comes g c = λ sessions limit h stages roll.
    let s = g.S.Sessions in
    let m = c.args.message.now in
    let A = IsRollOf (s.stands sessions) (s.meaning sessions) limit c.args.roll.now in
    let turn = c.args.at.turn in
    let time = c.args.at.time in
    let k : ℕ = c.in-Some.session in
    let some : named_by (identifier_in m.segment) h ≡ Some k =
    ap (λ (x : List ℕ). named_by (identifier_in x) h) (sym c.as_slice.ensures) ∙ sym (c.named.ensures limit h roll.kept) ∙ c.in-Some.is in
    let none : standing_of k h ≡ None = sym (c.standing.ensures limit h roll.kept) ∙ c.in_default-standing.is in
    quit_comes limit turn time m h stages A c.refused-in_default-standing.result (fails 404 (codes "session")) c.requires.route
    (ap (λ (o : Option ℕ). for_session o (λ n. on_close_to n (standing_of n h))) some ∙ ap (λ (o : Option Standing). on_close_to k o) none)
    (comes_refused turn time 404 m.close (error_body (codes "session")) h stages A c.refused-in_default-standing.result (c.refused-in_default-standing.ensures turn time) roll)

pub returns-clause-comes : goal.returns-clause-comes
returns-clause-comes g c = λ sessions limit h stages roll.
    let s = g.S.Sessions in
    let m = c.args.message.now in
    let A = IsRollOf (s.stands sessions) (s.meaning sessions) limit c.on_quit_of.new.roll in
    let k : ℕ = c.in-Some.session in
    let st : Standing = c.in-Some-standing.standing in
    let named : named_by (identifier_in m.segment) h ≡ Some k =
    ap (λ (x : List ℕ). named_by (identifier_in x) h) (sym c.as_slice.ensures) ∙ sym (c.named.ensures limit h roll.kept) ∙ c.in-Some.is in
    let some : standing_of k h ≡ Some st = sym (c.standing.ensures limit h roll.kept) ∙ c.in-Some-standing.is in
    quit_comes limit c.args.at.turn c.args.at.time m h stages A c.on_quit_of.result (on_close_of k st (close_decision st)) c.requires.route
    (ap (λ (o : Option ℕ). for_session o (λ n. on_close_to n (standing_of n h))) named ∙ ap (λ (o : Option Standing). on_close_to k o) some)
    (c.on_quit_of.ensures.comes sessions limit h stages roll some)
