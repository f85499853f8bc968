use Rattle.std.proofs.Common.{ℕ, List, Some, refl, ap, ◌∙◌}
use Rattle.rip_http.specs.declared.answer.HttpAnswer.{HttpAnswer}
use Rattle.rip_log.specs.Entries.{closed}
use Rattle.rip_history.specs.Answering.{json_answer}
use Rattle.rip_server.proofs.turn.decide.quit.Goals as goal

pub returns-clause-comes : goal.returns-clause-comes
returns-clause-comes g c = λ sessions limit h stages st roll stands decided. record {
  tells = record {
    line = (closed c.args.at.turn c.args.session, refl, c.in_ok-line.ensures.line);
    answer = ap (λ (a : HttpAnswer). Some a) (c.json_answer.ensures ∙ ap (λ (b : List ℕ). json_answer 200 b c.args.close) c.in_ok-line.ensures.body);
    owed = refl;
  };
  after = c.close.ensures.closed sessions limit c.args.at.turn h stages st roll stands decided;
}
