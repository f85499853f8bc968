use Rattle.std.proofs.Common.{◌≤◌, ℕ, Ok, refl, subst, take, length, arith}
use Rattle.std.proofs.lemmas.List.{length-take-le}
use Rattle.httparse.specs.Outcome.{IfComplete}
use Rattle.httparse.specs.Spans.{IsRequestWithin, IsRequestOf}
use Rattle.httparse.specs.declared.Error.{Error}
use Rattle.httparse.specs.declared.Status.{Status}
use Rattle.httparse.specs.declared.spans.RequestSpans.{RequestSpans}
use Rattle.rip_http.specs.Stages.{verdict_in, IsJudged}
use Rattle.rip_http.proofs.WholeLemmas.{front_ends, front_verdict}
use Rattle.rip_http.proofs.verdict.judge_front.Goals as goal

pub returns-in-Ok-Complete : goal.returns-in-Ok-Complete
returns-in-Ok-Complete c =
    let bytes = c.args.bytes.now in
    let spans = c.in-Ok-Complete.spans in
    let headers = c.parse_request.new.headers in
    let judged = c.judge_parts-judged.result in
    let head = take spans.len bytes in
    let Within : Status RequestSpans → Type 0 = λ s. IfComplete {E = Error} (Ok s) (IsRequestWithin bytes headers) in
    let Complete : Status RequestSpans → Type 0 = λ s. IfComplete {E = Error} (Ok s) (IsRequestOf bytes headers) in
    let within : IsRequestWithin bytes headers spans = subst Within c.in-Ok-Complete.field-0-is c.in-Ok-Complete.ensures.within in
    let complete : IsRequestOf bytes headers spans = subst Complete c.in-Ok-Complete.field-0-is c.in-Ok-Complete.ensures.complete in
    let few : length headers ≤ 64 = omega arith in
    let fits = within.section.len_fits in record {
      within = fits;
      ends = front_ends bytes headers spans complete;
      verdict_is = front_verdict bytes head headers spans (verdict_in head judged) refl within complete few c.judge_parts-judged.ensures.verdict;
      target_is = subst (λ (n : ℕ). IsJudged n judged) (length-take-le spans.len bytes fits) c.judge_parts-judged.ensures.within;
    }
