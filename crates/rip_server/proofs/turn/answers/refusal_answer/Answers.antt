use Rattle.std.proofs.Common.{◌≡◌, true, false, Bool, [], Some, None, unwrap_or, refl, sym, ap, ◌∙◌, arith}
use Rattle.std.specs.Prelude.{if◌then◌else◌}
use Rattle.rip_http.specs.Stream.{code_of, allowed_by, refuses}
use Rattle.rip_http.specs.declared.request.Method.TheVariants.{Get}
use Rattle.rip_http.specs.declared.request.Refusal.{Refusal}
use Rattle.rip_http.specs.declared.request.Refusal.TheVariants.{Head, Fields, Path, WrongMethod, Coding, NoLength, TooLarge}
use Rattle.rip_history.specs.Answering.{refusal_word}
use Rattle.rip_history.specs.Requests.{error_body}
use Rattle.rip_server.proofs.turn.answers.refusal_answer.Goals as goal

-- a 405 names a method
named_by_405 : (r : Refusal) → code_of r ≡ 405 → allowed_by r ≡ Some (unwrap_or (allowed_by r) Get)
named_by_405 (WrongMethod m) e = refl
named_by_405 Head e = absurd (omega (arith, e))
named_by_405 Fields e = absurd (omega (arith, e))
named_by_405 Path e = absurd (omega (arith, e))
named_by_405 Coding e = absurd (omega (arith, e))
named_by_405 NoLength e = absurd (omega (arith, e))
named_by_405 TooLarge e = absurd (omega (arith, e))

pub returns : goal.returns
returns c = λ n r next code.
    let bare = c.bare-bare.ensures (refuses n r) next in
    let named = sym (c.allowed.ensures (refuses n r) next) in
    let allow = c.allowed-2.ensures r.refusal code (λ is. named_by_405 r.refusal is ∙ ap Some named) in
    let body = c.in_ok-refusal_body.ensures r.refusal code ∙ ap (λ (b : Bool). if b then [] else error_body (refusal_word r.refusal)) bare in
    λ i. record { code = code i; html = false; allow = allow i; opening = None; body = body i; close = true; bare = bare i }
