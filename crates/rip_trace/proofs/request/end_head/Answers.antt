use Rattle.std.proofs.Common.{◌≡◌, ◌++◌, ◌∷◌, [], List, ℕ, codes, decimal, subst}
use Rattle.std.specs.Prelude.{OnOk}
use Rattle.rip_trace.specs.Requests.{line}
use Rattle.rip_trace.proofs.RequestLemmas.{headed}
use Rattle.rip_trace.proofs.request.end_head.Goals as goal

pub returns : goal.returns
returns c =
    let P : List ℕ → Type 0 = λ x. OnOk c.text-2.result (c.text-2.new.self ≡ x) in
    let h : P (((c.args.out.now ++ (line (codes " HTTP/1.1") ++ (line (codes "Host: a") ++ codes "Content-Length: "))) ++ decimal c.args.size) ++ 13 ∷ 10 ∷ 13 ∷ 10 ∷ []) = rw (← c.in_ok-text.ensures.ok, ← c.in_ok-number.ensures.ok) c.text-2.ensures.ok in
    subst P (headed c.args.out.now c.args.size) h
