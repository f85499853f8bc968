use Rattle.std.proofs.Common.{◌≡◌, ◌∙◌, ℕ, refl, sym, ap, subst, List, drop}
use Rattle.std.proofs.lemmas.List.{drop-drop}
use Rattle.rip_http.specs.Stream.{IsNext, waits, refuses, takes}
use Rattle.rip_http.proofs.conn.Conn.take_message.Goals as goal

pub returns-in-NotYet : goal.returns-in-NotYet
returns-in-NotYet c =
    let same : c.unread.result.now ≡ c.args.self.now =
    c.unread.ensures ∙ ap (drop c.self.inside.start) c.as_slice.ensures.value ∙ c.self.view_is in
    let P : List ℕ → Type 0 = λ xs. IsNext xs waits in
    (subst P same c.in-NotYet.ensures, refl)

pub returns-in-Refused : goal.returns-in-Refused
returns-in-Refused c =
    let same : c.unread.result.now ≡ c.args.self.now =
    c.unread.ensures ∙ ap (drop c.self.inside.start) c.as_slice.ensures.value ∙ c.self.view_is in
    let n = c.in-Refused.ensures.0 in
    let P : List ℕ → Type 0 = λ xs. IsNext xs (refuses n c.in-Refused.refused) in
    (n, c.in-Refused.refused, subst P same c.in-Refused.ensures.1, c.code.ensures, refl)

pub returns-in-Memory : goal.returns-in-Memory
returns-in-Memory c =
    let same : c.unread.result.now ≡ c.args.self.now =
    c.unread.ensures ∙ ap (drop c.self.inside.start) c.as_slice.ensures.value ∙ c.self.view_is in
    let here = c.in-Memory.ensures in
    let P : List ℕ → Type 0 = λ xs. IsNext xs (takes here.0 here.1) in
    (here.0, here.1, subst P same here.2, refl)

pub returns-in-Whole : goal.returns-in-Whole
returns-in-Whole c =
    let same : c.unread.result.now ≡ c.args.self.now =
    c.unread.ensures ∙ ap (drop c.self.inside.start) c.as_slice.ensures.value ∙ c.self.view_is in
    let P : List ℕ → Type 0 = λ xs. IsNext xs (takes c.in-Whole.count c.in-Whole.message) in (
      c.in-Whole.count,
      subst P same c.in-Whole.ensures.0,
      sym (drop-drop c.in-Whole.count c.self.inside.start c.self.inside.bytes.items) ∙ ap (drop c.in-Whole.count) c.self.view_is,
    )
