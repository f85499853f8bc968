use Rattle.std.proofs.Common.{◌≡◌, List, [], ◌∷◌, ◌++◌, sym, ap, ◌∙◌, subst, append_assoc, append-nil}
use Rattle.std.proofs.lemmas.Result.{err_from_is_err_and}
use Rattle.serde_json.specs.View.{view, members_view}
use Rattle.serde_json.proofs.Views.{Entry}
use Rattle.rip_manifest.specs.declared.function.Function.{Function}
use Rattle.rip_manifest.specs.Functions.{Declares, DeclareAll}
use Rattle.rip_manifest.proofs.AnswerLemmas.{IsKindFrom-cause}
use Rattle.rip_manifest.proofs.FunctionLemmas.{DeclareAll-push, Declares-among}
use Rattle.rip_manifest.proofs.functions.declared_by.Goals as goal

pub loop-name-preserved : goal.loop-name-preserved
loop-name-preserved c =
    let done = c.loop-name.invariant.0 in
    let e : Entry = (c.in-Some.name.now, c.in-Some.member.now) in
    let left = c.next.new.self in
    let f = c.in_ok-function_of.field-0 in
    let all : c.args.members.now.entries ≡ done ++ e ∷ left = c.loop-name.invariant.1 ∙ ap (λ es. done ++ es) c.in-Some.ensures.steps in
    let declares = subst (λ name. Declares name (view e.1) f) c.as_str.ensures.value c.in_ok-function_of.ensures.found in (
      done ++ e ∷ [],
      all ∙ sym (append_assoc done (e ∷ []) left),
      subst (DeclareAll (members_view (done ++ e ∷ []))) (sym {A = List Function} c.in_ok-push.ensures.items) (DeclareAll-push done e c.loop-name.functions.items f c.loop-name.invariant.2 declares),
    )

pub returns-in_err-function_of-clause-refused : goal.returns-in_err-function_of-clause-refused
returns-in_err-function_of-clause-refused c =
    let p = err_from_is_err_and c.from_residual-in_err-function_of.result c.from_residual-in_err-function_of.ensures.1 in
    let done = c.loop-name.invariant.0 in
    let e : Entry = (c.in-Some.name.now, c.in-Some.member.now) in
    let left = c.next.new.self in
    let all : c.args.members.now.entries ≡ done ++ e ∷ left = c.loop-name.invariant.1 ∙ ap (λ es. done ++ es) c.in-Some.ensures.steps in
    rw (p.1, p.2) (IsKindFrom-cause _ _ _ _ (λ none functions declared.
    let one = Declares-among done e left functions (rw all at declared) in
    none one.0 (subst (λ name. Declares name (view e.1) one.0) (sym c.as_str.ensures.value) one.1)) c.in_err-function_of.ensures.refused)

pub returns-clause-found : goal.returns-clause-found
returns-clause-found c =
    let done = c.loop-name.invariant.0 in
    let all : c.args.members.now.entries ≡ done = c.loop-name.invariant.1 ∙ ap (λ es. done ++ es) c.in-None.ensures.steps.0 ∙ append-nil done in
    rw (all, c.from_vec.ensures) c.loop-name.invariant.2
