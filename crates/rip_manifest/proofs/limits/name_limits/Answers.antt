use Rattle.std.proofs.Common.{◌≡◌, [], ◌∷◌, ◌++◌, true≢false, sym, ap, ◌∙◌, append_assoc}
use Rattle.serde_json.proofs.Views.{Entry}
use Rattle.rip_manifest.specs.Limits.{is_limit_name}
use Rattle.rip_manifest.proofs.LimitLemmas.{NameLimits-push, NameLimits-among}
use Rattle.rip_manifest.proofs.limits.name_limits.Goals as goal

pub returns-then-not-is_limit_name : goal.returns-then-not-is_limit_name
returns-then-not-is_limit_name c =
    let done = c.loop-name.invariant.0 in
    let e : Entry = (c.in-Some.name.now, c.in-Some.field-0-1.now) in
    let left = c.next.new.self in
    let all : c.args.members.now.entries ≡ done ++ e ∷ left = c.loop-name.invariant.1 ∙ ap (λ es. done ++ es) c.in-Some.ensures.steps in
    let unknown = sym c.if-not-is_limit_name.true ∙ c.is_limit_name.ensures ∙ ap (is_limit_name c.args.version) c.as_str.ensures.value in (
      λ none. absurd (true≢false (sym none)),
      λ names. absurd (true≢false (sym (unknown ∙ NameLimits-among c.args.version done e left (rw all at names)))),
    )

pub loop-name-preserved : goal.loop-name-preserved
loop-name-preserved c =
    let done = c.loop-name.invariant.0 in
    let e : Entry = (c.in-Some.name.now, c.in-Some.field-0-1.now) in
    let left = c.next.new.self in
    let all : c.args.members.now.entries ≡ done ++ e ∷ left = c.loop-name.invariant.1 ∙ ap (λ es. done ++ es) c.in-Some.ensures.steps in
    let known = sym (ap (is_limit_name c.args.version) c.as_str.ensures.value) ∙ sym c.is_limit_name.ensures ∙ c.if-not-is_limit_name.false in (
      done ++ e ∷ [],
      all ∙ sym (append_assoc done (e ∷ []) left),
      NameLimits-push c.args.version done e c.loop-name.invariant.2 known,
    )
