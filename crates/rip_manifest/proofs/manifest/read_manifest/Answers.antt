use Rattle.std.proofs.Common.{◌≢◌, ◌<◌, ◌≤◌, ℕ, ap, ◌∙◌, subst, Ok, Err}
use Rattle.std.proofs.lemmas.Result.{err_from_is_err_and}
use Rattle.serde_json.specs.View.{view}
use Rattle.rip_manifest.specs.declared.refusal.ManifestKind.TheVariants as K
use Rattle.rip_manifest.specs.declared.refusal.ManifestRefusal.TheVariants as R
use Rattle.rip_manifest.specs.Manifest.{Contents, Parts, ArePartsOf, Says, most_memory, IsRefused}
use Rattle.rip_manifest.specs.Reading.{parts_view}
use Rattle.rip_manifest.proofs.AnswerLemmas.{one_answer, IsRefused-kind}
use Rattle.rip_manifest.proofs.LimitLemmas.{AreInRange-AreLimits}
use Rattle.rip_manifest.proofs.manifest.read_manifest.Goals as goal

pub returns-in_default-clause-only : goal.returns-in_default-clause-only
returns-in_default-clause-only c = λ answer is _.
    one_answer c.args.bytes.now (Err (R.Kind K.Member)) answer (view c.in_ok-value.value, c.in_ok-value.ensures.found, c.in_default.ensures.none) is

pub returns-in_default-stated_of-clause-only : goal.returns-in_default-stated_of-clause-only
returns-in_default-stated_of-clause-only c = λ answer is _.
    let parts : Parts = parts_view c.in-Some.parts in
    let are : ArePartsOf c.args.bytes.now parts = (view c.in_ok-value.value, c.in_ok-value.ensures.found, c.in-Some.ensures.found) in
    one_answer c.args.bytes.now (Err (R.Kind K.Version)) answer (parts, are, c.in_default-stated_of.ensures.none) is

pub returns-in_err-functions-clause-only : goal.returns-in_err-functions-clause-only
returns-in_err-functions-clause-only c = λ answer is other.
    let p = err_from_is_err_and c.from_residual-in_err-functions.result c.from_residual-in_err-functions.ensures.1 in
    let parts : Parts = parts_view c.in-Some.parts in
    let are : ArePartsOf c.args.bytes.now parts = (view c.in_ok-value.value, c.in_ok-value.ensures.found, c.in-Some.ensures.found) in
    let refused : p.0 ≢ R.Memory → IsRefused c.args.bytes.now p.0 = IsRefused-kind c.args.bytes.now K.Function _ p.0 (λ none. (parts, are, (c.in-Some-stated_of.stated, c.in-Some-stated_of.ensures.found), none)) (rw p.2 c.in_err-functions.ensures.refused) in
    p.1 ∙ one_answer c.args.bytes.now (Err p.0) answer (refused (λ memory. other (p.1 ∙ ap Err memory))) is

pub returns-in_default-limits_of-clause-only : goal.returns-in_default-limits_of-clause-only
returns-in_default-limits_of-clause-only c = λ answer is _.
    let parts : Parts = parts_view c.in-Some.parts in
    let are : ArePartsOf c.args.bytes.now parts = (view c.in_ok-value.value, c.in_ok-value.ensures.found, c.in-Some.ensures.found) in
    one_answer c.args.bytes.now (Err (R.Kind K.LimitRange)) answer (
      parts,
      are,
      (c.in-Some-stated_of.stated, c.in-Some-stated_of.ensures.found),
      (c.in_ok-functions.functions, c.in_ok-functions.ensures.found),
      c.in_default-limits_of.ensures.none,
    ) is

pub returns-in_default-limits_of-clause-refused : goal.returns-in_default-limits_of-clause-refused
returns-in_default-limits_of-clause-refused c = λ _.
    let parts : Parts = parts_view c.in-Some.parts in
    let are : ArePartsOf c.args.bytes.now parts = (view c.in_ok-value.value, c.in_ok-value.ensures.found, c.in-Some.ensures.found) in (
      parts,
      are,
      (c.in-Some-stated_of.stated, c.in-Some-stated_of.ensures.found),
      (c.in_ok-functions.functions, c.in_ok-functions.ensures.found),
      c.in_default-limits_of.ensures.none,
    )

pub memory_of-requires : goal.memory_of-requires
memory_of-requires c = AreInRange-AreLimits c.in-Some-stated_of.stated.version _ c.in-Some-limits_of.limits c.in-Some-limits_of.ensures.found

pub invariant_of-result : goal.invariant_of-result
invariant_of-result c = AreInRange-AreLimits c.in-Some-stated_of.stated.version _ c.in-Some-limits_of.limits c.in-Some-limits_of.ensures.found

pub returns-then-memory_of-gt-MOST_MEMORY-clause-only : goal.returns-then-memory_of-gt-MOST_MEMORY-clause-only
returns-then-memory_of-gt-MOST_MEMORY-clause-only c = λ answer is _.
    let parts : Parts = parts_view c.in-Some.parts in
    let contents : Contents = record { stated = c.in-Some-stated_of.stated; functions = c.in_ok-functions.functions; limits = c.in-Some-limits_of.limits } in
    let says : Says c.args.bytes.now contents = record {
      parts = parts;
      are = (view c.in_ok-value.value, c.in_ok-value.ensures.found, c.in-Some.ensures.found);
      stated = c.in-Some-stated_of.ensures.found;
      functions = c.in_ok-functions.ensures.found;
      limits = c.in-Some-limits_of.ensures.found;
    } in
    let IsBeyond : ℕ → Type 0 = λ n. most_memory < n in
    one_answer c.args.bytes.now (Err R.LimitsTooLarge) answer (contents, says, subst IsBeyond c.memory_of.ensures c.if-memory_of-gt-MOST_MEMORY.true) is

pub returns-then-memory_of-gt-MOST_MEMORY-clause-refused : goal.returns-then-memory_of-gt-MOST_MEMORY-clause-refused
returns-then-memory_of-gt-MOST_MEMORY-clause-refused c = λ _.
    let parts : Parts = parts_view c.in-Some.parts in
    let contents : Contents = record { stated = c.in-Some-stated_of.stated; functions = c.in_ok-functions.functions; limits = c.in-Some-limits_of.limits } in
    let says : Says c.args.bytes.now contents = record {
      parts = parts;
      are = (view c.in_ok-value.value, c.in_ok-value.ensures.found, c.in-Some.ensures.found);
      stated = c.in-Some-stated_of.ensures.found;
      functions = c.in_ok-functions.ensures.found;
      limits = c.in-Some-limits_of.ensures.found;
    } in
    let IsBeyond : ℕ → Type 0 = λ n. most_memory < n in
    (contents, says, subst IsBeyond c.memory_of.ensures c.if-memory_of-gt-MOST_MEMORY.true)

pub returns-clause-only : goal.returns-clause-only
returns-clause-only c = λ answer is _.
    let parts : Parts = parts_view c.in-Some.parts in
    let contents : Contents = record { stated = c.in-Some-stated_of.stated; functions = c.in_ok-functions.functions; limits = c.in-Some-limits_of.limits } in
    let says : Says c.args.bytes.now contents = record {
      parts = parts;
      are = (view c.in_ok-value.value, c.in_ok-value.ensures.found, c.in-Some.ensures.found);
      stated = c.in-Some-stated_of.ensures.found;
      functions = c.in_ok-functions.ensures.found;
      limits = c.in-Some-limits_of.ensures.found;
    } in
    let Fits : ℕ → Type 0 = λ n. n ≤ most_memory in
    one_answer c.args.bytes.now (Ok contents) answer (says, subst Fits c.memory_of.ensures c.if-memory_of-gt-MOST_MEMORY.false) is
