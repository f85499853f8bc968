use Rattle.std.proofs.Common.{◌≡◌, ◌≤◌, refl, arith, length, Ok, Err, Result, IfOk, List}
use Rattle.serde_json.specs.Events.{members_len}
use Rattle.serde_json.specs.View.{view, members_view}
use Rattle.serde_json.proofs.Views.{members_len-members_view}
use Rattle.rip_manifest.specs.declared.function.Function.{Function}
use Rattle.rip_manifest.specs.Functions.{DeclareAll, AreFunctions}
use Rattle.rip_manifest.specs.declared.refusal.ManifestRefusal.{ManifestRefusal}
use Rattle.rip_manifest.proofs.JsonLemmas.{as_object-some, members_len-object}
use Rattle.rip_manifest.proofs.FunctionLemmas.{length-DeclareAll}
use Rattle.rip_manifest.proofs.functions.functions_of.Goals as goal

pub returns-then-len-gt-MOST_FUNCTIONS-clause-refused :
    goal.returns-then-len-gt-MOST_FUNCTIONS-clause-refused
returns-then-len-gt-MOST_FUNCTIONS-clause-refused c = (
  refl,
  λ functions h.
      let count : length c.in-Some.members.now.entries ≡ members_len h.members = members_len-object _ _ h.members c.in-Some.ensures h.are in
      let many : length functions ≡ members_len h.members = length-DeclareAll h.members functions h.declared in
      omega arith,
)

if_ok : (r : Result (List Function) ManifestRefusal) (P Q : List Function → Type 0) → ((fs : List Function) → P fs → Q fs) → IfOk r P → IfOk r Q
if_ok (Ok fs) P Q then h = then fs h
if_ok (Err e) P Q then h = tt

pub returns-clause-found : goal.returns-clause-found
returns-clause-found c =
    let members = members_view c.in-Some.members.now.entries in
    if_ok c.declared_by.result (DeclareAll members) (AreFunctions (view c.args.value.now)) (λ fs declared.
    let many : length fs ≡ members_len members = length-DeclareAll members fs declared in
    let count : members_len members ≡ length c.in-Some.members.now.entries = members_len-members_view c.in-Some.members.now.entries in
    let few : length fs ≤ 256 = omega arith in
    record { members = members; are = as_object-some _ _ c.in-Some.ensures; declared = declared; few = few }) c.declared_by.ensures.found
