use Rattle.std.proofs.Common.{◌≡◌, length, sym, ◌∙◌}
use Rattle.std.specs.Prelude.{codes}
use Rattle.serde_json.specs.View.{view, members_view}
use Rattle.serde_json.proofs.Views.{members_len-members_view}
use Rattle.rip_manifest.proofs.JsonLemmas.{as_object-some, get_member-object}
use Rattle.rip_manifest.proofs.PartLemmas.{three_parts, five_parts, if_none, no_language, no_wire, other_count}
use Rattle.rip_manifest.proofs.parts.parts_of.Goals as goal

pub returns-in_err-get-clause-none : goal.returns-in_err-get-clause-none
returns-in_err-get-clause-none c =
    let entries = c.in_ok-as_object.field-0.now.entries in
    if_none _ _ (no_language _ (members_view entries) (as_object-some _ _ c.in_ok-as_object.ensures) (members_len-members_view entries ∙ sym c.len-count.ensures.len ∙ c.if-count-eq5.true) c.in_err-get.ensures)

pub returns-in_err-get-2-clause-none : goal.returns-in_err-get-2-clause-none
returns-in_err-get-2-clause-none c =
    let entries = c.in_ok-as_object.field-0.now.entries in
    if_none _ _ (no_wire _ (members_view entries) (as_object-some _ _ c.in_ok-as_object.ensures) (members_len-members_view entries ∙ sym c.len-count.ensures.len ∙ c.if-count-eq5.true) c.in_err-get-2.ensures)

pub returns-then-count-eq3-clause-found : goal.returns-then-count-eq3-clause-found
returns-then-count-eq3-clause-found c =
    let entries = c.in_ok-as_object.field-0.now.entries in
    three_parts _ (members_view entries) _ (as_object-some _ _ c.in_ok-as_object.ensures) (members_len-members_view entries ∙ sym c.len-count.ensures.len ∙ c.if-count-eq3.true) c.parts_beside.ensures.beside c.parts_beside.ensures.found

pub returns-in_ok-get-2-clause-found : goal.returns-in_ok-get-2-clause-found
returns-in_ok-get-2-clause-found c =
    let entries = c.in_ok-as_object.field-0.now.entries in
    let are = as_object-some _ _ c.in_ok-as_object.ensures in
    five_parts _ (members_view entries) (c.in_ok-get.field-0, c.in_ok-get-2.field-0) _ are (
      members_len-members_view entries ∙ sym c.len-count.ensures.len ∙ c.if-count-eq5.true,
      get_member-object (codes "language") _ _ _ are c.in_ok-get.ensures,
      get_member-object (codes "wire") _ _ _ are c.in_ok-get-2.ensures,
    ) c.parts_beside-then-count-eq5.ensures.beside c.parts_beside-then-count-eq5.ensures.found

pub returns-else-count-eq5-clause-none : goal.returns-else-count-eq5-clause-none
returns-else-count-eq5-clause-none c =
    let entries = c.in_ok-as_object.field-0.now.entries in
    let count = c.len-count.ensures.len ∙ sym (members_len-members_view entries) in
    other_count _ (members_view entries) (as_object-some _ _ c.in_ok-as_object.ensures) (λ three. c.if-count-eq3.false (count ∙ three)) (λ five. c.if-count-eq5.false (count ∙ five))
