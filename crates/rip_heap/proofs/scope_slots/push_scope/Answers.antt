use Rattle.std.proofs.Common.{◌≡◌, ◌∙◌, ◌++◌, ◌∷◌, [], ap, subst, sym}
use Rattle.rip_heap_region.specs.declared.pages.for_rows.Row.TheVariants.{Scopes}
use Rattle.rip_heap_region.specs.Pages.{row_of, with_row}
use Rattle.rip_heap.specs.ScopeSlots.{AreScopes, scopes_of, slot_of_scope}
use Rattle.rip_heap.proofs.ScopeSlotLemmas.{are_pushed, scopes_pushed, with_scope_slots}
use Rattle.rip_heap.proofs.scope_slots.push_scope.Goals as goal

pushed : (c : goal.After-push) → c.push.new.self ≡ with_scope_slots c.args.pages.now c.args.parent c.args.names
pushed c =
    let slot = c.slot_of_scope.ensures ∙ ap (λ start. slot_of_scope (record { parent = c.args.parent; start = start; count = c.args.names })) c.len-start.ensures in
    c.push.ensures ∙ (λ t. with_row Scopes (row_of Scopes (c.push_blanks.ensures t) ++ slot t ∷ []) (c.push_blanks.ensures t))

pub returns-clause-kept : goal.returns-clause-kept
returns-clause-kept c =
    subst AreScopes (sym (pushed c)) (are_pushed c.args.pages.now c.args.parent c.args.names c.requires.scopes)

pub returns-clause-scopes : goal.returns-clause-scopes
returns-clause-scopes c =
    ap scopes_of (pushed c) ∙ scopes_pushed c.args.pages.now c.args.parent c.args.names c.requires.scopes
