use Rattle.std.proofs.Common.{ap, ◌∙◌}
use Rattle.rip_early.specs.declared.meaning.Meaning.{Meaning}
use Rattle.rip_early.specs.Looking.{is_binding}
use Rattle.rip_early.specs.Scopes.{meaning_in, scopes_around}
use Rattle.rip_early.proofs.Inner.{inner-bound}
use Rattle.rip_early.proofs.bindings.is_bound_inside.Goals as goal

pub returns : goal.returns
returns c =
    c.is_binding.ensures
    ∙ ap (λ (m : Meaning). is_binding m.resolved) c.in_ok-meaning.ensures
    ∙ ap (λ names. is_binding (meaning_in 0 (scopes_around names c.args.tree.now c.args.id) c.args.name.now).resolved) c.new-no_names.ensures.empty
    ∙ inner-bound c.args.tree.now c.args.id c.args.name.now
