use Rattle.std.proofs.Common.{◌≡◌, ◌∙◌, ℕ, List, Bool, false, Some, ap, subst}
use Rattle.std.specs.Prelude.{slice_get}
use Rattle.rip_history.specs.Connections.{is_there, without}
use Rattle.rip_server.specs.Links.{there_of}
use Rattle.rip_server.specs.declared.connection.Connection.{Connection}
use Rattle.rip_server.proofs.LinkLemmas.{there-without, without-none}
use Rattle.rip_server.proofs.connections.Connections.lose.Goals as goal

pub returns-in-Some-clause-there : goal.returns-in-Some-clause-there
returns-in-Some-clause-there c = λ high rising.
    let found = c.in-Some.ensures.some in
    ap there_of c.forget.ensures.list
    ∙ there-without c.args.self.now.list.items high c.in-Some.place found.0 rising
    (subst (λ (t : List Connection). slice_get t c.in-Some.place ≡ Some found.0) c.as_slice.ensures.value found.1)
    ∙ ap (λ (n : ℕ). without n (there_of c.args.self.now.list.items)) found.2

pub returns-in_default-clause-there : goal.returns-in_default-clause-there
returns-in_default-clause-there c = λ high rising.
    without-none c.args.number (there_of c.args.self.now.list.items)
    (subst (λ (t : List Connection). is_there c.args.number (there_of t) ≡ false) c.as_slice.ensures.value c.in_default.ensures.none)
