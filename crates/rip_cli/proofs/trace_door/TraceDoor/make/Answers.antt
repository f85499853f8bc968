use Rattle.std.proofs.Common.{◌≡◌, ◌∙◌, List, false, length, ap, sym, subst, arith}
use Rattle.std.specs.Prelude.{replicate}
use Rattle.std.specs.List.{AllByRecursion}
use Rattle.std.proofs.lemmas.List.{length-replicate}
use Rattle.rip_outer.specs.declared.connections.TraceKnock.{TraceKnock}
use Rattle.rip_cli.specs.TraceDoor.{IsWithin}
use Rattle.rip_cli.proofs.DoorLemmas.{all_within, as_given}
use Rattle.rip_cli.proofs.trace_door.TraceDoor.make.Goals as goal

pub invariant_of-result : goal.invariant_of-result
invariant_of-result c =
    let copied : c.in_ok-left.left.items ≡ c.args.knocks.now = c.in_ok-left.ensures ∙ c.as_slice-knocks.ensures.value in
    let marks : c.in_ok-shut.shut.items ≡ replicate (length c.as_slice-knocks.result.now) false = c.in_ok-shut.ensures.items_if_clones_equal (λ y h. h) in
    let long : length c.in_ok-shut.shut.items ≡ length c.args.knocks.now = ap length marks ∙ length-replicate (length c.as_slice-knocks.result.now) false ∙ ap length c.as_slice-knocks.ensures.value in
    let P : List TraceKnock → Type 0 = λ ks. AllByRecursion (IsWithin (length c.in_ok-shut.shut.items)) ks in
    record {
      within = subst P (sym copied) (all_within c.args.knocks.now (length c.in_ok-shut.shut.items) c.as_slice-knocks.ensures.allowed (omega (arith, long)));
      room_left = (
          let none = ap (length {A = TraceKnock}) c.in_ok-came.ensures.items in
          let room = c.in_ok-came.ensures.capacity in
          let given = c.as_slice-knocks.ensures.value in
          let few = ap (length {A = TraceKnock}) copied in
          let same = ap (length {A = TraceKnock}) given in
          omega (arith, none, room, few, same));
    }

pub returns-clause-left : goal.returns-clause-left
returns-clause-left c =
    let copied : c.in_ok-left.left.items ≡ c.args.knocks.now = c.in_ok-left.ensures ∙ c.as_slice-knocks.ensures.value in
    let marks : c.in_ok-shut.shut.items ≡ replicate (length c.as_slice-knocks.result.now) false = c.in_ok-shut.ensures.items_if_clones_equal (λ y h. h) in
    as_given c.in_ok-shut.shut.items (length c.as_slice-knocks.result.now) c.in_ok-left.left.items marks ∙ copied
