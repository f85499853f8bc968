use Rattle.std.proofs.Common.{◌≡◌, ℕ, List, [], map, refl, ap, subst, ◌∙◌}
use Rattle.rip_wire.specs.Batches.{Contents}
use Rattle.rip_wire.specs.Items.{Reported, reported_of}
use Rattle.rip_client.specs.Bytes.{batches_of}
use Rattle.rip_client.specs.Sizes.{place_of}
use Rattle.rip_client.specs.Truth.{TellsList}
use Rattle.rip_client.proofs.Telling.{told_close}
use Rattle.rip_client.proofs.client.Client.tell_batches.Goals as goal

pub returns : goal.returns
returns g c = λ close how.
    let x = g.A.Actor.session in
    let told = c.args.gesture.now in
    let old = c.args.self.now in
    let started = record old { actor = c.begin_batch.new.self; list = c.begin.result } in
    let last = place_of c.tell_list.new.self c.tell_list.new.giver in
    let p = place_of started c.args.giver.now in
    let comes = told_close (TellsList x told) p last c.tell_list.result c.how_told-how.result close c.how_told-how.ensures how c.tell_list.ensures in
    let closed = subst (λ (cs : List Contents). TellsList x told (record p { closed = cs }) close last) (ap batches_of c.begin.ensures.closed) comes in
    let numbered = subst (λ (n : ℕ). TellsList x told (record p { closed = []; number = n }) close last) c.begin.ensures.number closed in
    let empty = subst (λ (is : List Reported). TellsList x told (record p { closed = []; number = old.list.number; items = is }) close last) (ap (map reported_of) c.begin.ensures.items) numbered in
    record {
      first = c.begin_batch.new.self;
      turns = c.begin_batch.ensures;
      last = last;
      tells = empty;
      are = ap (λ v. batches_of v.items) c.replace-batches.ensures.value ∙ c.in_ok-close.ensures.closed;
      session_is = refl;
      giver_is = refl;
      number_is = c.in_ok-close.ensures.number;
      waiting_is = refl;
    }
