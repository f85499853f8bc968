use Rattle.std.proofs.Common.{◌≡◌, [], ◌∷◌, ◌++◌}
use Rattle.rip_wire.specs.Items.{reported_of}
use Rattle.rip_client.specs.Sizes.{place_of}
use Rattle.rip_client.specs.Truth.{IsPut}
use Rattle.rip_client.proofs.Telling.{not_both, on_ok_onto, put_fits, put_opens}
use Rattle.rip_client.proofs.client.Client.put.Goals as goal

pub returns-then-has_room : goal.returns-then-has_room
returns-then-has_room g c = λ giver.
    let old = c.args.self.now in
    on_ok_onto c.push.result (c.push.new.self.items.items ≡ old.list.items.items ++ c.args.item ∷ []) (IsPut g.A.Actor.session (reported_of c.args.item) (place_of old giver) (place_of (record old { list = c.push.new.self }) giver)) c.push.ensures.items
    (λ items. put_fits g.A.Actor.session old c.push.new.self c.args.item giver ((c.has_room.ensures (reported_of c.args.item) c.requires).0 c.if-has_room.true) items c.push.ensures.closed c.push.ensures.number)

pub returns : goal.returns
returns g c = λ giver.
    let old = c.args.self.now in
    on_ok_onto c.push-2.result (c.push-2.new.self.items.items ≡ c.close.new.self.items.items ++ c.args.item ∷ []) (IsPut g.A.Actor.session (reported_of c.args.item) (place_of old giver) (place_of (record old { actor = c.begin_batch.new.self; list = c.push-2.new.self }) giver)) c.push-2.ensures.items
    (λ items. put_opens g.A.Actor.session old c.close.new.self c.push-2.new.self c.begin_batch.new.self c.args.item giver (λ fits. not_both c.has_room.result ((c.has_room.ensures (reported_of c.args.item) c.requires).1 fits) c.if-has_room.false) c.in_ok-close.ensures.closed c.in_ok-close.ensures.number c.in_ok-close.ensures.items c.begin_batch.ensures items c.push-2.ensures.closed c.push-2.ensures.number)
