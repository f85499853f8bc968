use Rattle.std.proofs.Common.{◌≡◌, sym, subst}
use Rattle.rip_history.specs.Connections.{Connections as Links, without}
use Rattle.rip_server.specs.Links.{AreLinks, links_of}
use Rattle.rip_server.proofs.LinkLemmas.{links_without}
use Rattle.rip_server.proofs.turn.knock.take_knock.Goals as goal

pub returns-in-Gone-clause-links : goal.returns-in-Gone-clause-links
returns-in-Gone-clause-links g c =
    let before : Links = links_of c.args.connections.now in
    let after : Links = record before { there = without c.in-Gone.number before.there } in
    let now : links_of c.lose.new.self ≡ after =
    (λ i. let x : Links = record { opened = c.lose.ensures.opened i; there = c.lose.ensures.there before.opened c.requires.links.rising i } in x) in
    subst (AreLinks (g.D.Door.is_open c.args.door.now)) (sym now)
    (links_without (g.D.Door.is_open c.args.door.now) (g.D.Door.is_open c.args.door.now) c.in-Gone.number before (λ m other p. p) c.requires.links)
