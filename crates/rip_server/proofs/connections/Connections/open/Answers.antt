use Rattle.std.proofs.Common.{◌∙◌, arith, refl, subst, sym}
use Rattle.rip_server.specs.Links.{there_of}
use Rattle.rip_server.proofs.ActLemmas.{stopped_none, acted_err, did_nothing}
use Rattle.rip_server.proofs.LinkLemmas.{links_full, links_added, opened_added, length-there}
use Rattle.rip_server.proofs.connections.Connections.open.Goals as goal

pub returns-in_err-connection-clause-acted : goal.returns-in_err-connection-clause-acted
returns-in_err-connection-clause-acted g c = acted_err c.from_residual.result _ _ _ c.from_residual.ensures.0 (stopped_none _ _)

pub returns-in_err-add-clause-acted : goal.returns-in_err-add-clause-acted
returns-in_err-add-clause-acted g c = acted_err c.from_residual-in_err-add.result _ _ _ c.from_residual-in_err-add.ensures.0 (stopped_none _ _)

pub returns-then-len-ge-MOST_CONNECTIONS-clause-links : goal.returns-then-len-ge-MOST_CONNECTIONS-clause-links
returns-then-len-ge-MOST_CONNECTIONS-clause-links g c =
    links_full (g.D.Door.is_open c.args.door.now) (g.D.Door.is_open c.shut.new.self) c.args.self.now.opened (there_of c.args.self.now.list.items)
    (λ m other p. c.shut.ensures.stays m (λ e. other (e ∙ c.if-number-self.false)) p) c.requires.links

pub returns-clause-links : goal.returns-clause-links
returns-clause-links g c =
    links_added (g.D.Door.is_open c.args.door.now) c.args.self.now.opened c.add.new.self.opened c.args.number c.args.self.now.list.items c.add.new.self.list.items
    c.in_ok-connection.connection c.requires.links c.if-number-self.false c.in_ok-connection.ensures c.requires.open_at
    (omega (arith, c.if-len-ge-MOST_CONNECTIONS.false, c.len.ensures, c.args.self.now.list.ok.0)) c.in_ok-add.ensures.list c.in_ok-add.ensures.opened

pub returns-clause-acted : goal.returns-clause-acted
returns-clause-acted g c =
    did_nothing _ _ (opened_added c.args.number c.args.self.now.opened (there_of c.args.self.now.list.items)
    (omega (arith, c.if-len-ge-MOST_CONNECTIONS.false, c.len.ensures, c.args.self.now.list.ok.0, length-there c.args.self.now.list.items)))
