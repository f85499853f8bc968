use Rattle.rip_table.specs.Rolls.{IsRollOf}
use Rattle.rip_server.specs.Turning.{source}
use Rattle.rip_server.proofs.DecideLemmas.{message_page, message_still}
use Rattle.rip_server.proofs.turn.decide.decide.Goals as goal

pub returns-in-Page-clause-comes : goal.returns-in-Page-clause-comes
returns-in-Page-clause-comes g c = λ limit h stages roll.
    let s = g.S.Sessions in
    let w = g.W.Words in
    message_page limit c.args.at.turn c.args.at.time c.args.message.now h stages
    (IsRollOf (s.stands c.args.sessions.now) (s.meaning c.args.sessions.now) limit c.on_page.new.roll) c.on_page.result
    (source (w.told c.args.words.now) (w.coming c.args.words.now)) (source (w.told c.on_page.new.words) (w.coming c.on_page.new.words))
    c.in-Page.is (c.on_page.ensures.comes limit h stages roll)

pub returns-in-Events-clause-comes : goal.returns-in-Events-clause-comes
returns-in-Events-clause-comes g c = λ limit h stages roll.
    let s = g.S.Sessions in
    let w = g.W.Words in
    message_still limit c.args.at.turn c.args.at.time c.args.message.now h stages
    (IsRollOf (s.stands c.args.sessions.now) (s.meaning c.args.sessions.now) limit c.on_batch.new.roll) c.on_batch.result
    (source (w.told c.args.words.now) (w.coming c.args.words.now)) (c.on_batch.ensures.comes limit h stages roll)

pub returns-in-Quit-clause-comes : goal.returns-in-Quit-clause-comes
returns-in-Quit-clause-comes g c = λ limit h stages roll.
    let s = g.S.Sessions in
    let w = g.W.Words in
    message_still limit c.args.at.turn c.args.at.time c.args.message.now h stages
    (IsRollOf (s.stands c.args.sessions.now) (s.meaning c.args.sessions.now) limit c.on_quit.new.roll) c.on_quit.result
    (source (w.told c.args.words.now) (w.coming c.args.words.now)) (c.on_quit.ensures.comes c.args.sessions.now limit h stages roll)
