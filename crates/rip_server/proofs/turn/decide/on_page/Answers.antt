use Rattle.std.proofs.Common.{◌≡◌, sym, subst}
use Rattle.std.specs.Prelude.{codes}
use Rattle.rip_history.specs.Requests.{Drawn, error_body}
use Rattle.rip_table.specs.Rolls.{IsRollOf, room_in}
use Rattle.rip_table.specs.declared.roll.roll.Room.TheVariants.{Free, Full, Spent}
use Rattle.rip_server.specs.Deciding.{drawn_as}
use Rattle.rip_server.specs.Turning.{source}
use Rattle.rip_server.proofs.DecideLemmas.{PageAt, page_at, page_drawn, page_refused}
use Rattle.rip_server.proofs.turn.decide.on_page.Goals as goal

pub returns-in-Full-clause-comes : goal.returns-in-Full-clause-comes
returns-in-Full-clause-comes g c = λ limit h stages roll.
    let s = g.S.Sessions in
    let full : room_in limit h ≡ Full = sym (c.in-Full.ensures limit h roll.kept) in
    let at : (drawn : Drawn) → PageAt limit h drawn Full = λ drawn. subst (PageAt limit h drawn) full (page_at limit h drawn) in
    page_refused limit c.args.at.turn c.args.at.time c.args.close h stages
    (IsRollOf (s.stands c.args.sessions.now) (s.meaning c.args.sessions.now) limit c.args.roll.now) (error_body (codes "full")) c.refused.result
    (source (g.W.Words.told c.args.words.now) (g.W.Words.coming c.args.words.now))
    (let x = at (record { id = 0; seed = 0 }) in x.0) (λ drawn. (let x = at drawn in x.1)) (c.refused.ensures c.args.at.turn c.args.at.time) roll

pub returns-in-Spent-clause-comes : goal.returns-in-Spent-clause-comes
returns-in-Spent-clause-comes g c = λ limit h stages roll.
    let s = g.S.Sessions in
    let spent : room_in limit h ≡ Spent = sym (c.in-Spent.ensures limit h roll.kept) in
    let at : (drawn : Drawn) → PageAt limit h drawn Spent = λ drawn. subst (PageAt limit h drawn) spent (page_at limit h drawn) in
    page_refused limit c.args.at.turn c.args.at.time c.args.close h stages
    (IsRollOf (s.stands c.args.sessions.now) (s.meaning c.args.sessions.now) limit c.args.roll.now) (error_body (codes "spent")) c.refused-in-Spent.result
    (source (g.W.Words.told c.args.words.now) (g.W.Words.coming c.args.words.now))
    (let x = at (record { id = 0; seed = 0 }) in x.0) (λ drawn. (let x = at drawn in x.1)) (c.refused-in-Spent.ensures c.args.at.turn c.args.at.time) roll

pub returns-in-Free-clause-comes : goal.returns-in-Free-clause-comes
returns-in-Free-clause-comes g c = λ limit h stages roll.
    let s = g.S.Sessions in
    let w = g.W.Words in
    let free : room_in limit h ≡ Free = sym (c.in-Free.ensures limit h roll.kept) in
    let drawn : Drawn = drawn_as c.draw-drawn.result in
    let d = c.draw-drawn.ensures in
    page_drawn limit c.args.at.turn c.args.at.time c.args.close h stages
    (IsRollOf (s.stands c.args.sessions.now) (s.meaning c.args.sessions.now) limit c.on_drawn.new.roll) c.on_drawn.result d.0 d.1 d.2 drawn
    (source (w.told c.args.words.now) (w.coming c.args.words.now)) (source (w.told c.draw-drawn.new.words) (w.coming c.draw-drawn.new.words))
    d.3 d.4 (subst (PageAt limit h drawn) free (page_at limit h drawn)) (c.on_drawn.ensures.comes limit h stages roll)
