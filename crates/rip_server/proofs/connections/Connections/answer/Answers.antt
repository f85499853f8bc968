use Rattle.std.proofs.Common.{◌≡◌, ◌∙◌, ℕ, Bool, List, Some, None, ap, refl, subst, sym}
use Rattle.std.specs.Prelude.{slice_get}
use Rattle.rip_http.specs.declared.answer.HttpAnswer.{HttpAnswer}
use Rattle.rip_history.specs.Connections.{Connection as Link, owing}
use Rattle.rip_server.specs.Links.{there_of}
use Rattle.rip_server.specs.declared.connection.Connection.{Connection}
use Rattle.rip_server.proofs.LinkLemmas.{same_at, there-changed}
use Rattle.rip_server.proofs.OwedLemmas.{links_changed, get_set, answered_so, acted_owed}
use Rattle.rip_server.proofs.PlaceLemmas.{got, got_below}
use Rattle.rip_server.proofs.connections.Connections.answer.Goals as goal

pub send-requires-clause-links : goal.send-requires-clause-links
send-requires-clause-links g c =
    let items = c.args.self.now.list.items in
    let found = c.in-Some.ensures.some in
    let at = subst (λ (t : List Connection). slice_get t c.in-Some.place ≡ Some found.0) c.as_slice.ensures.value found.1 in
    let below = got_below items c.in-Some.place found.0 at in
    let here = got items c.in-Some.place c.index_mut.result.now below c.index_mut.ensures.value in
    let number = ap (λ (x : Connection). x.number) (same_at items c.in-Some.place c.index_mut.result.now found.0 here at) in
    let waits_no_more : Connection = record { number = c.index_mut.result.now.number; conn = c.index_mut.result.now.conn; waits = None } in
    let now = there-changed items c.args.self.now.opened c.in-Some.place c.index_mut.result.now waits_no_more (λ (x : Link). record x { owed = None }) c.requires.rising here refl in
    let owed = subst (λ (t : List Connection). owing c.args.session (there_of t) ≡ Some (found.0.number, c.in-Some.wait.close)) c.as_slice.ensures.value found.3 in
    let owed_here = owed ∙ ap (λ (n : ℕ). Some (n, c.in-Some.wait.close)) (sym number) in
    links_changed (g.D.Door.is_open c.args.door.now) c.args.self.now.opened c.index_mut.result.now.number (λ (x : Link). record x { owed = None }) (λ x. refl)
    (there_of items) _ now c.requires

pub returns-clause-after : goal.returns-clause-after
returns-clause-after g c =
    let items = c.args.self.now.list.items in
    let found = c.in-Some.ensures.some in
    let at = subst (λ (t : List Connection). slice_get t c.in-Some.place ≡ Some found.0) c.as_slice.ensures.value found.1 in
    let below = got_below items c.in-Some.place found.0 at in
    let here = got items c.in-Some.place c.index_mut.result.now below c.index_mut.ensures.value in
    let number = ap (λ (x : Connection). x.number) (same_at items c.in-Some.place c.index_mut.result.now found.0 here at) in
    let waits_no_more : Connection = record { number = c.index_mut.result.now.number; conn = c.index_mut.result.now.conn; waits = None } in
    let now = there-changed items c.args.self.now.opened c.in-Some.place c.index_mut.result.now waits_no_more (λ (x : Link). record x { owed = None }) c.requires.rising here refl in
    let owed = subst (λ (t : List Connection). owing c.args.session (there_of t) ≡ Some (found.0.number, c.in-Some.wait.close)) c.as_slice.ensures.value found.3 in
    let owed_here = owed ∙ ap (λ (n : ℕ). Some (n, c.in-Some.wait.close)) (sym number) in
    answered_so c.send.result _ c.index_mut.result.now.number c.in-Some.wait.close c.with_close-answer.result.close (there_of items) _ _ owed_here
    (ap (λ (a : HttpAnswer). a.close) c.with_close-answer.ensures) now
    (c.send.ensures.after waits_no_more (get_set items c.in-Some.place waits_no_more below))

pub returns-clause-acted : goal.returns-clause-acted
returns-clause-acted g c =
    let items = c.args.self.now.list.items in
    let found = c.in-Some.ensures.some in
    let at = subst (λ (t : List Connection). slice_get t c.in-Some.place ≡ Some found.0) c.as_slice.ensures.value found.1 in
    let below = got_below items c.in-Some.place found.0 at in
    let here = got items c.in-Some.place c.index_mut.result.now below c.index_mut.ensures.value in
    let number = ap (λ (x : Connection). x.number) (same_at items c.in-Some.place c.index_mut.result.now found.0 here at) in
    let waits_no_more : Connection = record { number = c.index_mut.result.now.number; conn = c.index_mut.result.now.conn; waits = None } in
    let now = there-changed items c.args.self.now.opened c.in-Some.place c.index_mut.result.now waits_no_more (λ (x : Link). record x { owed = None }) c.requires.rising here refl in
    let owed = subst (λ (t : List Connection). owing c.args.session (there_of t) ≡ Some (found.0.number, c.in-Some.wait.close)) c.as_slice.ensures.value found.3 in
    let owed_here = owed ∙ ap (λ (n : ℕ). Some (n, c.in-Some.wait.close)) (sym number) in
    acted_owed c.send.result _ c.index_mut.result.now.number c.in-Some.wait.close c.with_close-answer.result c.args.answer _ _ owed_here c.with_close-answer.ensures
    (c.send.ensures.acted waits_no_more (get_set items c.in-Some.place waits_no_more below))
