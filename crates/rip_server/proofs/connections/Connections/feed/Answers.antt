use Rattle.std.proofs.Common.{◌≡◌, ◌∙◌, ◌+◌, ◌++◌, ◌<◌, ⊎_elim, ℕ, Bool, true, false, List, length, Some, ap, refl, subst, sym}
use Rattle.std.specs.Prelude.{slice_get, option_map, Err}
use Rattle.std.proofs.lemmas.Bool.{cases_lt, le-ltb, lt-ltb}
use Rattle.rip_history.specs.Connections.{Connection as Link, Connections as Links, is_there, unread_of, without, changed}
use Rattle.rip_server.specs.Links.{owed_of, there_of, links_of}
use Rattle.rip_server.specs.declared.connection.Connection.{Connection}
use Rattle.rip_server.proofs.ActLemmas.{stopped_none, did_nothing, did_as}
use Rattle.rip_server.proofs.LinkLemmas.{open_at_place, same_at, there-changed, there-without, links_forgot, remove_set}
use Rattle.rip_server.proofs.OwedLemmas.{links_changed}
use Rattle.rip_server.proofs.PieceLemmas.{is_here, has_unread, overflow_is, fed_after, fed_acts, full_after, full_acts}
use Rattle.rip_server.proofs.PlaceLemmas.{got, got_below}
use Rattle.rip_server.proofs.SendLemmas.{shut_done}
use Rattle.rip_server.proofs.connections.Connections.feed.Goals as goal

pub shut-requires : goal.shut-requires
shut-requires g c =
    let items = c.args.self.now.list.items in
    let found = c.in-Some.ensures.some in
    let at = subst (λ (t : List Connection). slice_get t c.in-Some.place ≡ Some found.0) c.as_slice.ensures.value found.1 in
    subst (g.D.Door.is_open c.args.door.now) found.2 (open_at_place (g.D.Door.is_open c.args.door.now) items c.in-Some.place found.0 c.requires.each at)

pub forget-requires : goal.forget-requires
forget-requires g c =
    let items = c.args.self.now.list.items in
    let found = c.in-Some.ensures.some in
    let at = subst (λ (t : List Connection). slice_get t c.in-Some.place ≡ Some found.0) c.as_slice.ensures.value found.1 in
    let below = got_below items c.in-Some.place found.0 at in
    subst (λ (n : ℕ). c.in-Some.place < n) (sym c.args.self.now.list.ok.0) below

pub returns-in-Ok-clause-links : goal.returns-in-Ok-clause-links
returns-in-Ok-clause-links g c =
    let items = c.args.self.now.list.items in
    let found = c.in-Some.ensures.some in
    let at = subst (λ (t : List Connection). slice_get t c.in-Some.place ≡ Some found.0) c.as_slice.ensures.value found.1 in
    let below = got_below items c.in-Some.place found.0 at in
    let here = got items c.in-Some.place c.index_mut.result.now below c.index_mut.ensures.value in
    let number = ap (λ (x : Connection). x.number) (same_at items c.in-Some.place c.index_mut.result.now found.0 here at) ∙ found.2 in
    let grown : Connection = record { number = c.index_mut.result.now.number; conn = c.feed.new.self; waits = c.index_mut.result.now.waits } in
    let now = there-changed items c.args.self.now.opened c.in-Some.place c.index_mut.result.now grown (λ (x : Link). record x { unread = x.unread ++ c.args.piece.now }) c.requires.rising here
    (ap (λ (t : List ℕ). record { number = c.index_mut.result.now.number; unread = t; owed = option_map owed_of c.index_mut.result.now.waits }) c.in-Ok.ensures.ok) in
    links_changed (g.D.Door.is_open c.args.door.now) c.args.self.now.opened c.index_mut.result.now.number (λ (x : Link). record x { unread = x.unread ++ c.args.piece.now }) (λ x. refl)
    (there_of items) _ now c.requires

pub returns-in-Ok-clause-after : goal.returns-in-Ok-clause-after
returns-in-Ok-clause-after g c =
    let items = c.args.self.now.list.items in
    let found = c.in-Some.ensures.some in
    let at = subst (λ (t : List Connection). slice_get t c.in-Some.place ≡ Some found.0) c.as_slice.ensures.value found.1 in
    let below = got_below items c.in-Some.place found.0 at in
    let here = got items c.in-Some.place c.index_mut.result.now below c.index_mut.ensures.value in
    let number = ap (λ (x : Connection). x.number) (same_at items c.in-Some.place c.index_mut.result.now found.0 here at) ∙ found.2 in
    let grown : Connection = record { number = c.index_mut.result.now.number; conn = c.feed.new.self; waits = c.index_mut.result.now.waits } in
    let now = there-changed items c.args.self.now.opened c.in-Some.place c.index_mut.result.now grown (λ (x : Link). record x { unread = x.unread ++ c.args.piece.now }) c.requires.rising here
    (ap (λ (t : List ℕ). record { number = c.index_mut.result.now.number; unread = t; owed = option_map owed_of c.index_mut.result.now.waits }) c.in-Ok.ensures.ok) in
    let there = subst (λ (n : ℕ). is_there n (there_of items) ≡ true) number (is_here items c.in-Some.place c.index_mut.result.now here) in
    let unread = subst (λ (n : ℕ). unread_of n (there_of items) ≡ c.index_mut.result.now.conn) number (has_unread items c.args.self.now.opened c.in-Some.place c.index_mut.result.now c.requires.rising here) in
    let fits = overflow_is c.args.number c.args.self.now.opened c.args.piece.now c.index_mut.result.now.conn (there_of items) false unread
    (⊎_elim (λ less. let wrong = c.in-Ok.ensures.overflow.1 less in cc) (λ le. le-ltb 77824 (length c.index_mut.result.now.conn + length c.args.piece.now) le)
    (cases_lt 77824 (length c.index_mut.result.now.conn + length c.args.piece.now))) in
    fed_after c.args.number c.args.self.now.opened c.args.piece.now (there_of items) _ there fits
    (now ∙ ap (λ (n : ℕ). changed n (λ (x : Link). record x { unread = x.unread ++ c.args.piece.now }) (there_of items)) number)

pub returns-in-Ok-clause-acted : goal.returns-in-Ok-clause-acted
returns-in-Ok-clause-acted g c =
    let items = c.args.self.now.list.items in
    let found = c.in-Some.ensures.some in
    let at = subst (λ (t : List Connection). slice_get t c.in-Some.place ≡ Some found.0) c.as_slice.ensures.value found.1 in
    let below = got_below items c.in-Some.place found.0 at in
    let here = got items c.in-Some.place c.index_mut.result.now below c.index_mut.ensures.value in
    let number = ap (λ (x : Connection). x.number) (same_at items c.in-Some.place c.index_mut.result.now found.0 here at) ∙ found.2 in
    let grown : Connection = record { number = c.index_mut.result.now.number; conn = c.feed.new.self; waits = c.index_mut.result.now.waits } in
    let now = there-changed items c.args.self.now.opened c.in-Some.place c.index_mut.result.now grown (λ (x : Link). record x { unread = x.unread ++ c.args.piece.now }) c.requires.rising here
    (ap (λ (t : List ℕ). record { number = c.index_mut.result.now.number; unread = t; owed = option_map owed_of c.index_mut.result.now.waits }) c.in-Ok.ensures.ok) in
    let there = subst (λ (n : ℕ). is_there n (there_of items) ≡ true) number (is_here items c.in-Some.place c.index_mut.result.now here) in
    let unread = subst (λ (n : ℕ). unread_of n (there_of items) ≡ c.index_mut.result.now.conn) number (has_unread items c.args.self.now.opened c.in-Some.place c.index_mut.result.now c.requires.rising here) in
    let fits = overflow_is c.args.number c.args.self.now.opened c.args.piece.now c.index_mut.result.now.conn (there_of items) false unread
    (⊎_elim (λ less. let wrong = c.in-Ok.ensures.overflow.1 less in cc) (λ le. le-ltb 77824 (length c.index_mut.result.now.conn + length c.args.piece.now) le)
    (cases_lt 77824 (length c.index_mut.result.now.conn + length c.args.piece.now))) in
    did_nothing _ _ (fed_acts c.args.number c.args.piece.now (links_of c.args.self.now) fits)

pub returns-in-Err-Memory-clause-acted : goal.returns-in-Err-Memory-clause-acted
returns-in-Err-Memory-clause-acted g c = stopped_none _ _

pub returns-in-Err-Overflow-clause-links : goal.returns-in-Err-Overflow-clause-links
returns-in-Err-Overflow-clause-links g c =
    let items = c.args.self.now.list.items in
    let found = c.in-Some.ensures.some in
    let at = subst (λ (t : List Connection). slice_get t c.in-Some.place ≡ Some found.0) c.as_slice.ensures.value found.1 in
    let below = got_below items c.in-Some.place found.0 at in
    let here = got items c.in-Some.place c.index_mut.result.now below c.index_mut.ensures.value in
    let number = ap (λ (x : Connection). x.number) (same_at items c.in-Some.place c.index_mut.result.now found.0 here at) ∙ found.2 in
    let list = c.forget.ensures.list ∙ remove_set items c.in-Some.place _ in
    let there = subst (λ (n : ℕ). is_there n (there_of items) ≡ true) number (is_here items c.in-Some.place c.index_mut.result.now here) in
    let unread = subst (λ (n : ℕ). unread_of n (there_of items) ≡ c.index_mut.result.now.conn) number (has_unread items c.args.self.now.opened c.in-Some.place c.index_mut.result.now c.requires.rising here) in
    let over = overflow_is c.args.number c.args.self.now.opened c.args.piece.now c.index_mut.result.now.conn (there_of items) true unread
    (lt-ltb 77824 (length c.index_mut.result.now.conn + length c.args.piece.now) (c.in-Err-Overflow.ensures.overflow.0 (ap Err c.in-Err-Overflow.field-0-is))) in
    links_forgot (g.D.Door.is_open c.args.door.now) (g.D.Door.is_open c.shut.new.self) c.args.self.now.opened c.forget.new.self.opened items c.forget.new.self.list.items
    c.in-Some.place found.0 c.requires at (λ m other p. c.shut.ensures.stays m (λ e. other (e ∙ sym found.2)) p) list c.forget.ensures.opened

pub returns-in-Err-Overflow-clause-after : goal.returns-in-Err-Overflow-clause-after
returns-in-Err-Overflow-clause-after g c =
    let items = c.args.self.now.list.items in
    let found = c.in-Some.ensures.some in
    let at = subst (λ (t : List Connection). slice_get t c.in-Some.place ≡ Some found.0) c.as_slice.ensures.value found.1 in
    let below = got_below items c.in-Some.place found.0 at in
    let here = got items c.in-Some.place c.index_mut.result.now below c.index_mut.ensures.value in
    let number = ap (λ (x : Connection). x.number) (same_at items c.in-Some.place c.index_mut.result.now found.0 here at) ∙ found.2 in
    let list = c.forget.ensures.list ∙ remove_set items c.in-Some.place _ in
    let there = subst (λ (n : ℕ). is_there n (there_of items) ≡ true) number (is_here items c.in-Some.place c.index_mut.result.now here) in
    let unread = subst (λ (n : ℕ). unread_of n (there_of items) ≡ c.index_mut.result.now.conn) number (has_unread items c.args.self.now.opened c.in-Some.place c.index_mut.result.now c.requires.rising here) in
    let over = overflow_is c.args.number c.args.self.now.opened c.args.piece.now c.index_mut.result.now.conn (there_of items) true unread
    (lt-ltb 77824 (length c.index_mut.result.now.conn + length c.args.piece.now) (c.in-Err-Overflow.ensures.overflow.0 (ap Err c.in-Err-Overflow.field-0-is))) in
    ap (λ (n : ℕ). let k : Links = record { opened = n; there = there_of c.forget.new.self.list.items } in k) c.forget.ensures.opened
    ∙ full_after c.args.number c.args.self.now.opened c.args.piece.now (there_of items) (there_of c.forget.new.self.list.items) there over
    (ap there_of list ∙ there-without items c.args.self.now.opened c.in-Some.place found.0 c.requires.rising at ∙ ap (λ (n : ℕ). without n (there_of items)) found.2)

pub returns-in-Err-Overflow-clause-acted : goal.returns-in-Err-Overflow-clause-acted
returns-in-Err-Overflow-clause-acted g c =
    let items = c.args.self.now.list.items in
    let found = c.in-Some.ensures.some in
    let at = subst (λ (t : List Connection). slice_get t c.in-Some.place ≡ Some found.0) c.as_slice.ensures.value found.1 in
    let below = got_below items c.in-Some.place found.0 at in
    let here = got items c.in-Some.place c.index_mut.result.now below c.index_mut.ensures.value in
    let number = ap (λ (x : Connection). x.number) (same_at items c.in-Some.place c.index_mut.result.now found.0 here at) ∙ found.2 in
    let list = c.forget.ensures.list ∙ remove_set items c.in-Some.place _ in
    let there = subst (λ (n : ℕ). is_there n (there_of items) ≡ true) number (is_here items c.in-Some.place c.index_mut.result.now here) in
    let unread = subst (λ (n : ℕ). unread_of n (there_of items) ≡ c.index_mut.result.now.conn) number (has_unread items c.args.self.now.opened c.in-Some.place c.index_mut.result.now c.requires.rising here) in
    let over = overflow_is c.args.number c.args.self.now.opened c.args.piece.now c.index_mut.result.now.conn (there_of items) true unread
    (lt-ltb 77824 (length c.index_mut.result.now.conn + length c.args.piece.now) (c.in-Err-Overflow.ensures.overflow.0 (ap Err c.in-Err-Overflow.field-0-is))) in
    did_as _ _ _ _ (full_acts c.args.number c.args.piece.now (links_of c.args.self.now) there over)
    (shut_done _ _ c.args.number c.shut.ensures.sent c.shut.ensures.told c.shut.ensures.left c.shut.ensures.shuts c.shut.ensures.asked refl)
