-- The number is put in its place.
use Rattle.std.proofs.Common.{vec_len, vec_capacity}
use Rattle.std.specs.List.{insert}
use Rattle.rip_table.proofs.BusyLemmas.{ok_items, added_all}
use Rattle.rip_table.proofs.roll.busy.Busy.add.Goals as goal

pub returns-clause-added : goal.returns-clause-added
returns-clause-added c =
    let list = c.args.self.now.list in
    added_all c.args.session c.args.self.now.kept c.args.self.now.next c.place_for-place.result list.items c.insert.new.self.items c.as_slice.result.now
    c.requires.rest.kept c.requires.rest.next c.as_slice.ensures.value c.place_for-place.ensures.place c.place_for-place.ensures.within
    (ok_items c.insert.result (vec_capacity list) (vec_len list) c.insert.new.self.items (insert list.items c.place_for-place.result c.args.session) list.items
    c.insert.ensures.full c.requires.room c.insert.ensures.items)
