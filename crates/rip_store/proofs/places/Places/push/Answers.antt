use Rattle.std.proofs.Common.{ap}
use Rattle.rip_data.specs.Datum.{tree_of}
use Rattle.rip_store.specs.Held.{stored_in}
use Rattle.rip_store.proofs.PlaceLemmas.{written_in, absent_in, pushed-done, pushed-not, pushed-absent}
use Rattle.rip_store.proofs.places.Places.push.Goals as goal

pub returns-in-Some-clause-done : goal.returns-in-Some-clause-done
returns-in-Some-clause-done c =
    let old = c.in-Some.measured.now in
    let new = c.push.new.self in
    let p = c.args.place.items in
    let written = written_in c.as_slice.result.now p c.args.self.now.held.entries (c.get_mut.follows.lender new).entries old new c.as_slice.ensures.value c.get_mut.ensures.ordered c.in-Some.ensures.value (c.get_mut.follows.holds new).0 in
    pushed-done c.push.result (stored_in c.args.self.now) _ p (tree_of old) (tree_of new) (tree_of c.args.item) written c.push.ensures.pushed

pub returns-in-Some-clause-no_memory : goal.returns-in-Some-clause-no_memory
returns-in-Some-clause-no_memory c =
    let old = c.in-Some.measured.now in
    let new = c.push.new.self in
    let p = c.args.place.items in
    let written = written_in c.as_slice.result.now p c.args.self.now.held.entries (c.get_mut.follows.lender new).entries old new c.as_slice.ensures.value c.get_mut.ensures.ordered c.in-Some.ensures.value (c.get_mut.follows.holds new).0 in
    pushed-not c.push.result (stored_in c.args.self.now) _ p (tree_of old) (tree_of new) written c.push.ensures.no_memory

pub returns-in_ok-list_of_one-in-None-clause-done : goal.returns-in_ok-list_of_one-in-None-clause-done
returns-in_ok-list_of_one-in-None-clause-done c =
    let p = c.args.place.items in
    let none = absent_in c.as_slice.result.now p c.args.self.now.held.entries c.as_slice.ensures.value c.in-None.ensures.value in
    pushed-absent c.keep.result (stored_in c.args.self.now) _ _ p _ (tree_of c.args.item) (ap (λ m. stored_in (record { held = m })) c.get_mut.follows.holds-at-none) none c.in_ok-list_of_one-in-None.ensures c.keep.ensures.done
