-- The place is put where its name belongs.
use Rattle.std.proofs.Common.{◌<◌, length, get_or, sym, ap, subst, ◌∙◌, arith}
use Rattle.rip_convert.specs.Written.{order}
use Rattle.rip_convert.proofs.Placing.{IsPut, inserted, replaced, appended}
use Rattle.rip_convert.proofs.Searching.{less_left, searched}
use Rattle.rip_convert.proofs.order.put_field.Goals as goal

pub returns-then-i-count_places-clause-members : goal.returns-then-i-count_places-clause-members
returns-then-i-count_places-clause-members c =
    let pool = c.args.heap.now.pool in
    let ps = c.args.fields.now.properties in
    let xs = c.args.fields.now.places in
    let b = c.search-i.ensures in
    let i = c.search-i.result in
    let put = appended pool ps xs c.args.base c.args.place i b.from (omega (arith, c.if-i-count_places.true, c.count_places.ensures)) (searched pool ps xs c.args.base c.args.place i b.from b.within b.before) in
    rw c.insert.ensures put.members

pub returns-then-i-count_places-clause-from : goal.returns-then-i-count_places-clause-from
returns-then-i-count_places-clause-from c =
    let pool = c.args.heap.now.pool in
    let ps = c.args.fields.now.properties in
    let xs = c.args.fields.now.places in
    let b = c.search-i.ensures in
    let i = c.search-i.result in
    let put = appended pool ps xs c.args.base c.args.place i b.from (omega (arith, c.if-i-count_places.true, c.count_places.ensures)) (searched pool ps xs c.args.base c.args.place i b.from b.within b.before) in
    rw c.insert.ensures put.from

pub returns-in-Equal-clause-members : goal.returns-in-Equal-clause-members
returns-in-Equal-clause-members c =
    let pool = c.args.heap.now.pool in
    let ps = c.args.fields.now.properties in
    let xs = c.args.fields.now.places in
    let b = c.search-i.ensures in
    let i = c.search-i.result in
    let put = replaced pool ps xs c.args.base c.args.place i b.from (omega (arith, c.if-i-count_places.false, c.count_places.ensures, b.within)) (searched pool ps xs c.args.base c.args.place i b.from b.within b.before)
    (c.in-Equal.ensures ∙ ap (order pool ps c.args.place) c.place.ensures) in
    rw c.replace.ensures.places put.members

pub returns-in-Equal-clause-from : goal.returns-in-Equal-clause-from
returns-in-Equal-clause-from c =
    let pool = c.args.heap.now.pool in
    let ps = c.args.fields.now.properties in
    let xs = c.args.fields.now.places in
    let b = c.search-i.ensures in
    let i = c.search-i.result in
    let put = replaced pool ps xs c.args.base c.args.place i b.from (omega (arith, c.if-i-count_places.false, c.count_places.ensures, b.within)) (searched pool ps xs c.args.base c.args.place i b.from b.within b.before)
    (c.in-Equal.ensures ∙ ap (order pool ps c.args.place) c.place.ensures) in
    rw c.replace.ensures.places put.from

pub returns-in_default : goal.returns-in_default
returns-in_default c =
    let pool = c.args.heap.now.pool in
    let ps = c.args.fields.now.properties in
    let xs = c.args.fields.now.places in
    let b = c.search-i.ensures in
    let i = c.search-i.result in
    let below : i < length xs = omega (arith, c.if-i-count_places.false, c.count_places.ensures, b.within) in
    let is = c.compare_names.ensures ∙ ap (order pool ps c.args.place) c.place.ensures in
    let less = less_left (order pool ps c.args.place (get_or xs i 0)) (λ e. c.in_default.not-Equal (is ∙ e)) (b.after i (omega arith) below) in
    let put = inserted pool ps xs c.args.base c.args.place i b.from below (searched pool ps xs c.args.base c.args.place i b.from b.within b.before) less in
    let there : IsPut pool ps xs c.args.base c.args.place c.insert-in_default.new.self.places = subst (IsPut pool ps xs c.args.base c.args.place) (sym (ap (λ f. f.places) c.insert-in_default.ensures)) put in
    record { properties = ap (λ f. f.properties) c.insert-in_default.ensures; first = there.first; members = there.members; from = there.from; count = there.count; kept = there.kept }
