use Rattle.std.proofs.Common.{◌≡◌, ◌<◌, length, sym, ap, subst, ◌∙◌, arith}
use Rattle.rip_convert.proofs.Placing.{IsPut, filled-more}
use Rattle.rip_convert.proofs.order.put_fields.Goals as goal

pub loop-place-preserved : goal.loop-place-preserved
loop-place-preserved c =
    let pool = c.args.heap.now.pool in
    let pushed = c.push_properties.new.fields in
    let places = c.loop-place.fields.places in
    let new = c.put_field.new.fields.places in
    let place = c.loop-place.place in
    let same = c.loop-place.invariant.properties in
    let base : c.count_places-base.result ≡ length pushed.places = c.count_places-base.ensures ∙ ap (λ f. length f.places) (sym c.push_properties.ensures) in
    let given : IsPut pool c.loop-place.fields.properties places c.count_places-base.result place new = record {
      first = c.put_field.ensures.first;
      members = c.put_field.ensures.members;
      from = c.put_field.ensures.from;
      count = c.put_field.ensures.count;
      kept = c.put_field.ensures.kept;
    } in
    let put : IsPut pool pushed.properties places (length pushed.places) place new =
    subst (λ b. IsPut pool pushed.properties places b place new) base (subst (λ ps. IsPut pool ps places c.count_places-base.result place new) same given) in
    let there : place < length pushed.properties = omega (arith, c.loop-place-test.true, c.count-place-end.ensures) in
    record {
      properties = c.put_field.ensures.properties ∙ same;
      filled = filled-more pool pushed.properties c.count-first.result pushed.places places new place c.loop-place.auto.place there c.loop-place.invariant.filled put;
    }
