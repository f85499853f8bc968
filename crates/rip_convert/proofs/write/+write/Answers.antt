use Rattle.std.proofs.Common.{◌≡◌, ◌+◌, ◌-◌, ◌<◌, ◌≤◌, ◌∷◌, ◌==◌, [], not, true, false, rules, length, drop, get_or, get_or-drop, length-append, length-drop, unwrap_or, sym, ap, ◌∙◌, arith}
use Rattle.std.proofs.lemmas.Bool.{ne_eqb}
use Rattle.std.proofs.lemmas.Option.{unwrap_or-slice_get}
use Rattle.json.specs.Print.{quoted}
use Rattle.serde_json.specs.Written.{compact_text, items_text}
use Rattle.rip_base.specs.declared.value.Value.TheVariants.{Undefined}
use Rattle.rip_values.specs.Pool.{text_at}
use Rattle.rip_data.specs.Datum.{utf8_of}
use Rattle.rip_heap.specs.Arrays.{elements_at}
use Rattle.rip_heap.specs.World.{object_at}
use Rattle.rip_convert.specs.Arguments.{properties_of}
use Rattle.rip_convert.specs.Written.{added, elements_data, field_at, pieces, value_data}
use Rattle.rip_convert.proofs.Adding.{added-added}
use Rattle.rip_convert.proofs.Writing.{element-step, elements-end, element-room, field-room, fields-room}
use Rattle.rip_convert.proofs.write.+write.Goals as goal

pub write_elements-write_value-requires : goal.write_elements-write_value-requires
write_elements-write_value-requires t c =
    let w = c.args.heap.now in
    let vs = elements_at w c.args.array in
    let v = c.unwrap_or-v.result in
    let is : v ≡ get_or vs c.loop-place.place Undefined = c.unwrap_or-v.ensures ∙ ap (λ o. unwrap_or o Undefined) c.item.ensures ∙ unwrap_or-slice_get vs c.loop-place.place Undefined in
    let room = element-room (pieces c.args.levels w) vs c.loop-place.place (omega (arith, c.loop-place-test.true, c.count-place-end.ensures)) in
    let least = ap (pieces c.args.levels w) is in
    let fields = c.loop-place.invariant.fields in (
      first_of (search rules, omega arith),
      (omega (arith, c.requires.0, room, least, ap (λ f. length f.properties) fields), omega (arith, c.requires.1, room, least, ap (λ f. length f.places) fields)),
    )

pub write_elements-loop-place-preserved : goal.write_elements-loop-place-preserved
write_elements-loop-place-preserved t c =
    let w = c.args.heap.now in
    let vs = elements_at w c.args.array in
    let tell = value_data c.args.levels w in
    let i = c.loop-place.place in
    let rest = items_text true (elements_data tell (drop (i + 1) vs)) in
    let is = c.unwrap_or-v.ensures ∙ ap (λ o. unwrap_or o Undefined) c.item.ensures ∙ unwrap_or-slice_get vs i Undefined in
    let later : not ((i + 1) == 0) ≡ true = ap not (ne_eqb (i + 1) 0 (λ e. omega (arith, e))) in record {
      text = ap (λ b. added c.write_value.new.line (items_text b (elements_data tell (drop (i + 1) vs)))) later
          ∙ ap (λ r. added r rest) (c.write_value.ensures.text ∙ ap (λ v. added c.write_comma.new.line (compact_text (tell v))) is ∙ ap (λ r. added r (compact_text (tell (get_or vs i Undefined)))) c.write_comma.ensures)
          ∙ element-step c.loop-place.line (not (i == 0)) tell vs i (omega (arith, c.loop-place-test.true, c.count-place-end.ensures))
          ∙ c.loop-place.invariant.text;
      fields = c.write_value.ensures.fields ∙ c.loop-place.invariant.fields;
    }

pub write_elements-returns-clause-text : goal.write_elements-returns-clause-text
write_elements-returns-clause-text t c =
    let w = c.args.heap.now in
    let vs = elements_at w c.args.array in
    let tell = value_data c.args.levels w in
    let i = c.loop-place.place in
    c.push-2.ensures ∙ sym (elements-end c.loop-place.line (not (i == 0)) tell vs i (omega (arith, c.loop-place-test.false, c.count-place-end.ensures)))
    ∙ c.loop-place.invariant.text ∙ ap (λ r. added r (items_text false (elements_data tell vs))) c.push.ensures
    ∙ added-added c.args.line.now (91 ∷ []) (items_text false (elements_data tell vs))

pub write_field-returns-clause-text : goal.write_field-returns-clause-text
write_field-returns-clause-text t c =
    let w = c.args.heap.now in
    let q = field_at c.args.fields.now.properties c.args.place in
    let is = c.at-field.ensures in
    let text = compact_text (value_data c.args.levels w q.value) in
    let spelling : c.get.result.now ≡ text_at w.pool q.name = c.get.ensures.text ∙ ap (λ p. text_at p c.at-field.result.name) c.pool.ensures ∙ ap (λ r. text_at w.pool r.name) is in
    c.write_value.ensures.text ∙ ap (λ r. added c.push.new.self (compact_text (value_data c.args.levels w r.value))) is
    ∙ ap (λ r. added r text) (c.push.ensures ∙ ap (λ r. added r (58 ∷ [])) (c.push_text.ensures ∙ ap (λ u. added c.args.line.now (quoted (utf8_of u))) spelling))
    ∙ added-added (added c.args.line.now (quoted (utf8_of (text_at w.pool q.name)))) (58 ∷ []) text
    ∙ added-added c.args.line.now (quoted (utf8_of (text_at w.pool q.name))) (58 ∷ text)

pub write_fields-put_fields-requires : goal.write_fields-put_fields-requires
write_fields-put_fields-requires t c =
    let own = properties_of (object_at c.args.heap.now c.args.object) in
    let room = fields-room c.args.levels c.args.heap.now own in
    (omega (arith, c.requires.0, room), omega (arith, c.requires.1, room))

pub write_fields-write_field-requires : goal.write_fields-write_field-requires
write_fields-write_field-requires t c =
    let w = c.args.heap.now in
    let own = properties_of (object_at w c.args.object) in
    let old = c.args.fields.now in
    let placed = c.put_fields.new.fields in
    let fields = c.loop-i.invariant.fields in
    let i = c.loop-i.i in
    let k = i - length old.places in
    let base : length old.places ≤ i = omega (arith, c.loop-i.invariant.from, c.count_places-base.ensures) in
    let below : i < length placed.places = omega (arith, c.loop-i-test.true, c.count_places-i-end.ensures) in
    let at : c.place.result ≡ get_or placed.places i 0 = c.place.ensures ∙ ap (λ f. get_or f.places i 0) fields in
    let there : k < length (drop (length old.places) placed.places) = omega (arith, base, below, length-drop (length old.places) placed.places) in
    let same : length old.places + k ≡ i = omega (arith, base) in
    let is : get_or (drop (length old.places) placed.places) k 0 ≡ c.place.result = get_or-drop (length old.places) placed.places k 0 ∙ ap (λ j. get_or placed.places j 0) same ∙ sym at in
    let from = c.put_fields.ensures.from k 0 there in
    let count = ap length c.put_fields.ensures.properties ∙ length-append old.properties own in
    let room = field-room c.args.levels w old.properties own c.place.result (omega (arith, is, from.0)) (omega (arith, is, from.1, ap length c.put_fields.ensures.properties)) in
    let value = ap (λ ps. pieces c.args.levels w (field_at ps c.place.result).value) (ap (λ f. f.properties) fields ∙ c.put_fields.ensures.properties) in (
      first_of (search rules, omega arith),
      (omega (arith, c.requires.0, room, value, count, ap (λ f. length f.properties) fields), omega (arith, c.requires.1, room, value, c.put_fields.ensures.count, ap (λ f. length f.places) fields)),
    )
