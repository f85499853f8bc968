use Rattle.std.proofs.Common.{◌≡◌, ◌++◌, ◌-◌, ◌∙◌, [], ap, map, refl, sym, arith, rules}
use Rattle.std.specs.Prelude.{codes}
use Rattle.std.specs.List.{join_with_byte}
use Rattle.rip_heap.specs.Arrays.{elements_at}
use Rattle.rip_heap.specs.Objects.{own_properties}
use Rattle.rip_heap.specs.World.{object_at}
use Rattle.rip_values.specs.Pool.{text_at}
use Rattle.rip_script.specs.Steps.{parts_left}
use Rattle.rip_script.specs.Values.{contents_text, is_around, properties_of, property_text, value_text}
use Rattle.rip_script.proofs.Printing.{all_left, all_shown, listed, no_item, none_left, one_less, one_more, own_listed, property_parts, shows_builtin, shows_contents, shows_cycle, shows_deep, shows_function, written_as}
use Rattle.rip_script.proofs.print.Printer.+print.Goals as goal

pub object-returns-in-Some-clause-written : goal.object-returns-in-Some-clause-written
object-returns-in-Some-clause-written t c =
    written_as c.write_builtin.result _ _ _ _ (shows_builtin c.args.heap.now c.args.program.now c.args.levels c.args.self.now.around.items c.args.number c.in-Some.builtin c.in-Some.ensures) c.write_builtin.ensures

pub object-returns-then-is_function-clause-written : goal.object-returns-then-is_function-clause-written
object-returns-then-is_function-clause-written t c =
    written_as c.write_function.result _ _ _ _ (shows_function c.args.heap.now c.args.program.now c.args.levels c.args.self.now.around.items c.args.number c.class-class.result c.function.result c.in_default.ensures c.class-class.ensures (sym c.if-is_function.true ∙ c.is_function.ensures) c.function.ensures) c.write_function.ensures

pub object-returns-then-is_around-clause-written : goal.object-returns-then-is_around-clause-written
object-returns-then-is_around-clause-written t c =
    written_as c.text.result _ _ _ _
    (shows_cycle c.args.heap.now c.args.program.now c.args.levels c.args.self.now.around.items c.args.number c.class-class.result c.in_default.ensures c.class-class.ensures (sym c.if-is_function.false ∙ c.is_function.ensures)
    (sym c.if-is_around.true ∙ c.is_around.ensures ∙ ap (λ around. is_around around c.args.number) c.as_slice.ensures.value))
    c.text.ensures.ok

pub object-returns-then-levels-eq0-clause-written : goal.object-returns-then-levels-eq0-clause-written
object-returns-then-levels-eq0-clause-written t c =
    written_as c.text-then-levels-eq0.result _ _ _ _
    (shows_deep c.args.heap.now c.args.program.now c.args.levels c.args.self.now.around.items c.args.number c.class-class.result c.in_default.ensures c.class-class.ensures (sym c.if-is_function.false ∙ c.is_function.ensures)
    (sym c.if-is_around.false ∙ c.is_around.ensures ∙ ap (λ around. is_around around c.args.number) c.as_slice.ensures.value) c.if-levels-eq0.true)
    c.text-then-levels-eq0.ensures.ok

pub object-returns-clause-written : goal.object-returns-clause-written
object-returns-clause-written t c =
    let w = c.args.heap.now in
    let program = c.args.program.now in
    c.in_ok-contents.ensures.written
    ∙ ap (λ around. c.args.self.now.out ++ contents_text w (λ v. value_text w program (c.args.levels - 1) around v) c.args.number c.class-class.result) c.in_ok-push.ensures.items
    ∙ ap (λ text. c.args.self.now.out ++ text)
    (sym (shows_contents w program c.args.levels (c.args.levels - 1) c.args.self.now.around.items c.args.number c.class-class.result c.in_default.ensures c.class-class.ensures (sym c.if-is_function.false ∙ c.is_function.ensures)
    (sym c.if-is_around.false ∙ c.is_around.ensures ∙ ap (λ around. is_around around c.args.number) c.as_slice.ensures.value) (omega arith)))

pub elements-returns-in_default-clause-written : goal.elements-returns-in_default-clause-written
elements-returns-in_default-clause-written t c =
    let w = c.args.heap.now in
    let items = elements_at w c.args.number in
    listed c.text-in_default.result (codes "[") (codes "]") c.args.self.now.out c.text.new.self c.loop-place.self.out c.text-in_default.new.self _ _
    c.in_ok-text.ensures.ok c.loop-place.invariant.out
    (all_shown (λ v. value_text w c.args.program.now c.args.levels c.args.self.now.around.items v) items c.loop-place.place (no_item items c.loop-place.place (sym c.in_default.ensures)))
    c.text-in_default.ensures.ok

pub elements-loop-place-preserved : goal.elements-loop-place-preserved
elements-loop-place-preserved t c =
    let w = c.args.heap.now in
    let program = c.args.program.now in
    record {
      out = one_more (λ v. value_text w program c.args.levels c.args.self.now.around.items v) (elements_at w c.args.number) c.loop-place.place c.in-Some.item c.text.new.self c.loop-place.self.out c.write_comma.new.out c.value.new.self.out
          (sym c.in-Some.ensures) c.loop-place.invariant.out c.in_ok-write_comma.ensures
          (c.in_ok-value.ensures.written ∙ ap (λ around. c.write_comma.new.out ++ value_text w program c.args.levels around c.in-Some.item) c.loop-place.invariant.around);
      around = c.in_ok-value.ensures.around ∙ c.loop-place.invariant.around;
    }

pub properties-loop-own-init : goal.properties-loop-own-init
properties-loop-own-init t c =
    let w = c.args.heap.now in
    let show = property_text w.pool (λ v. value_text w c.args.program.now c.args.levels c.args.self.now.around.items v) in
    let begun : c.into_iter-own-iterator.result ≡ own_properties w c.args.number = search rules in
    record {
      can = tt;
      finite = tt;
      out = ap (λ text. c.text.new.self ++ text) (ap (λ owns. parts_left [] (map show owns)) (begun ∙ own_listed (object_at w c.args.number)) ∙ all_left (map show (properties_of (object_at w c.args.number))));
      around = refl;
    }

pub properties-loop-own-preserved : goal.properties-loop-own-preserved
properties-loop-own-preserved t c =
    let w = c.args.heap.now in
    let around = c.args.self.now.around.items in
    let own = c.in-Some.own in
    let show = property_text w.pool (λ v. value_text w c.args.program.now c.args.levels around v) in
    let valued = c.in_ok-value.ensures.written ∙ ap (λ objects. c.write_key.new.out ++ value_text w c.args.program.now c.args.levels objects own.value) c.loop-own.invariant.around in
    let named = c.get.ensures.text ∙ ap (λ pool. text_at pool own.name) c.pool.ensures in
    record {
      can = tt;
      finite = tt;
      out = one_less show c.loop-own.own-iterator c.next.new.self own
          (c.text.new.self ++ join_with_byte 44 (map show (properties_of (object_at w c.args.number))))
          c.loop-own.before.now c.loop-own.self.out c.value.new.self.out c.in-Some.ensures.steps c.loop-own.invariant.out
          (property_parts w.pool (λ v. value_text w c.args.program.now c.args.levels around v) own.name own.value (c.loop-own.self.out ++ c.loop-own.before.now) c.write_key.new.out c.value.new.self.out c.get.result.now
          c.in_ok-write_key.ensures named valued);
      around = c.in_ok-value.ensures.around ∙ c.loop-own.invariant.around;
    }

pub properties-returns-clause-written : goal.properties-returns-clause-written
properties-returns-clause-written t c =
    let w = c.args.heap.now in
    let show = property_text w.pool (λ v. value_text w c.args.program.now c.args.levels c.args.self.now.around.items v) in
    let all = join_with_byte 44 (map show (properties_of (object_at w c.args.number))) in
    let none : c.loop-own.own-iterator ≡ [] = search rules in
    listed c.text-2.result (codes "{") (codes "}") c.args.self.now.out c.text.new.self c.loop-own.self.out c.text-2.new.self all all
    c.in_ok-text.ensures.ok (none_left show c.loop-own.own-iterator (c.text.new.self ++ all) c.loop-own.before.now c.loop-own.self.out none c.loop-own.invariant.out) refl
    c.text-2.ensures.ok
