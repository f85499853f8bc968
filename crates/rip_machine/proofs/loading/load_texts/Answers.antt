use Rattle.std.proofs.Common.{rules, ◌≡◌, ℕ, ◌+◌, ◌<◌, ◌≤◌, List, [], ◌∷◌, ◌++◌, Option, length, map, get_or, refl, ap, subst, sym, ◌∙◌, arith}
use Rattle.std.specs.List.{range_with_len}
use Rattle.std.proofs.lemmas.List.FromFn.{get_or-map-range_with_len, map-range_with_len_more}
use Rattle.rip_base.specs.declared.value.Span.{Span}
use Rattle.rip_values.specs.Pool.{KeepsTexts}
use Rattle.rip_heap.specs.Growth.{Grows}
use Rattle.rip_heap.specs.World.{World}
use Rattle.rip_tree.specs.Branches.{node_of}
use Rattle.rip_tree.specs.Firsts.{first_named}
use Rattle.rip_machine.specs.Back.{CutsTo}
use Rattle.rip_machine.specs.Loading.{StandsIfAny, form_text, span_of}
use Rattle.rip_eval_language.specs.Reading.{form_in}
use Rattle.rip_machine.proofs.TakenBack.{form_cuts}
use Rattle.rip_machine.proofs.Loads.{all_stand, copied_span, copied_stand, copied_world, loaded_before, name_before, one_fits, own_spans, own_world, spans_long, stand_more}
use Rattle.rip_machine.proofs.loading.load_texts.Goals as goal
use Rattle.rip_machine.proofs.loading.load_texts.Goals.{then-first-id, else-first-id+in_ok-span}

pub index-requires : goal.index-requires
index-requires c = omega (arith, spans_long (span_of c.args.program.now c.args.heap.now) c.loop-id.spans.items c.loop-id.id c.loop-id.invariant.spans)

pub add_form-requires : goal.add_form-requires
add_form-requires c =
    one_fits c.args.program.now c.args.heap.now c.loop-id.heap c.loop-id.id c.node.result.now c.node.ensures c.requires c.loop-id.invariant.loaded

pub returns-in_err-push-clause-back : goal.returns-in_err-push-clause-back
returns-in_err-push-clause-back c = λ v b. elim c.if-first-id.branch [
  | then-first-id w ↦ subst (CutsTo v) (sym w.heap-is) (c.loop-id.invariant.back v b)
  | else-first-id+in_ok-span w ↦ form_cuts c.args.program.now.grove.units w.node.result.now.form v c.loop-id.heap c.if-first-id.heap (w.heap-is ∙ w.in_ok-span.ensures.added) (c.loop-id.invariant.back v b)
]

pub loop-id-preserved : goal.loop-id-preserved
loop-id-preserved c =
    let code = c.args.program.now in
    let g = code.grove in
    let world = c.args.heap.now in
    let old = c.loop-id.heap in
    let new = c.if-first-id.heap in
    let id = c.loop-id.id in
    let first = c.first_named-first.result in
    let law = c.firsts_have_the_names.ensures id in
    let T : ℕ → Option (List ℕ) = λ k. form_text g.units (form_in (node_of g.branches k)) in
    let long : length c.loop-id.spans.items ≡ id = spans_long (span_of code world) c.loop-id.spans.items id c.loop-id.invariant.spans in
    let step : (c.if-first-id.span ≡ span_of code world id) × (new ≡ loaded_before code (id + 1) world) × StandsIfAny new.pool (T id) c.if-first-id.span
    × ((v : World) → CutsTo v world → CutsTo v new) × (new.cells ≡ world.cells) × Grows world new × KeepsTexts old.pool new.pool × (length old.pool.units ≤ length new.pool.units) =
    elim c.if-first-id.branch [
      | then-first-id w ↦
          let less : first_named g id < id = subst (λ n. n < id) c.first_named-first.ensures.first w.if-first-id.true in
          let named = name_before g id less in
          let is : first_named g first ≡ first_named g id = ap (first_named g) c.first_named-first.ensures.first ∙ law.2 in
          let read : w.index.result.now ≡ span_of code world first =
          w.index.ensures ∙ ap (λ (ss : List Span). get_or ss first w.index.result.now) c.loop-id.invariant.spans ∙ get_or-map-range_with_len (span_of code world) 0 id first first w.index.result.now w.if-first-id.true (omega arith) in
          let stands : StandsIfAny old.pool (T first) w.index.result.now =
          subst (λ s. StandsIfAny old.pool (T first) s) (sym w.index.ensures) (c.loop-id.invariant.stand first w.index.result.now w.if-first-id.true) in (
            w.span-is ∙ read ∙ copied_span code world id first named.0 named.1 c.first_named-first.ensures.same is,
            copied_world code world new id named.0 named.1 less (w.heap-is ∙ c.loop-id.invariant.loaded),
            subst (λ (x : World). StandsIfAny x.pool (T id) c.if-first-id.span) (sym w.heap-is)
                (subst (λ s. StandsIfAny old.pool (T id) s) (sym w.span-is) (copied_stand code old.pool id first named.0 w.index.result.now named.1 c.first_named-first.ensures.same stands)),
            λ v b. subst (CutsTo v) (sym w.heap-is) (c.loop-id.invariant.back v b),
            ap (λ (x : World). x.cells) w.heap-is ∙ c.loop-id.invariant.cells,
            subst (Grows world) (sym w.heap-is) c.loop-id.invariant.grows,
            subst (λ (x : World). KeepsTexts old.pool x.pool) (sym w.heap-is) (λ span inside. refl),
            subst (λ (x : World). length old.pool.units ≤ length x.pool.units) (sym w.heap-is) (omega arith),
          )
      | else-first-id+in_ok-span w ↦
          let own : first_named g id ≡ id = sym c.first_named-first.ensures.first ∙ (let n : first ≡ id = omega (arith, w.if-first-id.false, c.first_named-first.ensures.before) in n) in
          let added = w.heap-is ∙ w.in_ok-span.ensures.added in
          let grown : Grows old new = subst (Grows old) (sym w.heap-is) w.add_form.ensures.grows in (
            own_spans code world old id w.node.result.now c.if-first-id.span w.node.ensures own c.loop-id.invariant.loaded (w.span-is ∙ w.in_ok-span.ensures.span),
            own_world code world old new id w.node.result.now w.node.ensures own c.loop-id.invariant.loaded added,
            subst (λ (x : World). StandsIfAny x.pool (T id) c.if-first-id.span) (sym w.heap-is)
                (subst (λ s. StandsIfAny w.add_form.new.heap.pool (T id) s) (sym w.span-is)
                (subst (λ o. StandsIfAny w.add_form.new.heap.pool (form_text g.units (form_in o)) w.in_ok-span.span) (sym w.node.ensures) w.in_ok-span.ensures.stands)),
            λ v b. form_cuts g.units w.node.result.now.form v old new added (c.loop-id.invariant.back v b),
            ap (λ (x : World). x.cells) w.heap-is ∙ w.add_form.ensures.cells ∙ c.loop-id.invariant.cells,
            search rules,
            grown.texts,
            grown.spans,
          )
    ] in
    record {
      spans = c.in_ok-push.ensures.items ∙ ap (λ xs. xs ++ c.if-first-id.span ∷ []) c.loop-id.invariant.spans
          ∙ ap (λ s. map (span_of code world) (range_with_len 0 id) ++ s ∷ []) step.0 ∙ sym (map-range_with_len_more (span_of code world) 0 id id (omega arith));
      loaded = step.1;
      stand = stand_more T old.pool new.pool c.loop-id.spans.items c.push.new.self.items c.if-first-id.span id long c.in_ok-push.ensures.items
          step.6 step.7 c.loop-id.invariant.stand step.2;
      back = step.3;
      cells = step.4;
      grows = step.5;
    }

pub returns-clause-stand : goal.returns-clause-stand
returns-clause-stand c =
    let n : length c.args.program.now.grove.branches ≤ c.loop-id.id = omega arith in
    all_stand c.args.program.now c.loop-id.heap c.loop-id.spans.items c.loop-id.id n c.loop-id.invariant.stand
