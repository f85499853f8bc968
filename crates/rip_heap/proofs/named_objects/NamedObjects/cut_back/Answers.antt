use Rattle.std.proofs.Common.{◌≡◌, ◌∙◌, ◌≤◌, ap, arith, length, subst, sym}
use Rattle.std.proofs.lemmas.List.{length-take-le}
use Rattle.rip_values.specs.Pool.{cut_pool}
use Rattle.rip_heap.specs.contracts.named_objects.NamedObjects.{the_invariant, the_view}
use Rattle.rip_heap.specs.declared.named_objects.NamedObjects.TheInside.{Inside}
use Rattle.rip_heap.specs.NamedObjects.{Named, first_texts}
use Rattle.rip_heap.specs.Region.{AreIndexes}
use Rattle.rip_heap.proofs.NameIndexLemmas.{indexes_cut, indexes_none}
use Rattle.rip_heap.proofs.named_objects.NamedObjects.cut_back.Goals as goal
use Rattle.rip_heap.proofs.named_objects.NamedObjects.cut_back.Goals.{then-end-self, else-end-self}

pub invariant_of-self : goal.invariant_of-self
invariant_of-self c =
    let inside = c.self.inside in
    let end = c.args.end in
    let kept : Inside → Type 0 = λ n. the_invariant (record n { pool = c.cut_back.new.self }) in
    elim c.if-end-self.branch [
      | then-end-self w ↦ subst kept (sym w.self-inside-is) (record {
        named = omega arith;
        indexed = indexes_none (first_texts c.cut_back.new.self 0) inside.region.pages w.clear.new.self.blocks w.clear.ensures;
      })
      | else-end-self w ↦
          let cut : c.cut_back.new.self ≡ cut_pool inside.pool end c.args.used = c.cut_back.ensures ∙ ap (λ (n : Inside). cut_pool n.pool end c.args.used) w.self-inside-is in
          let within : end ≤ length inside.pool.units = omega (arith, c.requires.end, ap (λ (m : Named). length m.pool.units) c.self.view_is) in
          subst kept (sym w.self-inside-is) (record {
            named = omega (arith, w.if-end-self.false, length-take-le end inside.pool.units within, ap (λ pool. length pool.units) cut);
            indexed = subst (λ pool. AreIndexes (first_texts pool inside.names_end) inside.region.pages inside.indexes.blocks) (sym cut)
                (indexes_cut inside.pool inside.names_end end c.args.used inside.region.pages inside.indexes.blocks w.if-end-self.false c.self.invariant.indexed);
          })
    ]

pub returns : goal.returns
returns c =
    let same : the_view c.if-end-self.self-inside ≡ c.args.self.now = elim c.if-end-self.branch [
      | then-end-self w ↦ ap the_view w.self-inside-is ∙ c.self.view_is
      | else-end-self w ↦ ap the_view w.self-inside-is ∙ c.self.view_is
    ] in
    ap (λ (m : Named). record m { pool = c.cut_back.new.self }) same
    ∙ ap (λ pool. record c.args.self.now { pool = pool }) (c.cut_back.ensures ∙ ap (λ (m : Named). cut_pool m.pool c.args.end c.args.used) same)
