-- What is taken back where memory is wanting: what the steps that only add texts leave can be cut back.
use Rattle.std.proofs.Common.{◌≡◌, ℕ, ◌+◌, ◌≤◌, List, ◌++◌, length, take, refl, ap, subst, sym, ◌∙◌, arith, length-append}
use Rattle.std.proofs.lemmas.List.{take-append-le}
use Rattle.std.proofs.Math.Seq.{take-length}
use Rattle.rip_values.specs.FixedTexts.{fixed_units}
use Rattle.rip_values.specs.Pool.{with_text}
use Rattle.rip_heap.specs.declared.mark.Mark.{Mark}
use Rattle.rip_heap.specs.Marks.{mark_of}
use Rattle.rip_heap.specs.World.{World}
use Rattle.rip_tree.specs.declared.form.Form.{Form}
use Rattle.rip_machine.specs.Back.{CutsTo}
use Rattle.rip_machine.specs.Loading.{form_cost, own_text, with_form}

-- what adds nothing can be cut
pub cuts_itself : (w : World) (m : Mark) → m ≡ mark_of w → length fixed_units ≤ m.end → CutsTo w w
cuts_itself w m is fixed = (
  record {
    fixed = subst (λ (k : Mark). length fixed_units ≤ k.end) is fixed;
    units = omega arith;
    used = omega arith;
    charged = omega arith;
  },
  rw (take-length w.pool.units) refl,
)

-- a text more, which costs no more than its length
cuts_text : (w x : World) (text : List ℕ) (cost : ℕ) → cost ≤ length text → CutsTo w x → CutsTo w (record x { pool = with_text x.pool text cost })
cuts_text w x text cost cheap b =
    let more : length (x.pool.units ++ text) ≡ length x.pool.units + length text = length-append x.pool.units text in
    let n = length w.pool.units in
    let same : take n (x.pool.units ++ text) ≡ take n x.pool.units = take-append-le n x.pool.units text b.0.units in
    let r : List ℕ → World = λ us. record x { pool = record x.pool { units = us; used = w.pool.used } } in (
      record {
        fixed = b.0.fixed;
        units = omega (arith, more, b.0.units);
        used = omega (arith, b.0.used);
        charged = omega (arith, more, cheap, b.0.charged);
      },
      ap r same ∙ b.1,
    )

-- what a node costs is no more than the length of its text
form_cheap : (units : List ℕ) (f : Form) → form_cost units f ≤ length (own_text units f)
form_cheap units f = grind arith

pub form_cuts : (units : List ℕ) (f : Form) (w x y : World) → y ≡ with_form units f x → CutsTo w x → CutsTo w y
form_cuts units f w x y added b = subst (CutsTo w) (sym added) (cuts_text w x (own_text units f) (form_cost units f) (form_cheap units f) b)
