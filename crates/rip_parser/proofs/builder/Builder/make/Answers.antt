use Rattle.std.proofs.Common.{◌+◌, ◌-◌, List, Option, ℕ, length, take, drop, sym, ◌∙◌, subst}
use Rattle.rip_tree.specs.Branches.{AreBetween}
use Rattle.rip_tree.specs.Making.{Growth}
use Rattle.rip_parser.specs.Building.{State, Fits, numbers}
use Rattle.rip_parser.specs.declared.part.Part.{Part}
use Rattle.rip_parser.proofs.Parts.{AreBetween-range}
use Rattle.rip_parser.proofs.builder.Builder.make.Goals as goal

pub push-requires-clause-above : goal.push-requires-clause-above
push-requires-clause-above c =
    let start = c.len-2.result - c.args.count in
    let below = c.deref.result.now in
    let low = c.self.inside.maker.total - (length c.self.inside.maker.branches + 1) in
    let fits : AreBetween low c.self.inside.maker.total (numbers c.self.inside.parts.items) = subst (λ (s : State). Fits s) (sym c.self.view_is) c.requires.fits in
    subst (λ (cs : List (Option ℕ)). AreBetween (c.form_of.new.maker.total - (length c.form_of.new.maker.branches + 1)) c.form_of.new.maker.total cs) (sym (c.as_slice.ensures.value ∙ c.in_ok-list_numbers.ensures))
    (subst (λ (g : Growth). AreBetween (g.total - (length g.branches + 1)) g.total (numbers (take (length below - start) (drop start below)))) (sym c.in_ok-form.ensures.grown.1)
    (AreBetween-range low c.self.inside.maker.total (length below - start) start below (subst (λ (ps : List Part). AreBetween low c.self.inside.maker.total (numbers ps)) (sym c.deref.ensures.value) fits)))
