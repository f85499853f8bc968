use Rattle.std.proofs.Common.{◌∙◌, ◌<◌, ◌^◌, ℕ, List, ap, sym, subst}
use Rattle.std.specs.List.{All}
use Rattle.rip_outer.specs.Memory.{new_sink}
use Rattle.rip_outer.specs.MemoryDoor.{new_door}
use Rattle.rip_outer.specs.Moments.{new_clock, new_words}
use Rattle.rip_outer.specs.declared.connections.TraceKnock.{TraceKnock}
use Rattle.rip_gen.proofs.MomentLemmas.{moments_below}
use Rattle.rip_gen.proofs.ServeLemmas.{told_same}
use Rattle.rip_gen.proofs.generate.serving.bring.Goals as goal

pub make-requires-2 : goal.make-requires-2
make-requires-2 c =
    let P : List ℕ → Type 0 = λ ms. All (λ m. m < 2 ^ 53) ms in
    subst P (sym c.moments.ensures) (moments_below c.requires.0 c.args.trace.now c.requires.1)

pub returns : goal.returns
returns c =
    let none = c.new-none.result in
    let is_door = c.in_ok-make.ensures ∙ ap (λ (ks : List TraceKnock). new_door ks none none) c.knocks.ensures ∙ ap (λ (e : List ℕ). new_door c.args.trace.now.knocks e e) c.new-none.ensures in
    told_same c.args.trace.now c.in_ok-make.field-0 c.in_ok-make-2.field-0 c.in_ok-make-3.field-0 c.in_ok-make-4.field-0
    is_door (c.in_ok-make-2.ensures ∙ ap new_clock c.moments.ensures) (c.in_ok-make-3.ensures ∙ ap new_words c.words.ensures) (c.in_ok-make-4.ensures ∙ ap new_sink c.new-none.ensures)
