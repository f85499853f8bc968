use Rattle.std.proofs.Common.{◌∙◌, ◌<◌, ◌^◌, ℕ, List, Some, None, ap, sym, subst, refl}
use Rattle.std.specs.List.{All}
use Rattle.rip_outer.specs.Moments.{new_clock, moment_at, new_words, word_at}
use Rattle.rip_server.specs.Acts.{seen}
use Rattle.rip_server.specs.Turning.{outer, source}
use Rattle.rip_serve.specs.declared.serving.Stop.{Stop}
use Rattle.rip_serve.specs.Sites.{ServesApp}
use Rattle.rip_cli.specs.Service.{Replayed}
use Rattle.rip_cli.specs.TraceDoor.{left_of}
use Rattle.rip_cli.proofs.MomentLemmas.{moments_below}
use Rattle.rip_cli.proofs.ServeLemmas.{brought_by, if_ok, replayed, told_by}
use Rattle.rip_cli.proofs.serving.replay.Goals as goal

pub make-requires-2 : goal.make-requires-2
make-requires-2 g c =
    let P : List ℕ → Type 0 = λ ms. All (λ m. m < 2 ^ 53) ms in
    subst P (sym c.moments.ensures) (moments_below c.requires.0 c.args.trace.now c.requires.1)

pub returns-clause-served : goal.returns-clause-served
returns-clause-served g c =
    let a = c.args in
    let held = g.S.Sink.held a.out.now in
    let faults = g.S.Sink.count a.out.now in
    let from = brought_by a.trace.now held faults c.in_ok-door.door c.in_ok-clock.clock c.in_ok-words.words c.in_ok-door.ensures.came (c.in_ok-door.ensures.left ∙ c.knocks.ensures)
    (c.in_ok-clock.ensures ∙ ap new_clock c.moments.ensures) (c.in_ok-words.ensures ∙ ap new_words c.words.ensures) in
    let old = told_by c.in_ok-door.door c.in_ok-clock.clock c.in_ok-words.words held faults in
    let n = c.serve_app.new in
    let end = told_by n.door n.clock n.random (g.S.Sink.held n.out) (g.S.Sink.count n.out) in
    let P : Stop → Type 0 = λ how. ServesApp a.app.now a.turns how old end in
    let Q : Stop → Type 0 = λ how. Replayed a.app.now a.trace.now a.turns how held (g.S.Sink.held n.out) faults (g.S.Sink.count n.out) in
    if_ok c.serve_app.result P Q (λ how h. replayed a.app.now a.trace.now a.turns how held faults old end n.door.came from h refl refl) c.serve_app.ensures.served
