use Rattle.std.proofs.Common.{ℕ, [], ◌∷◌}
use Rattle.rip_server.specs.Turning.{Source, source}
use Rattle.rip_server.proofs.SourceLemmas.{gives_one, gives_then}
use Rattle.rip_server.proofs.turn.draw.draw.Goals as goal

pub returns : goal.returns
returns g c =
    let at : _ → Source = λ w. source (g.W.Words.told w) (g.W.Words.coming w) in
    let a : ℕ = c.word-first.result in
    let b : ℕ = c.word-second.result in
    let d : ℕ = c.word-third.result in
    let now : Source = at c.args.words.now in
    let one : Source = at c.word-first.new.self in
    let two : Source = at c.word-second.new.self in
    let three : Source = at c.word-third.new.self in (
      a,
      b,
      d,
      c.drawn_of.ensures,
      gives_then (a ∷ []) (b ∷ d ∷ []) now one three
          (gives_one a now one c.word-first.ensures.told c.word-first.ensures.first c.word-first.ensures.others)
          (gives_then (b ∷ []) (d ∷ []) one two three
          (gives_one b one two c.word-second.ensures.told c.word-second.ensures.first c.word-second.ensures.others)
          (gives_one d two three c.word-third.ensures.told c.word-third.ensures.first c.word-third.ensures.others)),
    )
