use Rattle.std.proofs.Common.{codes, Some, inl, inr, arith}
use Rattle.std.proofs.lemmas.Slice.Eq.{strip_prefix_is}
use Rattle.std.proofs.lemmas.Bool.Decides.{Decides-eqb}
use Rattle.rip_words.proofs.WordLemmas.{other_turns}
use Rattle.rip_words.proofs.command.turns_of.Goals as goal
use Rattle.rip_words.proofs.command.turns_of.Goals.{then-turns-lt1-via-then-turns-lt1, then-turns-lt1-via-else-turns-lt1+then-turns-gt-MOST_TURNS}

pub returns-then-turns-lt1-clause-other : goal.returns-then-turns-lt1-clause-other
returns-then-turns-lt1-clause-other c =
    let is = strip_prefix_is Decides-eqb c.args.word.now (codes "--turns=") (Some c.in_ok-strip_prefix.field-0) c.in_ok-strip_prefix.ensures.cases in
    λ none. other_turns c.args.word.now c.in_ok-strip_prefix.field-0.now c.in_ok-turns.turns is c.in_ok-turns.ensures.some (omega arith)
    (elim c.then-turns-lt1.branch [
      | then-turns-lt1-via-then-turns-lt1 w ↦ inl (omega (arith, w.if-turns-lt1.true))
      | then-turns-lt1-via-else-turns-lt1+then-turns-gt-MOST_TURNS w ↦ inr (omega (arith, w.if-turns-gt-MOST_TURNS.true))
    ])
