use Rattle.std.proofs.Common.{◌+◌, take, drop, arith, rules, sym, ap, ◌∙◌}
use Rattle.rip_log.specs.Words.{words_from}
use Rattle.rip_log.proofs.Closed.{prefixed, word_begins, word_ends, word_goes_on, word_is_last}
use Rattle.rip_log.proofs.words.word_end.Goals as goal

pub loop-at-init : goal.loop-at-init
loop-at-init c = word_begins c.args.text.now

pub returns-then-ends_word-clause-some : goal.returns-then-ends_word-clause-some
returns-then-ends_word-clause-some c = word_ends c.args.text.now c.loop-at.at c.loop-at.place c.loop-at.invariant (omega arith) (search rules)

pub loop-at-preserved : goal.loop-at-preserved
loop-at-preserved c =
    word_goes_on c.args.text.now c.loop-at.at c.loop-at.place c.loop-at.invariant c.loop-at-test.true (sym c.if-ends_word.ensures)
    ∙ ap (λ p. prefixed (take (c.loop-at.at + 1) c.args.text.now) (words_from p (drop (c.loop-at.at + 1) c.args.text.now))) (sym c.after-place.ensures)

pub returns-clause-none : goal.returns-clause-none
returns-clause-none c = word_is_last c.args.text.now c.loop-at.at c.loop-at.place c.loop-at.invariant (omega arith)
