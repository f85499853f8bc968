use Rattle.std.proofs.Common.{◌≡◌, take, drop}
use Rattle.rip_log.specs.Words.{words, words_from}
use Rattle.rip_log.proofs.Closed.{prefixed}
use Rattle.rip_log.proofs.words.word_end.Given as goal

-- the words are those of what was passed and of what is left
abbrev pub invariant-loop-at : goal.invariant-loop-at
invariant-loop-at l = words l.text ≡ prefixed (take l.at l.text) (words_from l.place (drop l.at l.text))
