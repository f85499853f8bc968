use Rattle.rip_log.proofs.KindLemmas.{only_opened, only_served, none_is}
use Rattle.rip_log.proofs.kinds.entry_of.Goals as goal

pub returns-then-is_word-clause-other : goal.returns-then-is_word-clause-other
returns-then-is_word-clause-other c =
    λ err. only_opened c.args.words.now c.in-Some.word.now c.next.new.self c.in-Some.ensures.some c.if-is_word.ensures.yes (c.opened_in.ensures.none (none_is c.opened_in.result (c.or_other.ensures.err err)))

pub returns-then-is_word-3-clause-other : goal.returns-then-is_word-3-clause-other
returns-then-is_word-3-clause-other c =
    λ err. only_served c.args.words.now c.in-Some.word.now c.next.new.self c.in-Some.ensures.some c.if-is_word-3.ensures.yes (c.served_in.ensures.other err)
