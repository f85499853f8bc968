use Rattle.std.proofs.Common.{sym, ◌∙◌}
use Rattle.rip_trace.specs.Shown.{asked_of}
use Rattle.rip_trace.proofs.RequestLemmas.{request_some}
use Rattle.rip_trace.proofs.read.Reading.add_line.Goals as goal

pub say-requires : goal.say-requires
say-requires c = λ none. request_some c.args.words.now (asked_of c.in-Said.asked) (sym (c.as_slice.ensures ∙ c.in_ok-request-in-Said.ensures) ∙ none)
