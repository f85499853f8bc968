use Rattle.std.proofs.Common.{Some, None}
use Rattle.std.proofs.lemmas.Slice.Eq.{strip_prefix_is}
use Rattle.std.proofs.lemmas.Bool.Decides.{Decides-eqb}
use Rattle.rip_trace.proofs.text.behind.Goals as goal

pub returns-in-Some-clause-some : goal.returns-in-Some-clause-some
returns-in-Some-clause-some c =
    strip_prefix_is Decides-eqb c.args.bytes.now c.args.prefix.now (Some c.in-Some.rest) c.in-Some.ensures.cases

pub returns-in-None-clause-none : goal.returns-in-None-clause-none
returns-in-None-clause-none c =
    λ _ rest e. strip_prefix_is Decides-eqb c.args.bytes.now c.args.prefix.now None c.in-None.ensures.cases rest e
