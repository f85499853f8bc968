use Rattle.std.proofs.Common.{arith}
use Rattle.std.proofs.lemmas.Bool.{eq-eqb}
use Rattle.rip_http.proofs.head.line_length.Goals as goal

pub returns-in-Some-clause-inside : goal.returns-in-Some-clause-inside
returns-in-Some-clause-inside c = λ j h e. c.in-Some.ensures.0.before j (omega arith) h (eq-eqb _ 10 e)

pub returns-in-None-clause-inside : goal.returns-in-None-clause-inside
returns-in-None-clause-inside c = λ j h e. c.in-None.ensures j (omega arith) (omega (arith, h)) (eq-eqb _ 10 e)
