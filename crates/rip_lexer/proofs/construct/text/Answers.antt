use Rattle.rip_lexer.proofs.Constructs.{text_token, text_refused}
use Rattle.rip_lexer.proofs.construct.text.Goals as goal

pub returns-in-Some-clause-construct : goal.returns-in-Some-clause-construct
returns-in-Some-clause-construct c = text_refused c.args.units.now c.text_end-end.result c.in-Some.fault c.text_end-end.ensures.reads c.in-Some.is

pub returns-in-None-clause-construct : goal.returns-in-None-clause-construct
returns-in-None-clause-construct c = text_token c.args.units.now c.text_end-end.result c.text_end-end.ensures.reads c.in-None.is
