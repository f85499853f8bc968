use Rattle.std.proofs.Common.{rules}
use Rattle.rip_trace.proofs.LineLemmas.{other_piece}
use Rattle.rip_trace.proofs.line.piece_in.Goals as goal

pub returns-in_err-bytes_in-clause-other : goal.returns-in_err-bytes_in-clause-other
returns-in_err-bytes_in-clause-other c =
    λ err. other_piece c.args.rest.now c.in-Some.connection c.in-Some.digits.now c.in-Some.ensures.is c.in-Some.ensures.bounded (c.in_err-bytes_in.ensures.other (search rules))
