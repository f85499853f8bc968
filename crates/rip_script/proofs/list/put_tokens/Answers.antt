use Rattle.std.proofs.Common.{◌∙◌, arith}
use Rattle.rip_script.proofs.Passing.{draws_front, draws_moved, draws_stopped, draws_token, none_ahead, puts_last, puts_stopped}
use Rattle.rip_script.proofs.list.put_tokens.Goals as goal

pub returns-in_err-write_token-clause-put : goal.returns-in_err-write_token-clause-put
returns-in_err-write_token-clause-put g c =
    puts_stopped c.from_residual.result _ _ _ c.from_residual.ensures.0 (draws_front c.loop-token.invariant.draws)

pub returns-in_err-put_full_block-clause-put : goal.returns-in_err-put_full_block-clause-put
returns-in_err-put_full_block-clause-put g c =
    puts_stopped c.from_residual-in_err-put_full_block.result _ _ _ c.from_residual-in_err-put_full_block.ensures.0
    (draws_stopped _ (draws_token c.args.tokens.now c.loop-token.token-index _ c.write_token.new.out (omega arith) c.loop-token.invariant.draws c.in_ok-write_token.ensures) c.in_err-put_full_block.ensures.passed)

pub loop-token-preserved : goal.loop-token-preserved
loop-token-preserved g c = record {
  draws = draws_moved c.put_full_block.new.block _ (draws_token c.args.tokens.now c.loop-token.token-index _ c.write_token.new.out (omega arith) c.loop-token.invariant.draws c.in_ok-write_token.ensures) c.in_ok-put_full_block.ensures.passed;
  counted = c.in_ok-put_full_block.ensures.counted ∙ c.loop-token.invariant.counted;
}

pub returns-clause-put : goal.returns-clause-put
returns-clause-put g c =
    puts_last c.put_block.result _ c.loop-token.block c.put_block.new.block _ _ _ _ c.loop-token.invariant.draws (none_ahead c.args.tokens.now c.loop-token.token-index (omega arith)) c.put_block.ensures.passed c.put_block.ensures.all
