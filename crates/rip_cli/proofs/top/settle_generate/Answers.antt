use Rattle.std.proofs.Common.{◌≡◌, sym, subst, rules}
use Rattle.rip_gen.specs.Generated.{IsGenerated}
use Rattle.rip_cli.proofs.SettleLemmas.{generated_settles}
use Rattle.rip_cli.proofs.top.settle_generate.Goals as goal

pub returns-in-Ok-clause-settles : goal.returns-in-Ok-clause-settles
returns-in-Ok-clause-settles g c = λ rest.
    let n = c.args.n in
    let same : c.as_slice.result.now ≡ c.in-Ok.line = search rules in
    generated_settles n rest _ _ _ _ c.put_line.result c.as_slice.result.now (subst (λ text. IsGenerated n text) (sym same) c.in-Ok.ensures) c.put_line.ensures.put c.put_line.ensures.counted
