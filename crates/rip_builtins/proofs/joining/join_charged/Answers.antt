use Rattle.std.proofs.Common.{refl, ap, arith}
use Rattle.rip_heap.specs.Arrays.{elements_at}
use Rattle.rip_builtins.proofs.JoinLemmas.{join-too-long, join-no-room}
use Rattle.rip_builtins.proofs.joining.join_charged.Goals as goal

pub returns-then-length-most-clause-answers : goal.returns-then-length-most-clause-answers
returns-then-length-most-clause-answers c =
    let w = c.args.heap.now in (
      join-too-long w c.args.separator.now (elements_at w c.args.array) c.args.used c.requires
          (omega (arith, c.if-length-most.true, c.text_limit-most.ensures, c.joined_length-length.ensures, ap (λ p. p.text_limit) c.pool.ensures)),
      refl,
    )

pub returns-then-from-length-clause-answers : goal.returns-then-from-length-clause-answers
returns-then-from-length-clause-answers c =
    let w = c.args.heap.now in (
      join-no-room w c.args.separator.now (elements_at w c.args.array) c.args.used c.requires
          (omega (arith, c.if-length-most.false, c.text_limit-most.ensures, c.joined_length-length.ensures, ap (λ p. p.text_limit) c.pool.ensures))
          (omega (
            arith,
            c.if-length-most.false,
            c.text_limit-most.ensures,
            c.joined_length-length.ensures,
            ap (λ p. p.text_limit) c.pool.ensures,
            c.if-from-length.true,
            c.from.ensures,
            c.from-2.ensures,
            c.limit.ensures,
            ap (λ p. p.limit) c.pool-2.ensures,
          )),
      refl,
    )
