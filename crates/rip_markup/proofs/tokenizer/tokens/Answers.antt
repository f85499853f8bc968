use Rattle.std.proofs.Common.{◌∙◌, length, sym, subst, arith}
use Rattle.rip_markup.specs.declared.token.Content.TheVariants.{Markup}
use Rattle.rip_markup.proofs.Unique.{one_reading}
use Rattle.rip_markup.proofs.Tokenizing.{Goes, ends_here, goes_on, token_progress}
use Rattle.rip_markup.proofs.tokenizer.tokens.Goals as goal

pub returns-then-last-clause-only : goal.returns-then-last-clause-only
returns-then-last-clause-only c = λ others are.
    c.from_vec.ensures ∙ one_reading 0 Markup c.args.text.now c.push.new.self.items others
    (ends_here c.args.text.now c.page.place c.page.content c.page.rest.now c.split_at.result.1.now c.page.made.items c.push.new.self.items c.dropped-skipped.result c.in_ok-token.count c.in_ok-token.token c.is_last-last.result c.page.invariant.reads c.dropped-skipped.ensures.value c.split_at.ensures.back c.in_ok-token.ensures.read c.is_last-last.ensures c.if-last.true c.in_ok-push.ensures.items)
    are

pub page-smaller : goal.page-smaller
page-smaller c =
    let step = token_progress c.page.content c.content_after-next.result c.split_at.result.1.now c.in_ok-token.token c.in_ok-token.count (length c.split_at-in-page.result.1.now) c.in_ok-token.ensures.read (sym c.is_last-last.ensures ∙ c.if-last.false) c.content_after-next.ensures (omega (arith, c.split_at-in-page.ensures.back_len)) in
    omega (arith, step, c.split_at.ensures.back_len)

pub page-preserved : goal.page-preserved
page-preserved c = record {
  bound = omega (arith, c.page.invariant.bound, c.split_at.ensures.back_len, c.split_at-in-page.ensures.back_len, c.in_ok-token.ensures.bound, c.dropped-skipped.ensures.bound);
  reads = subst (λ n. Goes c.args.text.now n c.content_after-next.result c.split_at-in-page.result.1.now c.push.new.self.items) (omega arith)
      (goes_on c.args.text.now c.page.place c.page.content c.content_after-next.result c.page.rest.now c.split_at.result.1.now c.split_at-in-page.result.1.now c.page.made.items c.push.new.self.items c.dropped-skipped.result c.in_ok-token.count c.in_ok-token.token c.is_last-last.result c.page.invariant.reads c.dropped-skipped.ensures.value c.split_at.ensures.back c.in_ok-token.ensures.read c.is_last-last.ensures c.if-last.false c.content_after-next.ensures c.in_ok-push.ensures.items c.split_at-in-page.ensures.back);
}
