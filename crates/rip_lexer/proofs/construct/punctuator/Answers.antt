use Rattle.std.proofs.Common.{sym, ◌∙◌, subst}
use Rattle.rip_lexer.specs.Tokens.{punctuator_fault}
use Rattle.rip_lexer.specs.View.{IsConstruct}
use Rattle.rip_lexer.specs.declared.token.TokenKind.TheVariants.{Punctuator}
use Rattle.rip_lexer.proofs.Longest.{begins_punctuator, mark_word}
use Rattle.rip_lexer.proofs.Constructs.{token_of, spelling_refused, comment_refused}
use Rattle.rip_lexer.proofs.construct.punctuator.Goals as goal

pub returns-then-begins_comment-clause-construct : goal.returns-then-begins_comment-clause-construct
returns-then-begins_comment-clause-construct c =
    subst (λ r. IsConstruct c.args.units.now r) (sym c.refused.ensures)
    (comment_refused c.args.units.now c.requires.no_gap (sym c.begins_comment.ensures ∙ c.if-begins_comment.true))

pub returns-in-Some-clause-construct : goal.returns-in-Some-clause-construct
returns-in-Some-clause-construct c =
    let units = c.args.units.now in
    let front = c.split_at.ensures.front in
    let back = c.split_at.ensures.back in
    let begins = begins_punctuator units c.longest_mark-count.result.0 c.longest_mark-count.ensures.count c.longest_mark-count.ensures.bound c.requires.mark (sym c.begins_comment.ensures ∙ c.if-begins_comment.false) in
    spelling_refused Punctuator units c.longest_mark-count.result.0 c.in-Some.fault begins ((λ i. punctuator_fault (sym front i) (sym back i)) ∙ sym c.in-Some.ensures.value)

pub returns-in-None-clause-construct : goal.returns-in-None-clause-construct
returns-in-None-clause-construct c =
    let units = c.args.units.now in
    let front = c.split_at.ensures.front in
    let back = c.split_at.ensures.back in
    let begins = begins_punctuator units c.longest_mark-count.result.0 c.longest_mark-count.ensures.count c.longest_mark-count.ensures.bound c.requires.mark (sym c.begins_comment.ensures ∙ c.if-begins_comment.false) in
    token_of Punctuator c.longest_mark-count.result.1 units _ c.longest_mark-count.result.0 front begins ((λ i. punctuator_fault (sym front i) (sym back i)) ∙ sym c.in-None.ensures.value)
    (mark_word units c.longest_mark-count.result.0 c.longest_mark-count.result.1 c.longest_mark-count.ensures.count c.longest_mark-count.ensures.word)
