use Rattle.std.proofs.Common.{refl, sym, ◌∙◌}
use Rattle.rip_grammar.specs.declared.word.Word.TheVariants as W
use Rattle.rip_lexer.specs.Numeral.{numeral_fault}
use Rattle.rip_lexer.specs.declared.token.TokenKind.TheVariants.{Numeral}
use Rattle.rip_lexer.proofs.Longest.{begins_numeral}
use Rattle.rip_lexer.proofs.Constructs.{token_of, spelling_refused}
use Rattle.rip_lexer.proofs.construct.numeral.Goals as goal

pub returns-in-Some-clause-construct : goal.returns-in-Some-clause-construct
returns-in-Some-clause-construct c =
    let units = c.args.units.now in
    let front = c.split_at.ensures.front in
    let back = c.split_at.ensures.back in
    let begins = begins_numeral units c.numeral_count.result c.numeral_count.ensures.value c.numeral_count.ensures.bound c.requires in
    spelling_refused Numeral units c.numeral_count.result c.in-Some.fault begins ((λ i. numeral_fault (sym front i) (sym back i)) ∙ sym c.in-Some.ensures.value)

pub returns-in-None-clause-construct : goal.returns-in-None-clause-construct
returns-in-None-clause-construct c =
    let units = c.args.units.now in
    let front = c.split_at.ensures.front in
    let back = c.split_at.ensures.back in
    let begins = begins_numeral units c.numeral_count.result c.numeral_count.ensures.value c.numeral_count.ensures.bound c.requires in
    token_of Numeral W.Numeral units _ c.numeral_count.result front begins ((λ i. numeral_fault (sym front i) (sym back i)) ∙ sym c.in-None.ensures.value) refl
