use Rattle.std.proofs.Common.{◌∙◌, sym, arith}
use Rattle.rip_grammar.specs.declared.word.Word.TheVariants as W
use Rattle.rip_lexer.specs.Words.{reserved_words}
use Rattle.rip_lexer.proofs.Spellings.{look_up-of_length, look_up-not_reserved}
use Rattle.rip_lexer.proofs.words.name_word.Goals as goal

pub returns-in-2 : goal.returns-in-2
returns-in-2 c = c.word_of_two.ensures ∙ look_up-of_length W.Name reserved_words c.args.spelling.now 2 c.in-2.is

pub returns-in-3 : goal.returns-in-3
returns-in-3 c = c.word_of_three.ensures ∙ look_up-of_length W.Name reserved_words c.args.spelling.now 3 c.in-3.is

pub returns-in-4 : goal.returns-in-4
returns-in-4 c = c.word_of_four.ensures ∙ look_up-of_length W.Name reserved_words c.args.spelling.now 4 c.in-4.is

pub returns-in-5 : goal.returns-in-5
returns-in-5 c = c.word_of_five.ensures ∙ look_up-of_length W.Name reserved_words c.args.spelling.now 5 c.in-5.is

pub returns-in-6 : goal.returns-in-6
returns-in-6 c = c.word_of_six.ensures ∙ look_up-of_length W.Name reserved_words c.args.spelling.now 6 c.in-6.is

pub returns-in-7 : goal.returns-in-7
returns-in-7 c = c.word_of_seven.ensures ∙ look_up-of_length W.Name reserved_words c.args.spelling.now 7 c.in-7.is

pub returns-in-8 : goal.returns-in-8
returns-in-8 c = c.word_of_eight.ensures ∙ look_up-of_length W.Name reserved_words c.args.spelling.now 8 c.in-8.is

pub returns-in-9 : goal.returns-in-9
returns-in-9 c = c.word_of_nine.ensures ∙ look_up-of_length W.Name reserved_words c.args.spelling.now 9 c.in-9.is

pub returns-in-10 : goal.returns-in-10
returns-in-10 c = c.word_of_ten.ensures ∙ look_up-of_length W.Name reserved_words c.args.spelling.now 10 c.in-10.is

pub returns-in_default : goal.returns-in_default
returns-in_default c = sym (look_up-not_reserved c.args.spelling.now (λ low high. omega arith))
