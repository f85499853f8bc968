use Rattle.std.proofs.Common.{Bool, false, List, Some, get_or, sym, ap, ◌∙◌, subst}
use Rattle.rip_grammar.specs.declared.word.Word.TheVariants as W
use Rattle.rip_grammar.specs.declared.word.Lexeme.{Lexeme}
use Rattle.rip_grammar.specs.declared.event.Event.{Event}
use Rattle.rip_automaton.specs.declared.mode.Mode.{Mode}
use Rattle.rip_automaton.specs.declared.mode.Mode.TheVariants as M
use Rattle.rip_automaton.specs.Machine.{step}
use Rattle.rip_automaton.specs.States.{At}
use Rattle.rip_parser.specs.Running.{Course, Takes}
use Rattle.rip_parser.proofs.Steps.{step-refused, step-taken, all-taken, done-at-end}
use Rattle.rip_parser.proofs.run.run.Goals as goal

abbrev no_lexeme : Lexeme
no_lexeme = record { word = W.Name; start = 0; count = 0; line_before = false }

pub returns-then-not-branch-clause-refused : goal.returns-then-not-branch-clause-refused
returns-then-not-branch-clause-refused c =
    let m = c.loop-lexeme.machine in
    step-refused c.args.lexemes.now c.loop-lexeme.lexeme-index no_lexeme m c.loop-lexeme-test.true c.loop-lexeme.invariant
    (subst (λ (b : Bool). Takes b c.step.new.self (step m.mode m.stack m.events (get_or c.args.lexemes.now c.loop-lexeme.lexeme-index no_lexeme))) c.if-not-branch.true c.in_ok-step.ensures)

pub loop-lexeme-preserved : goal.loop-lexeme-preserved
loop-lexeme-preserved c =
    let m = c.loop-lexeme.machine in
    step-taken c.args.lexemes.now c.loop-lexeme.lexeme-index no_lexeme m c.step.new.self c.loop-lexeme-test.true c.loop-lexeme.invariant
    (subst (λ (b : Bool). Takes b c.step.new.self (step m.mode m.stack m.events (get_or c.args.lexemes.now c.loop-lexeme.lexeme-index no_lexeme))) c.if-not-branch.false c.in_ok-step.ensures)

pub returns-clause-told : goal.returns-clause-told
returns-clause-told c =
    let m = c.loop-lexeme.machine in
    let been = all-taken c.args.lexemes.now c.loop-lexeme.lexeme-index m c.loop-lexeme.auto.lexeme-index-end c.loop-lexeme-test.false c.loop-lexeme.invariant in
    let done = done-at-end c.args.lexemes.now m c.requires been in
    let told = ap (λ (x : Course). x.events) c.machine-2.view_is in
    (m.stack, been ∙ ap (λ (mode : Mode). Some (At mode m.stack m.events)) done ∙ ap (λ (es : List Event). Some (At M.Done m.stack es)) (sym told))
