-- What the machine reads is a script: the phrase that it has told.
use Rattle.std.proofs.Common.{◌≡◌, List, [], ◌∷◌, Option, Some, None, refl, subst}
use Rattle.rip_grammar.specs.declared.word.Lexeme.{Lexeme}
use Rattle.rip_grammar.specs.declared.event.Event.{Event}
use Rattle.rip_automaton.specs.declared.frame.Frame.{Frame}
use Rattle.rip_automaton.specs.declared.mode.Mode.{Mode}
use Rattle.rip_automaton.specs.declared.mode.Mode.TheVariants as M
use Rattle.rip_grammar.specs.Phrases.{Phrase, Nothing}
use Rattle.rip_grammar.specs.Grammar.{IsScript}
use Rattle.rip_grammar.specs.Events.{emit}
use Rattle.rip_automaton.specs.States.{State, At}
use Rattle.rip_automaton.specs.Machine.{step, feed, go, begins}
use Rattle.rip_automaton.proofs.Open.{Holds, Step}
use Rattle.rip_automaton.proofs.SoundOperands.{operand_sound, member_sound}
use Rattle.rip_automaton.proofs.SoundLiterals.{argument_sound, element_sound, key_sound, entry_colon_sound}
use Rattle.rip_automaton.proofs.SoundStatements.{start_sound, ended_sound, semicolon_sound}
use Rattle.rip_automaton.proofs.SoundHeaders.{function_name_sound, declaration_name_sound, open_parameters_sound, first_parameter_sound, parameter_sound, after_parameter_sound, open_body_sound, clause_sound, default_colon_sound, open_block_sound, open_catch_sound, catch_name_sound, close_catch_sound, declarator_name_sound, after_name_sound, returning_sound, throwing_sound, open_header_sound, open_switch_sound, open_for_sound, for_init_sound, for_test_sound, for_update_sound}
use Rattle.rip_automaton.proofs.SoundContinuations.{after_sound}

-- one lexeme more
step_sound : (mode : Mode) (st : List Frame) (out : List Event) (t : Lexeme) (w r : List Lexeme) → Holds mode st w out (t ∷ r) → Step w r (step mode st out t)
step_sound M.Operand st out t w r h = operand_sound st out t w r h.0 h.1
step_sound (M.After sh) st out t w r h = after_sound sh st out t w r h
step_sound M.Member st out t w r h = member_sound st out t w r h
step_sound M.Argument st out t w r h = argument_sound st out t w r h
step_sound M.Element st out t w r h = element_sound st out t w r h
step_sound M.Key st out t w r h = key_sound st out t w r h
step_sound M.EntryColon st out t w r h = entry_colon_sound st out t w r h
step_sound (M.FunctionName place) st out t w r h = function_name_sound place st out t w r h
step_sound (M.DeclarationName place) st out t w r h = declaration_name_sound place st out t w r h
step_sound M.OpenParameters st out t w r h = open_parameters_sound st out t w r h
step_sound M.FirstParameter st out t w r h = first_parameter_sound st out t w r h
step_sound M.Parameter st out t w r h = parameter_sound st out t w r h
step_sound M.AfterParameter st out t w r h = after_parameter_sound st out t w r h
step_sound M.OpenBody st out t w r h = open_body_sound st out t w r h
step_sound M.Statement st out t w r h = start_sound st out t w r h.0 h.1
step_sound M.Ended st out t w r h = ended_sound st out t w r h
step_sound M.Semicolon st out t w r h = semicolon_sound st out t w r h
step_sound M.DeclaratorName st out t w r h = declarator_name_sound st out t w r h
step_sound (M.AfterName n) st out t w r h = after_name_sound n st out t w r h
step_sound M.Returning st out t w r h = returning_sound st out t w r h
step_sound M.Throwing st out t w r h = throwing_sound st out t w r h
step_sound M.OpenHeader st out t w r h = open_header_sound st out t w r h
step_sound M.OpenSwitch st out t w r h = open_switch_sound st out t w r h
step_sound M.Clause st out t w r h = clause_sound st out t w r h
step_sound M.DefaultColon st out t w r h = default_colon_sound st out t w r h
step_sound M.OpenFor st out t w r h = open_for_sound st out t w r h
step_sound M.ForInit st out t w r h = for_init_sound st out t w r h
step_sound M.ForTest st out t w r h = for_test_sound st out t w r h
step_sound M.ForUpdate st out t w r h = for_update_sound st out t w r h
step_sound M.OpenBlock st out t w r h = open_block_sound st out t w r h
step_sound (M.OpenCatch place) st out t w r h = open_catch_sound place st out t w r h
step_sound (M.CatchName place) st out t w r h = catch_name_sound place st out t w r h
step_sound M.CloseCatch st out t w r h = close_catch_sound st out t w r h
step_sound M.Done st out t w r h = tt

feed_sound : (s : Option State) (t : Lexeme) (w r : List Lexeme) → Step w (t ∷ r) s → Step w r (feed s t)
feed_sound None t w r h = tt
feed_sound (Some (At mode st out)) t w r h = step_sound mode st out t w r h

go_sound : (s : Option State) (q : List Lexeme) (w : List Lexeme) → Step w q s → Step w [] (go s q)
go_sound s [] w h = h
go_sound s (t ∷ q) w h = go_sound (feed s t) q w (feed_sound s t w q h)

-- where the machine begins
begins_sound : (w : List Lexeme) → Step w w begins
begins_sound w = (refl, record { l = Nothing; alone = refl; list = refl; made = tt; told = refl; whole = refl })

-- what the machine has read holds in each state that it comes to
pub state_sound : (w : List Lexeme) → Step w [] (go begins w)
state_sound w = go_sound begins w w (begins_sound w)

-- lexemes that the machine takes to the end are a script, and what was told is that of its phrase
pub sound : (lexemes : List Lexeme) (st : List Frame) (out : List Event) → go begins lexemes ≡ Some (At M.Done st out) → (body : Phrase) × IsScript lexemes body × (out ≡ emit body [])
sound lexemes st out is =
    let h : Holds M.Done st lexemes out [] = subst (Step lexemes []) is (state_sound lexemes) in
    (h.0, record { end = h.1; ends = h.3; whole = h.7; list = h.4; made = h.5 }, h.6)
