-- Words that ask for something, and input that does.
use Rattle.std.proofs.Common.{ℕ, List, Option}
use Rattle.rip_outer.specs.declared.reading.NamedFile.{NamedFile}
use Rattle.rip_words.specs.Commands.{Task, checks, replays, serves, drives, generates, IsTask}
use Rattle.rip_cli.specs.Words.{IsForm, AskToServe}
use Rattle.rip_cli.specs.Input.{IsInputOf}
use Rattle.rip_cli.specs.Steps.{IsServe}
use Rattle.rip_cli.specs.declared.input.Input.{Input}
use Rattle.rip_cli.specs.declared.input.Input.TheVariants.{Check, Replay, Serve, Drive, Generate}

pub none_form : (words : List (List ℕ)) → ((task : Task) → ¬ IsTask words task) → ¬ IsForm words
none_form words none = λ h. none h.0 h.1

-- input asks for service where the words do
pub other_input : (words : List (List ℕ)) (t : Task) (held : Option (List NamedFile)) (i : Input) → IsTask words t → IsInputOf held t i
    → ¬ AskToServe words → ¬ IsServe i
other_input words t held (Check i) is input none = λ h. h
other_input words t held (Replay i turns) is input none = λ h. h
other_input words t held (Drive i) is input none = λ h. h
other_input words t held (Generate n) is input none = λ h. h
other_input words (checks page app) held (Serve i turns) is input none = λ h. input
other_input words (replays page app trace most) held (Serve i turns) is input none = λ h. input
other_input words (serves page app address most) held (Serve i turns) is input none = λ h. none (page, app, address, most, is)
other_input words (drives page app gestures) held (Serve i turns) is input none = λ h. input
other_input words (generates n) held (Serve i turns) is input none = λ h. input
