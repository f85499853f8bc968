use Rattle.std.specs.Prelude.{map, string_bytes}
use Rattle.rip_script.proofs.Commands.{no_form_left}
use Rattle.rip_script.proofs.words.command_of.Goals as goal

pub returns-clause-other : goal.returns-clause-other
returns-clause-other c =
    no_form_left c.run_of.result (map string_bytes c.args.words.now) c.in_default.ensures.other c.in_default-file_of.ensures.other c.run_of.ensures.other
