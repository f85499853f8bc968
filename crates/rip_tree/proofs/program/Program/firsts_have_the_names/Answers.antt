use Rattle.rip_tree.proofs.Naming.{firsts_have_names}
use Rattle.rip_tree.proofs.program.Program.firsts_have_the_names.Goals as goal

pub returns : goal.returns
returns c = firsts_have_names c.args.self.now.grove
