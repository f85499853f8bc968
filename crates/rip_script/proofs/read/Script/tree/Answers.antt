use Rattle.rip_script.proofs.read.Script.tree.Goals as goal

pub returns-in-Ok-clause-shown : goal.returns-in-Ok-clause-shown
returns-in-Ok-clause-shown c = rw (c.as_slice.ensures, c.as_slice-2.ensures) at c.in-Ok.ensures.shown
