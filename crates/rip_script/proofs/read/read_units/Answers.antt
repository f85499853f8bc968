use Rattle.std.proofs.Common.{◌≤◌, length, arith}
use Rattle.rip_script.proofs.Lengths.{length_units}
use Rattle.rip_script.proofs.read.read_units.Goals as goal

pub returns-in-Ok-clause-short : goal.returns-in-Ok-clause-short
returns-in-Ok-clause-short c =
    let few : length c.in-Ok.units ≤ length c.args.bytes.now = length_units c.args.bytes.now c.in-Ok.units c.in-Ok.ensures.text in
    omega arith
