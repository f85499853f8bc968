use Rattle.std.proofs.Common.{◌≡◌, ◌+◌, length}
use Rattle.rip_markup.proofs.Turns.{ReadsOn, names_of}
use Rattle.rip_markup.specs.Known.{Knows}
use Rattle.rip_markup.proofs.tag.read_attributes.Given as goal

abbrev pub invariant-loop-parts : goal.invariant-loop-parts
invariant-loop-parts l = record {
  bound : l.place + length l.rest ≡ l.start + length l.text;
  seen : Knows l.seen (names_of l.pairs.items);
  reads : ReadsOn l.tag l.start l.text l.place l.rest l.pairs.items l.fault l.against;
}

abbrev pub decreases-loop-parts : goal.decreases-loop-parts
decreases-loop-parts l = length l.rest
