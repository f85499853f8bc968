use Rattle.std.proofs.Common.{◌≡◌, ◌<◌, length, IfSome}
use Rattle.rip_early.specs.Indexed.{names_of}
use Rattle.rip_early.specs.Scopes.{scopes_around, meaning_in}
use Rattle.rip_early.proofs.Making.{left_of, scopes_from}
use Rattle.rip_early.proofs.meaning.meaning_of.Given as goal

abbrev pub invariant-loop-maker : goal.invariant-loop-maker
invariant-loop-maker l = record {
  there : IfSome l.maker (λ p. p < length l.tree.branches);
  means : meaning_in l.up (scopes_from (names_of l.top) l.tree l.maker) l.name ≡ meaning_in 0 (scopes_around (names_of l.top) l.tree l.id) l.name;
}

abbrev pub decreases-loop-maker : goal.decreases-loop-maker
decreases-loop-maker l = left_of l.maker
