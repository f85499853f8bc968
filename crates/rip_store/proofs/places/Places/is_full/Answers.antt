use Rattle.std.proofs.Common.{◌≡◌, ◌≤◌, length, sym, ap, ◌∙◌, arith}
use Rattle.std.specs.Prelude.{is_some}
use Rattle.std.proofs.lemmas.List.{length-map}
use Rattle.std.proofs.lemmas.Bool.Decides.{nat_tests}
use Rattle.rip_store.specs.Held.{stored_in}
use Rattle.rip_store.specs.Places.{value_at}
use Rattle.rip_store.proofs.PlaceLemmas.{shown, is_some-shown}
use Rattle.rip_store.proofs.places.Places.is_full.Goals as goal

pub returns-then-len-ge-MOST_KEYS : goal.returns-then-len-ge-MOST_KEYS
returns-then-len-ge-MOST_KEYS c =
    let many : 4096 ≤ length (stored_in c.args.self.now) = omega (arith, length-map c.args.self.now.held.entries shown) in
    let there : is_some (value_at (stored_in c.args.self.now) c.args.place.now) ≡ is_some c.get.result = ap is_some (sym c.get.ensures) ∙ is_some-shown c.get.result in
    grind (arith, nat_tests, many, there)
