use Rattle.std.proofs.Common.{◌≡◌, ◌<◌, length, take, get_or, is_some, ap, ◌∙◌, arith}
use Rattle.rip_early.specs.declared.duplicates.Placed.{Placed}
use Rattle.rip_early.specs.declared.refusal.EarlyKind.TheVariants.{Duplicate}
use Rattle.rip_early.specs.Indexed.{names_of}
use Rattle.rip_early.specs.Mistakes.{mistake, repeated, where_so}
use Rattle.rip_early.specs.Names.{place_in, with_name}
use Rattle.rip_early.proofs.Repeating.{alike-more, least-more}
use Rattle.rip_early.proofs.duplicates.repeated.Goals as goal

pub loop-placed-preserved : goal.loop-placed-preserved
loop-placed-preserved c =
    let names = c.args.names.now in
    let i = c.loop-placed.placed-index in
    let placed = c.placed-item.result in
    let found = c.is_some-found.result in
    let here : i < length names = omega arith in
    let name : c.as_slice-name.result.now ≡ (get_or names i placed).name = c.as_slice-name.ensures ∙ ap (λ (p : Placed). p.name) c.placed-item.is in
    record {
      kept = c.in_ok-add.ensures.kept;
      alike = alike-more (names_of c.loop-placed.before) (names_of c.add.new.self) names i placed here (c.in_ok-add.ensures.added ∙ ap (with_name (names_of c.loop-placed.before)) name)
          c.loop-placed.invariant.alike;
      least = least-more names i placed found placed.place c.earlier-least.result here
          (c.is_some-found.ensures
          ∙ ap is_some c.place.ensures
          ∙ ap (λ n. is_some (place_in (names_of c.loop-placed.before) n)) name
          ∙ c.loop-placed.invariant.alike.alike (get_or names i placed).name)
          (ap (λ (p : Placed). p.place) c.placed-item.is)
          (c.earlier-least.ensures (repeated (take i names)) (where_so found (mistake placed.place Duplicate)) c.loop-placed.invariant.least c.mistake_if.ensures);
    }
