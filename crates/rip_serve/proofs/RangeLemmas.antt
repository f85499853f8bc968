-- The entries that serving puts are in range.
use Rattle.std.proofs.Common.{◌≡◌, ℕ, ◌+◌, ◌<◌, ◌≤◌, ◌^◌, List, [], ◌∷◌, ◌++◌, length, Option, Some, sym, ap, subst, arith, append-nil}
use Rattle.std.specs.Prelude.{unwrap_or}
use Rattle.rip_log.specs.Entries.{Recorded}
use Rattle.rip_log.specs.Histories.{IsHistory}
use Rattle.rip_log.specs.Ranges.{IsLong}
use Rattle.rip_history.specs.Connections.{Act, put_in}
use Rattle.rip_history.specs.Parts.{IsLawful}
use Rattle.rip_history.specs.Run.{Site, first_state, Coming, turn_acts}
use Rattle.rip_history.specs.Runs.{after_turns, turns_acts, StopsWith, over, spent, IsRun, IsBroken}
use Rattle.rip_law_history.specs.Ranged.{AreTimed, MeansInRange, RepliesInRange}
use Rattle.rip_law_history.proofs.BrokenLemmas.{broken_runs_put}
use Rattle.rip_law_history.proofs.RangeRunLemmas.{logs_are_in_range, broken_runs_are_in_range}
use Rattle.rip_law_history.proofs.WholeMadeLemmas.{all-join, all-maps}
use Rattle.rip_server.specs.Turning.{Outer}
use Rattle.rip_serve.specs.Serving.{AreTimely, BreaksInTurn, Breaks, Serves, entries_begun, entries_put, unmade, in_turn, at_end}
use Rattle.rip_serve.specs.declared.serving.Stop.{Stop}
use Rattle.rip_serve.specs.declared.serving.Stop.TheVariants.{Idle, TurnsSpent, Outside, Memory}

-- a moment of 53 bits is one of 64
timed : (ts : List Coming) → AreTimely ts → AreTimed ts
timed ts timely = all-maps (λ (t : Coming). t.moment < 2 ^ 53) (λ (t : Coming). IsLong t.moment) (λ t lt. omega (arith, lt)) ts timely

long : (moment : ℕ) → moment < 2 ^ 53 → IsLong moment
long moment lt = omega (arith, lt)

-- a run has no more turns than may be
few-turns : (site : Site) (most status : ℕ) (ts : List Coming) → StopsWith site (Some most) ts status → length ts ≤ most
few-turns site most status ts (over e m) = m
few-turns site most status ts (spent g e) = let same : most ≡ length ts = some-same e in omega (arith, same)
  where
    some-same : {a b : ℕ} → Some a ≡ Some b → a ≡ b
    some-same {a} {b} e = ap (λ (o : Option ℕ). unwrap_or o a) e

front-in-range : (xs ys : List Recorded) → IsHistory (xs ++ ys) → IsHistory xs
front-in-range [] ys all = tt
front-in-range (x ∷ xs) ys all = (all.0, front-in-range xs ys all.1)

module _ (site : Site) (most : ℕ) (lawful : IsLawful site.meaning) (bound : most < 2 ^ 64) (means : MeansInRange site.meaning)
    (replies : RepliesInRange site.service) where
  whole : (status : ℕ) (ts : List Coming) (acts : List Act) → AreTimely ts → IsRun site (Some most) ts status acts → IsHistory (put_in acts)
  whole status ts acts timely run =
      let few : length ts ≤ most = few-turns site most status ts run.stops in
      logs_are_in_range site (Some most) ts status acts lawful means replies (omega (arith, few, bound)) (timed ts timely) run

  halted : (old new : Outer) → (b : BreaksInTurn site most old new) → IsHistory (entries_begun site most old new (in_turn b))
  halted old new b =
      let h = b.last in
      let t = h.coming in
      let acts = turns_acts site 1 first_state b.turns ++ turn_acts site (length b.turns + 1) t (after_turns site 1 first_state b.turns) in
      let broken : IsBroken site b.turns t acts = record { turns = b.made; go_on = b.go_on; last = h.broken; others = []; front = sym (append-nil acts) } in
      let p = broken_runs_put site b.turns t acts lawful broken in
      let told = b.tells in
      let all : AreTimed (b.turns ++ t ∷ []) =
      all-join (λ (c : Coming). IsLong c.moment) b.turns (t ∷ []) (timed b.turns told.timely) (long t.moment h.timely, tt) in
      front-in-range (put_in acts) p.behind
      (subst IsHistory p.front
      (broken_runs_are_in_range site b.turns t p.next lawful means replies (omega (arith, b.few, bound)) all b.made h.broken p.broken))

  begun : (old new : Outer) (b : Breaks site most old new) → IsHistory (entries_begun site most old new b)
  begun old new (unmade same) = tt
  begun old new (in_turn b) = halted old new b
  begun old new (at_end b) = let told = b.tells in whole b.status b.turns b.acts told.timely b.run

  pub puts_in_range : (stop : Stop) (old new : Outer) (s : Serves site most stop old new) → IsHistory (entries_put site most stop old new s)
  puts_in_range Idle old new (run, calm) = let told = run.tells in whole 0 run.turns run.acts told.timely run.run
  puts_in_range TurnsSpent old new (run, calm) = let told = run.tells in whole 3 run.turns run.acts told.timely run.run
  puts_in_range Outside old new (breaks, fault) = begun old new breaks
  puts_in_range Memory old new (breaks, calm) = begun old new breaks
