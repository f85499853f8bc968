-- What is decided, as it is told and comes.
use Rattle.std.proofs.Common.{◌≡◌, inl, ℕ, ◌-◌, Bool, true, false, cond, not, ◌&&◌, List, ◌++◌, Option, Some, None, refl, ap, subst, ◌∙◌}
use Rattle.std.proofs.lemmas.Bool.{eqb-true}
use Rattle.std.specs.Prelude.{Result, Ok, Err, IfOk, nat_lt, option_map, if◌then◌else◌}
use Rattle.std.specs.Int.{from_be_bytes, w128}
use Rattle.rip_log.specs.Entries.{Recorded}
use Rattle.rip_base.specs.declared.memory.NoMemory.{NoMemory}
use Rattle.rip_history.specs.Course.{decided_entries}
use Rattle.rip_history.specs.Decisions.{batch_decision}
use Rattle.rip_history.specs.Standings.{has_done, is_busy, is_live}
use Rattle.rip_history.specs.declared.decision.BatchDecision.TheVariants as again
use Rattle.rip_history.specs.declared.standing.Standing.{Standing}
use Rattle.rip_history.specs.Requests.{Decision, answers, named_by}
use Rattle.rip_history.specs.Run.{decided_stages}
use Rattle.rip_history.specs.Stages.{Stage}
use Rattle.rip_server.specs.Deciding.{Tells, Comes, ComesOr}
use Rattle.rip_server.specs.declared.turn.decide.Decided.{Decided}
use Rattle.rip_server.proofs.DecideLemmas.{comes_refused}

pub told_of : (turn time : ℕ) (close : Bool) (h : List Recorded) (stages : List Stage) (After : List Recorded → List Stage → Type 0) (d : Decision)
    (r : Result Decided NoMemory) → IfOk r (Tells turn time close d) → After (h ++ decided_entries turn time d) (decided_stages time d stages)
    → IfOk r (Comes turn time close h stages After d)
told_of turn time close h stages After d (Ok told) tells after = record { tells = tells; after = after }
told_of turn time close h stages After d (Err e) tells after = tt

pub comes_as : (turn time : ℕ) (close : Bool) (h : List Recorded) (stages : List Stage) (After : List Recorded → List Stage → Type 0) (d e : Decision)
    (r : Result Decided NoMemory) → e ≡ d → IfOk r (Comes turn time close h stages After e) → ComesOr turn time close h stages After d r
comes_as turn time close h stages After d e r same comes = record { given = e; is = inl same; comes = comes }

pub comes_at : (turn time : ℕ) (close : Bool) (h : List Recorded) (stages : List Stage) (After : List Recorded → List Stage → Type 0) (d e : Decision)
    (r : Result Decided NoMemory) → e ≡ d → IfOk r (Comes turn time close h stages After e) → IfOk r (Comes turn time close h stages After d)
comes_at turn time close h stages After d e r same comes = subst (λ (x : Decision). IfOk r (Comes turn time close h stages After x)) same comes

-- an answer at once
pub refused_as : (turn time code : ℕ) (close : Bool) (body : List ℕ) (h : List Recorded) (stages : List Stage) (After : List Recorded → List Stage → Type 0)
    (d : Decision) (r : Result Decided NoMemory) → answers code body ≡ d → IfOk r (Tells turn time close (answers code body)) → After h stages
    → ComesOr turn time close h stages After d r
refused_as turn time code close body h stages After d r same tells after =
    comes_as turn time close h stages After d (answers code body) r same (comes_refused turn time code close body h stages After r tells after)

pub refused_at : (turn time code : ℕ) (close : Bool) (body : List ℕ) (h : List Recorded) (stages : List Stage) (After : List Recorded → List Stage → Type 0)
    (d : Decision) (r : Result Decided NoMemory) → answers code body ≡ d → IfOk r (Tells turn time close (answers code body)) → After h stages
    → IfOk r (Comes turn time close h stages After d)
refused_at turn time code close body h stages After d r same tells after =
    comes_at turn time close h stages After d (answers code body) r same (comes_refused turn time code close body h stages After r tells after)

-- an answer of another body
pub body_is : (turn time code : ℕ) (close : Bool) (body other : List ℕ) (told : Decided) → body ≡ other → Tells turn time close (answers code body) told
    → Tells turn time close (answers code other) told
body_is turn time code close body other told same tells = subst (λ (b : List ℕ). Tells turn time close (answers code b) told) same tells

-- what names no session
pub none_named : (o : Option (List ℕ)) (h : List Recorded) → ((u : List ℕ) → o ≡ Some u → ⊥) → None ≡ named_by (option_map (from_be_bytes w128) o) h
none_named None h never = refl
none_named (Some u) h never = absurd (never u refl)

-- ---- a batch that is answered again is the last that was done

never_again : (lives busy old gap : Bool) → again.Repeat ≡ cond (not lives) again.Gone (cond busy again.Busy (cond old again.Old (cond gap again.Gap again.Admit))) → ⊥
never_again false busy old gap e = cc
never_again true true old gap e = cc
never_again true false true gap e = cc
never_again true false false true e = cc
never_again true false false false e = cc

was_done : (done : Option ℕ) (number : ℕ) → has_done done number ≡ true → done ≡ Some number
was_done None number e = absurd (let f : false ≡ true = e in cc)
was_done (Some last) number e = ap (λ (n : ℕ). Some n) (eqb-true last number e)

both_true : (a b : Bool) → (a && b) ≡ true → b ≡ true
both_true true b e = e
both_true false b e = absurd (let f : false ≡ true = e in cc)

first_true : (a b : Bool) → (a && b) ≡ true → a ≡ true
first_true true b e = refl
first_true false b e = e

repeats : (s : Standing) (number : ℕ) → again.Repeat ≡ batch_decision s number → (is_live s && has_done s.done number) ≡ true
repeats s number e = by (is_live s && has_done s.done number) refl
  where
    by : (b : Bool) → (is_live s && has_done s.done number) ≡ b → (is_live s && has_done s.done number) ≡ true
    by true same = same
    by false same =
        absurd (never_again (is_live s) (is_busy s) (nat_lt number s.last) (nat_lt 1 (number - s.last))
        (e ∙ ap (λ (b : Bool). if b then again.Repeat else if not (is_live s) then again.Gone else if is_busy s then again.Busy else if nat_lt number s.last then again.Old
        else if nat_lt 1 (number - s.last) then again.Gap else again.Admit) same))

pub repeats_done : (s : Standing) (number : ℕ) → again.Repeat ≡ batch_decision s number → s.done ≡ Some number
repeats_done s number e = was_done s.done number (both_true (is_live s) (has_done s.done number) (repeats s number e))

pub repeats_live : (s : Standing) (number : ℕ) → again.Repeat ≡ batch_decision s number → is_live s ≡ true
repeats_live s number e = first_true (is_live s) (has_done s.done number) (repeats s number e)
