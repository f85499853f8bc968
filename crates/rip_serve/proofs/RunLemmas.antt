-- Runs are made of turns.
use Rattle.std.proofs.Common.{◌≡◌, ℕ, ◌+◌, ◌<◌, ◌≤◌, List, [], ◌∷◌, ◌++◌, length, Option, Some, refl, sym, ap, ◌∙◌, subst, arith, append-nil}
use Rattle.std.specs.Prelude.{Result, Ok, Err, IsErr}
use Rattle.rip_outer.specs.Outside.{also, Front}
use Rattle.rip_outer.specs.declared.connections.TraceKnock.{TraceKnock}
use Rattle.rip_outer.proofs.Composing.{also-also}
use Rattle.rip_log.specs.Entries.{ended, entry_text}
use Rattle.rip_log.specs.Histories.{history_text}
use Rattle.rip_history.specs.Connections.{Act, puts, put_in, sent_in}
use Rattle.rip_history.specs.Run.{Site, State, first_state, Coming}
use Rattle.rip_history.specs.Runs.{after_turns, turns_acts, AreTurns, GoOn, over, spent}
use Rattle.rip_server.specs.Acts.{Seen}
use Rattle.rip_server.specs.declared.halt.Halt.{Halt}
use Rattle.rip_server.specs.declared.halt.Halt.TheVariants as halts
use Rattle.rip_server.specs.Turning.{Source, Outer, Gives, Turned, Halted, Faults}
use Rattle.rip_server.specs.declared.turn.server.TurnEnd.{TurnEnd}
use Rattle.rip_server.specs.declared.turn.server.TurnEnd.TheVariants.{On, Over}
use Rattle.rip_serve.specs.Making.{status_for, stop_for, MakesTurns, MakesTo, RunsTo}
use Rattle.rip_serve.specs.Serving.{moments_of, words_of, AreKnocks, Ran, BreaksInTurn, OnlyPuts, Breaks, at_end, Serves}
use Rattle.rip_serve.specs.declared.serving.Stop.{Stop}
use Rattle.rip_serve.specs.declared.serving.Stop.TheVariants.{Idle, TurnsSpent}
use Rattle.rip_serve.proofs.TellLemmas.{EachTold, all_told, told_more, log-append, sent-append}
use Rattle.rip_serve.proofs.TurnLemmas.{after_more, turns_more, go_on_more, ends_over, length_more}

-- the turns so far, none of which is the last, and that the server stands so
pub record Went (site : Site) (made : ℕ) (Stands : State → Type 0) (old new : Outer) : Type 0 where
  pub turns : List Coming
  pub count : made ≡ length turns
  pub are_turns : AreTurns site 1 first_state turns
  pub go_on : GoOn site 1 first_state turns
  pub stands : Stands (after_turns site 1 first_state turns)
  pub told : EachTold site 1 first_state turns old new

pub went_none : (site : Site) (made : ℕ) (Stands : State → Type 0) (old : Outer) → made ≡ 0 → Stands first_state → Went site made Stands old old
went_none site made Stands old e stands = record {
  turns = [];
  count = e;
  are_turns = tt;
  go_on = tt;
  stands = stands;
  told = refl;
}

behind : (made n : ℕ) → made ≡ n → made + 1 ≡ 1 + n
behind made n e = omega (arith, e)

more : (made n m : ℕ) → made ≡ n → m ≡ n + 1 → made + 1 ≡ m
more made n m e f = omega (arith, e, f)

-- one turn more
pub went_on : (site : Site) (made next : ℕ) (Before After : State → Type 0) (old mid new : Outer) (w : Went site made Before old mid) (end : TurnEnd)
    → end ≡ On → next ≡ made + 1 → Turned site (made + 1) (after_turns site 1 first_state w.turns) end After mid new → Went site next After old new
went_on site made next Before After old mid new w end on e turned =
    let t : Turned site (made + 1) (after_turns site 1 first_state w.turns) On After mid new =
    subst (λ (x : TurnEnd). Turned site (made + 1) (after_turns site 1 first_state w.turns) x After mid new) on turned in
    let n = behind made (length w.turns) w.count in
    record {
      turns = w.turns ++ t.coming ∷ [];
      count = e ∙ more made (length w.turns) (length (w.turns ++ t.coming ∷ [])) w.count (length_more w.turns t.coming);
      are_turns = turns_more site 1 (made + 1) first_state w.turns t.coming n w.are_turns t.turn_is;
      go_on = go_on_more site 1 (made + 1) first_state w.turns t.coming n w.go_on t.ends;
      stands = subst After (sym (after_more site 1 (made + 1) first_state w.turns t.coming n)) t.stands;
      told = told_more site 1 (made + 1) first_state w.turns t.coming old mid new n w.told t.tells;
    }

-- the last turn
pub went_over : (site : Site) (most made next : ℕ) (Before After : State → Type 0) (old mid new : Outer) (w : Went site made Before old mid) (end : TurnEnd)
    → end ≡ Over → next ≡ made + 1 → made < most → Turned site (made + 1) (after_turns site 1 first_state w.turns) end After mid new
    → MakesTurns site most (status_for Over) next old new
went_over site most made next Before After old mid new w end last e few turned =
    let t : Turned site (made + 1) (after_turns site 1 first_state w.turns) Over After mid new =
    subst (λ (x : TurnEnd). Turned site (made + 1) (after_turns site 1 first_state w.turns) x After mid new) last turned in
    let n = behind made (length w.turns) w.count in
    let ts = w.turns ++ t.coming ∷ [] in
    let long = more made (length w.turns) (length ts) w.count (length_more w.turns t.coming) in
    let at_most : length ts ≤ most = omega (arith, long, few) in
    record {
      turns = ts;
      count = e ∙ long;
      are_turns = turns_more site 1 (made + 1) first_state w.turns t.coming n w.are_turns t.turn_is;
      stops = over (ends_over site 1 (made + 1) first_state w.turns t.coming n w.go_on t.ends) at_most;
      tells = all_told site ts old new (told_more site 1 (made + 1) first_state w.turns t.coming old mid new n w.told t.tells);
    }

-- no turn more
pub went_spent : (site : Site) (most made : ℕ) (Stands : State → Type 0) (old new : Outer) → Went site made Stands old new → made ≡ most
    → MakesTurns site most (status_for On) made old new
went_spent site most made Stands old new w e = record {
  turns = w.turns;
  count = w.count;
  are_turns = w.are_turns;
  stops = spent w.go_on (ap Some (sym e ∙ w.count));
  tells = all_told site w.turns old new w.told;
}

-- a turn that breaks off
pub went_broken : (site : Site) (most made : ℕ) (Stands : State → Type 0) (old mid new : Outer) (w : Went site made Stands old mid) → made < most
    → Halted site (made + 1) (after_turns site 1 first_state w.turns) mid new → BreaksInTurn site most old new
went_broken site most made Stands old mid new w few h = record {
  turns = w.turns;
  made = w.are_turns;
  go_on = w.go_on;
  few = subst (λ (n : ℕ). n < most) w.count few;
  between = mid;
  tells = all_told site w.turns old mid w.told;
  last = subst (λ (n : ℕ). Halted site n (after_turns site 1 first_state w.turns) mid new) (ap (λ (n : ℕ). n + 1) w.count) h;
}

-- what stops has broken off in a turn
pub makes_err : (site : Site) (most made : ℕ) (r : Result TurnEnd Halt) (old new : Outer) → IsErr r → BreaksInTurn site most old new
    → MakesTo site most r made old new
makes_err site most made (Ok end) old new e b = cc
makes_err site most made (Err halt) old new e b = b

-- ---- the last line

log-end : (acts : List Act) (turn status : ℕ)
    → history_text (put_in (acts ++ puts (ended turn status) ∷ [])) ≡ history_text (put_in acts) ++ entry_text (ended turn status)
log-end acts turn status =
    log-append acts (puts (ended turn status) ∷ []) ∙ ap (λ (t : List ℕ). history_text (put_in acts) ++ t) (append-nil (entry_text (ended turn status)))

sent-end : (c : ℕ) (acts : List Act) (turn status : ℕ) → sent_in c (acts ++ puts (ended turn status) ∷ []) ≡ sent_in c acts
sent-end c acts turn status = sent-append c acts (puts (ended turn status) ∷ []) ∙ append-nil (sent_in c acts)

pub ran : (site : Site) (most status made : ℕ) (old mid new : Outer) → MakesTurns site most status made old mid
    → new.seen.held ≡ also (entry_text (ended made status)) mid.seen.held → OnlyPuts mid new → Ran site most status old new
ran site most status made old mid new m put only =
    let before = turns_acts site 1 first_state m.turns in
    let last = entry_text (ended (length m.turns) status) in
    let acts = before ++ puts (ended (length m.turns) status) ∷ [] in
    record {
      turns = m.turns;
      acts = acts;
      run = record { turns = m.are_turns; stops = m.stops; done = refl };
      tells = record {
        held = put ∙ ap (λ (n : ℕ). also (entry_text (ended n status)) mid.seen.held) m.count
            ∙ ap (also last) m.tells.held ∙ also-also (history_text (put_in before)) last old.seen.held
            ∙ ap (λ (t : List ℕ). also t old.seen.held) (sym (log-end before (length m.turns) status));
        sent = λ c. ap (λ (s : Seen). s.sent c) only.seen ∙ m.tells.sent c
            ∙ ap (λ (t : List ℕ). also t (old.seen.sent c)) (sym (sent-end c before (length m.turns) status));
        told = ap (λ (s : Seen). s.telling.told) only.seen ∙ m.tells.told;
        knocks = subst (λ (left : Option (List TraceKnock)). AreKnocks site 1 first_state m.turns old.seen.telling.left left) (sym (ap (λ (s : Seen). s.telling.left) only.seen)) m.tells.knocks;
        shut = λ xs is. ap (λ (s : Seen). s.shut) only.seen ∙ m.tells.shut xs is;
        busy = m.tells.busy;
        asks = m.tells.asks;
        asked = ap (λ (s : Seen). s.asked) only.seen ∙ m.tells.asked;
        moments = subst (λ (s : Source). Gives (moments_of m.turns) old.clock s) (sym only.clock) m.tells.moments;
        timely = m.tells.timely;
        words = subst (λ (s : Source). Gives (words_of m.turns) old.words s) (sym only.words) m.tells.words;
      };
    }

pub cut_off : (site : Site) (most status made : ℕ) (old mid new : Outer) → MakesTurns site most status made old mid
    → Front (entry_text (ended made status)) mid.seen.held new.seen.held → OnlyPuts mid new → Breaks site most old new
cut_off site most status made old mid new m put only = at_end record {
  turns = m.turns;
  status = status;
  acts = turns_acts site 1 first_state m.turns ++ puts (ended (length m.turns) status) ∷ [];
  run = record { turns = m.are_turns; stops = m.stops; done = refl };
  between = mid;
  tells = m.tells;
  line = subst (λ (n : ℕ). Front (entry_text (ended n status)) mid.seen.held new.seen.held) m.count put;
  others = only;
}

pub runs_err : (site : Site) (most : ℕ) (r : Result TurnEnd Halt) (old new : Outer) → IsErr r → Breaks site most old new → RunsTo site most r old new
runs_err site most (Ok end) old new e b = cc
runs_err site most (Err halt) old new e b = b

-- ---- what serving comes to

-- a run that was made to its end
abbrev stop_end : TurnEnd → Stop
stop_end Over = Idle
stop_end On = TurnsSpent

serves-at : (site : Site) (most : ℕ) (old new : Outer) (end : TurnEnd) → Ran site most (status_for end) old new
    → Faults {A = TurnEnd} (Ok end) old.door_faults new.door_faults old.sink_faults new.sink_faults → Serves site most (stop_end end) old new
serves-at site most old new Over r f = (r, record { door = f.0; sink = f.1 })
serves-at site most old new On r f = (r, record { door = f.0; sink = f.1 })

pub serves_idle : (site : Site) (most : ℕ) (old new : Outer) (end : TurnEnd) → end ≡ Over → Ran site most (status_for end) old new
    → Faults {A = TurnEnd} (Ok end) old.door_faults new.door_faults old.sink_faults new.sink_faults → Serves site most Idle old new
serves_idle site most old new end e r f = subst (λ (x : TurnEnd). Serves site most (stop_end x) old new) e (serves-at site most old new end r f)

pub serves_spent : (site : Site) (most : ℕ) (old new : Outer) (end : TurnEnd) → end ≡ On → Ran site most (status_for end) old new
    → Faults {A = TurnEnd} (Ok end) old.door_faults new.door_faults old.sink_faults new.sink_faults → Serves site most TurnsSpent old new
serves_spent site most old new end e r f = subst (λ (x : TurnEnd). Serves site most (stop_end x) old new) e (serves-at site most old new end r f)

-- a run that broke off
halts-at : (site : Site) (most : ℕ) (old new : Outer) (halt : Halt) → Breaks site most old new
    → Faults {A = TurnEnd} (Err halt) old.door_faults new.door_faults old.sink_faults new.sink_faults → Serves site most (stop_for halt) old new
halts-at site most old new halts.Outside b f = (b, f)
halts-at site most old new halts.Memory b f = (b, record { door = f.0; sink = f.1 })

pub serves_halt : (site : Site) (most : ℕ) (old new : Outer) (halt : Halt) (stop : Stop) → stop ≡ stop_for halt → Breaks site most old new
    → Faults {A = TurnEnd} (Err halt) old.door_faults new.door_faults old.sink_faults new.sink_faults → Serves site most stop old new
serves_halt site most old new halt stop e b f = subst (λ (x : Stop). Serves site most x old new) (sym e) (halts-at site most old new halt b f)
