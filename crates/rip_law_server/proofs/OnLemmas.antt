-- A run that breaks off goes on to the end of its last turn.
use Rattle.std.proofs.Common.{◌≡◌, ◌⊎◌, inl, inr, ℕ, suc, ◌+◌, List, [], ◌∷◌, ◌++◌, length, refl, sym, ap, ◌∙◌, subst, arith, append-nil, append_assoc}
use Rattle.rip_history.specs.Connections.{Act, knock_acts, put_in}
use Rattle.rip_history.specs.Course.{HandledDraw}
use Rattle.rip_history.specs.Parts.{IsLawful}
use Rattle.rip_history.specs.Run.{Advance, AreAdvancedSo, AreHandledSo, AreQuiet, Coming, Handling, IsTurn, Site, State, advance_acts, advances_acts, after_advance, after_advances, after_handlings, after_turn, asked_in, busy_in, first_state, handled_at, handlings_acts, knocked_at, turn_acts}
use Rattle.rip_history.specs.Runs.{AreTurns, IsAdvancedFirst, IsBroken, after_turns, turns_acts}
use Rattle.rip_law_history.proofs.EndLemmas.{put-join, turns-puts}
use Rattle.rip_law_history.proofs.FitLemmas.{AllFit, handled_fit}
use Rattle.rip_law_history.proofs.WholeRunLemmas.{run_fits, runs_are_courses}
use Rattle.rip_law_server.specs.Rising.{PartsRise}
use Rattle.rip_law_server.proofs.TurnLemmas.{busy-go}
use Rattle.rip_law_server.specs.Going.{BrokenRunsGoOn, GoesOnTo, with_more}
use Rattle.rip_law_server.proofs.Handling.{acts-join, after-join, draws-join, finishes, handled-join}

-- ---- a turn more

next-number : (turn n : ℕ) → suc n + turn ≡ n + (turn + 1)
next-number turn n = omega arith

none-more : (turn : ℕ) → 0 + turn ≡ turn
none-more turn = omega arith

turns-join : (site : Site) (turn : ℕ) (s : State) (ts : List Coming) (t : Coming) → AreTurns site turn s ts
    → IsTurn site (length ts + turn) (after_turns site turn s ts) t → AreTurns site turn s (ts ++ t ∷ [])
turns-join site turn s [] t are is = (subst (λ (n : ℕ). IsTurn site n s t) (none-more turn) is, tt)
turns-join site turn s (x ∷ ts) t are is = (
  are.0,
  turns-join site (turn + 1) (after_turn site turn x s) ts t are.1
      (subst (λ (n : ℕ). IsTurn site n (after_turns site (turn + 1) (after_turn site turn x s) ts) t) (next-number turn (length ts)) is),
)

turns-acts-join : (site : Site) (turn : ℕ) (s : State) (ts : List Coming) (t : Coming)
    → turns_acts site turn s (ts ++ t ∷ []) ≡ turns_acts site turn s ts ++ turn_acts site (length ts + turn) t (after_turns site turn s ts)
turns-acts-join site turn s [] t =
    append-nil (turn_acts site turn t s) ∙ ap (λ (n : ℕ). turn_acts site n t s) (sym (none-more turn))
turns-acts-join site turn s (x ∷ ts) t =
    let next = after_turn site turn x s in
    let end = after_turns site (turn + 1) next ts in
    let here = turn_acts site turn x s in
    ap (λ (acts : List Act). here ++ acts) (turns-acts-join site (turn + 1) next ts t)
    ∙ sym (append_assoc here (turns_acts site (turn + 1) next ts) (turn_acts site (length ts + (turn + 1)) t end))
    ∙ ap (λ (n : ℕ). (here ++ turns_acts site (turn + 1) next ts) ++ turn_acts site n t end) (sym (next-number turn (length ts)))

advances-acts-join : (site : Site) (turn : ℕ) (s : State) (xs ys : List Advance)
    → advances_acts site turn s (xs ++ ys) ≡ advances_acts site turn s xs ++ advances_acts site turn (after_advances turn s xs) ys
advances-acts-join site turn s [] ys = refl
advances-acts-join site turn s (a ∷ xs) ys =
    let x = after_advance turn s a in
    ap (λ (acts : List Act). advance_acts site turn s a ++ acts) (advances-acts-join site turn x xs ys)
    ∙ sym (append_assoc (advance_acts site turn s a) (advances_acts site turn x xs) (advances_acts site turn (after_advances turn x xs) ys))

-- ---- the last turn

module _ (site : Site) (ts : List Coming) (t : Coming) (acts : List Act) (lawful : IsLawful site.meaning) (rises : PartsRise site.meaning) (b : IsBroken site ts t acts) where
  abbrev turn : ℕ
  turn = length ts + 1

  abbrev s : State
  s = after_turns site 1 first_state ts

  abbrev known : State
  known = knocked_at t s

  abbrev x : State
  x = handled_at site turn t s

  abbrev first : List Act
  first = knock_acts t.knock s.connections ++ handlings_acts site turn t.moment known t.handlings

  -- how the server stands when all is handled
  abbrev at_last : List Handling → State
  at_last more = after_handlings site turn t.moment x more

  on : (more : List Handling) (adv : List Advance) (rest : List Act) → AreHandledSo site turn t.moment x more
      → AreQuiet (let y = at_last more in let k = y.connections in k.there)
      → HandledDraw site.limit turn t.moment x.history (asked_in more) [] []
      → AreAdvancedSo site turn t.moment (at_last more) (busy_in (let y = at_last more in y.history)) (t.advances ++ adv)
      → (first ++ handlings_acts site turn t.moment x more) ++ advances_acts site turn (at_last more) (t.advances ++ adv)
      ≡ (first ++ advances_acts site turn x t.advances) ++ rest
      → GoesOnTo site ts t acts
  on more adv rest handled quiet draws advanced same = record {
    handlings = more;
    advances = adv;
    turns = longer-run;
    front = (b.others ++ rest, whole);
    begins = record {
      course = runs_are_courses site (ts ++ with_more more adv t ∷ []) lawful longer-run;
      front = (
        put_in (b.others ++ rest),
        turns-puts site 1 first_state (ts ++ with_more more adv t ∷ []) ∙ ap put_in whole ∙ put-join acts (b.others ++ rest),
      );
    };
  }
    where
      joined : after_handlings site turn t.moment known (t.handlings ++ more) ≡ at_last more
      joined = after-join site turn t.moment known t.handlings more

      is : IsTurn site turn s (with_more more adv t)
      is = record {
        handled = handled-join site turn t.moment known t.handlings more (let l = b.last in l.handled) handled;
        all = subst (λ (y : State). AreQuiet (let k = y.connections in k.there)) (sym joined) quiet;
        words = draws-join site turn t.moment known t.handlings more t.words [] [] (let l = b.last in l.words) draws;
        advanced = subst (λ (y : State). AreAdvancedSo site turn t.moment y (busy_in y.history) (t.advances ++ adv)) (sym joined) advanced;
      }

      longer-run : AreTurns site 1 first_state (ts ++ with_more more adv t ∷ [])
      longer-run = turns-join site 1 first_state ts (with_more more adv t) b.turns is

      longer : turn_acts site turn (with_more more adv t) s ≡ turn_acts site turn t s ++ rest
      longer =
          (λ i. (knock_acts t.knock s.connections ++ acts-join site turn t.moment known t.handlings more i) ++ advances_acts site turn (joined i) (t.advances ++ adv))
          ∙ ap (λ (xs : List Act). xs ++ advances_acts site turn (at_last more) (t.advances ++ adv))
          (sym (append_assoc (knock_acts t.knock s.connections) (handlings_acts site turn t.moment known t.handlings) (handlings_acts site turn t.moment x more)))
          ∙ same

      whole : turns_acts site 1 first_state (ts ++ with_more more adv t ∷ []) ≡ acts ++ (b.others ++ rest)
      whole =
          turns-acts-join site 1 first_state ts (with_more more adv t)
          ∙ ap (λ (xs : List Act). turns_acts site 1 first_state ts ++ xs) longer
          ∙ sym (append_assoc (turns_acts site 1 first_state ts) (turn_acts site turn t s) rest)
          ∙ ap (λ (xs : List Act). xs ++ rest) b.front ∙ append_assoc acts b.others rest

  -- not all was handled
  handles : t.advances ≡ [] → GoesOnTo site ts t acts
  handles e =
      let f = finishes site turn t.moment (length (let k = x.connections in k.there)) x (omega arith) in
      let more = f.handlings in
      let y = at_last more in
      let fit : AllFit site.meaning (length ts) y.history y.stages =
      subst (λ (z : State). AllFit site.meaning (length ts) z.history z.stages) (after-join site turn t.moment known t.handlings more)
      (handled_fit site lawful (length ts) t.moment known (t.handlings ++ more) (run_fits site ts lawful b.turns)) in
      let g = busy-go site lawful rises (length ts) t.moment y [] fit (inl refl) in
      let acted = handlings_acts site turn t.moment x more in
      let gone = advances_acts site turn y g.0 in
      on more g.0 (acted ++ gone) f.handled f.quiet (f.draws [])
      (subst (λ (went : List Advance). AreAdvancedSo site turn t.moment y (busy_in y.history) (went ++ g.0)) (sym e) g.1)
      (ap (λ (went : List Advance). (first ++ acted) ++ advances_acts site turn y (went ++ g.0)) e
      ∙ append_assoc first acted gone
      ∙ ap (λ (xs : List Act). xs ++ (acted ++ gone)) (sym (append-nil first))
      ∙ ap (λ (went : List Advance). (first ++ advances_acts site turn x went) ++ (acted ++ gone)) (sym e))

  -- some sessions went on
  goes : IsAdvancedFirst site turn t.moment x t.advances → GoesOnTo site ts t acts
  goes a =
      let fit : AllFit site.meaning (length ts) x.history x.stages = handled_fit site lawful (length ts) t.moment known t.handlings (run_fits site ts lawful b.turns) in
      let g = busy-go site lawful rises (length ts) t.moment x t.advances fit (inr a) in
      let did = advances_acts site turn x t.advances in
      let gone = advances_acts site turn (after_advances turn x t.advances) g.0 in
      on [] g.0 gone tt a.quiet refl g.1
      (ap (λ (xs : List Act). xs ++ advances_acts site turn x (t.advances ++ g.0)) (append-nil first)
      ∙ ap (λ (xs : List Act). first ++ xs) (advances-acts-join site turn x t.advances g.0)
      ∙ sym (append_assoc first did gone))

  either : (t.advances ≡ []) ⊎ IsAdvancedFirst site turn t.moment x t.advances → GoesOnTo site ts t acts
  either (inl e) = handles e
  either (inr a) = goes a

pub broken_runs_go_on : BrokenRunsGoOn
broken_runs_go_on site ts t acts lawful rises b = either site ts t acts lawful rises b (let l = b.last in l.advanced)
