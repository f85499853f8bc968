-- Requests that are handled one after another.
use Rattle.std.proofs.Common.{◌≡◌, ℕ, Bool, true, false, List, [], ◌∷◌, ◌++◌, refl, sym, ap, subst, ◌∙◌, append_assoc}
use Rattle.std.specs.Prelude.{Result, Ok, Err, IfOk}
use Rattle.std.specs.List.{cons_option}
use Rattle.rip_history.specs.Connections.{Act}
use Rattle.rip_history.specs.Course.{draws, Draws, HandledDraw}
use Rattle.rip_history.specs.Requests.{Drawn}
use Rattle.rip_history.specs.Run.{Site, State, Arrived, refused, message, Handling, after_arrived, after_handling, after_handlings, handling_acts, handlings_acts, AreHandledSo, asked_of, asked_in}
use Rattle.rip_server.specs.Acts.{Seen}
use Rattle.rip_server.specs.declared.halt.Halt.{Halt}
use Rattle.rip_server.proofs.ActLemmas.{did_none}
use Rattle.rip_server.specs.Handling.{HandledSo}
use Rattle.rip_server.specs.Turning.{Source}
use Rattle.rip_server.proofs.SeenLemmas.{acted_then, acted_as}
use Rattle.rip_server.proofs.SourceLemmas.{gives_none, gives_then}

after-join : (site : Site) (turn time : ℕ) (s : State) (hs gs : List Handling)
    → after_handlings site turn time s (hs ++ gs) ≡ after_handlings site turn time (after_handlings site turn time s hs) gs
after-join site turn time s [] gs = refl
after-join site turn time s (h ∷ hs) gs = after-join site turn time (after_handling site turn time s h) hs gs

so-join : (site : Site) (turn time : ℕ) (s : State) (hs gs : List Handling) → AreHandledSo site turn time s hs
    → AreHandledSo site turn time (after_handlings site turn time s hs) gs → AreHandledSo site turn time s (hs ++ gs)
so-join site turn time s [] gs p q = q
so-join site turn time s (h ∷ hs) gs p q = (p.0, so-join site turn time (after_handling site turn time s h) hs gs p.1 q)

acts-join : (site : Site) (turn time : ℕ) (s : State) (hs gs : List Handling)
    → handlings_acts site turn time s (hs ++ gs) ≡ handlings_acts site turn time s hs ++ handlings_acts site turn time (after_handlings site turn time s hs) gs
acts-join site turn time s [] gs = refl
acts-join site turn time s (h ∷ hs) gs =
    let next = after_handling site turn time s h in
    ap (λ (t : List Act). handling_acts site turn time s h ++ t) (acts-join site turn time next hs gs)
    ∙ sym (append_assoc (handling_acts site turn time s h) (handlings_acts site turn time next hs) (handlings_acts site turn time (after_handlings site turn time next hs) gs))

draw-more : (b : Bool) (drawn : Drawn) (words left more : List ℕ) → Draws b drawn words left → Draws b drawn (words ++ more) (left ++ more)
draw-more true drawn words left more (first, second, third, e, d) = (first, second, third, ap (λ (ws : List ℕ). ws ++ more) e, d)
draw-more false drawn words left more e = ap (λ (ws : List ℕ). ws ++ more) e

-- the words of requests, and those of the ones behind them
draws-join : (site : Site) (turn time : ℕ) (s : State) (hs gs : List Handling) (words more : List ℕ)
    → HandledDraw site.limit turn time s.history (asked_in hs) words []
    → HandledDraw site.limit turn time (let x = after_handlings site turn time s hs in x.history) (asked_in gs) more []
    → HandledDraw site.limit turn time s.history (asked_in (hs ++ gs)) (words ++ more) []
draws-join site turn time s [] gs words more p q =
    subst (λ (us : List ℕ). HandledDraw site.limit turn time s.history (asked_in gs) (us ++ more) []) (sym p) q
draws-join site turn time s (h ∷ hs) gs words more p q = by h.arrived (λ next us. draws-join site turn time next hs gs us more) p q
  where
    by : (a : Arrived)
        → ((next : State) (us : List ℕ) → HandledDraw site.limit turn time next.history (asked_in hs) us []
        → HandledDraw site.limit turn time (let x = after_handlings site turn time next hs in x.history) (asked_in gs) more []
        → HandledDraw site.limit turn time next.history (asked_in (hs ++ gs)) (us ++ more) [])
        → HandledDraw site.limit turn time s.history (cons_option (asked_of a) (asked_in hs)) words []
        → HandledDraw site.limit turn time
        (let x = after_handlings site turn time (after_arrived site turn time h.connection h.size h.gone s a) hs in x.history) (asked_in gs) more []
        → HandledDraw site.limit turn time s.history (cons_option (asked_of a) (asked_in (hs ++ gs))) (words ++ more) []
    by (refused r) rest p q = rest (after_arrived site turn time h.connection h.size h.gone s (refused r)) words p q
    by (message m x) rest (behind, d, p) q = (
      behind ++ more,
      draw-more (draws site.limit s.history x.asked x.lack) x.drawn words behind more d,
      rest (after_arrived site turn time h.connection h.size h.gone s (message m x)) behind p q,
    )

-- ---- what is handled so

pub handled_none : {A : Type 0} (site : Site) (turn time : ℕ) (s : State) (a : A) (After : A → State → Type 0) (seen : Seen) (words : Source) → After a s
    → HandledSo site turn time s (Ok a) After seen seen words words
handled_none site turn time s a After seen words after = record {
  handlings = [];
  words = [];
  handled = tt;
  draws_so = refl;
  gives = gives_none words;
  acts = did_none seen;
  after = after;
}

-- requests were handled, and then others
pub handled_then : {A B : Type 0} (site : Site) (turn time : ℕ) (s : State) (a : A) (r : Result B Halt) (Mid : A → State → Type 0) (After : B → State → Type 0)
    (old mid new : Seen) (w x y : Source) → (first : HandledSo site turn time s (Ok a) Mid old mid w x)
    → HandledSo site turn time (after_handlings site turn time s first.handlings) r After mid new x y
    → HandledSo site turn time s r After old new w y
handled_then {B = B} site turn time s a r Mid After old mid new w x y first second = record {
  handlings = first.handlings ++ second.handlings;
  words = first.words ++ second.words;
  handled = so-join site turn time s first.handlings second.handlings first.handled second.handled;
  draws_so = draws-join site turn time s first.handlings second.handlings first.words second.words first.draws_so second.draws_so;
  gives = gives_then first.words second.words w x y first.gives second.gives;
  acts = acted_as r _ (handlings_acts site turn time s (first.handlings ++ second.handlings)) old new
      (acts-join site turn time s first.handlings second.handlings)
      (acted_then r (handlings_acts site turn time s first.handlings)
      (handlings_acts site turn time (after_handlings site turn time s first.handlings) second.handlings) old mid new first.acts second.acts);
  after = ended r second.after;
}
  where
    ended : (q : Result B Halt)
        → IfOk q (λ b. After b (after_handlings site turn time (after_handlings site turn time s first.handlings) second.handlings))
        → IfOk q (λ b. After b (after_handlings site turn time s (first.handlings ++ second.handlings)))
    ended (Ok b) h = subst (After b) (sym (after-join site turn time s first.handlings second.handlings)) h
    ended (Err halt) h = tt
