-- The entries, words and replies of a run.
use Rattle.std.proofs.Common.{◌≡◌, ℕ, ◌+◌, Bool, true, false, List, [], ◌∷◌, ◌++◌, length, map, refl, sym, ap, ◌∙◌, subst, append-nil, append_assoc}
use Rattle.std.specs.List.{cons_option, flat_map, zip}
use Rattle.rip_data.specs.Datum.{Tree}
use Rattle.rip_log.specs.Entries.{Recorded, opened, admitted, served, done, closed, ended}
use Rattle.rip_history.specs.Course.{Handled, decided_entries, handled_entries, turn_entries, entries_from, draws, Draws, HandledDraw, AreDrawn, AreReplies}
use Rattle.rip_history.specs.Parts.{Given}
use Rattle.rip_history.specs.Requests.{Drawn, Decision, answers, opens, admits, closes, decide}
use Rattle.rip_history.specs.Run.{Site, State, busy_in, Arrived, refused, message, Handling, after_arrived, after_handling, after_handlings, asked_of, asked_in, Advance, IsAdvance, done_entries, advance_entries, after_advance, after_advances, AreAdvancedSo, called_so_far, Coming, knocked_at, handled_at, after_turn}
use Rattle.rip_history.specs.Services.{Called, Service, Serving, servings_in, replies_to, served_entry}
use Rattle.rip_history.specs.declared.sessions.Progress.{Progress}
use Rattle.rip_history.specs.declared.sessions.Progress.TheVariants.{Busy, Finished}
use Rattle.rip_history.specs.Runs.{after_turns, AreTurns}
use Rattle.rip_law_history.specs.Legal.{made_in, course_turn, course_turns}

-- ---- requests

-- the entries of what is handled
abbrev arrived_entries : ℕ → ℕ → ℕ → List Recorded → Arrived → List Recorded
arrived_entries limit turn moment h (refused r) = []
arrived_entries limit turn moment h (message m x) = decided_entries turn moment (decide limit h x.asked x.drawn x.lack)

arrived_history : (site : Site) (turn moment c size : ℕ) (gone : Bool) (s : State) (a : Arrived)
    → (let x = after_arrived site turn moment c size gone s a in x.history) ≡ s.history ++ arrived_entries site.limit turn moment s.history a
arrived_history site turn moment c size gone s (refused r) = sym (append-nil s.history)
arrived_history site turn moment c size gone s (message m x) = refl

arrived_first : (limit turn moment : ℕ) (h : List Recorded) (a : Arrived) (xs : List Handled)
    → handled_entries limit turn moment h (cons_option (asked_of a) xs)
    ≡ arrived_entries limit turn moment h a ++ handled_entries limit turn moment (h ++ arrived_entries limit turn moment h a) xs
arrived_first limit turn moment h (refused r) xs = ap (λ (g : List Recorded). handled_entries limit turn moment g xs) (sym (append-nil h))
arrived_first limit turn moment h (message m x) xs = refl

-- the history after requests
pub handled_history : (site : Site) (turn moment : ℕ) (s : State) (hs : List Handling)
    → (let x = after_handlings site turn moment s hs in x.history) ≡ s.history ++ handled_entries site.limit turn moment s.history (asked_in hs)
handled_history site turn moment s [] = sym (append-nil s.history)
handled_history site turn moment s (h ∷ hs) =
    let es = arrived_entries site.limit turn moment s.history h.arrived in
    let next = after_handling site turn moment s h in
    let here : next.history ≡ s.history ++ es = arrived_history site turn moment h.connection h.size h.gone s h.arrived in
    handled_history site turn moment next hs
    ∙ ap (λ (g : List Recorded). g ++ handled_entries site.limit turn moment g (asked_in hs)) here
    ∙ append_assoc s.history es (handled_entries site.limit turn moment (s.history ++ es) (asked_in hs))
    ∙ ap (λ (g : List Recorded). s.history ++ g) (sym (arrived_first site.limit turn moment s.history h.arrived (asked_in hs)))

-- the history after sessions went on
pub advanced_history : (turn : ℕ) (s : State) (rest : List Advance)
    → (let x = after_advances turn s rest in x.history) ≡ s.history ++ made_in turn rest
advanced_history turn s [] = sym (append-nil s.history)
advanced_history turn s (a ∷ rest) =
    advanced_history turn (after_advance turn s a) rest ∙ append_assoc s.history (advance_entries turn a) (made_in turn rest)

-- the history after a turn
pub turn_history : (site : Site) (turn : ℕ) (t : Coming) (s : State)
    → (let x = after_turn site turn t s in x.history) ≡ s.history ++ turn_entries site.limit turn s.history (course_turn turn t)
turn_history site turn t s =
    let handled = handled_entries site.limit turn t.moment s.history (asked_in t.handlings) in
    advanced_history turn (handled_at site turn t s) t.advances
    ∙ ap (λ (g : List Recorded). g ++ made_in turn t.advances) (handled_history site turn t.moment (knocked_at t s) t.handlings)
    ∙ append_assoc s.history handled (made_in turn t.advances)

-- the history after turns
pub turns_history : (site : Site) (turn : ℕ) (s : State) (ts : List Coming)
    → (let x = after_turns site turn s ts in x.history) ≡ s.history ++ entries_from site.limit turn s.history (course_turns turn ts)
turns_history site turn s [] = sym (append-nil s.history)
turns_history site turn s (t ∷ ts) =
    let es = turn_entries site.limit turn s.history (course_turn turn t) in
    let next = after_turn site turn t s in
    turns_history site (turn + 1) next ts
    ∙ ap (λ (g : List Recorded). g ++ entries_from site.limit (turn + 1) g (course_turns (turn + 1) ts)) (turn_history site turn t s)
    ∙ append_assoc s.history es (entries_from site.limit (turn + 1) (s.history ++ es) (course_turns (turn + 1) ts))

-- ---- words

draw-more : (b : Bool) (drawn : Drawn) (words left more : List ℕ) → Draws b drawn words left → Draws b drawn (words ++ more) (left ++ more)
draw-more true drawn words left more (first, second, third, e, d) = (first, second, third, ap (λ (ws : List ℕ). ws ++ more) e, d)
draw-more false drawn words left more e = ap (λ (ws : List ℕ). ws ++ more) e

draws-more : (limit turn moment : ℕ) (h : List Recorded) (xs : List Handled) (words left more : List ℕ)
    → HandledDraw limit turn moment h xs words left → HandledDraw limit turn moment h xs (words ++ more) (left ++ more)
draws-more limit turn moment h [] words left more e = ap (λ (ws : List ℕ). ws ++ more) e
draws-more limit turn moment h (x ∷ xs) words left more (behind, d, rest) = (
  behind ++ more,
  draw-more (draws limit h x.asked x.lack) x.drawn words behind more d,
  draws-more limit turn moment (h ++ decided_entries turn moment (decide limit h x.asked x.drawn x.lack)) xs behind left more rest,
)

pub turns_draw : (site : Site) (turn : ℕ) (s : State) (ts : List Coming) → AreTurns site turn s ts
    → AreDrawn site.limit turn s.history (course_turns turn ts) (flat_map (λ (t : Coming). t.words) ts)
turns_draw site turn s [] p = refl
turns_draw site turn s (t ∷ ts) (here, rest) =
    let more = flat_map (λ (t : Coming). t.words) ts in (
      more,
      draws-more site.limit turn t.moment s.history (asked_in t.handlings) t.words [] more here.words,
      subst (λ (h : List Recorded). AreDrawn site.limit (turn + 1) h (course_turns (turn + 1) ts) more) (turn_history site turn t s)
          (turns_draw site (turn + 1) (after_turn site turn t s) ts rest),
    )

-- ---- replies

replies-join : (service : Service) (before : List Called) (xs ys : List Recorded) → AreReplies service before xs
    → AreReplies service (before ++ called_so_far xs) ys → AreReplies service before (xs ++ ys)
replies-join service before [] ys p q = subst (λ (cs : List Called). AreReplies service cs ys) (append-nil before) q
replies-join service before (opened turn session id seed time ∷ xs) ys p q = replies-join service before xs ys p q
replies-join service before (admitted turn session b ∷ xs) ys p q = replies-join service before xs ys p q
replies-join service before (served turn session number k name args time reply ∷ xs) ys p q = (
  p.0,
  replies-join service (before ++ (name, args) ∷ []) xs ys p.1
      (subst (λ (cs : List Called). AreReplies service cs ys) (sym (append_assoc before ((name, args) ∷ []) (called_so_far xs))) q),
)
replies-join service before (done turn session number how ∷ xs) ys p q = replies-join service before xs ys p q
replies-join service before (closed turn session ∷ xs) ys p q = replies-join service before xs ys p q
replies-join service before (ended turn status ∷ xs) ys p q = replies-join service before xs ys p q

decided_replies : (service : Service) (before : List Called) (turn moment : ℕ) (d : Decision) → AreReplies service before (decided_entries turn moment d)
decided_replies service before turn moment (answers code body) = tt
decided_replies service before turn moment (opens n id seed) = tt
decided_replies service before turn moment (admits n b) = tt
decided_replies service before turn moment (closes n body) = tt

arrived_replies : (service : Service) (before : List Called) (limit turn moment : ℕ) (h : List Recorded) (a : Arrived)
    → AreReplies service before (arrived_entries limit turn moment h a)
arrived_replies service before limit turn moment h (refused r) = tt
arrived_replies service before limit turn moment h (message m x) =
    decided_replies service before turn moment (decide limit h x.asked x.drawn x.lack)

abbrev given_at : ℕ → Tree → Given
given_at moment reply = record { time = moment; reply = reply }

abbrev called_as : Serving → Called
called_as s = (s.name, s.args)

abbrev gives : Service → List Called → ℕ → List Serving → List (Serving × Given)
gives service before moment ss = zip ss (map (given_at moment) (replies_to service before (map called_as ss)))

served_replies : (service : Service) (before : List Called) (turn n moment : ℕ) (ss : List Serving)
    → AreReplies service before (map (served_entry turn n) (gives service before moment ss))
served_replies service before turn n moment [] = tt
served_replies service before turn n moment (s ∷ ss) = (refl, served_replies service (before ++ called_as s ∷ []) turn n moment ss)

done_replies : (service : Service) (before : List Called) (turn n number : ℕ) (p : Progress) → AreReplies service before (done_entries turn n number p)
done_replies service before turn n number Busy = tt
done_replies service before turn n number (Finished how) = tt

advance_replies : (site : Site) (turn moment : ℕ) (s : State) (a : Advance) → IsAdvance site moment s a
    → AreReplies site.service (called_so_far s.history) (advance_entries turn a)
advance_replies site turn moment s a is =
    let before = called_so_far s.history in
    let entries : List Given → List Recorded = λ gs. map (served_entry turn a.session) (zip (servings_in a.parts) gs) in
    replies-join site.service before (entries a.given) (done_entries turn a.session (length a.next.batches) a.progress)
    (subst (λ (gs : List Given). AreReplies site.service before (entries gs)) (sym is.replied)
    (served_replies site.service before turn a.session moment (servings_in a.parts)))
    (done_replies site.service (before ++ called_so_far (entries a.given)) turn a.session (length a.next.batches) a.progress)

-- each reply of the history is the service's
abbrev pub Replied : Site → State → Type 0
Replied site s = AreReplies site.service [] s.history

pub handled_replied : (site : Site) (turn moment : ℕ) (s : State) (hs : List Handling) → Replied site s → Replied site (after_handlings site turn moment s hs)
handled_replied site turn moment s [] p = p
handled_replied site turn moment s (h ∷ hs) p =
    let es = arrived_entries site.limit turn moment s.history h.arrived in
    let next = after_handling site turn moment s h in
    handled_replied site turn moment next hs
    (subst (λ (g : List Recorded). AreReplies site.service [] g) (sym (arrived_history site turn moment h.connection h.size h.gone s h.arrived))
    (replies-join site.service [] s.history es p (arrived_replies site.service (called_so_far s.history) site.limit turn moment s.history h.arrived)))

pub advanced_replied : (site : Site) (turn moment : ℕ) (s : State) (ns : List ℕ) (rest : List Advance) → AreAdvancedSo site turn moment s ns rest
    → Replied site s → Replied site (after_advances turn s rest)
advanced_replied site turn moment s [] rest e p = subst (λ (others : List Advance). Replied site (after_advances turn s others)) (sym e) p
advanced_replied site turn moment s (n ∷ ns) [] e p = absurd e
advanced_replied site turn moment s (n ∷ ns) (a ∷ rest) (same, is, more) p =
    advanced_replied site turn moment (after_advance turn s a) ns rest more
    (replies-join site.service [] s.history (advance_entries turn a) p (advance_replies site turn moment s a is))

pub turns_replied : (site : Site) (turn : ℕ) (s : State) (ts : List Coming) → AreTurns site turn s ts → Replied site s
    → Replied site (after_turns site turn s ts)
turns_replied site turn s [] p q = q
turns_replied site turn s (t ∷ ts) (here, rest) q =
    let handled = handled_at site turn t s in
    turns_replied site (turn + 1) (after_turn site turn t s) ts rest
    (advanced_replied site turn t.moment handled (busy_in handled.history) t.advances here.advanced
    (handled_replied site turn t.moment (knocked_at t s) t.handlings q))
