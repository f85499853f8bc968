-- One request of a connection is handled.
use Rattle.std.proofs.Common.{◌≡◌, inl, ℕ, true, false, List, [], ◌∷◌, take, Option, Some, None, refl, sym, subst, append-nil}
use Rattle.std.specs.Prelude.{Result, Ok, Err, IfOk, OnOk, slice_get}
use Rattle.std.specs.List.{AllByRecursion}
use Rattle.rip_http.specs.Stream.{takes, refuses, IsNext}
use Rattle.rip_http.specs.declared.request.Message.{Message}
use Rattle.rip_http.specs.declared.request.RefusedHead.{RefusedHead}
use Rattle.rip_log.specs.Entries.{Recorded}
use Rattle.rip_history.specs.Answering.{decided_owed}
use Rattle.rip_history.specs.Connections.{Connection as Link, after_answer}
use Rattle.rip_history.specs.Course.{Handled}
use Rattle.rip_history.specs.Requests.{page, early, decide}
use Rattle.rip_history.specs.Run.{Site, State, refused, message, Handling, IsQuiet, IsAtFront, taken, answered_or_owed, after_handling, handling_acts, handlings_acts}
use Rattle.rip_history.specs.Stages.{Stage}
use Rattle.rip_server.specs.Acts.{Seen}
use Rattle.rip_server.specs.Links.{AreRising}
use Rattle.rip_server.specs.declared.halt.Halt.{Halt}
use Rattle.rip_server.proofs.ActLemmas.{stopped_none}
use Rattle.rip_server.specs.Handling.{HandledSo, Messaged, Refused, IsQuietBefore}
use Rattle.rip_server.specs.Turning.{Source}
use Rattle.rip_server.proofs.TurnPlaceLemmas.{is_first, taken_less, refused_before}
use Rattle.rip_server.proofs.SeenLemmas.{acted_as}
use Rattle.rip_server.proofs.SourceLemmas.{gives_none}

-- the connections and sessions after it, and that those before the place have nothing to handle
pub record Stood (s : State) (place : ℕ) (Roll : List Recorded → List Stage → Type 0) (now : List Link) (next : State) : Type 0 where
  pub there : now ≡ (let k = next.connections in k.there)
  pub opened : (let k = next.connections in k.opened) ≡ (let k = s.connections in k.opened)
  pub roll : Roll next.history next.stages
  pub quiet : IsQuietBefore place next

one_acts : (site : Site) (turn time : ℕ) (s : State) (h : Handling) → handlings_acts site turn time s (h ∷ []) ≡ handling_acts site turn time s h
one_acts site turn time s h = append-nil (handling_acts site turn time s h)

abbrev quiet_there : ℕ → List Link → Type 0
quiet_there place cs = AllByRecursion IsQuiet (take place cs)

pub handled_message : (site : Site) (turn time : ℕ) (s : State) (place n : ℕ) (d : Link) (m : Message) (r : Result (Unit {0}) Halt)
    (Roll : List Recorded → List Stage → Type 0) (now : List Link) (old new : Seen) (w x : Source)
    → AreRising (let k = s.connections in k.there) (let k = s.connections in k.opened) → IsQuietBefore place s
    → slice_get (let k = s.connections in k.there) place ≡ Some d → d.owed ≡ None → IsNext d.unread (takes n m)
    → Messaged site.limit turn time d.number m s.history s.stages Roll r (taken d.number n (let k = s.connections in k.there)) now old new w x
    → HandledSo site turn time s r (λ _ next. Stood s place Roll now next) old new w x
handled_message site turn time s place n d m r Roll now old new w x rising quiet at free next messaged = record {
  handlings = h ∷ [];
  words = messaged.words;
  handled = (is_first there place d h quiet at front, tt);
  draws_so = ([], messaged.draws_so, refl);
  gives = messaged.gives;
  acts = acted_as r (handling_acts site turn time s h) (handlings_acts site turn time s (h ∷ [])) old new (one_acts site turn time s h) messaged.acts;
  after = ended r messaged.after;
}
  where
    there : List Link
    there = let k = s.connections in k.there

    h : Handling
    h = record { connection = d.number; size = n; arrived = message m messaged.handled; gone = messaged.gone }

    front : IsAtFront d h
    front = record { connection = refl; free = free; next = next; asked = messaged.asked }

    decided_so : Option ℕ
    decided_so = decided_owed (decide site.limit s.history messaged.handled.asked messaged.handled.drawn messaged.handled.lack)

    before_place : take place (answered_or_owed d.number messaged.gone m.close decided_so (taken d.number n there)) ≡ take place there
    before_place =
        let less = taken_less there (let k = s.connections in k.opened) place n d messaged.gone m.close decided_so rising at in less.before

    ended : (q : Result (Unit {0}) Halt)
        → OnOk q ((now ≡ answered_or_owed d.number messaged.gone m.close decided_so (taken d.number n there))
        × Roll (let y = after_handling site turn time s h in y.history) (let y = after_handling site turn time s h in y.stages))
        → IfOk q (λ _. Stood s place Roll now (after_handling site turn time s h))
    ended (Ok done) (is, roll) = record {
      there = is;
      opened = refl;
      roll = roll;
      quiet = subst (AllByRecursion IsQuiet) (sym before_place) quiet;
    }
    ended (Err halt) e = tt

pub handled_refused : (site : Site) (turn time : ℕ) (s : State) (place n : ℕ) (d : Link) (head : RefusedHead) (r : Result (Unit {0}) Halt)
    (Roll : List Recorded → List Stage → Type 0) (now : List Link) (old new : Seen) (w : Source)
    → AreRising (let k = s.connections in k.there) (let k = s.connections in k.opened) → IsQuietBefore place s
    → slice_get (let k = s.connections in k.there) place ≡ Some d → d.owed ≡ None → IsNext d.unread (refuses n head)
    → Roll s.history s.stages → Refused d.number head r (let k = s.connections in k.there) now old new
    → HandledSo site turn time s r (λ _ next. Stood s place Roll now next) old new w w
handled_refused site turn time s place n d head r Roll now old new w rising quiet at free next roll answered = record {
  handlings = h ∷ [];
  words = [];
  handled = (is_first there place d h quiet at front, tt);
  draws_so = refl;
  gives = gives_none w;
  acts = acted_as r (handling_acts site turn time s h) (handlings_acts site turn time s (h ∷ [])) old new (one_acts site turn time s h) answered.acts;
  after = ended r answered.after;
}
  where
    there : List Link
    there = let k = s.connections in k.there

    h : Handling
    h = record { connection = d.number; size = n; arrived = refused head; gone = answered.gone }

    front : IsAtFront d h
    front = record { connection = refl; free = free; next = next; asked = tt }

    before_place : take place (after_answer answered.gone true d.number there) ≡ take place there
    before_place = refused_before there (let k = s.connections in k.opened) place d answered.gone rising at

    ended : (q : Result (Unit {0}) Halt) → OnOk q (now ≡ after_answer answered.gone true d.number there)
        → IfOk q (λ _. Stood s place Roll now (after_handling site turn time s h))
    ended (Ok done) is = record {
      there = is;
      opened = refl;
      roll = roll;
      quiet = subst (AllByRecursion IsQuiet) (sym before_place) quiet;
    }
    ended (Err halt) e = tt

-- memory is wanting for the message that is there
pub handled_memory : {A : Type 0} (site : Site) (turn time : ℕ) (s : State) (place n : ℕ) (d : Link) (m : Message) (halt : Halt) (After : A → State → Type 0)
    (seen : Seen) (w : Source) → IsQuietBefore place s
    → slice_get (let k = s.connections in k.there) place ≡ Some d → d.owed ≡ None → IsNext d.unread (takes n m)
    → HandledSo site turn time s (Err halt) After seen seen w w
handled_memory site turn time s place n d m halt After seen w quiet at free next = record {
  handlings = h ∷ [];
  words = [];
  handled = (is_first (let k = s.connections in k.there) place d h quiet at front, tt);
  draws_so = ([], refl, refl);
  gives = gives_none w;
  acts = stopped_none (handlings_acts site turn time s (h ∷ [])) seen;
  after = tt;
}
  where
    wanting : Handled
    wanting = record { asked = page; drawn = record { id = 0; seed = 0 }; lack = early }

    h : Handling
    h = record { connection = d.number; size = n; arrived = message m wanting; gone = false }

    front : IsAtFront d h
    front = record { connection = refl; free = free; next = next; asked = inl refl }
