-- A turn is its knock, the requests that are handled behind it, and then the busy sessions.
use Rattle.std.proofs.Common.{◌≡◌, inl, inr, ◌⊎◌, ℕ, ◌<◌, ◌^◌, Bool, List, [], ◌∷◌, ◌++◌, Option, None, refl, sym, ap, subst, ◌∙◌, arith, append-nil}
use Rattle.std.specs.Prelude.{Ok, Err}
use Rattle.rip_log.specs.Entries.{Recorded, opened, admitted, served, done, closed, ended}
use Rattle.rip_outer.specs.declared.connections.TraceKnock.{TraceKnock}
use Rattle.rip_history.specs.Connections.{Connections as Links, after_knock, knock_acts}
use Rattle.rip_history.specs.Course.{decided_entries}
use Rattle.rip_history.specs.Requests.{Decision, answers, opens, admits, closes, decide}
use Rattle.rip_history.specs.Run.{Site, State, Arrived, refused, message, Handling, AreQuiet, after_arrived, after_handling, after_handlings, handlings_acts, AreAdvancedSo, after_advances, advances_acts, busy_in, called_so_far, Coming}
use Rattle.rip_history.specs.Services.{Called}
use Rattle.rip_server.specs.Acts.{Seen}
use Rattle.rip_server.specs.declared.halt.Halt.{Halt}
use Rattle.rip_server.proofs.ActLemmas.{did_then, stopped_then, stopped_more}
use Rattle.rip_server.specs.Advancing.{AdvancedSo}
use Rattle.rip_server.specs.Asking.{Knocked, StopsAtKnock}
use Rattle.rip_server.specs.Handling.{HandledSo}
use Rattle.rip_server.specs.Turning.{Outer, Gives, FailsAsked, EndsSo, Turned, at_knock, behind, Halted}
use Rattle.rip_server.specs.declared.turn.server.TurnEnd.{TurnEnd}

-- ---- calls before busy sessions go on

called-join : (h es : List Recorded) → called_so_far (h ++ es) ≡ called_so_far h ++ called_so_far es
called-join [] es = refl
called-join (opened turn session id seed time ∷ h) es = called-join h es
called-join (admitted turn session b ∷ h) es = called-join h es
called-join (served turn session number k name args time reply ∷ h) es = ap (λ (t : List Called). (name, args) ∷ t) (called-join h es)
called-join (done turn session number how ∷ h) es = called-join h es
called-join (closed turn session ∷ h) es = called-join h es
called-join (ended turn status ∷ h) es = called-join h es

decided-calls : (turn time : ℕ) (d : Decision) → called_so_far (decided_entries turn time d) ≡ []
decided-calls turn time (answers code body) = refl
decided-calls turn time (opens n id seed) = refl
decided-calls turn time (admits n b) = refl
decided-calls turn time (closes n body) = refl

arrived-calls : (site : Site) (turn time c size : ℕ) (gone : Bool) (s : State) (a : Arrived)
    → called_so_far (let x = after_arrived site turn time c size gone s a in x.history) ≡ called_so_far s.history
arrived-calls site turn time c size gone s (refused r) = refl
arrived-calls site turn time c size gone s (message m x) =
    let es = decided_entries turn time (decide site.limit s.history x.asked x.drawn x.lack) in
    called-join s.history es
    ∙ ap (λ (t : List Called). called_so_far s.history ++ t) (decided-calls turn time (decide site.limit s.history x.asked x.drawn x.lack))
    ∙ append-nil (called_so_far s.history)

-- requests that are handled serve no call
pub handled_calls : (site : Site) (turn time : ℕ) (s : State) (hs : List Handling)
    → called_so_far (let x = after_handlings site turn time s hs in x.history) ≡ called_so_far s.history
handled_calls site turn time s [] = refl
handled_calls site turn time s (h ∷ hs) =
    handled_calls site turn time (after_handling site turn time s h) hs ∙ arrived-calls site turn time h.connection h.size h.gone s h.arrived

-- ---- a turn that breaks off

pub stops_at_knock : (site : Site) (turn : ℕ) (s : State) (old new : Outer) → FailsAsked s old.seen new.seen ⊎ StopsAtKnock s old.seen new.seen
    → Gives [] old.clock new.clock → Gives [] old.words new.words → Halted site turn s old new
stops_at_knock site turn s old new (inl fails) clock words =
    let t : Coming = record { knock = None; moment = 0; words = []; handlings = []; advances = [] } in
    record {
      coming = t;
      broken = record { handled = tt; words = refl; advanced = inl refl };
      moments = [];
      stops = at_knock refl refl refl refl fails;
      at = inl refl;
      moment = clock;
      timely = omega arith;
      words = words;
    }
stops_at_knock site turn s old new (inr stops) clock words =
    let t : Coming = record { knock = stops.knock; moment = 0; words = []; handlings = []; advances = [] } in
    record {
      coming = t;
      broken = record { handled = tt; words = refl; advanced = inl refl };
      moments = [];
      stops = behind stops.mid stops.knocks
          (stopped_more (knock_acts stops.knock s.connections ++ []) [] stops.mid new.seen
          (stopped_more (knock_acts stops.knock s.connections) [] stops.mid new.seen stops.stopped));
      at = inl refl;
      moment = clock;
      timely = omega arith;
      words = words;
    }

-- how the server stands behind a knock
abbrev pub knocked_so : State → Option TraceKnock → State
knocked_so s knock = record s { connections = after_knock knock s.connections }

pub stops_in_handling : {A : Type 0} (site : Site) (turn time : ℕ) (s : State) (closed : Bool) (halt : Halt) (k : Links) (After : A → State → Type 0)
    (knocked : Seen) (old new : Outer) → (kn : Knocked s closed (λ x. k ≡ x) old.seen knocked)
    → HandledSo site turn time (knocked_so s kn.knock) (Err halt) After knocked new.seen old.words new.words
    → Gives (time ∷ []) old.clock new.clock → time < 2 ^ 53 → Halted site turn s old new
stops_in_handling site turn time s is_closed halt k After knocked old new kn handled clock timely =
    let t : Coming = record { knock = kn.knock; moment = time; words = handled.words; handlings = handled.handlings; advances = [] } in
    let hs = handlings_acts site turn time (knocked_so s kn.knock) handled.handlings in
    record {
      coming = t;
      broken = record { handled = handled.handled; words = handled.draws_so; advanced = inl refl };
      moments = time ∷ [];
      stops = behind kn.mid kn.knocks
          (stopped_more (knock_acts kn.knock s.connections ++ hs) [] kn.mid new.seen
          (stopped_then (knock_acts kn.knock s.connections) hs kn.mid knocked new.seen kn.did handled.acts));
      at = inr refl;
      moment = clock;
      timely = timely;
      words = handled.gives;
    }

pub stops_in_advance : {A : Type 0} (site : Site) (turn time : ℕ) (s : State) (closed : Bool) (a : A) (halt : Halt) (k : Links) (After : A → State → Type 0)
    (Next : State → Type 0) (knocked mid : Seen) (old new : Outer) → (kn : Knocked s closed (λ x. k ≡ x) old.seen knocked)
    → (handled : HandledSo site turn time (knocked_so s kn.knock) (Ok a) After knocked mid old.words new.words)
    → AreQuiet (let x = (after_handlings site turn time (knocked_so s kn.knock) handled.handlings).connections in x.there)
    → AdvancedSo site turn time (busy_in (let x = after_handlings site turn time (knocked_so s kn.knock) handled.handlings in x.history))
    (after_handlings site turn time (knocked_so s kn.knock) handled.handlings) (Err halt) Next mid new.seen
    → Gives (time ∷ []) old.clock new.clock → time < 2 ^ 53 → Halted site turn s old new
stops_in_advance site turn time s is_closed a halt k After Next knocked mid old new kn handled quiet advanced clock timely =
    let t : Coming = record { knock = kn.knock; moment = time; words = handled.words; handlings = handled.handlings; advances = advanced.advances } in
    let hs = handlings_acts site turn time (knocked_so s kn.knock) handled.handlings in
    let next = after_handlings site turn time (knocked_so s kn.knock) handled.handlings in
    record {
      coming = t;
      broken = record {
        handled = handled.handled;
        words = handled.draws_so;
        advanced = inr (record { quiet = quiet; first = advanced.first; others = advanced.others; busy = advanced.busy_are; advanced = advanced.advanced });
      };
      moments = time ∷ [];
      stops = behind kn.mid kn.knocks
          (stopped_then (knock_acts kn.knock s.connections ++ hs) (advances_acts site turn next advanced.advances) kn.mid mid new.seen
          (did_then (knock_acts kn.knock s.connections) hs kn.mid knocked mid kn.did handled.acts) advanced.acts);
      at = inr refl;
      moment = clock;
      timely = timely;
      words = handled.gives;
    }

-- ---- a whole turn

pub turns_whole : {A : Type 0} (site : Site) (turn time : ℕ) (s : State) (closed : Bool) (a : A) (k : Links) (After : A → State → Type 0)
    (Next : State → Type 0) (end : TurnEnd) (knocked mid : Seen) (old new : Outer) → (kn : Knocked s closed (λ x. k ≡ x) old.seen knocked)
    → (handled : HandledSo site turn time (knocked_so s kn.knock) (Ok a) After knocked mid old.words new.words)
    → AreQuiet (let x = (after_handlings site turn time (knocked_so s kn.knock) handled.handlings).connections in x.there)
    → (advanced : AdvancedSo site turn time (busy_in (let x = after_handlings site turn time (knocked_so s kn.knock) handled.handlings in x.history))
    (after_handlings site turn time (knocked_so s kn.knock) handled.handlings) (Ok tt) Next mid new.seen)
    → Gives (time ∷ []) old.clock new.clock → time < 2 ^ 53
    → EndsSo end kn.knock (after_advances turn (after_handlings site turn time (knocked_so s kn.knock) handled.handlings) advanced.advances)
    → Turned site turn s end Next old new
turns_whole site turn time s is_closed a k After Next end knocked mid old new kn handled quiet advanced clock timely ends =
    let t : Coming = record { knock = kn.knock; moment = time; words = handled.words; handlings = handled.handlings; advances = advanced.advances } in
    let hs = handlings_acts site turn time (knocked_so s kn.knock) handled.handlings in
    let next = after_handlings site turn time (knocked_so s kn.knock) handled.handlings in
    let all : advanced.first ≡ busy_in next.history =
    sym (advanced.busy_are ∙ ap (λ (ns : List ℕ). advanced.first ++ ns) advanced.after.0 ∙ append-nil advanced.first) in
    record {
      coming = t;
      turn_is = record {
        handled = handled.handled;
        all = quiet;
        words = handled.draws_so;
        advanced = subst (λ (ns : List ℕ). AreAdvancedSo site turn time next ns advanced.advances) all advanced.advanced;
      };
      stands = advanced.after.1;
      ends = ends;
      tells = record {
        knocked = kn.mid;
        knocks = kn.knocks;
        did = did_then (knock_acts kn.knock s.connections ++ hs) (advances_acts site turn next advanced.advances) kn.mid mid new.seen
            (did_then (knock_acts kn.knock s.connections) hs kn.mid knocked mid kn.did handled.acts) advanced.acts;
        moment = clock;
        timely = timely;
        words = handled.gives;
      };
    }
