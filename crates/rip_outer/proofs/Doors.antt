-- What a door in memory keeps, call by call.
use Rattle.std.proofs.Common.{◌≡◌, ◌≢◌, ◌↔◌, ◌+◌, ◌-◌, ◌<◌, ◌≤◌, ℕ, zero, suc, Bool, true, false, cond, not, List, [], ◌∷◌, ◌++◌, map, length, get_or, set, count_by, Contains, All, Some, inl, inr, refl, sym, subst, ap, ◌∙◌, arith, length-append, nat_lt, min}
use Rattle.std.proofs.lemmas.Bool.{false_from_ne_true}
use Rattle.std.proofs.lemmas.List.{map-append, length-set}
use Rattle.std.proofs.lemmas.List.Sums.{sum_by-append, sum_by-cons, sum_by-set}
use Rattle.std.proofs.lemmas.List.Elements.{Contains-push_cases, All-cons, All-nil, All-same}
use Rattle.rip_outer.specs.Outside.{also, before}
use Rattle.rip_outer.specs.Connections.{knocked, is_opening, is_knock, IsShut, IsAllowedAfter, Goes, Telling}
use Rattle.rip_outer.specs.KnockLists.{MayFollow, EachFollows, AreKnocks}
use Rattle.rip_outer.specs.MemoryDoor.{DoorState, new_door, hushed_by, after_knock, AreMarks, AreConnections, ConnectionsState, IsMemoryDoor, no_connections}
use Rattle.rip_outer.specs.Calls.{new_calls, failures_left}
use Rattle.rip_outer.specs.declared.listed.Calls.{Calls}
use Rattle.rip_outer.specs.declared.connections.TraceKnock.{TraceKnock}
use Rattle.rip_outer.specs.declared.connections.TraceKnock.TheVariants.{Opened, Bytes, Gone, Quiet}
use Rattle.rip_outer.proofs.Telling.{all_unhushed, openings_push, each_hushed, allowed_hushed, all_open, marks_none, marks_open, marks_shut}

-- CONNECTIONS

-- one more connection
pub connections_open : (sent more : List (List ℕ)) (marks marks_after : List Bool) (shuts : List (ℕ × ℕ)) (room left a b e a' b' : ℕ)
    → AreConnections sent marks shuts room a b e → 0 < room → more ≡ sent ++ [] ∷ [] → marks_after ≡ marks ++ false ∷ [] → left ≡ room - 1 → a' ≡ a → b' ≡ b
    → AreConnections more marks_after shuts left a' b' e
connections_open sent more marks marks_after shuts room left a b e a' b' h some m n l x y =
    let sent_length : length more ≡ length sent + 1 = ap length m ∙ length-append sent ([] ∷ []) in
    let marks_length : length marks_after ≡ length marks + 1 = ap length n ∙ length-append marks (false ∷ []) in
    let sums = sum_by-append (λ x. cond (not x) 1 0) marks (false ∷ []) in
    let same : count_by not marks_after ≡ count_by not (marks ++ false ∷ []) = ap (λ xs. count_by not xs) n in
    let unshut : count_by not marks_after ≡ count_by not marks + 1 = omega (arith, sums, same) in
    record {
      marked = omega (arith, h.marked);
      sent_fit = omega (arith, h.sent_fit);
      marks_fit = omega (arith, h.marks_fit);
      shuts_fit = omega (arith, h.shuts_fit);
    }

-- one of them is shut
pub connections_shut : (sent : List (List ℕ)) (marks : List Bool) (shuts shuts_after : List (ℕ × ℕ)) (room a b e e' c n : ℕ)
    → AreConnections sent marks shuts room a b e → c < length sent → get_or marks c false ≡ false → shuts_after ≡ shuts ++ (c, n) ∷ [] → e' ≡ e
    → AreConnections sent (set marks c true) shuts_after room a b e'
connections_shut sent marks shuts shuts_after room a b e e' c n h within here s x =
    let there : c < length marks = omega (arith, h.marked) in
    let marks_length : length (set marks c true) ≡ length marks = length-set marks c true in
    let shuts_length : length shuts_after ≡ length shuts + 1 = ap length s ∙ length-append shuts ((c, n) ∷ []) in
    let f : Bool → ℕ = λ x. cond (not x) 1 0 in
    let was : f (get_or marks c false) ≡ 1 = ap f here in
    let sums = sum_by-set f marks c true false there in
    record {
      marked = omega (arith, h.marked);
      sent_fit = h.sent_fit;
      marks_fit = omega (arith, h.marks_fit);
      shuts_fit = omega (arith, h.shuts_fit, sums, was);
    }

-- there is a free place for the shut of a connection that is open
pub room_to_shut : (sent : List (List ℕ)) (marks : List Bool) (shuts : List (ℕ × ℕ)) (room a b e c : ℕ)
    → AreConnections sent marks shuts room a b e → c < length sent → get_or marks c false ≡ false → length shuts < e
room_to_shut sent marks shuts room a b e c h within here =
    let there : c < length marks = omega (arith, h.marked) in
    let f : Bool → ℕ = λ x. cond (not x) 1 0 in
    let was : f (get_or marks c false) ≡ 1 = ap f here in
    let sums = sum_by-set f marks c true false there in
    omega (arith, h.shuts_fit, sums, was)

-- A KNOCK

-- what a door stands for that has failed at no call
abbrev state : List TraceKnock → List TraceKnock → List Bool → ConnectionsState → Calls → Calls → DoorState
state told left busy s next send = record {
  told = told;
  left = map (hushed_by s.is_shut) left;
  busy = busy;
  sent = s.sent;
  shuts = s.shuts;
  next_calls = next;
  send_calls = send;
  faults = 0;
}

sent_after : (s : ConnectionsState) (k : TraceKnock) → length (after_knock s k).sent ≡ length s.sent + cond (is_opening (knocked k)) 1 0
sent_after s (Opened c) = length-append s.sent ([] ∷ [])
sent_after s (Bytes c bytes) = omega arith
sent_after s (Gone c) = omega arith
sent_after s Quiet = omega arith

marked_after : (s : ConnectionsState) (k : TraceKnock) → length s.is_shut ≡ length s.sent → length (after_knock s k).is_shut ≡ length (after_knock s k).sent
marked_after s (Opened c) h = omega (arith, length-append s.sent ([] ∷ []), length-append s.is_shut (false ∷ []))
marked_after s (Bytes c bytes) h = h
marked_after s (Gone c) h = h
marked_after s Quiet h = h

marks_after : (s : ConnectionsState) (k : TraceKnock) → AreMarks s.shuts s.is_shut → AreMarks (after_knock s k).shuts (after_knock s k).is_shut
marks_after s (Opened c) h = marks_open s.shuts s.is_shut h
marks_after s (Bytes c bytes) h = h
marks_after s (Gone c) h = h
marks_after s Quiet h = h

room_after : (s : ConnectionsState) (k : TraceKnock) → s.room ≤ (after_knock s k).room + 1
room_after s (Opened c) = omega arith
room_after s (Bytes c bytes) = omega arith
room_after s (Gone c) = omega arith
room_after s Quiet = omega arith

pub hushed_after : (s : ConnectionsState) (k : TraceKnock) (ks : List TraceKnock) → map (hushed_by (after_knock s k).is_shut) ks ≡ map (hushed_by s.is_shut) ks
hushed_after s (Opened c) ks = all_open s.is_shut ks
hushed_after s (Bytes c bytes) ks = refl
hushed_after s (Gone c) ks = refl
hushed_after s Quiet ks = refl

-- a door as it is made
pub door_made : (told left knocks : List TraceKnock) (busy : List Bool) (s : ConnectionsState) (next send : Calls) (room : ℕ) (failing_next failing_send : List ℕ)
    → told ≡ [] → left ≡ knocks → busy ≡ [] → s ≡ no_connections room → next ≡ new_calls failing_next → send ≡ new_calls failing_send
    → state told left busy s next send ≡ new_door knocks failing_next failing_send
door_made told left knocks busy s next send room failing_next failing_send a b c d e f =
    ap (λ x. state x left busy s next send) a ∙ ap (λ x. state [] x busy s next send) b ∙ ap (λ x. state [] knocks x s next send) c
    ∙ ap (λ x. state [] knocks [] x next send) d ∙ ap (λ x. state [] knocks [] (no_connections room) x send) e
    ∙ ap (λ x. state [] knocks [] (no_connections room) (new_calls failing_next) x) f
    ∙ ap (λ ks. new_door ks failing_next failing_send) (all_unhushed knocks)

-- the next knock is told
pub door_tells : (told told' left left' : List TraceKnock) (busy busy' : List Bool) (s s' : ConnectionsState) (calls calls' : Calls) (a b a' b' : ℕ) (k : TraceKnock) (asked : Bool)
    → IsMemoryDoor told left busy s calls a b → left ≡ k ∷ left' → told' ≡ told ++ hushed_by s.is_shut k ∷ [] → busy' ≡ busy ++ asked ∷ []
    → s' ≡ after_knock s (hushed_by s.is_shut k) → failures_left calls' ≤ failures_left calls → a' ≡ a → b' ≡ b
    → IsMemoryDoor told' left' busy' s' calls' a' b'
door_tells told told' left left' busy busy' s s' calls calls' a b a' b' k asked h l t u v fewer x y =
    let j : TraceKnock = hushed_by s.is_shut k in
    let follows : EachFollows (map knocked told) (k ∷ left') = subst (EachFollows (map knocked told)) l h.follows in
    let told_length : length told' ≡ length told + 1 = ap length t ∙ length-append told (j ∷ []) in
    let busy_length : length busy' ≡ length busy + 1 = ap length u ∙ length-append busy (asked ∷ []) in
    let left_same : length left ≡ length (k ∷ left') = ap length l in
    let left_length : length left ≡ length left' + 1 = omega arith in
    let openings : count_by is_opening (map knocked told') ≡ count_by is_opening (map knocked told) + cond (is_opening (knocked j)) 1 0 =
    ap (λ ts. count_by is_opening (map knocked ts)) t ∙ ap (λ ts. count_by is_opening ts) (map-append knocked told (j ∷ [])) ∙ openings_push (map knocked told) (knocked j) in
    let sent : length s'.sent ≡ length s.sent + cond (is_opening (knocked j)) 1 0 = ap (λ (c : ConnectionsState). length c.sent) v ∙ sent_after s j in
    let room : s.room ≤ s'.room + 1 = subst (λ (c : ConnectionsState). s.room ≤ c.room + 1) (sym v) (room_after s j) in
    record {
      follows = subst (λ ts. EachFollows (map knocked ts) left') (sym t) (each_hushed told s.is_shut k left' follows);
      numbered = omega (arith, sent, openings, h.numbered);
      marked = subst (λ (c : ConnectionsState). length c.is_shut ≡ length c.sent) (sym v) (marked_after s j h.marked);
      shut_ones = subst (λ (c : ConnectionsState). AreMarks c.shuts c.is_shut) (sym v) (marks_after s j h.shut_ones);
      told_fit = omega (arith, h.told_fit);
      busy_fit = omega (arith, h.busy_fit);
      connections_fit = omega (arith, h.connections_fit);
    }

-- a call fails
pub door_fails : (told left : List TraceKnock) (busy busy' : List Bool) (s : ConnectionsState) (calls calls' : Calls) (a b b' : ℕ) (asked : Bool)
    → IsMemoryDoor told left busy s calls a b → busy' ≡ busy ++ asked ∷ [] → failures_left calls' + 1 ≤ failures_left calls → b' ≡ b
    → IsMemoryDoor told left busy' s calls' a b'
door_fails told left busy busy' s calls calls' a b b' asked h u fewer y =
    let busy_length : length busy' ≡ length busy + 1 = ap length u ∙ length-append busy (asked ∷ []) in
    record {
      follows = h.follows;
      numbered = h.numbered;
      marked = h.marked;
      shut_ones = h.shut_ones;
      told_fit = h.told_fit;
      busy_fit = omega (arith, h.busy_fit);
      connections_fit = h.connections_fit;
    }

-- nothing is left
pub door_closes : (told left left' : List TraceKnock) (busy : List Bool) (s : ConnectionsState) (calls calls' : Calls) (a b : ℕ)
    → IsMemoryDoor told left busy s calls a b → left ≡ left' → failures_left calls' ≤ failures_left calls
    → IsMemoryDoor told left' busy s calls' a b
door_closes told left left' busy s calls calls' a b h l fewer =
    let left_length : length left ≡ length left' = ap length l in
    record {
      follows = subst (EachFollows (map knocked told)) l h.follows;
      numbered = h.numbered;
      marked = h.marked;
      shut_ones = h.shut_ones;
      told_fit = omega (arith, h.told_fit);
      busy_fit = omega (arith, h.busy_fit);
      connections_fit = omega (arith, h.connections_fit);
    }

-- a connection is shut
pub door_shuts : (told left : List TraceKnock) (busy : List Bool) (s s' : ConnectionsState) (calls : Calls) (a b c n : ℕ)
    → IsMemoryDoor told left busy s calls a b → c < length s.sent
    → s' ≡ record s { is_shut = set s.is_shut c true; shuts = s.shuts ++ (c, n) ∷ [] }
    → IsMemoryDoor told left busy s' calls a b
door_shuts told left busy s s' calls a b c n h within v =
    let there : c < length s.is_shut = omega (arith, h.marked) in
    subst (λ (x : ConnectionsState). IsMemoryDoor told left busy x calls a b) (sym v) (record {
      follows = h.follows;
      numbered = h.numbered;
      marked = length-set s.is_shut c true ∙ h.marked;
      shut_ones = marks_shut s.shuts s.is_shut c n there h.shut_ones;
      told_fit = h.told_fit;
      busy_fit = h.busy_fit;
      connections_fit = h.connections_fit;
    })

-- WHAT IS TOLD

-- the knock that comes is allowed
pub tells_allowed : (told left left' : List TraceKnock) (busy : List Bool) (s : ConnectionsState) (calls : Calls) (a b : ℕ) (k : TraceKnock) (ks : List TraceKnock)
    → IsMemoryDoor told left busy s calls a b → left ≡ k ∷ left' → ks ≡ hushed_by s.is_shut k ∷ []
    → All (IsAllowedAfter (map knocked told) s.shuts) ks
tells_allowed told left left' busy s calls a b k ks h l e =
    let follows : EachFollows (map knocked told) (k ∷ left') = subst (EachFollows (map knocked told)) l h.follows in
    let P : TraceKnock → Type 0 = IsAllowedAfter (map knocked told) s.shuts in
    All-same P ks (hushed_by s.is_shut k ∷ []) e (All-cons P (hushed_by s.is_shut k) [] (allowed_hushed (map knocked told) s.shuts s.is_shut k follows.0 h.shut_ones) (All-nil P))

-- it was the first of those that were left
pub tells_goes : (told told' left left' ks : List TraceKnock) (s s' : ConnectionsState) (k : TraceKnock)
    → left ≡ k ∷ left' → told' ≡ told ++ hushed_by s.is_shut k ∷ [] → s' ≡ after_knock s (hushed_by s.is_shut k) → ks ≡ hushed_by s.is_shut k ∷ []
    → Goes (record { told = Some (map knocked told); left = Some (map (hushed_by s.is_shut) left) }) (record { told = Some (map knocked told'); left = Some (map (hushed_by s'.is_shut) left') }) ks
tells_goes told told' left left' ks s s' k l t v e =
    let j : TraceKnock = hushed_by s.is_shut k in
    let rest : map (hushed_by s'.is_shut) left' ≡ map (hushed_by s.is_shut) left' = ap (λ (c : ConnectionsState). map (hushed_by c.is_shut) left') v ∙ hushed_after s j left' in
    record {
      told = ap Some (ap (map knocked) t ∙ map-append knocked told (j ∷ []) ∙ ap (λ xs. map knocked told ++ map knocked xs) (sym e));
      left = ap Some (ap (map (hushed_by s.is_shut)) l ∙ ap (λ xs. j ∷ xs) (sym rest) ∙ ap (λ xs. xs ++ map (hushed_by s'.is_shut) left') (sym e));
    }

past_marks : (marks : List Bool) (c : ℕ) → length marks ≤ c → get_or marks c false ≡ false
past_marks [] c past = refl
past_marks (m ∷ ms) zero past = absurd (omega arith)
past_marks (m ∷ ms) (suc c) past = past_marks ms c (omega arith)

-- a connection that is opened may be named
opened_is_open : (told : List TraceKnock) (s : ConnectionsState) (c : ℕ) (j : TraceKnock)
    → length s.sent ≡ count_by is_opening (map knocked told) → length s.is_shut ≡ length s.sent → AreMarks s.shuts s.is_shut
    → IsAllowedAfter (map knocked told) s.shuts j → j ≡ Opened c → (c < length (after_knock s j).sent) × ¬ IsShut (after_knock s j).shuts c
opened_is_open told s c (Opened d) numbered marked marks allowed e =
    let same : d ≡ c = cc in
    let grown : length (s.sent ++ [] ∷ []) ≡ length s.sent + 1 = length-append s.sent ([] ∷ []) in
    let past : length s.is_shut ≤ c = omega (arith, allowed) in
    (omega (arith, allowed), λ i. let there = (marks c).0 i in let unmarked = past_marks s.is_shut c past in cc)
opened_is_open told s c (Bytes d bytes) numbered marked marks allowed e = absurd (cc)
opened_is_open told s c (Gone d) numbered marked marks allowed e = absurd (cc)
opened_is_open told s c Quiet numbered marked marks allowed e = absurd (cc)

pub tells_opens : (told left left' : List TraceKnock) (busy : List Bool) (s s' : ConnectionsState) (calls : Calls) (a b c : ℕ) (k : TraceKnock)
    → IsMemoryDoor told left busy s calls a b → left ≡ k ∷ left' → s' ≡ after_knock s (hushed_by s.is_shut k) → hushed_by s.is_shut k ≡ Opened c
    → (c < length s'.sent) × ¬ IsShut s'.shuts c
tells_opens told left left' busy s s' calls a b c k h l v e =
    let follows : EachFollows (map knocked told) (k ∷ left') = subst (EachFollows (map knocked told)) l h.follows in
    let allowed = allowed_hushed (map knocked told) s.shuts s.is_shut k follows.0 h.shut_ones in
    subst (λ (x : ConnectionsState). (c < length x.sent) × ¬ IsShut x.shuts c) (sym v) (opened_is_open told s c (hushed_by s.is_shut k) h.numbered h.marked h.shut_ones allowed e)

still_open : (s : ConnectionsState) (c : ℕ) (j : TraceKnock) → (c < length s.sent) × ¬ IsShut s.shuts c → (c < length (after_knock s j).sent) × ¬ IsShut (after_knock s j).shuts c
still_open s c (Opened d) h = (omega (arith, h.0, length-append s.sent ([] ∷ [])), h.1)
still_open s c (Bytes d bytes) h = h
still_open s c (Gone d) h = h
still_open s c Quiet h = h

-- and those that might be named may be still
pub tells_stays : (s s' : ConnectionsState) (c : ℕ) (j : TraceKnock) → s' ≡ after_knock s j → (c < length s.sent) × ¬ IsShut s.shuts c → (c < length s'.sent) × ¬ IsShut s'.shuts c
tells_stays s s' c j v h = subst (λ (x : ConnectionsState). (c < length x.sent) × ¬ IsShut x.shuts c) (sym v) (still_open s c j h)

-- each of these told is a knock
pub all_knocks : (ks : List TraceKnock) → count_by is_knock (map knocked ks) ≡ length ks
all_knocks [] = refl
all_knocks (k ∷ ks) = omega (arith, sum_by-cons (λ t. cond (is_knock t) 1 0) (knocked k) (map knocked ks), all_knocks ks)

-- another connection is not shut with c
pub others_stay : (shuts : List (ℕ × ℕ)) (c n d : ℕ) → d ≢ c → ¬ IsShut shuts d → ¬ IsShut (shuts ++ (c, n) ∷ []) d
others_stay shuts c n d other before_it i =
    let names = map (λ (s : ℕ × ℕ). s.0) shuts in
    let there : Contains (names ++ c ∷ []) d = subst (λ xs. Contains xs d) (map-append (λ (s : ℕ × ℕ). s.0) shuts ((c, n) ∷ [])) i in
    elim (Contains-push_cases names c d there) [ inl was ↦ before_it was | inr e ↦ other (sym e) ]
