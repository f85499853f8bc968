-- What a door tells where it is asked.
use Rattle.std.proofs.Common.{◌≡◌, ◌≢◌, ℕ, Bool, true, false, cond, ◌&&◌, eqb, leb, List, [], ◌∷◌, length, Option, Some, None, refl, ap, subst, ◌∙◌}
use Rattle.std.specs.Prelude.{Result, Ok, OnOk, IfOk}
use Rattle.rip_outer.specs.Connections.{Goes, telling, busy_told, CountsKnock}
use Rattle.rip_outer.specs.Outside.{also, IsOver as NothingLeft}
use Rattle.rip_outer.specs.declared.connections.Knock.{Knock}
use Rattle.rip_outer.specs.declared.connections.Knock.TheVariants.{Opened, Bytes, Gone, Quiet, Closed, Failed}
use Rattle.rip_outer.specs.declared.connections.TraceKnock.{TraceKnock}
use Rattle.rip_outer.specs.declared.connections.TraceKnock.TheVariants as trace
use Rattle.rip_history.specs.Connections.{shuts, put_in, Connections as Links, is_there, overflows, most_connections, after_knock, knock_acts}
use Rattle.rip_history.specs.Run.{State}
use Rattle.rip_history.specs.Runs.{IsAsking}
use Rattle.rip_server.specs.Acts.{Seen, Acted}
use Rattle.rip_server.specs.Puts.{Counts}
use Rattle.rip_server.specs.declared.halt.Halt.{Halt}
use Rattle.rip_server.specs.Asking.{knock_of, IsClosedBy, KnocksSo}
use Rattle.rip_server.specs.Turning.{Knocks}
use Rattle.rip_server.proofs.KnockLemmas.{knocks_some, knocks_none, knocks_so}
use Rattle.rip_server.proofs.SeenLemmas.{acted_held}

-- the knock of an answer that is no failure
told-knock : (s : State) (k : Knock) (room : List ℕ) (busy : Bool) (old new : Seen) → k ≢ Failed → IsAsking s busy
    → new.asked ≡ also (busy_told k busy) old.asked → Goes old.telling new.telling (telling k room) → (k ≡ Closed → NothingLeft new.telling.left)
    → ((c : ℕ) → new.sent c ≡ old.sent c) → new.shut ≡ old.shut → new.held ≡ old.held → Knocks s (knock_of k room) old new
told-knock s (Opened c) room busy old new here asking asked goes over sent shut held = knocks_some s (trace.Opened c) busy old new asking asked goes sent shut held
told-knock s (Bytes c n) room busy old new here asking asked goes over sent shut held = knocks_some s _ busy old new asking asked goes sent shut held
told-knock s (Gone c) room busy old new here asking asked goes over sent shut held = knocks_some s (trace.Gone c) busy old new asking asked goes sent shut held
told-knock s Quiet room busy old new here asking asked goes over sent shut held = knocks_some s trace.Quiet busy old new asking asked goes sent shut held
told-knock s Closed room busy old new here asking asked goes over sent shut held = knocks_none s old new asked goes (over refl) sent shut held
told-knock s Failed room busy old new here asking asked goes over sent shut held = absurd (here refl)

-- a knock puts nothing
shut-puts : (t : Bool) (c : ℕ) → put_in (cond t (shuts c ∷ []) []) ≡ []
shut-puts true c = refl
shut-puts false c = refl

knock-puts : (k : Option TraceKnock) (cs : Links) → put_in (knock_acts k cs) ≡ []
knock-puts None cs = refl
knock-puts (Some (trace.Opened c)) cs = shut-puts (eqb c cs.opened && leb most_connections (length cs.there)) c
knock-puts (Some (trace.Bytes c piece)) cs = shut-puts (is_there c cs.there && overflows c piece cs) c
knock-puts (Some (trace.Gone c)) cs = refl
knock-puts (Some trace.Quiet) cs = refl

on-ok : {A P : Type 0} (r : Result A Halt) (a : A) → r ≡ Ok a → OnOk r P → P
on-ok {P = P} r a e h = subst (λ (q : Result _ Halt). OnOk q P) e h

if-ok : {A : Type 0} (P : A → Type 0) (r : Result A Halt) (a : A) → r ≡ Ok a → IfOk r P → P a
if-ok P r a e h = subst (λ (q : Result _ Halt). IfOk q P) e h

-- a knock came, and what is done at it
pub knocked_by : (s : State) (k : Knock) (room : List ℕ) (busy : Bool) (r : Result Bool Halt) (before now : Links) (old mid a b : Seen) (held : Option (List ℕ))
    → k ≢ Failed → before ≡ s.connections → IsAsking s busy → mid.asked ≡ also (busy_told k busy) old.asked
    → Goes old.telling mid.telling (telling k room) → (k ≡ Closed → NothingLeft mid.telling.left)
    → ((c : ℕ) → mid.sent c ≡ old.sent c) → mid.shut ≡ old.shut → mid.held ≡ old.held → record a { held = held } ≡ mid
    → IfOk r (λ t. IsClosedBy t (knock_of k room)) → OnOk r (now ≡ after_knock (knock_of k room) before)
    → Acted r (knock_acts (knock_of k room) before) a b → KnocksSo s r (λ x. now ≡ x) old (record b { held = held })
knocked_by s k room busy r before now old mid a b held here at asking asked goes over sent shut same_held frame closes after acts =
    let told = told-knock s k room busy old mid here asking asked goes over sent shut same_held in
    knocks_so s (knock_of k room) r now old mid (record b { held = held }) told
    (λ t e. if-ok (λ (x : Bool). IsClosedBy x (knock_of k room)) r t e closes)
    (λ t e. on-ok r t e after ∙ ap (after_knock (knock_of k room)) at)
    (subst (λ (z : Seen). Acted r (knock_acts (knock_of k room) s.connections) z (record b { held = held })) frame
    (acted_held r (knock_acts (knock_of k room) s.connections) a b held (knock-puts (knock_of k room) s.connections)
    (subst (λ (x : Links). Acted r (knock_acts (knock_of k room) x) a b) at acts)))

-- an answer that is no failure is not counted
count-same : (k : Knock) (old new : ℕ) → k ≢ Failed → CountsKnock k old new → new ≡ old
count-same (Opened c) old new here e = e
count-same (Bytes c n) old new here e = e
count-same (Gone c) old new here e = e
count-same Quiet old new here e = e
count-same Closed old new here e = e
count-same Failed old new here e = absurd (here refl)

pub counts_behind : {A : Type 0} (k : Knock) (r : Result A Halt) (old mid new : ℕ) → k ≢ Failed → CountsKnock k old mid → Counts r mid new → Counts r old new
counts_behind k r old mid new here counted counts = subst (λ (n : ℕ). Counts r n new) (count-same k old mid here counted) counts
