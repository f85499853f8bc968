-- A knock, and whether anything is to be done.
use Rattle.std.proofs.Common.{◌≡◌, ◌≢◌, inr, ℕ, Bool, true, false, ◌||◌, [], ◌∷◌, Option, Some, None, refl, sym, subst}
use Rattle.std.specs.Prelude.{Result, Ok, Err}
use Rattle.rip_outer.specs.Connections.{Goes}
use Rattle.rip_outer.specs.Outside.{also, IsOver as NothingLeft}
use Rattle.rip_outer.specs.declared.connections.TraceKnock.{TraceKnock}
use Rattle.rip_history.specs.Connections.{Connections as Links, after_knock, knock_acts}
use Rattle.rip_history.specs.Run.{State, AreQuiet, busy_in}
use Rattle.rip_history.specs.Runs.{IsAsking, nothing, sessions, requests, IsOver}
use Rattle.rip_server.specs.Acts.{Seen, Acted}
use Rattle.rip_server.specs.declared.halt.Halt.{Halt}
use Rattle.rip_server.specs.Asking.{IsClosedBy, KnocksSo}
use Rattle.rip_server.specs.Turning.{Knocks, FailsAsked, EndsSo}
use Rattle.rip_server.specs.declared.turn.server.TurnEnd.{TurnEnd}
use Rattle.rip_server.specs.declared.turn.server.TurnEnd.TheVariants.{On, Over}

pub knocks_some : (s : State) (k : TraceKnock) (busy : Bool) (old new : Seen) → IsAsking s busy → new.asked ≡ also (busy ∷ []) old.asked
    → Goes old.telling new.telling (k ∷ []) → ((c : ℕ) → new.sent c ≡ old.sent c) → new.shut ≡ old.shut → new.held ≡ old.held → Knocks s (Some k) old new
knocks_some s k busy old new asking asked goes sent shut held = record {
  busy = busy ∷ [];
  asks = (busy, refl, asking);
  asked = asked;
  goes = goes;
  closed = tt;
  sent = sent;
  shut = shut;
  held = held;
}

pub knocks_none : (s : State) (old new : Seen) → new.asked ≡ also [] old.asked → Goes old.telling new.telling [] → NothingLeft new.telling.left
    → ((c : ℕ) → new.sent c ≡ old.sent c) → new.shut ≡ old.shut → new.held ≡ old.held → Knocks s None old new
knocks_none s old new asked goes over sent shut held = record {
  busy = [];
  asks = refl;
  asked = asked;
  goes = goes;
  closed = over;
  sent = sent;
  shut = shut;
  held = held;
}

pub fails_asked : (s : State) (busy : Bool) (old new : Seen) → IsAsking s busy → new.asked ≡ also (busy ∷ []) old.asked
    → Goes old.telling new.telling [] → ((c : ℕ) → new.sent c ≡ old.sent c) → new.shut ≡ old.shut → new.held ≡ old.held → FailsAsked s old new
fails_asked s busy old new asking asked goes sent shut held =
    record { busy = busy; asks = asking; asked = asked; goes = goes; sent = sent; shut = shut; held = held }

-- a knock was told, and so its acts were done or stop
pub knocks_so : (s : State) (knock : Option TraceKnock) (r : Result Bool Halt) (k : Links) (old mid new : Seen) → Knocks s knock old mid
    → ((closed : Bool) → r ≡ Ok closed → IsClosedBy closed knock) → ((closed : Bool) → r ≡ Ok closed → k ≡ after_knock knock s.connections)
    → Acted r (knock_acts knock s.connections) mid new → KnocksSo s r (λ x. k ≡ x) old new
knocks_so s knock (Ok closed) k old mid new knocks closes after acts = record {
  knock = knock;
  closes = closes closed refl;
  mid = mid;
  knocks = knocks;
  did = acts;
  after = after closed refl;
}
knocks_so s knock (Err halt) k old mid new knocks closes after acts =
    inr (record { knock = knock; mid = mid; knocks = knocks; stopped = acts })

-- ---- whether the run is over

pub over_so : (closed busy : Bool) (knock : Option TraceKnock) (s : State) (end : TurnEnd) → IsClosedBy closed knock → IsAsking s busy
    → (closed ≡ true → busy ≡ false → end ≡ Over) → (closed ≡ false → end ≡ On) → (busy ≡ true → end ≡ On) → EndsSo end knock s
over_so true true knock s end closes asking over open_yet asks = subst (λ (e : TurnEnd). EndsSo e knock s) (sym (asks refl)) (λ ends. by asking ends)
  where
    by : IsAsking s true → IsOver knock s → ⊥
    by (sessions some) ends = some ends.idle
    by (requests some) ends = some ends.quiet
over_so true false knock s end closes asking over open_yet asks = subst (λ (e : TurnEnd). EndsSo e knock s) (sym (over refl refl)) (by asking)
  where
    by : IsAsking s false → IsOver knock s
    by (nothing idle quiet) = record { closed = closes; idle = idle; quiet = quiet }
over_so false busy knock s end closes asking over open_yet asks =
    subst (λ (e : TurnEnd). EndsSo e knock s) (sym (open_yet refl)) (λ ends. closes ends.closed)

-- ---- whether anything is to be done

pub asking_so : (s : State) (busy due : Bool) (k : Links) → k ≡ s.connections → (busy ≡ true → busy_in s.history ≢ []) → (busy ≡ false → busy_in s.history ≡ [])
    → (due ≡ true → ¬ AreQuiet k.there) → (due ≡ false → AreQuiet k.there) → IsAsking s (busy || due)
asking_so s true due k same some idle asks quiet = sessions (some refl)
asking_so s false true k same some idle asks quiet = requests (λ all. asks refl (subst (λ (x : Links). AreQuiet x.there) (sym same) all))
asking_so s false false k same some idle asks quiet = nothing (idle refl) (subst (λ (x : Links). AreQuiet x.there) same (quiet refl))
