-- A line that is added, and one that is not.
use Rattle.std.proofs.Common.{◌≡◌, ℕ, List, subst}
use Rattle.rip_outer.specs.declared.connections.TraceKnock.{TraceKnock}
use Rattle.rip_trace.specs.Lines.{Line}
use Rattle.rip_trace.specs.Spelling.{IsSpelled}
use Rattle.rip_trace.specs.Steps.{Sofar, with_line, MayFollowKnocks, IsAdded}
use Rattle.rip_trace.proofs.LineLemmas.{spelled_one}

pub added : (words bytes : List ℕ) (old new : Sofar) (l : Line) → IsSpelled bytes l → MayFollowKnocks old.knocks l → new ≡ with_line words old l → IsAdded words bytes old new
added words bytes old new l h g e = record { line = l; spelled = h; allowed = g; is = e }

pub not_added : (bytes : List ℕ) (ks : List TraceKnock) (k : Line) → IsSpelled bytes k → (MayFollowKnocks ks k → ⊥) → (l : Line) → MayFollowKnocks ks l → IsSpelled bytes l → ⊥
not_added bytes ks k h none l may g = none (subst (MayFollowKnocks ks) (spelled_one bytes l k g h) may)

pub not_spelled : (bytes : List ℕ) (ks : List TraceKnock) → ((l : Line) → IsSpelled bytes l → ⊥) → (l : Line) → MayFollowKnocks ks l → IsSpelled bytes l → ⊥
not_spelled bytes ks none l may g = none l g
