use Rattle.std.specs.Prelude.{◌≡◌, ℕ, List}
use Rattle.rip_base.specs.declared.value.Span.{Span}
use Rattle.rip_base.specs.declared.value.Value.{Value as ScriptValue}
use Rattle.rip_heap.specs.declared.host.HostDone.{HostDone}
use Rattle.rip_heap.specs.declared.host.HostDone.TheVariants.{Value, TypeFault, Dom, Fault, Limit, Memory}
use Rattle.rip_heap.specs.declared.outcome.Abrupt.{Abrupt}
use Rattle.rip_heap.specs.declared.outcome.Abrupt.TheVariants as abrupt
use Rattle.rip_heap.specs.Growth.{Grows, MakesNoFunction, Belongs}
use Rattle.rip_heap.specs.World.{World}

-- what is asked of a host: the value of a member of an object, to write it, or the call of a built-in function on `this`
pub data Request : Type 0 where
  Reads : ℕ → Span → Request
  Writes : ℕ → Span → ScriptValue → Request
  Calls : ℕ → ScriptValue → List ScriptValue → Request

-- the call answers and leaves what it means; at want of memory nothing is said
abbrev pub Gives : {S : Type 0} → HostDone × World × S → HostDone → World → S → Type 0
Gives meant (Value v) w s = meant ≡ (Value v, w, s)
Gives meant TypeFault w s = meant ≡ (TypeFault, w, s)
Gives meant (Dom code) w s = meant ≡ (Dom code, w, s)
Gives meant (Fault fault) w s = meant ≡ (Fault fault, w, s)
Gives meant (Limit limit) w s = meant ≡ (Limit limit, w, s)
Gives meant Memory w s = Unit {0}

-- what a host answers that meets this cause
abbrev pub done_of_cause : Abrupt → HostDone
done_of_cause abrupt.TypeError = TypeFault
done_of_cause (abrupt.Fault fault) = Fault fault
done_of_cause (abrupt.Limit limit) = Limit limit
done_of_cause abrupt.Memory = Memory

-- a value that is answered is of this world
abbrev pub AnswerBelongs : World → HostDone → Type 0
AnswerBelongs w (Value v) = Belongs w v
AnswerBelongs w TypeFault = Unit {0}
AnswerBelongs w (Dom code) = Unit {0}
AnswerBelongs w (Fault fault) = Unit {0}
AnswerBelongs w (Limit limit) = Unit {0}
AnswerBelongs w Memory = Unit {0}

-- a fault, a limit and want of memory change nothing, neither in the world nor in the host
abbrev pub LeavesOnRefusal : {S : Type 0} → World → S → HostDone → World → S → Type 0
LeavesOnRefusal w s (Value v) x t = Unit {0}
LeavesOnRefusal w s TypeFault x t = Unit {0}
LeavesOnRefusal w s (Dom code) x t = Unit {0}
LeavesOnRefusal w s (Fault fault) x t = (x ≡ w) × (t ≡ s)
LeavesOnRefusal w s (Limit limit) x t = (x ≡ w) × (t ≡ s)
LeavesOnRefusal w s Memory x t = (x ≡ w) × (t ≡ s)

-- what a host keeps of the world in all that it does: it only grew, and by no function of the script
pub record Keeps (old new : World) : Type 0 where
  pub grows : Grows old new
  pub functions : MakesNoFunction old new
