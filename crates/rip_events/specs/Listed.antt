-- The listeners of a session (DOM Level 2 Events 1.3.1), as one list of all that were ever registered.
use Rattle.std.specs.Prelude.{◌≡◌, ℕ, zero, suc, Bool, true, false, not, ◌-◌, ◌<◌, ◌==◌, ◌&&◌, if◌then◌else◌, nat_eq, Option, None, Some, IsSome, Result, Ok, Err, List, [], ◌∷◌, ◌++◌, length, slice_index_or, slice_set}
use Rattle.rip_base.specs.declared.value.Limit.TheVariants.{Cells}
use Rattle.rip_base.specs.declared.value.Refused.{Refused}
use Rattle.rip_base.specs.declared.value.Refused.TheVariants.{Limit as At, Memory}
use Rattle.std.specs.Cmp.Lexicographic.{pointwise}
use Rattle.rip_values.specs.Pool.{Texts, text_at}
use Rattle.rip_heap.specs.World.{World, charging}
use Rattle.rip_heap.specs.Names.{same_text}
use Rattle.rip_events.specs.declared.listener.Listener.{Listener}
use Rattle.rip_events.specs.declared.listener.Wanted.{Wanted}

-- all registrations, in their order, and of each whether it still stands. The number of a listener is its place here,
-- the count of registrations before it, so that no number comes a second time. There is room for so many, on nodes
-- below the bound
pub record Listed : Type 0 where
  pub limit : ℕ
  pub nodes : ℕ
  pub registered : List Listener
  pub standing : List Bool

-- what a listener costs, in cells
abbrev pub cost_of_listener : ℕ
cost_of_listener = 1

-- what is told of a number that is no listener's; it does not stand
abbrev pub no_listener : Listener
no_listener = record { node = 0; kind = record { start = 0; count = 0 }; function = 0; capture = false }

-- the listener of this number
abbrev pub listener_at : List Listener → ℕ → Listener
listener_at all n = slice_index_or all n no_listener

-- whether the listener of this number stands
abbrev pub stands_at : List Bool → ℕ → Bool
stands_at standing n = slice_index_or standing n false

-- the first of k numbers, from this one on, for which the test is true
abbrev pub first_number : ℕ → ℕ → (ℕ → Bool) → Option ℕ
first_number zero n test = None
first_number (suc k) n test = if test n then Some n else first_number k (suc n) test

-- any function will do, or this one alone
abbrev pub may_be : Option ℕ → ℕ → Bool
may_be None f = true
may_be (Some g) f = f == g

-- the listener is for the phase that is wanted
abbrev pub is_alike : Bool → Bool → Bool
is_alike wanted capture = if wanted then capture else not capture

-- what is sought where this very listener is
abbrev pub same_as : Listener → Wanted
same_as l = record { node = l.node; kind = l.kind; function = Some l.function; capture = l.capture }

-- the listener is on this node, of this phase and function, and of a type with this text
abbrev pub is_wanted : Texts → Wanted → Listener → Bool
is_wanted pool w l = (l.node == w.node) && (is_alike w.capture l.capture && (may_be w.function l.function && same_text pool l.kind w.kind))

-- the listener is on this node, of this phase and function, and of a type with the text that is given
abbrev pub is_typed : Texts → Wanted → List ℕ → Listener → Bool
is_typed pool w text l = (l.node == w.node) && (is_alike w.capture l.capture && (may_be w.function l.function && pointwise nat_eq (text_at pool l.kind) text))

-- the listener of this number stands, and is one that is wanted
abbrev pub fits : Texts → Wanted → Listed → ℕ → Bool
fits pool w l n = stands_at l.standing n && is_wanted pool w (listener_at l.registered n)

-- the listener of this number stands, and is one that is wanted, of a type with the text that is given
abbrev pub fits_typed : Texts → Wanted → List ℕ → Listed → ℕ → Bool
fits_typed pool w text l n = stands_at l.standing n && is_typed pool w text (listener_at l.registered n)

-- the first listener that fits, of those from the one number up to the other, without this one
abbrev pub first_between : Texts → Wanted → ℕ → ℕ → Listed → Option ℕ
first_between pool w from until l = first_number (until - from) from (fits pool w l)

-- the listener of these four that stands, of which there is one at most
abbrev pub found : Texts → Wanted → Listed → Option ℕ
found pool w l = first_between pool w 0 (length l.registered) l

-- the first listener that fits and is of a type with the text that is given, of those from the one number up to the other
abbrev pub first_typed : Texts → Wanted → List ℕ → ℕ → ℕ → Listed → Option ℕ
first_typed pool w text from until l = first_number (until - from) from (fits_typed pool w text l)

-- the listener of these three that stands and is of a type with this text, wherever the text stands
abbrev pub typed : Texts → ℕ → List ℕ → ℕ → Bool → Listed → Option ℕ
typed pool node text f capture l =
    first_typed pool (record { node = node; kind = record { start = 0; count = 0 }; function = Some f; capture = capture }) text 0 (length l.registered) l

-- one listener more, behind all others
abbrev pub with_listener : Listener → Listed → Listed
with_listener x l = record l { registered = l.registered ++ x ∷ []; standing = l.standing ++ true ∷ [] }

-- the listener of this number stands no longer
abbrev pub without_listener : Option ℕ → Listed → Listed
without_listener None l = l
without_listener (Some n) l = record l { standing = slice_set l.standing n false }

-- a listener is registered at its charge, unless one of the same four stands
abbrev pub registered : Option ℕ → Listener → Listed → World → Option (Listed × World)
registered None x l w = charging cost_of_listener w (λ paid. (with_listener x l, paid))
registered (Some n) x l w = Some (l, w)

-- there is room for one listener more, and it is on a node below the bound
abbrev pub HasRoom : Listed → ℕ → Type 0
HasRoom l node = (length l.registered < l.limit) × (node < l.nodes)

-- what an answer says of the registration, of the listeners and the world before and after it. What is refused changes
-- neither, and want of memory comes only where the limit allows the charge and the rooms that the maker took are too small
abbrev pub Registers : Option (Listed × World) → ℕ → Listed → World → Result (Unit {0}) Refused → Listed → World → Type 0
Registers step node l w (Ok done) m v = step ≡ Some (m, v)
Registers step node l w (Err (At limit)) m v = (limit ≡ Cells) × (step ≡ None) × (m ≡ l) × (v ≡ w)
Registers step node l w (Err Memory) m v = IsSome step × (HasRoom l node → ⊥) × (m ≡ l) × (v ≡ w)
