-- The limits that are named, and that no other limits are named as well.
use Rattle.std.proofs.Common.{◌≡◌, ℕ, ◌≤◌, List, [], ◌∷◌, ◌++◌, Option, Some, None, IsTrue, Bool, true, false, bytes_eq, refl, sym, ◌∙◌, string_bytes, arith}
use Rattle.std.specs.Prelude.{codes}
use Rattle.std.proofs.lemmas.Slice.Eq.{bytes_eq-Decides}
use Rattle.rip_limits.specs.Limits.{greatest, AreInRange}
use Rattle.serde_json.specs.Data.{Data, number, unsigned}
use Rattle.serde_json.specs.View.{members_view}
use Rattle.serde_json.proofs.Views.{Entry}
use Rattle.rip_limits.specs.declared.limits.Limits.{Limits}
use Rattle.rip_limits.specs.declared.version.Version.{Version}
use Rattle.rip_limits.specs.declared.version.Version.TheVariants.{One, Two}
use Rattle.rip_manifest.specs.Limits.{is_limit_name, NameLimits, IsLimit, AreLimits}

-- one member more that has the name of a limit
pub NameLimits-push : (v : Version) (done : List Entry) (e : Entry) → NameLimits v (members_view done) → IsTrue (is_limit_name v (string_bytes e.0)) → NameLimits v (members_view (done ++ e ∷ []))
NameLimits-push v [] e h is = (is, tt)
NameLimits-push v (d ∷ done) e h is = (h.0, NameLimits-push v done e h.1 is)

-- a member among those that name limits has the name of one
pub NameLimits-among : (v : Version) (done : List Entry) (e : Entry) (left : List Entry) → NameLimits v (members_view (done ++ e ∷ left)) → IsTrue (is_limit_name v (string_bytes e.0))
NameLimits-among v [] e left h = h.0
NameLimits-among v (d ∷ done) e left h = NameLimits-among v done e left h.1

-- one limit at most
pub IsLimit-unique : (found : Option Data) (usual most m n : ℕ) → IsLimit found usual most m → IsLimit found usual most n → m ≡ n
IsLimit-unique None usual most m n h k = h ∙ sym k
IsLimit-unique (Some value) usual most m n h k = numbers m n (sym h.0 ∙ k.0)
  where
    numbers : (m n : ℕ) → number (unsigned m) ≡ number (unsigned n) → m ≡ n
    numbers m n e = cc

made : ℕ → ℕ → ℕ → ℕ → ℕ → ℕ → ℕ → ℕ → ℕ → Limits
made fuel cells units nodes depth queue sessions text replies = record { fuel = fuel; cells = cells; units = units; nodes = nodes; depth = depth; queue = queue; sessions = sessions; text = text; replies = replies }

same_made : (a b : Limits) → a.fuel ≡ b.fuel → a.cells ≡ b.cells → a.units ≡ b.units → a.nodes ≡ b.nodes → a.depth ≡ b.depth → a.queue ≡ b.queue → a.sessions ≡ b.sessions → a.text ≡ b.text → a.replies ≡ b.replies
    → made a.fuel a.cells a.units a.nodes a.depth a.queue a.sessions a.text a.replies ≡ made b.fuel b.cells b.units b.nodes b.depth b.queue b.sessions b.text b.replies
same_made a b fuel cells units nodes depth queue sessions text replies = cc

same_limits : (a b : Limits) → a.fuel ≡ b.fuel → a.cells ≡ b.cells → a.units ≡ b.units → a.nodes ≡ b.nodes → a.depth ≡ b.depth → a.queue ≡ b.queue → a.sessions ≡ b.sessions → a.text ≡ b.text → a.replies ≡ b.replies → a ≡ b
unfolding made
same_limits a b fuel cells units nodes depth queue sessions text replies = same_made a b fuel cells units nodes depth queue sessions text replies

-- a value names one set of limits at most
pub AreLimits-unique : (v : Version) (d : Data) (a b : Limits) → AreLimits v d a → AreLimits v d b → a ≡ b
AreLimits-unique v d a b h k =
    same_limits a b
    (IsLimit-unique _ _ _ _ _ h.fuel k.fuel)
    (IsLimit-unique _ _ _ _ _ h.cells k.cells)
    (IsLimit-unique _ _ _ _ _ h.units k.units)
    (IsLimit-unique _ _ _ _ _ h.nodes k.nodes)
    (IsLimit-unique _ _ _ _ _ h.depth k.depth)
    (IsLimit-unique _ _ _ _ _ h.queue k.queue)
    (IsLimit-unique _ _ _ _ _ h.sessions k.sessions)
    (IsLimit-unique _ _ _ _ _ h.text k.text)
    (IsLimit-unique _ _ _ _ _ h.replies k.replies)

within : (found : Option Data) (usual most n : ℕ) → 1 ≤ usual → usual ≤ most → IsLimit found usual most n → (1 ≤ n) × (n ≤ most)
within None usual most n low high h = (rw h low, rw h high)
within (Some value) usual most n low high h = (h.1, h.2)

wide : (n most more : ℕ) → most ≤ more → (1 ≤ n) × (n ≤ most) → (1 ≤ n) × (n ≤ more)
wide n most more is h = (h.0, omega arith)

-- what a value names, with the defaults of the others, is in range
pub AreInRange-AreLimits : (v : Version) (d : Data) (a : Limits) → AreLimits v d a → AreInRange a (greatest Two)
AreInRange-AreLimits One d a h = record {
  fuel = wide _ _ _ (omega arith) (within _ _ _ _ (omega arith) (omega arith) h.fuel);
  cells = wide _ _ _ (omega arith) (within _ _ _ _ (omega arith) (omega arith) h.cells);
  units = wide _ _ _ (omega arith) (within _ _ _ _ (omega arith) (omega arith) h.units);
  nodes = wide _ _ _ (omega arith) (within _ _ _ _ (omega arith) (omega arith) h.nodes);
  depth = wide _ _ _ (omega arith) (within _ _ _ _ (omega arith) (omega arith) h.depth);
  queue = wide _ _ _ (omega arith) (within _ _ _ _ (omega arith) (omega arith) h.queue);
  sessions = wide _ _ _ (omega arith) (within _ _ _ _ (omega arith) (omega arith) h.sessions);
  text = wide _ _ _ (omega arith) (within _ _ _ _ (omega arith) (omega arith) h.text);
  replies = wide _ _ _ (omega arith) (within _ _ _ _ (omega arith) (omega arith) h.replies);
}
AreInRange-AreLimits Two d a h = record {
  fuel = within _ _ _ _ (omega arith) (omega arith) h.fuel;
  cells = within _ _ _ _ (omega arith) (omega arith) h.cells;
  units = within _ _ _ _ (omega arith) (omega arith) h.units;
  nodes = within _ _ _ _ (omega arith) (omega arith) h.nodes;
  depth = within _ _ _ _ (omega arith) (omega arith) h.depth;
  queue = within _ _ _ _ (omega arith) (omega arith) h.queue;
  sessions = within _ _ _ _ (omega arith) (omega arith) h.sessions;
  text = within _ _ _ _ (omega arith) (omega arith) h.text;
  replies = within _ _ _ _ (omega arith) (omega arith) h.replies;
}

apart : (known name : List ℕ) → (name ≡ known → ⊥) → bytes_eq known name ≡ false
apart known name other = by (bytes_eq known name) refl
  where
    by : (b : Bool) → bytes_eq known name ≡ b → b ≡ false
    by true e = absurd (other (sym ((bytes_eq-Decides known name).0 e)))
    by false e = refl

-- a name that is none of them is not known
pub is_limit_name-none : (v : Version) (name : List ℕ) → (name ≡ codes "fuel" → ⊥) → (name ≡ codes "cells" → ⊥) → (name ≡ codes "units" → ⊥) → (name ≡ codes "nodes" → ⊥) → (name ≡ codes "depth" → ⊥) → (name ≡ codes "queue" → ⊥) → (name ≡ codes "sessions" → ⊥) → (name ≡ codes "text" → ⊥) → (name ≡ codes "replies" → ⊥)
    → is_limit_name v name ≡ false
is_limit_name-none One name fuel cells units nodes depth queue sessions text replies =
    rw (apart (codes "fuel") name fuel, apart (codes "cells") name cells, apart (codes "units") name units, apart (codes "nodes") name nodes, apart (codes "depth") name depth, apart (codes "queue") name queue, apart (codes "sessions") name sessions)
is_limit_name-none Two name fuel cells units nodes depth queue sessions text replies =
    rw (apart (codes "fuel") name fuel, apart (codes "cells") name cells, apart (codes "units") name units, apart (codes "nodes") name nodes, apart (codes "depth") name depth, apart (codes "queue") name queue, apart (codes "sessions") name sessions, apart (codes "text") name text, apart (codes "replies") name replies)
