-- What a call tells is data that is well made, so that its text is read again as that data.
use Rattle.std.specs.Prelude.{◌≡◌, ◌≤◌, ℕ, List, length, Ok}
use Rattle.rip_base.specs.declared.value.Span.{Span}
use Rattle.rip_base.specs.declared.value.Value.{Value}
use Rattle.rip_base.specs.declared.value.Value.TheVariants.{Object}
use Rattle.rip_values.specs.Pool.{text_at}
use Rattle.rip_heap.specs.declared.holder.Holder.TheVariants.{ArrayObject}
use Rattle.rip_heap.specs.Holders.{holder_of}
use Rattle.rip_heap.specs.World.{World, object_at}
use Rattle.rip_data.specs.Datum.{Tree, array, elements_of, IsDatum, nesting, utf8_of, canonical_text}
use Rattle.rip_convert.specs.Arguments.{call_line, call_text}

-- the datum may be the arguments of a call: it is well made, nests at most 8 levels deep, and has a canonical text of at
-- most 16,384 bytes
pub record IsArgument (t : Tree) : Type 0 where
  pub made : IsDatum t
  pub shallow : nesting t ≤ 8
  pub short : length (canonical_text t) ≤ 16384

-- the text is the canonical one of a datum that may be the arguments of a call
abbrev pub IsCanonical : List ℕ → Type 0
IsCanonical text = (t : Tree) × (IsArgument t × (canonical_text t ≡ text))

-- the text is that of a call of this name in UTF-8, whose arguments are such a datum
abbrev pub IsCallOf : List ℕ → List ℕ → Type 0
IsCallOf name text = (args : List ℕ) × (IsCanonical args × (call_line name args ≡ text))

-- each text that a call comes to is that of a call of its name with such arguments
abbrev pub CallsAreTold : Type 0
CallsAreTold =
    (w : World) (name : Span) (args : Value) (text : List ℕ) → call_text w name args ≡ Ok text
    → IsCallOf (utf8_of (text_at w.pool name)) text

-- the text is that of a call of this name in UTF-8, whose arguments are a list of data that may be those of a call
abbrev pub IsListCall : List ℕ → List ℕ → Type 0
IsListCall name text =
    (args : List Tree) × (IsArgument (array (elements_of args)) × (call_line name (canonical_text (array (elements_of args))) ≡ text))

-- each text that a call comes to, whose arguments are an array, is that of such a call of its name
abbrev pub ListsAreTold : Type 0
ListsAreTold =
    (w : World) (name : Span) (n : ℕ) (text : List ℕ) → holder_of (object_at w n) ≡ ArrayObject
    → call_text w name (Object n) ≡ Ok text → IsListCall (utf8_of (text_at w.pool name)) text
