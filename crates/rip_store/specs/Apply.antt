-- What a served call does to a store, and its reply.
use Rattle.std.specs.Prelude.{ℕ, nat_eq, List, [], ◌∷◌, codes, Option, Some, None, Result, Ok, Err, if◌then◌else◌}
use Rattle.std.specs.Option.{ok_or}
use Rattle.std.specs.Cmp.Lexicographic.{pointwise}
use Rattle.rip_data.specs.Datum.{Tree, text, object, field, no_fields, utf8_of}
use Rattle.rip_manifest.specs.declared.function.Function.{Function}
use Rattle.rip_store.specs.declared.refusal.Refusal.{Refusal}
use Rattle.rip_store.specs.declared.refusal.Refusal.TheVariants.{Unknown, Arguments, Range, Full}
use Rattle.rip_store.specs.Places.{Stored, changed}
use Rattle.rip_store.specs.Operations.{Outcome, ◌>>=◌, operate}

-- the first function of this name
abbrev pub function_named : List Function → List ℕ → Option Function
function_named [] name = None
function_named (f ∷ fs) name = if pointwise nat_eq f.name name then Some f else function_named fs name

-- what a call gives: a change and a reply, or why it is refused
abbrev pub answer : List Function → Stored → List ℕ → List Tree → Result Outcome Refusal
answer fs s name args = do
  f ← ok_or (function_named fs name) Unknown
  operate f.op s (utf8_of f.prefix) args

-- the word for a refusal
abbrev pub word : Refusal → List ℕ
word Unknown = codes "unknown"
word Arguments = codes "arguments"
word Range = codes "range"
word Full = codes "full"

-- the reply that tells a refusal: `{"error":E}`
abbrev pub error : Refusal → Tree
error e = object (field (codes "error") (text (word e)) no_fields)

-- the store and the reply; a refusal leaves the store
abbrev pub settled : Stored → Result Outcome Refusal → Stored × Tree
settled s (Ok o) = (changed s o.0, o.1)
settled s (Err e) = (s, error e)

-- the store after a call of the function with this name, and the reply
abbrev pub apply : List Function → Stored → List ℕ → List Tree → Stored × Tree
apply fs s name args = settled s (answer fs s name args)

-- the store after calls, each a name and args, and the replies
abbrev pub fold : List Function → Stored → List (List ℕ × List Tree) → Stored × List Tree
fold fs s [] = (s, [])
fold fs s (c ∷ cs) =
    let first = apply fs s c.0 c.1 in
    let others = fold fs first.0 cs in
    (others.0, first.1 ∷ others.1)
