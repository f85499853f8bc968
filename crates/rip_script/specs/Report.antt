-- What is put for a run of a script.
use Rattle.std.specs.Prelude.{ℕ, List, [], ◌∷◌, ◌++◌, length, map, Option, Some, None, codes, decimal, slice_get}
use Rattle.std.specs.List.{range_with_len}
use Rattle.rip_base.specs.declared.value.Fault.{Fault}
use Rattle.rip_base.specs.declared.value.Fault.TheVariants as fault
use Rattle.rip_base.specs.declared.value.Limit.{Limit}
use Rattle.rip_base.specs.declared.value.Limit.TheVariants as limit
use Rattle.rip_base.specs.declared.value.Value.{Value}
use Rattle.rip_tree.specs.Program.{Code}
use Rattle.rip_heap.specs.Scopes.{binding, bindings_of}
use Rattle.rip_heap.specs.World.{World, scope_at}
use Rattle.rip_script.specs.Lines.{lines_text}
use Rattle.rip_script.specs.Values.{name_text, shown_levels, value_text}
use Rattle.rip_script.specs.declared.evaluate.End.{End}
use Rattle.rip_script.specs.declared.evaluate.End.TheVariants as end
use Rattle.rip_script.specs.declared.evaluate.Ended.{Ended}

-- a fault by its name
abbrev pub fault_word : Fault → List ℕ
fault_word fault.NotWhole = codes "NotWhole"
fault_word fault.Infinite = codes "Infinite"
fault_word fault.OutOfRange = codes "OutOfRange"
fault_word fault.Hole = codes "Hole"
fault_word fault.NotInProfile = codes "NotInProfile"
fault_word fault.ObjectToPrimitive = codes "ObjectToPrimitive"
fault_word fault.BadArgument = codes "BadArgument"
fault_word fault.LoneSurrogate = codes "LoneSurrogate"
fault_word fault.TextTooLong = codes "TextTooLong"

-- a limit by its name
abbrev pub limit_word : Limit → List ℕ
limit_word limit.Fuel = codes "Fuel"
limit_word limit.Cells = codes "Cells"
limit_word limit.Units = codes "Units"
limit_word limit.Nodes = codes "Nodes"
limit_word limit.Depth = codes "Depth"
limit_word limit.Queue = codes "Queue"
limit_word limit.Replies = codes "Replies"

-- a value, of which the greatest number of levels is shown
abbrev pub value_word : World → Code → Value → List ℕ
value_word w code v = value_text w code shown_levels [] v

-- how the run ended: its kind, and behind it what was given or thrown, or which fault or limit it was
abbrev pub end_words : World → Code → End → List (List ℕ)
end_words w code (end.Value v) = codes "value" ∷ value_word w code v ∷ []
end_words w code (end.Thrown v) = codes "thrown" ∷ value_word w code v ∷ []
end_words w code (end.Fault f) = codes "fault" ∷ fault_word f ∷ []
end_words w code (end.Limit l) = codes "limit" ∷ limit_word l ∷ []

-- the name of a binding, or `?` where the program has none
abbrev pub name_word : Option (List ℕ) → List ℕ
name_word None = codes "?"
name_word (Some name) = name_text name

-- the value of a binding, or `unbound` where it has none yet
abbrev pub bound_word : World → Code → Option Value → List ℕ
bound_word w code None = codes "unbound"
bound_word w code (Some v) = value_word w code v

-- the words for the binding of the top scope at this place
abbrev pub binding_line : Code → World → ℕ → List (List ℕ)
binding_line code w place = name_word (slice_get code.top place) ∷ codes "=" ∷ bound_word w code (binding w 0 place) ∷ []

-- a line for each binding of the top scope, in their order
abbrev pub binding_lines : Code → World → List (List (List ℕ))
binding_lines code w = map (binding_line code w) (range_with_len 0 (length (bindings_of (scope_at w 0))))

-- the lines before those: how the run ended, its fuel, and the cells and units that were charged
abbrev pub head_lines : Code → Ended → List (List (List ℕ))
head_lines code ended =
    (codes "outcome" ∷ end_words ended.heap code ended.end)
    ∷ (codes "fuel" ∷ decimal ended.spent ∷ [])
    ∷ (codes "cells" ∷ decimal ended.heap.cells ∷ [])
    ∷ (codes "units" ∷ decimal ended.heap.pool.used ∷ [])
    ∷ []

-- what is put for a run that ended so
abbrev pub run_text : Code → Ended → List ℕ
run_text code ended = lines_text (head_lines code ended ++ binding_lines code ended.heap)
