-- What the liar tells.
use Rattle.std.specs.Prelude.{Bool, true, false, if◌then◌else◌, List, [], ◌∷◌, codes}
use Rattle.rip_wire.specs.Batches.{Contents}
use Rattle.rip_wire.specs.Items.{Reported, event, call, reply}

-- there is a call among the items
abbrev pub tells_call : List Reported → Bool
tells_call [] = false
tells_call (event kind node text place ∷ items) = tells_call items
tells_call (call number name args ∷ items) = true
tells_call (reply number ∷ items) = tells_call items

-- the items up to the first call, whose name is `x`
abbrev pub lied_items : List Reported → List Reported
lied_items [] = []
lied_items (event kind node text place ∷ items) = event kind node text place ∷ lied_items items
lied_items (call number name args ∷ items) = call number (codes "x") args ∷ []
lied_items (reply number ∷ items) = reply number ∷ lied_items items

abbrev pub lied_batch : Contents → Contents
lied_batch batch = record { number = batch.number; items = lied_items batch.items }

-- there is a call in the batches
abbrev pub lies_in : List Contents → Bool
lies_in [] = false
lies_in (batch ∷ batches) = if tells_call batch.items then true else lies_in batches

-- the batches up to the first call, whose name is `x`
abbrev pub lied : List Contents → List Contents
lied [] = []
lied (batch ∷ batches) = lied_batch batch ∷ (if tells_call batch.items then [] else lied batches)
