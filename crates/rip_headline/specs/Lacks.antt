-- Where a session of an application may want memory: at an item that reports a call, and so at no event, no reply and not at
-- the opening.
use Rattle.std.specs.Prelude.{◌≡◌, ◌⊎◌, ℕ, true, List, [], ◌∷◌}
use Rattle.rip_app.specs.App.{Loaded}
use Rattle.rip_wire.specs.Batches.{Contents}
use Rattle.rip_history.specs.Parts.{Given, IsLack, Lacking, serves_call}
use Rattle.rip_law_replica.specs.Prefix.{Placed, items_of}
use Rattle.rip_replica.specs.Parts.{Doing}
use Rattle.rip_session.specs.Application.{doing_of, meaning_of_app}

-- the item has this number in the batch of that number, and reports a call
abbrev pub IsCallHere : {A S : Type 0} → Doing A S → ℕ → ℕ → Placed A → Type 0
IsCallHere d batch number p = (p.batch ≡ batch) × (p.number ≡ number) × (serves_call (d.fact p.item) ≡ true)

-- one of these items has that place, and reports a call
abbrev pub HasCallAt : {A S : Type 0} → Doing A S → ℕ → ℕ → List (Placed A) → Type 0
HasCallAt d batch number [] = ⊥
HasCallAt d batch number (p ∷ ps) = IsCallHere d batch number p ⊎ HasCallAt d batch number ps

-- where memory may be wanting in a session there is an item of it that reports a call
abbrev pub LacksAreAtCalls : Type 0
LacksAreAtCalls = (app : Loaded) (seed time : ℕ) (bs : List Contents) (gs : List Given) (l : Lacking)
    → IsLack l (meaning_of_app app seed time bs gs)
    → HasCallAt (doing_of app seed time) l.batch l.item (items_of (doing_of app seed time) bs)
