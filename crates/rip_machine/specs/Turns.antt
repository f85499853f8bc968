-- The rows of loops as the standard has them, with the completions of their parts (ECMA-262 12.6). The table says the same
-- turn by turn, by the frames that are open.
use Rattle.std.specs.Prelude.{◌≡◌, ℕ, Option, None, Some}
use Rattle.rip_heap.specs.World.{World}
use Rattle.rip_eval_rows.specs.declared.part.Part.{Part}
use Rattle.rip_eval_rows.specs.Row.{Row, Asks, with_value}
use Rattle.rip_eval_rows.specs.Run.{Calling, run}
use Rattle.rip_eval_language.specs.Reading.{Loaded, child_at, part, part_at}
use Rattle.rip_eval_language.specs.Rows.Statements.{do_row, for_turn, goes_on, tested, while_row}
use Rattle.rip_eval_language.specs.Table.{table}

-- 12.6.1: the statement, and then the test, and where it holds the loop again
abbrev pub do_loop : Loaded → Part → World → Row
do_loop p at w = Asks (part_at p at 0) w (λ c x. goes_on c x (Asks (part_at p at 1) x (λ d y. tested d y (do_row p at y))))

-- 12.6.2: the test, and where it holds the statement, and then the loop again
abbrev pub while_loop : Loaded → Part → World → Row
while_loop p at w = Asks (part_at p at 0) w (λ c x. tested c x (Asks (part_at p at 1) x (λ d y. goes_on d y (while_row p at y))))

-- 12.6.3: after the statement the update, where there is one, and then the loop again
abbrev pub for_updated : Loaded → Part → Option ℕ → World → Row
for_updated p at None w = for_turn p at w
for_updated p at (Some update) w = Asks (part at update) w (λ c x. with_value c x (λ _. for_turn p at x))

abbrev pub for_stated : Loaded → Part → World → Row
for_stated p at w = Asks (part_at p at 3) w (λ c x. goes_on c x (for_updated p at (child_at p at.node 2) x))

-- 12.6.3: the test, where there is one, and where it holds the statement
abbrev pub for_tested : Loaded → Part → Option ℕ → World → Row
for_tested p at None w = for_stated p at w
for_tested p at (Some test) w = Asks (part at test) w (λ c x. tested c x (for_stated p at x))

abbrev pub for_loop : Loaded → Part → World → Row
for_loop p at w = for_tested p at (child_at p at.node 1) w

-- two rows run alike, with any depth and any number of units
abbrev pub RunAlike : {S : Type 0} → Calling S → Loaded → S → Row → Row → Type 0
RunAlike h p s a b = (room u : ℕ) → run h (table p) room a u s ≡ run h (table p) room b u s

-- each loop of the table runs as its row of the standard
abbrev pub LoopsAreTheirRows : {S : Type 0} → Calling S → Loaded → Part → World → S → Type 0
LoopsAreTheirRows h p at w s =
    RunAlike h p s (do_row p at w) (do_loop p at w)
    × RunAlike h p s (while_row p at w) (while_loop p at w)
    × RunAlike h p s (for_turn p at w) (for_loop p at w)
