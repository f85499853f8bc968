-- A loop runs as the row that asks for its parts.
use Rattle.std.proofs.Common.{◌≡◌, ℕ, Bool, true, false, if◌then◌else◌, Option, None, Some, refl, sym, ◌∙◌}
use Rattle.rip_heap.specs.Conversions.{boolean_of}
use Rattle.rip_heap.specs.World.{World}
use Rattle.rip_eval_rows.specs.declared.completion.Completion.{Completion}
use Rattle.rip_eval_rows.specs.declared.completion.Completion.TheVariants.{Normal, Thrown, Returned, Broken, Continued, Referred, Method}
use Rattle.rip_eval_rows.specs.declared.part.Part.{Part}
use Rattle.rip_eval_rows.specs.Row.{Row, Asks, Again, Table}
use Rattle.rip_eval_rows.specs.Run.{Answer, Completes, Stops, Cuts, Calling, ev, follow, run}
use Rattle.rip_eval_rows.specs.Stack.{Open}
use Rattle.rip_eval_rows.proofs.Runs.{run-again, run-asks}
use Rattle.rip_eval_language.specs.Reading.{Loaded, child_at}
use Rattle.rip_eval_language.specs.Rows.Statements.{do_row, done, for_statement, for_turn_by, for_update_by, goes_on, tested, while_row}
use Rattle.rip_eval_language.specs.Table.{table}
use Rattle.rip_machine.specs.Turns.{LoopsAreTheirRows, do_loop, for_stated, for_tested, for_updated, while_loop}

follow_same : {S : Type 0} (answer : Answer S) (f g : Completion → ℕ → World → S → Answer S) → ((c : Completion) (u : ℕ) (w : World) (s : S) → f c u w s ≡ g c u w s) → follow answer f ≡ follow answer g
follow_same (Completes c u w s) f g e = e c u w s
follow_same (Stops stop room u w s) f g e = refl
follow_same (Cuts room w s) f g e = refl

-- a turn of a loop runs as a row that asks for the same part, where what follows it runs alike
again_asks : {S : Type 0} (h : Calling S) (t : Table) (room : ℕ) (part : Part) (w : World) (o : Open) (k : Completion → World → Row) (u : ℕ) (s : S)
    → ((c : Completion) (v : ℕ) (x : World) (r : S) → run h t part.room (t.rest o c x) v r ≡ run h t part.room (k c x) v r)
    → run h t room (Again part w o) u s ≡ run h t room (Asks part w k) u s
again_asks h t room part w o k u s e =
    run-again h t room part w o u s
    ∙ follow_same (ev h t part u w s) (λ c v x r. run h t part.room (t.rest o c x) v r) (λ c v x r. run h t part.room (k c x) v r) e
    ∙ sym (run-asks h t room part w k u s)

if_same : {S : Type 0} (h : Calling S) (t : Table) (room : ℕ) (b : Bool) (w : World) (again other : Row) (u : ℕ) (s : S) → run h t room again u s ≡ run h t room other u s
    → run h t room (if b then again else done w) u s ≡ run h t room (if b then other else done w) u s
if_same h t room true w again other u s e = e
if_same h t room false w again other u s e = refl

tested_same : {S : Type 0} (h : Calling S) (t : Table) (room : ℕ) (c : Completion) (w : World) (again other : Row) (u : ℕ) (s : S) → run h t room again u s ≡ run h t room other u s
    → run h t room (tested c w again) u s ≡ run h t room (tested c w other) u s
tested_same h t room (Normal v) w again other u s e = if_same h t room (boolean_of w.pool v) w again other u s e
tested_same h t room (Thrown v) w again other u s e = refl
tested_same h t room (Returned v) w again other u s e = refl
tested_same h t room Broken w again other u s e = refl
tested_same h t room Continued w again other u s e = refl
tested_same h t room (Referred r) w again other u s e = refl
tested_same h t room (Method f this) w again other u s e = refl

goes_on_same : {S : Type 0} (h : Calling S) (t : Table) (room : ℕ) (c : Completion) (w : World) (again other : Row) (u : ℕ) (s : S) → run h t room again u s ≡ run h t room other u s
    → run h t room (goes_on c w again) u s ≡ run h t room (goes_on c w other) u s
goes_on_same h t room (Normal v) w again other u s e = e
goes_on_same h t room (Thrown v) w again other u s e = refl
goes_on_same h t room (Returned v) w again other u s e = refl
goes_on_same h t room Broken w again other u s e = refl
goes_on_same h t room Continued w again other u s e = e
goes_on_same h t room (Referred r) w again other u s e = e
goes_on_same h t room (Method f this) w again other u s e = e

do_same : {S : Type 0} (h : Calling S) (p : Loaded) (at : Part) (room : ℕ) (w : World) (u : ℕ) (s : S) → run h (table p) room (do_row p at w) u s ≡ run h (table p) room (do_loop p at w) u s
do_same h p at room w u s =
    again_asks h (table p) room _ w _ _ u s
    (λ c v x r. goes_on_same h (table p) _ c x _ _ v r (again_asks h (table p) _ _ x _ _ v r (λ d i y q. refl)))

while_same : {S : Type 0} (h : Calling S) (p : Loaded) (at : Part) (room : ℕ) (w : World) (u : ℕ) (s : S) → run h (table p) room (while_row p at w) u s ≡ run h (table p) room (while_loop p at w) u s
while_same h p at room w u s =
    again_asks h (table p) room _ w _ _ u s
    (λ c v x r. tested_same h (table p) _ c x _ _ v r (again_asks h (table p) _ _ x _ _ v r (λ d i y q. refl)))

update_same : {S : Type 0} (h : Calling S) (p : Loaded) (at : Part) (update : Option ℕ) (room : ℕ) (w : World) (u : ℕ) (s : S) → run h (table p) room (for_update_by p at update w) u s ≡ run h (table p) room (for_updated p at update w) u s
update_same h p at None room w u s = refl
update_same h p at (Some update) room w u s = again_asks h (table p) room _ w _ _ u s (λ c v x r. refl)

stated_same : {S : Type 0} (h : Calling S) (p : Loaded) (at : Part) (room : ℕ) (w : World) (u : ℕ) (s : S) → run h (table p) room (for_statement p at w) u s ≡ run h (table p) room (for_stated p at w) u s
stated_same h p at room w u s =
    again_asks h (table p) room _ w _ _ u s
    (λ c v x r. goes_on_same h (table p) _ c x _ _ v r (update_same h p at (child_at p at.node 2) _ x v r))

for_same : {S : Type 0} (h : Calling S) (p : Loaded) (at : Part) (test : Option ℕ) (room : ℕ) (w : World) (u : ℕ) (s : S) → run h (table p) room (for_turn_by p at test w) u s ≡ run h (table p) room (for_tested p at test w) u s
for_same h p at None room w u s = stated_same h p at room w u s
for_same h p at (Some test) room w u s =
    again_asks h (table p) room _ w _ _ u s
    (λ c v x r. tested_same h (table p) _ c x _ _ v r (stated_same h p at _ x v r))

pub loops_same : {S : Type 0} (h : Calling S) (p : Loaded) (at : Part) (w : World) (s : S) → LoopsAreTheirRows h p at w s
loops_same h p at w s =
    (λ room u. do_same h p at room w u s, λ room u. while_same h p at room w u s, λ room u. for_same h p at (child_at p at.node 1) room w u s)
