-- Worked scripts, whose counts were found by hand from the table of charges. The meaning gives them.
use Rattle.std.specs.Prelude.{ℕ, ◌-◌, suc, pos, true, false, List, [], ◌∷◌, length, codes, Option, None, Some, replicate, option_map}
use Rattle.rip_base.specs.declared.operator.BinaryOperator.TheVariants.{Less}
use Rattle.rip_base.specs.declared.operator.StepOperator.TheVariants.{Increment}
use Rattle.rip_base.specs.declared.value.Fault.TheVariants.{NotInProfile}
use Rattle.rip_base.specs.declared.value.Value.{Value}
use Rattle.rip_base.specs.declared.value.Value.TheVariants.{Undefined}
use Rattle.rip_heap.specs.declared.host.HostDone.TheVariants as host
use Rattle.rip_heap.specs.Scopes.{binding}
use Rattle.rip_heap.specs.World.{World}
use Rattle.rip_tree.specs.declared.form.Form.{Form}
use Rattle.rip_tree.specs.declared.form.Form.TheVariants as form
use Rattle.rip_tree.specs.declared.node.Piece.{Piece}
use Rattle.rip_tree.specs.declared.program.Resolved.TheVariants.{Binding}
use Rattle.rip_tree.specs.declared.program.Scoping.{Scoping}
use Rattle.rip_tree.specs.Branches.{Branch}
use Rattle.rip_eval_rows.specs.declared.completion.Completion.TheVariants.{Normal}
use Rattle.rip_eval_rows.specs.declared.completion.Stop.{Stop}
use Rattle.rip_eval_rows.specs.Cut.{run_of}
use Rattle.rip_eval_rows.specs.Run.{Answer, Completes, Stops, Cuts, Calling}
use Rattle.rip_eval_language.specs.Reading.{Loaded}
use Rattle.rip_eval_language.specs.Rows.Scripts.{script_entered, script_row}
use Rattle.rip_eval_language.specs.Table.{table}

-- PROGRAMS, as trees whose places and spellings do not matter

-- no place of a worked script counts
abbrev pub nowhere : Piece
nowhere = record { start = 0; count = 0 }

-- a node of a worked script
abbrev pub node : Form → List (Option ℕ) → Branch
node f children = record { node = record { place = 0; form = f }; children = children }

-- a text of a worked script
abbrev pub text : Form
text = form.Text (record { value = nowhere; is_plain = true })

-- a function of a worked script without a name
abbrev pub no_name : Scoping
no_name = record { names = 0; resolved = None; is_own = false }

-- a node that reads or binds the name at this place, so many scopes further out
abbrev pub names : ℕ → ℕ → Scoping
names up place = record no_name { resolved = Some (Binding up place) }

-- the only script of a page, whose top scope has these names, of which it declares those at these places by `var`
abbrev pub script : List (List ℕ) → List ℕ → List Branch → List Scoping → Loaded
script top vars branches scoping = record {
  code = record { grove = record { branches = branches; units = []; roots = 0 ∷ [] }; top = top; vars = vars ∷ []; scoping = scoping };
  literals = [];
}

-- "use strict";var i=0;while(i<3){i++;}
abbrev pub counting : Loaded
counting = script (codes "i" ∷ []) (0 ∷ [])
    (node form.Script (Some 1 ∷ Some 3 ∷ Some 6 ∷ [])
    ∷ node form.Expression (Some 2 ∷ [])
    ∷ node text []
    ∷ node form.Var (Some 4 ∷ [])
    ∷ node (form.Declarator nowhere) (Some 5 ∷ [])
    ∷ node (form.Number (pos 0)) []
    ∷ node form.While (Some 7 ∷ Some 10 ∷ [])
    ∷ node (form.Binary Less) (Some 8 ∷ Some 9 ∷ [])
    ∷ node (form.Name nowhere) []
    ∷ node (form.Number (pos 3)) []
    ∷ node form.Block (Some 11 ∷ [])
    ∷ node form.Expression (Some 12 ∷ [])
    ∷ node (form.Postfix Increment) (Some 13 ∷ [])
    ∷ node (form.Name nowhere) []
    ∷ [])
    (no_name ∷ no_name ∷ no_name ∷ no_name ∷ names 0 0 ∷ no_name ∷ no_name ∷ no_name ∷ names 0 0 ∷ no_name ∷ no_name ∷ no_name ∷ no_name ∷ names 0 0 ∷ [])

-- "use strict";function c(){var n=0;return function(){n++;return n;};}var f=c();f();var r=f();
abbrev pub closing : Loaded
closing = script (codes "c" ∷ codes "f" ∷ codes "r" ∷ []) (1 ∷ 2 ∷ [])
    (node form.Script (Some 1 ∷ Some 3 ∷ Some 14 ∷ Some 18 ∷ Some 21 ∷ [])
    ∷ node form.Expression (Some 2 ∷ [])
    ∷ node text []
    ∷ node (form.FunctionDeclaration (record { name = Some nowhere; parameters = 0 })) (Some 4 ∷ Some 7 ∷ [])
    ∷ node form.Var (Some 5 ∷ [])
    ∷ node (form.Declarator nowhere) (Some 6 ∷ [])
    ∷ node (form.Number (pos 0)) []
    ∷ node form.Return (Some 8 ∷ [])
    ∷ node (form.Function (record { name = None; parameters = 0 })) (Some 9 ∷ Some 12 ∷ [])
    ∷ node form.Expression (Some 10 ∷ [])
    ∷ node (form.Postfix Increment) (Some 11 ∷ [])
    ∷ node (form.Name nowhere) []
    ∷ node form.Return (Some 13 ∷ [])
    ∷ node (form.Name nowhere) []
    ∷ node form.Var (Some 15 ∷ [])
    ∷ node (form.Declarator nowhere) (Some 16 ∷ [])
    ∷ node form.Call (Some 17 ∷ [])
    ∷ node (form.Name nowhere) []
    ∷ node form.Expression (Some 19 ∷ [])
    ∷ node form.Call (Some 20 ∷ [])
    ∷ node (form.Name nowhere) []
    ∷ node form.Var (Some 22 ∷ [])
    ∷ node (form.Declarator nowhere) (Some 23 ∷ [])
    ∷ node form.Call (Some 24 ∷ [])
    ∷ node (form.Name nowhere) []
    ∷ [])
    (no_name ∷ no_name ∷ no_name ∷ record (names 0 0) { names = 1 } ∷ no_name ∷ names 0 0 ∷ no_name ∷ no_name ∷ no_name ∷ no_name ∷ no_name ∷ names 1 0 ∷ no_name ∷ names 1 0
    ∷ no_name ∷ names 0 1 ∷ no_name ∷ names 0 0 ∷ no_name ∷ no_name ∷ names 0 1 ∷ no_name ∷ names 0 2 ∷ no_name ∷ names 0 1 ∷ [])

-- RUNS

-- the world in which a page begins: the top scope, with so many cells as the limit
abbrev pub at_first : Loaded → ℕ → World
at_first p limit = record {
  limit = limit;
  cells = suc (length p.code.top);
  pool = record { units = []; used = 0; limit = 0; text_limit = 0 };
  objects = [];
  scopes = record { parent = None; bindings = replicate (length p.code.top) None } ∷ [];
}

-- a host with nothing behind it
abbrev pub no_host : Calling (Unit {0})
no_host s w request = (host.Fault NotInProfile, w, s)

-- how the script comes out with so many cells as the limit and so much fuel, after k units, where 64 is the depth; none
-- where it may not begin
abbrev pub comes_out : Loaded → ℕ → ℕ → ℕ → Option (Answer (Unit {0}))
comes_out p limit fuel k = option_map (λ w. run_of no_host (table p) 64 (script_row p 0 64 w) tt fuel k) (script_entered p 1 (at_first p limit))

-- what is seen of an answer: how it ends, the units left or the depth that is open, the cells, and the top binding at a
-- place
pub data Seen : Type 0 where
  Ended : ℕ → ℕ → Option Value → Seen
  Stopped : Stop → ℕ → ℕ → Option Value → Seen
  Open : ℕ → ℕ → Option Value → Seen

-- what is seen of a worked run
abbrev pub seen : ℕ → Answer (Unit {0}) → Option Seen
seen place (Completes (Normal Undefined) u w s) = Some (Ended u w.cells (binding w 0 place))
seen place (Completes c u w s) = None
seen place (Stops stop room u w s) = Some (Stopped stop (64 - room) w.cells (binding w 0 place))
seen place (Cuts room w s) = Some (Open (64 - room) w.cells (binding w 0 place))

-- what is seen of the script after k units
abbrev pub shows : Loaded → ℕ → ℕ → ℕ → ℕ → Option Seen
shows p limit fuel k place = elim (comes_out p limit fuel k) [ Some answer ↦ seen place answer | None ↦ None ]
