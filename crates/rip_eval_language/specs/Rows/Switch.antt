-- The row of `switch` (ECMA-262 12.11).
use Rattle.std.specs.Prelude.{ℕ, ◌+◌, Bool, true, false, if◌then◌else◌, List, [], ◌∷◌, ◌++◌, flat_map}
use Rattle.rip_base.specs.declared.value.Value.{Value}
use Rattle.rip_heap.specs.Conversions.{strictly_equal}
use Rattle.rip_heap.specs.World.{World}
use Rattle.rip_tree.specs.declared.form.Form.{Form}
use Rattle.rip_tree.specs.declared.form.Form.TheVariants as form
use Rattle.rip_eval_rows.specs.declared.completion.Completion.{Completion}
use Rattle.rip_eval_rows.specs.declared.frame.Ending.TheVariants as ending
use Rattle.rip_eval_rows.specs.declared.part.Part.{Part}
use Rattle.rip_eval_rows.specs.Row.{Row, Asks, value_of, with_value}
use Rattle.rip_eval_language.specs.Reading.{Loaded, child, children_from, form_of, part, part_at}
use Rattle.rip_eval_language.specs.Rows.Statements.{carried, done}

abbrev pub is_default : Form → Bool
is_default form.Default = true
is_default f = false

-- the statements of a clause: those of a case stand behind its test
abbrev pub clause_statements : Loaded → ℕ → List ℕ
clause_statements p clause = children_from p clause (if is_default (form_of p clause) then 0 else 1)

-- the statements of these clauses, one clause after another: none ends with its clause
abbrev pub fall_through : Loaded → List ℕ → List ℕ
fall_through p clauses = flat_map (clause_statements p) clauses

-- the clauses from this place on
abbrev pub clauses_from : Loaded → Part → ℕ → List ℕ
clauses_from p at clause = children_from p at.node (clause + 1)

-- the clauses from `default` on, or none where there is no such clause
abbrev pub from_default : Loaded → List ℕ → List ℕ
from_default p [] = []
from_default p (c ∷ cs) = if is_default (form_of p c) then c ∷ cs else from_default p cs

-- statements of clauses, one after another, which `break` leaves
abbrev pub clause_list : Loaded → Part → List ℕ → World → Row
clause_list p at [] w = done w
clause_list p at (s ∷ ss) w = Asks (part at s) w (λ c x. carried ending.Switch c x (clause_list p at ss x))

-- the statements from these clauses on
abbrev pub entered_at : Loaded → Part → List ℕ → World → Row
entered_at p at clauses w = clause_list p at (fall_through p clauses) w

-- the tests in order, until one is strictly equal to the value; where none is, `default`, wherever it stands
abbrev pub case_tests : Loaded → Part → Value → List ℕ → World → Row
case_tests p at v [] w = entered_at p at (from_default p (clauses_from p at 0)) w
case_tests p at v (c ∷ cs) w =
    if is_default (form_of p c) then case_tests p at v cs w
    else value_of (part at (child p c 0)) w (λ t x. if strictly_equal x.pool v t then entered_at p at (c ∷ cs) x else case_tests p at v cs x)

-- after the test of the clause at this place
abbrev pub case_end : Loaded → Part → ℕ → Value → Completion → World → Row
case_end p at clause v c w =
    with_value c w (λ t. if strictly_equal w.pool v t then entered_at p at (clauses_from p at clause) w else case_tests p at v (clauses_from p at (clause + 1)) w)

-- after the statement at this place of the clause at that place
abbrev pub clause_end : Loaded → Part → ℕ → ℕ → Completion → World → Row
clause_end p at clause place c w =
    carried ending.Switch c w (clause_list p at (children_from p (child p at.node (clause + 1)) (place + 1) ++ fall_through p (clauses_from p at (clause + 1))) w)

-- 12.11
abbrev pub switch_row : Loaded → Part → World → Row
switch_row p at w = value_of (part_at p at 0) w (λ v x. case_tests p at v (clauses_from p at 0) x)
