-- The clauses of a `switch`: the first statement from a clause on.
use Rattle.std.proofs.Common.{◌≡◌, ℕ, ◌+◌, Bool, false, ◌∷◌, ◌++◌, Some, ap, sym, ◌∙◌, if◌then◌else◌}
use Rattle.std.specs.Prelude.{unwrap_or}
use Rattle.rip_base.specs.declared.value.Value.{Value}
use Rattle.rip_heap.specs.Conversions.{strictly_equal}
use Rattle.rip_heap.specs.World.{World}
use Rattle.rip_eval_rows.specs.declared.completion.Completion.TheVariants.{Normal}
use Rattle.rip_eval_rows.specs.declared.frame.Ending.TheVariants as ending
use Rattle.rip_eval_rows.specs.declared.part.Part.{Part}
use Rattle.rip_eval_rows.specs.Row.{Asks, value_of, with_value}
use Rattle.rip_eval_language.specs.Reading.{Loaded, child, child_at, children_from, form_of, part}
use Rattle.rip_eval_language.specs.Rows.Statements.{carried}
use Rattle.rip_eval_language.specs.Rows.Switch.{case_end, case_tests, clause_end, clause_list, clause_statements, clauses_from, entered_at, fall_through, is_default}
use Rattle.rip_eval_language.proofs.Children.{children_some}

pub clause_found : (p : Loaded) (at : Part) (clause c place s : ℕ) (w : World) → child_at p at.node (clause + 1) ≡ Some c
    → place ≡ (if is_default (form_of p c) then 0 else 1) → child_at p c place ≡ Some s
    → entered_at p at (clauses_from p at clause) w ≡ Asks (part at s) w (clause_end p at clause place)
clause_found p at clause c place s w h e g =
    let st : clause_statements p c ≡ s ∷ children_from p c (place + 1) = ap (children_from p c) (sym e) ∙ children_some p c place s g in
    let kid : child p at.node (clause + 1) ≡ c = ap (λ o. unwrap_or o 0) h in
    let fall : fall_through p (clauses_from p at clause) ≡ (s ∷ children_from p c (place + 1)) ++ fall_through p (clauses_from p at (clause + 1)) =
    ap (fall_through p) (children_some p at.node (clause + 1) c h) ∙ ap (λ l. l ++ fall_through p (clauses_from p at (clause + 1))) st in
    ap (λ l. clause_list p at l w) fall
    ∙ ap (λ k. Asks (part at s) w (λ d x. carried ending.Switch d x (clause_list p at (children_from p k (place + 1) ++ fall_through p (clauses_from p at (clause + 1))) x))) (sym kid)

-- the test of a clause that is no `default`
pub case_found : (p : Loaded) (at : Part) (v : Value) (clause c : ℕ) (w : World) → child_at p at.node (clause + 1) ≡ Some c → is_default (form_of p c) ≡ false
    → case_tests p at v (clauses_from p at clause) w ≡ Asks (part at (child p c 0)) w (case_end p at clause v)
case_found p at v clause c w h e =
    let cs = clauses_from p at (clause + 1) in
    let some : clauses_from p at clause ≡ c ∷ cs = children_some p at.node (clause + 1) c h in
    ap (λ l. case_tests p at v l w) some
    ∙ ap (λ (b : Bool). if b then case_tests p at v cs w else value_of (part at (child p c 0)) w (λ t x. if strictly_equal x.pool v t then entered_at p at (c ∷ cs) x else case_tests p at v cs x)) e
    ∙ ap (λ l. Asks (part at (child p c 0)) w (λ d x. with_value d x (λ t. if strictly_equal x.pool v t then entered_at p at l x else case_tests p at v cs x))) (sym some)

-- the next statement of a clause
pub clause_goes_on : (p : Loaded) (at : Part) (clause place node s : ℕ) (v : Value) (w : World) → node ≡ child p at.node (clause + 1) → child_at p node (place + 1) ≡ Some s
    → clause_end p at clause place (Normal v) w ≡ Asks (part at s) w (clause_end p at clause (place + 1))
clause_goes_on p at clause place node s v w is h =
    let there : child_at p (child p at.node (clause + 1)) (place + 1) ≡ Some s = ap (λ n. child_at p n (place + 1)) (sym is) ∙ h in
    ap (λ l. clause_list p at (l ++ fall_through p (clauses_from p at (clause + 1))) w) (children_some p (child p at.node (clause + 1)) (place + 1) s there)
