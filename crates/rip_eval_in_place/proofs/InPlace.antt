-- What is done in place: each row, from what its parts come to.
use Rattle.std.proofs.Common.{◌≡◌, ℕ, ◌+◌, ◌<◌, ◌&&◌, ◌||◌, Bool, true, false, if◌then◌else◌, [], ◌∷◌, Option, None, Some, Result, Ok, Err, IfSome, MatchOption, unwrap_or, refl, ap, sym, subst, ◌∙◌, arith}
use Rattle.rip_base.specs.declared.operator.BinaryOperator.{BinaryOperator}
use Rattle.rip_base.specs.declared.value.Fault.{Fault}
use Rattle.rip_base.specs.declared.value.Numeral.{Numeral}
use Rattle.rip_base.specs.declared.value.Value.{Value}
use Rattle.rip_base.specs.declared.value.Value.TheVariants.{Undefined, Null, Bool as Boolean, Num, NaN, Text, Object}
use Rattle.rip_base.specs.declared.operator.UnaryOperator.{UnaryOperator}
use Rattle.rip_base.specs.declared.operator.UnaryOperator.TheVariants as unary
use Rattle.rip_heap.specs.declared.keys.Key.{Key}
use Rattle.rip_heap.specs.declared.keys.Key.TheVariants.{Name, Index}
use Rattle.rip_ops.specs.declared.access.outcome.Read.TheVariants.{Value as IsRead}
use Rattle.rip_ops.specs.Keys.{Keys, key_of}
use Rattle.rip_heap.specs.declared.keys.Reference.{Reference}
use Rattle.rip_heap.specs.declared.outcome.Abrupt.{Abrupt}
use Rattle.rip_heap.specs.declared.outcome.Abrupt.TheVariants.{TypeError, Fault as AtFault, Limit as AtLimit, Memory}
use Rattle.rip_ops.specs.Reading.{read}
use Rattle.rip_ops.specs.Writing.{IsWriting, Writing}
use Rattle.rip_eval_rows.specs.declared.part.Role.TheVariants as role
use Rattle.rip_eval_rows.specs.Frame.{inside}
use Rattle.rip_eval_language.specs.Rows.Members.{index_row, member_for, member_row, subscript_end, with_base, with_key, with_read}
use Rattle.rip_heap.specs.Conversions.{boolean_of}
use Rattle.rip_heap.specs.Outcome.{Gives, number_or_fault}
use Rattle.rip_heap.specs.World.{World}
use Rattle.rip_ops.specs.Operators.{binary}
use Rattle.rip_eval_rows.specs.declared.completion.Completed.{Completed}
use Rattle.rip_eval_rows.specs.declared.completion.Completion.{Completion}
use Rattle.rip_eval_rows.specs.declared.completion.Completion.TheVariants.{Normal, Thrown, Returned, Broken, Continued, Referred, Method}
use Rattle.rip_eval_rows.specs.declared.frame.Ending.TheVariants as ending
use Rattle.rip_eval_rows.specs.declared.part.Part.{Part}
use Rattle.rip_eval_rows.specs.Done.{Comes, Done}
use Rattle.rip_eval_rows.specs.Row.{Row, Ends, Asks, with_value}
use Rattle.rip_eval_rows.proofs.Doing.{asked, ended_at, same_row}
use Rattle.rip_eval_in_place.specs.declared.had.Had.{Had}
use Rattle.rip_eval_in_place.specs.AddedTexts.{AddsTexts}
use Rattle.rip_eval_in_place.specs.InPlace.{IsHad, IsTried, RowComes, RowIsHad, RowIsTried}
use Rattle.rip_eval_in_place.proofs.Texts.{adds_same}
use Rattle.rip_eval_language.specs.Reading.{Loaded, child, child_at, children_from, form_of, inner_at, inner_target, is_postfix, literal, logical_operator, operator, part, part_at, scoping, step_operator, target_at, unary_operator}
use Rattle.rip_eval_language.specs.Rows.Expressions.{assign_row, assign_value, binary_row, compound_row, compound_value, conditional_row, gives, is_decided, is_delete, is_deleted, is_member, is_name, is_type_of, last, logical_row, numbers_of_step, operand, operand_end, operated, right_end, step_row, stepped, stepped_by, target_found, unary_row, with_outcome, writes}
use Rattle.rip_eval_language.specs.Rows.Names.{with_found, with_written, written}
use Rattle.rip_eval_language.specs.Rows.Statements.{block_row, branch_of, carried, declarations, declared, done, else_row, expression_row, for_turn, if_row, initialised, initialiser, is_declaration, is_for, return_end, return_of, return_row, statements, var_row}
use Rattle.rip_eval_language.specs.Table.{row, table}
use Rattle.rip_eval_language.proofs.Children.{children_none, children_some}

-- a node of the open part that is its child at this place
pub of_child : (p : Loaded) (at : Part) (w x : World) (c : Completion) (place k n : ℕ) → k ≡ child p at.node place
    → Done (table p) (part at k) n w c x → Done (table p) (part_at p at place) n w c x
of_child p at w x c place k n is done = subst (λ id. Done (table p) (part at id) n w c x) is done

-- LEAVES

-- a row that gives a value at once
pub leaf_had : (p : Loaded) (row : Row) (w : World) (v : Value) (had : Option Had) → had ≡ Some (record { value = v; units = 1 }) → row ≡ gives v w
    → RowIsHad p row had w
leaf_had p row w v had is same = subst (λ h. RowIsHad p row h w) (sym is) (0, refl, ended_at (table p) row (Normal v) w same)

-- a row that ends at once
pub ended_done : (p : Loaded) (row : Row) (w : World) (c : Completion) (found : Option Completed) → found ≡ Some (record { completion = c; units = 1 }) → row ≡ Ends c w
    → RowIsTried p row w found w
ended_done p row w c found is same = subst (λ d. RowIsTried p row w d w) (sym is) (0, refl, ended_at (table p) row c w same)

-- a part that gives a value at once, for which there is some depth
pub part_had : (p : Loaded) (inner : Part) (w : World) (v : Value) (had : Option Had) → had ≡ Some (record { value = v; units = 1 }) → 0 < inner.room → row p inner w ≡ gives v w
    → IsHad p inner w had w
part_had p inner w v had same some is =
    subst (λ h. IsHad p inner w h w) (sym same) (0, refl, some, ended_at (table p) (row p inner w) (Normal v) w is)

-- a part whose row is had, for which there is some depth
pub row_had : (p : Loaded) (inner : Part) (w x : World) (had : Option Had) → 0 < inner.room → RowIsHad p (row p inner w) had x → IsHad p inner w had x
row_had p inner w x None some is = tt
row_had p inner w x (Some h) some is = (is.0, is.1, some, is.2)

-- the same of what is done of it
pub row_tried : (p : Loaded) (inner : Part) (w x : World) (done : Option Completed) → 0 < inner.room → RowIsTried p (row p inner w) w done x → IsTried p inner w done x
row_tried p inner w x None some is = is
row_tried p inner w x (Some d) some is = (is.0, is.1, some, is.2)

-- OPERATORS

-- a number that an operator gives of two, or none
pub number_of_two : (op : BinaryOperator) (a b : Value) (n : Result Numeral Fault) (had : Option Value) → ((w : World) → binary w op a b ≡ number_or_fault w n)
    → IfSome had (λ v. (w : World) → number_or_fault w n ≡ Gives v w) → IfSome had (λ v. (w : World) → binary w op a b ≡ Gives v w)
number_of_two op a b n None same is = is
number_of_two op a b n (Some v) same is = λ w. same w ∙ is w

-- a number that an operator gives of one, or none
pub number_of_one : (op : UnaryOperator) (a : Value) (w : World) (n : Result Numeral Fault) (had : Option Value)
    → ((p : Loaded) (at : Part) → operated p at op a w ≡ with_outcome (number_or_fault w n) w gives)
    → IfSome had (λ v. (x : World) → number_or_fault x n ≡ Gives v x) → IfSome had (λ v. (p : Loaded) (at : Part) → operated p at op a w ≡ gives v w)
number_of_one op a w n None same is = is
number_of_one op a w n (Some v) same is = λ p at. same p at ∙ ap (λ o. with_outcome o w gives) (is w)

-- 11.5 to 11.10
pub binary_had : (p : Loaded) (at : Part) (w y z x : World) (a b v : Value) (n m units : ℕ)
    → Done (table p) (part_at p at 0) n w (Normal a) y → Done (table p) (part_at p at 1) m y (Normal b) z
    → binary z (operator p at.node) a b ≡ Gives v x → units ≡ 1 + n + m → RowComes p (binary_row p at w) units (Normal v) x
binary_had p at w y z x a b v n m units first second is sum =
    let t = table p in
    let end = ended_at t (right_end p at a (Normal b) z) (Normal v) x (ap (λ o. with_outcome o z gives) is) in (
      n + m,
      omega (arith, sum),
      asked t (part_at p at 0) w _ n m (n + m) (Normal a) (Normal v) y x first
          (asked t (part_at p at 1) y (right_end p at a) m 0 m (Normal b) (Normal v) z x second end (omega arith)) refl,
    )

-- the row of the last part
last_had : (p : Loaded) (inner : Part) (w x : World) (c : Completion) (m : ℕ) → Done (table p) inner m w c x → Comes (table p) (last inner w) m c x
last_had p inner w x c m comes = asked (table p) inner w Ends m 0 m c c x x comes (ended_at (table p) (Ends c x) c x refl) (omega arith)

-- 11.11
pub logical_decided : (p : Loaded) (at : Part) (w y : World) (a : Value) (n units : ℕ) → Done (table p) (part_at p at 0) n w (Normal a) y
    → is_decided (logical_operator p at.node) (boolean_of y.pool a) ≡ true → units ≡ 1 + n → RowComes p (logical_row p at w) units (Normal a) y
logical_decided p at w y a n units first is sum =
    let t = table p in (
      n,
      omega (arith, sum),
      asked t (part_at p at 0) w _ n 0 n (Normal a) (Normal a) y y first
          (ended_at t _ (Normal a) y (ap (λ decided. if decided then gives a y else last (part_at p at 1) y) is)) (omega arith),
    )

pub logical_had : (p : Loaded) (at : Part) (w y x : World) (a b : Value) (n m units : ℕ)
    → Done (table p) (part_at p at 0) n w (Normal a) y → Done (table p) (part_at p at 1) m y (Normal b) x
    → is_decided (logical_operator p at.node) (boolean_of y.pool a) ≡ false → units ≡ 1 + n + m → RowComes p (logical_row p at w) units (Normal b) x
logical_had p at w y x a b n m units first second is sum =
    let t = table p in (
      n + m,
      omega (arith, sum),
      asked t (part_at p at 0) w _ n m (n + m) (Normal a) (Normal b) y x first
          (same_row t _ _ m (Normal b) x (ap (λ decided. if decided then gives a y else last (part_at p at 1) y) (sym is)) (last_had p (part_at p at 1) y x (Normal b) m second)) refl,
    )

-- 11.12
pub conditional_had : (p : Loaded) (at : Part) (w y x : World) (a b : Value) (place n m units : ℕ)
    → Done (table p) (part_at p at 0) n w (Normal a) y → place ≡ (if boolean_of y.pool a then 1 else 2)
    → Done (table p) (part_at p at place) m y (Normal b) x → units ≡ 1 + n + m → RowComes p (conditional_row p at w) units (Normal b) x
conditional_had p at w y x a b place n m units first is second sum =
    let t = table p in (
      n + m,
      omega (arith, sum),
      asked t (part_at p at 0) w _ n m (n + m) (Normal a) (Normal b) y x first
          (same_row t _ _ m (Normal b) x (ap (λ k. last (part_at p at k) y) is) (last_had p (part_at p at place) y x (Normal b) m second)) refl,
    )

-- 11.4: the operand is a value that is read
unread : (p : Loaded) (at : Part) → is_type_of (unary_operator p at.node) ≡ false → is_delete (unary_operator p at.node) ≡ false
    → inside at (operand p at) ≡ part_at p at 0
unread p at type_of delete =
    ap (λ b. inside at (if (b && is_name (form_of p (child p at.node 0))) || is_deleted p at then inner_target p at 0 else inner_at p at 0)) type_of
    ∙ ap (λ b. inside at (if false || (b && is_member (form_of p (child p at.node 0))) then inner_target p at 0 else inner_at p at 0)) delete

operand_of : (p : Loaded) (at : Part) (op : UnaryOperator) (a v : Value) (w : World) → is_delete op ≡ false → operated p at op a w ≡ gives v w
    → operand_end p at op (Normal a) w ≡ gives v w
operand_of p at unary.Delete a v w delete is = absurd (cc)
operand_of p at op a v w delete is = is

pub unary_had : (p : Loaded) (at : Part) (w y : World) (a v : Value) (n units : ℕ) → Done (table p) (part_at p at 0) n w (Normal a) y
    → is_type_of (unary_operator p at.node) ≡ false → is_delete (unary_operator p at.node) ≡ false
    → operated p at (unary_operator p at.node) a y ≡ gives v y → units ≡ 1 + n → RowComes p (unary_row p at w) units (Normal v) y
unary_had p at w y a v n units first type_of delete is sum =
    let t = table p in
    let end : Completion → World → Row = operand_end p at (unary_operator p at.node) in (
      n,
      omega (arith, sum),
      same_row t (Asks (part_at p at 0) w end) (unary_row p at w) n (Normal v) y (ap (λ target. Asks target w end) (sym (unread p at type_of delete)))
          (asked t (part_at p at 0) w end n 0 n (Normal a) (Normal v) y y first
          (ended_at t (end (Normal a) y) (Normal v) y (operand_of p at (unary_operator p at.node) a v y delete is)) (omega arith)),
    )

-- a base that has a member is one that can have members
base_read : (w : World) (base v : Value) (key : Key) → read w base key ≡ IsRead v → (row : Row) → with_base base w row ≡ row
base_read w Undefined v (Name name) is row = absurd (cc)
base_read w Undefined v (Index i) is row = absurd (cc)
base_read w Null v (Name name) is row = absurd (cc)
base_read w Null v (Index i) is row = absurd (cc)
base_read w (Boolean b) v key is row = refl
base_read w (Num z) v key is row = refl
base_read w NaN v key is row = refl
base_read w (Text span) v key is row = refl
base_read w (Object n) v key is row = refl

-- 11.2.1
member_read : (at : Part) (w : World) (base v : Value) (key : Key) → at.role ≡ role.Value → read w base key ≡ IsRead v
    → with_base base w (member_for at.role base key w) ≡ Ends (Normal v) w
member_read at w base v key valued is =
    ap (λ r. with_base base w (member_for r base key w)) valued ∙ ap (λ r. with_base base w (with_read r w (λ u x. Ends (Normal u) x))) is
    ∙ base_read w base v key is (Ends (Normal v) w)

member_end : (at : Part) (w : World) (base v : Value) (key : Key) → at.role ≡ role.Value → read w base key ≡ IsRead v
    → member_for at.role base key w ≡ Ends (Normal v) w
member_end at w base v key valued is = ap (λ r. member_for r base key w) valued ∙ ap (λ r. with_read r w (λ u x. Ends (Normal u) x)) is

pub member_had : (p : Loaded) (at : Part) (w y : World) (base v : Value) (n units : ℕ) → Done (table p) (part_at p at 0) n w (Normal base) y → at.role ≡ role.Value
    → read y base (Name (literal p at.node)) ≡ IsRead v → units ≡ 1 + n → RowComes p (member_row p at w) units (Normal v) y
member_had p at w y base v n units first valued is sum =
    let t = table p in (
      n,
      omega (arith, sum),
      asked t (part_at p at 0) w _ n 0 n (Normal base) (Normal v) y y first
          (ended_at t _ (Normal v) y (member_read at y base v (Name (literal p at.node)) valued is)) (omega arith),
    )

pub index_had : (p : Loaded) (at : Part) (w y x : World) (base subscript v : Value) (key : Key) (n m units : ℕ)
    → Done (table p) (part_at p at 0) n w (Normal base) y → Done (table p) (part_at p at 1) m y (Normal subscript) x → at.role ≡ role.Value
    → key_of x base subscript ≡ Keys key x → read x base key ≡ IsRead v → units ≡ 1 + n + m → RowComes p (index_row p at w) units (Normal v) x
index_had p at w y x base subscript v key n m units first second valued keys is sum =
    let t = table p in
    let end = ap (λ k. with_key k x (λ k u. member_for at.role base k u)) keys ∙ member_end at x base v key valued is in (
      n + m,
      omega (arith, sum),
      asked t (part_at p at 0) w _ n m (n + m) (Normal base) (Normal v) y x first
          (asked t (part_at p at 1) y (subscript_end at base) m 0 m (Normal subscript) (Normal v) x x second
          (ended_at t (subscript_end at base (Normal subscript) x) (Normal v) x end) (omega arith)) refl,
    )

-- the same of a member that is a target or a callee
pub member_done : (p : Loaded) (at : Part) (w y : World) (base : Value) (c : Completion) (n units : ℕ) → Done (table p) (part_at p at 0) n w (Normal base) y
    → with_base base y (member_for at.role base (Name (literal p at.node)) y) ≡ Ends c y → units ≡ 1 + n → RowComes p (member_row p at w) units c y
member_done p at w y base c n units first is sum =
    let t = table p in
    (n, omega (arith, sum), asked t (part_at p at 0) w _ n 0 n (Normal base) c y y first (ended_at t _ c y is) (omega arith))

pub index_done : (p : Loaded) (at : Part) (w y x : World) (base subscript : Value) (c : Completion) (n m units : ℕ)
    → Done (table p) (part_at p at 0) n w (Normal base) y → Done (table p) (part_at p at 1) m y (Normal subscript) x
    → subscript_end at base (Normal subscript) x ≡ Ends c x → units ≡ 1 + n + m → RowComes p (index_row p at w) units c x
index_done p at w y x base subscript c n m units first second is sum =
    let t = table p in (
      n + m,
      omega (arith, sum),
      asked t (part_at p at 0) w _ n m (n + m) (Normal base) c y x first
          (asked t (part_at p at 1) y (subscript_end at base) m 0 m (Normal subscript) c x x second
          (ended_at t (subscript_end at base (Normal subscript) x) c x is) (omega arith)) refl,
    )

-- STATEMENTS

-- 12.4
pub expression_done : (p : Loaded) (at : Part) (w x : World) (c end : Completion) (n units : ℕ) → Done (table p) (part_at p at 0) n w c x
    → ((y : World) → with_value c y (λ v. gives Undefined y) ≡ Ends end y) → units ≡ 1 + n → RowComes p (expression_row p at w) units end x
expression_done p at w x c end n units first is sum =
    let t = table p in
    (n, omega (arith, sum), asked t (part_at p at 0) w _ n 0 n c end x x first (ended_at t _ end x (is x)) (omega arith))

-- 12.1: a list of one statement ends as an expression statement does
carried_block : (c : Completion) (x : World) → carried ending.Block c x (gives Undefined x) ≡ with_value c x (λ v. gives Undefined x)
carried_block (Normal v) x = refl
carried_block (Thrown v) x = refl
carried_block (Returned v) x = refl
carried_block Broken x = refl
carried_block Continued x = refl
carried_block (Referred r) x = refl
carried_block (Method f this) x = refl

pub block_done : (p : Loaded) (at : Part) (w x : World) (c end : Completion) (s n units : ℕ) → children_from p at.node 0 ≡ s ∷ []
    → is_declaration (form_of p s) ≡ false → Done (table p) (part at s) n w c x
    → ((y : World) → with_value c y (λ v. gives Undefined y) ≡ Ends end y) → units ≡ 1 + n → RowComes p (block_row p at w) units end x
block_done p at w x c end s n units kids plain first is sum =
    let t = table p in
    let go : Completion → World → Row = λ d y. carried ending.Block d y (gives Undefined y) in
    let list : block_row p at w ≡ Asks (part at s) w go =
    ap (λ l. statements p at ending.Block l w) kids ∙ ap (λ b. if b then gives Undefined w else Asks (part at s) w go) plain in (
      n,
      omega (arith, sum),
      same_row t (Asks (part at s) w go) (block_row p at w) n end x (sym list)
          (asked t (part at s) w go n 0 n c end x x first (ended_at t (go c x) end x (carried_block c x ∙ is x)) (omega arith)),
    )

-- the only child of a node
pub only_child : (p : Loaded) (id d : ℕ) → child_at p id 0 ≡ Some d → child_at p id 1 ≡ None → children_from p id 0 ≡ d ∷ []
only_child p id d some none = children_some p id 0 d some ∙ ap (λ l. d ∷ l) (children_none p id 1 none)

-- the initialiser of the only declarator, or none
pub initialiser_of : (p : Loaded) (id d : ℕ) (found : Option ℕ) → is_for (form_of p id) ≡ false → child_at p id 0 ≡ Some d → child_at p id 1 ≡ None
    → found ≡ child_at p d 0
    → IfSome found (λ e. (is_for (form_of p id) ≡ false) × (children_from p id 0 ≡ child p id 0 ∷ []) × (child_at p (child p id 0) 0 ≡ Some e))
initialiser_of p id d None plain some none is = tt
initialiser_of p id d (Some e) plain some none is =
    let first : child p id 0 ≡ d = ap (λ o. unwrap_or o 0) some in
    (plain, only_child p id d some none ∙ ap (λ k. k ∷ []) (sym first), ap (λ k. child_at p k 0) first ∙ sym is)

-- 12.2
pub var_done : (p : Loaded) (at : Part) (w y x : World) (v : Value) (d e n units : ℕ) → is_for (form_of p at.node) ≡ false → children_from p at.node 0 ≡ d ∷ []
    → child_at p d 0 ≡ Some e → Done (table p) (part at e) n w (Normal v) y → written y at.scope (scoping p d) v ≡ Ok x
    → units ≡ 1 + n → RowComes p (var_row p at w) units (Normal Undefined) x
var_done p at w y x v d e n units plain kids some first write sum =
    let t = table p in
    let after : Bool → World → Row = λ b u. if b then for_turn p at u else done u in
    let go : Completion → World → Row = λ c u. initialised p at d c u (declared p at) in
    let list : var_row p at w ≡ Asks (part at e) w go =
    ap (λ b. declarations p at (children_from p (if b then child p at.node 0 else at.node) 0) w) plain ∙ ap (λ l. declarations p at l w) kids
    ∙ ap (λ o. initialiser p at d o w (declared p at)) some in
    let end : go (Normal v) y ≡ Ends (Normal Undefined) x = ap (λ r. with_written r y (declared p at)) write ∙ ap (λ b. after b x) plain in (
      n,
      omega (arith, sum),
      same_row t (Asks (part at e) w go) (var_row p at w) n (Normal Undefined) x (sym list)
          (asked t (part at e) w go n 0 n (Normal v) (Normal Undefined) y x first (ended_at t (go (Normal v) y) (Normal Undefined) x end) (omega arith)),
    )

-- 12.5
branch_row : (p : Loaded) (at : Part) (truth : Bool) (x : World)
    → else_row at (if truth then Some (child p at.node 1) else child_at p at.node 2) x
    ≡ (if truth then last (part_at p at 1) x else else_row at (child_at p at.node 2) x)
branch_row p at true x = refl
branch_row p at false x = refl

if_comes : (p : Loaded) (at : Part) (w y x : World) (a : Value) (c : Completion) (branch : Option ℕ) (n m units : ℕ) → Done (table p) (part_at p at 0) n w (Normal a) y
    → branch ≡ branch_of p at a y → Comes (table p) (else_row at branch y) m c x → units ≡ 1 + n + m → RowComes p (if_row p at w) units c x
if_comes p at w y x a c branch n m units first is later sum =
    let t = table p in (
      n + m,
      omega (arith, sum),
      asked t (part_at p at 0) w _ n m (n + m) (Normal a) c y x first
          (same_row t (else_row at branch y) _ m c x (ap (λ o. else_row at o y) is ∙ branch_row p at (boolean_of y.pool a) y) later) refl,
    )

pub if_done : (p : Loaded) (at : Part) (w y : World) (a : Value) (branch : Option ℕ) (n units : ℕ) → Done (table p) (part_at p at 0) n w (Normal a) y
    → branch ≡ branch_of p at a y → branch ≡ None → units ≡ 1 + n → RowComes p (if_row p at w) units (Normal Undefined) y
if_done p at w y a branch n units first is none sum =
    if_comes p at w y y a (Normal Undefined) branch n 0 units first is
    (ended_at (table p) (else_row at branch y) (Normal Undefined) y (ap (λ o. else_row at o y) none)) (omega (arith, sum))

pub if_branch_done : (p : Loaded) (at : Part) (w y x : World) (a : Value) (c : Completion) (branch : Option ℕ) (node n m units : ℕ)
    → Done (table p) (part_at p at 0) n w (Normal a) y → branch ≡ branch_of p at a y → branch ≡ Some node
    → Done (table p) (part at node) m y c x → units ≡ 1 + n + m → RowComes p (if_row p at w) units c x
if_branch_done p at w y x a c branch node n m units first is some later sum =
    if_comes p at w y x a c branch n m units first is
    (same_row (table p) (last (part at node) y) (else_row at branch y) m c x (ap (λ o. else_row at o y) (sym some)) (last_had p (part at node) y x c m later)) sum

-- 12.9
pub return_done : (p : Loaded) (at : Part) (w x : World) (c end : Completion) (e n units : ℕ) → child_at p at.node 0 ≡ Some e → Done (table p) (part at e) n w c x
    → ((y : World) → return_end c y ≡ Ends end y) → units ≡ 1 + n → RowComes p (return_row p at w) units end x
return_done p at w x c end e n units child first is sum =
    let t = table p in (
      n,
      omega (arith, sum),
      same_row t (Asks (part at e) w return_end) (return_row p at w) n end x (ap (λ o. return_of at o w) (sym child))
          (asked t (part at e) w return_end n 0 n c end x x first (ended_at t _ end x (is x)) (omega arith)),
    )

-- ASSIGNMENT TO NAMES

-- a target that is a name, for which there is some depth
target_done : (p : Loaded) (target : Part) (w : World) → 0 < target.room → row p target w ≡ gives Undefined w → Done (table p) target 1 w (Normal Undefined) w
target_done p target w some is = (0, omega arith, some, ended_at (table p) (row p target w) (Normal Undefined) w is)

-- a value is written to a name, and the row gives another value or the same, or else nothing is changed
abbrev Written : Loaded → Part → World → World → Value → Value → ℕ → Option Completed → Type 0
Written p at w x v given units done =
    MatchOption done (x ≡ w) (λ d. (writes p at None v given w ≡ Ends d.completion x) × (d.units ≡ units))

-- 11.13.1
pub assign_done : (p : Loaded) (at : Part) (w y x : World) (v : Value) (n : ℕ) (done : Option Completed) → ((u : World) → row p (target_at p at 0) u ≡ gives Undefined u)
    → AddsTexts w y → Done (table p) (part_at p at 1) n w (Normal v) y → Written p at y x v v (n + 2) done → RowIsTried p (assign_row p at w) w done x
assign_done p at w y x v n None name adds right write = subst (AddsTexts w) (sym write) adds
assign_done p at w y x v n (Some d) name adds right write =
    let t = table p in (
      1 + n,
      omega (arith, write.1),
      asked t (target_at p at 0) w _ 1 n (1 + n) (Normal Undefined) d.completion w x (target_done p (target_at p at 0) w right.2 (name w))
          (asked t (part_at p at 1) w (assign_value p at None) n 0 n (Normal v) d.completion y x right (ended_at t _ d.completion x write.0) (omega arith)) refl,
    )

-- the same where the target is a member
pub member_assigned : (p : Loaded) (at : Part) (w y z x : World) (r : Reference) (v : Value) (n m : ℕ) (done : Option Completed)
    → AddsTexts w z → Done (table p) (target_at p at 0) n w (Referred r) y → Done (table p) (part_at p at 1) m y (Normal v) z
    → MatchOption done (x ≡ z) (λ d. (writes p at (Some r) v v z ≡ Ends d.completion x) × (d.units ≡ 1 + n + m)) → RowIsTried p (assign_row p at w) w done x
member_assigned p at w y z x r v n m None adds target right write = subst (AddsTexts w) (sym write) adds
member_assigned p at w y z x r v n m (Some d) adds target right write =
    let t = table p in (
      n + m,
      omega (arith, write.1),
      asked t (target_at p at 0) w _ n m (n + m) (Referred r) d.completion y x target
          (asked t (part_at p at 1) y (assign_value p at (Some r)) m 0 m (Normal v) d.completion z x right (ended_at t _ d.completion x write.0) (omega arith)) refl,
    )

-- a member that is not written leaves the world
pub not_written : (meant : Writing) (w x : World) (cause : Abrupt) → IsWriting meant w (Err cause) x → x ≡ w
not_written meant w x TypeError is = is.1
not_written meant w x (AtFault fault) is = is.1
not_written meant w x (AtLimit limit) is = is.1
not_written meant w x Memory is = absurd is

-- 11.13.2
compound_end : (p : Loaded) (at : Part) (y z x : World) (old right v : Value) (c : Completion) → binary y (operator p at.node) old right ≡ Gives v z
    → writes p at None v v z ≡ Ends c x → compound_value p at None old (Normal right) y ≡ Ends c x
compound_end p at y z x old right v c is write = ap (λ o. with_outcome o y (λ u k. writes p at None u u k)) is ∙ write

pub compound_done : (p : Loaded) (at : Part) (w y z x : World) (old right v : Value) (n : ℕ) (done : Option Completed) → ((u : World) → row p (target_at p at 0) u ≡ gives Undefined u)
    → target_found p at w ≡ Some old → AddsTexts w z → Done (table p) (part_at p at 1) n w (Normal right) y → binary y (operator p at.node) old right ≡ Gives v z
    → Written p at z x v v (n + 2) done → RowIsTried p (compound_row p at w) w done x
compound_done p at w y z x old right v n None name found adds second is write = subst (AddsTexts w) (sym write) adds
compound_done p at w y z x old right v n (Some d) name found adds second is write =
    let t = table p in
    let go : Value → World → Row = λ a u. Asks (part_at p at 1) u (compound_value p at None a) in
    let end = ended_at t (compound_value p at None old (Normal right) y) d.completion x (compound_end p at y z x old right v d.completion is write.0) in (
      1 + n,
      omega (arith, write.1),
      asked t (target_at p at 0) w _ 1 n (1 + n) (Normal Undefined) d.completion w x (target_done p (target_at p at 0) w second.2 (name w))
          (same_row t (go old w) (with_found (target_found p at w) w (λ a. go a w)) n d.completion x (ap (λ o. with_found o w (λ a. go a w)) (sym found))
          (asked t (part_at p at 1) w (compound_value p at None old) n 0 n (Normal right) d.completion y x second end (omega arith))) refl,
    )

-- 11.3, 11.4.4, 11.4.5
step_end : (p : Loaded) (at : Part) (w x : World) (v : Value) (numbers : Value × Value) (given : Value) (c : Completion)
    → numbers_of_step w (step_operator p at.node) v ≡ Ok numbers → given ≡ (if is_postfix p at.node then numbers.0 else numbers.1)
    → writes p at None numbers.1 given w ≡ Ends c x → stepped p at None v w ≡ Ends c x
step_end p at w x v numbers given c step chosen write =
    ap (λ r. stepped_by p at None r w) step ∙ ap (λ g. writes p at None numbers.1 g w) (sym chosen) ∙ write

pub step_done : (p : Loaded) (at : Part) (w x : World) (v : Value) (numbers : Value × Value) (given : Value) (done : Option Completed)
    → ((y : World) → row p (target_at p at 0) y ≡ gives Undefined y) → 0 < (target_at p at 0).room
    → target_found p at w ≡ Some v → numbers_of_step w (step_operator p at.node) v ≡ Ok numbers
    → given ≡ (if is_postfix p at.node then numbers.0 else numbers.1)
    → Written p at w x numbers.1 given 2 done → RowIsTried p (step_row p at w) w done x
step_done p at w x v numbers given None name some found step chosen write = adds_same w x write
step_done p at w x v numbers given (Some d) name some found step chosen write =
    let t = table p in
    let end = step_end p at w x v numbers given d.completion step chosen write.0 in (
      1,
      omega (arith, write.1),
      asked t (target_at p at 0) w _ 1 0 1 (Normal Undefined) d.completion w x (target_done p (target_at p at 0) w some (name w))
          (ended_at t (with_found (target_found p at w) w (λ a. stepped p at None a w)) d.completion x (ap (λ o. with_found o w (λ a. stepped p at None a w)) found ∙ end)) (omega arith),
    )
