-- What one step leaves of a run.
use Rattle.std.proofs.Common.{◌≡◌, ℕ, ◌+◌, ◌-◌, ◌==◌, Bool, true, List, [], ◌∷◌, ◌++◌, length, Result, Ok, Err, OnOk, refl, ap, sym, ◌∙◌, add-one, arith}
use Rattle.rip_base.specs.declared.value.Value.{Value}
use Rattle.rip_heap.specs.World.{World}
use Rattle.rip_eval_rows.specs.declared.completion.Completion.{Completion}
use Rattle.rip_eval_rows.specs.declared.next.Control.{Control}
use Rattle.rip_eval_rows.specs.declared.next.Control.TheVariants.{Enter, Give}
use Rattle.rip_eval_rows.specs.declared.next.Next.{Next}
use Rattle.rip_eval_rows.specs.declared.part.Part.{Part}
use Rattle.rip_eval_rows.specs.Rest.{as_row, control_of, frame_of, next_run, rest, room_in, unwind}
use Rattle.rip_eval_rows.specs.Row.{Row, Table, entered}
use Rattle.rip_eval_rows.specs.Run.{Calling, run}
use Rattle.rip_eval_rows.specs.Stack.{Open}
use Rattle.rip_eval_rows.specs.Settle.{settle}
use Rattle.rip_eval_rows.proofs.Laws.{rest-next, rest-enters, rest-gives}
use Rattle.rip_eval_rows.proofs.Settles.{run-settles}

-- values whose test says that there are none
pub no_values : (b : Bool) (vs : List Value) → b ≡ (length vs == 0) → b ≡ true → vs ≡ []
no_values b [] e t = refl
no_values b (v ∷ vs) e t = absurd (grind (arith, e, t))

-- a fact of an answer gives another
pub ok_map : {T E : Type 0} (r : Result T E) (P Q : Type 0) → OnOk r P → (P → Q) → OnOk r Q
ok_map (Ok x) P Q p go = go p
ok_map (Err e) P Q p go = tt

-- after a part was entered
pub enter_rest : {S : Type 0} (h : Calling S) (t : Table) (part : Part) (next : Next) (os frames : List Open) (control : Control) (w x : World) (s : S) (u : ℕ)
    → as_row t part next [] x ≡ entered t part w → control ≡ control_of part next → frames ≡ os ++ frame_of part next []
    → rest h t control frames u x s ≡ rest h t (Enter part) os (u + 1) w s
enter_rest h t part next os frames control w x s u row c f =
    ap (λ d. rest h t d frames u x s) c ∙ ap (λ fs. rest h t (control_of part next) fs u x s) f
    ∙ sym (rest-next h t part next [] os u x s) ∙ ap (λ r. unwind h t os (run h t (part.room - 1) r u s)) row
    ∙ sym (rest-enters h t part os u w s) ∙ ap (λ n. rest h t (Enter part) os n w s) (sym (add-one u))

-- after a part was entered, and other parts that its row asks for were done
pub begun_rest : {S : Type 0} (h : Calling S) (t : Table) (part : Part) (next : Next) (os frames : List Open) (control : Control) (w x : World) (s r : S) (u v n : ℕ)
    → next_run h t part next u x r ≡ run h t (part.room - 1) (entered t part w) v s → control ≡ control_of part next → frames ≡ os ++ frame_of part next [] → v + 1 ≡ n
    → rest h t control frames u x r ≡ rest h t (Enter part) os n w s
begun_rest h t part next os frames control w x s r u v n same c f is =
    ap (λ d. rest h t d frames u x r) c ∙ ap (λ fs. rest h t (control_of part next) fs u x r) f
    ∙ sym (rest-next h t part next [] os u x r) ∙ ap (unwind h t os) same
    ∙ sym (rest-enters h t part os v w s) ∙ ap (λ n. rest h t (Enter part) os n w s) (sym (add-one v) ∙ is)

-- the run of what an open part does next is that of its row, where the host was asked
pub settled_run : {S : Type 0} (h : Calling S) (t : Table) (at : Part) (next : Next) (values : List Value) (row : Row) (room u : ℕ) (x : World) (s r : S)
    → (as_row t at next values x, r) ≡ settle h row s → run h t room (as_row t at next values x) u r ≡ run h t room row u s
settled_run {S = S} h t at next values row room u x s r is = ap (λ (after : Row × S). run h t room after.0 u after.1) is ∙ run-settles h t room row u s

-- after a completion was given to the innermost frame, and other parts that its row asks for were done
pub given_rest : {S : Type 0} (h : Calling S) (t : Table) (c : Completion) (next : Next) (below os frames : List Open) (o : Open) (control : Control) (w x : World) (s r : S) (u v : ℕ)
    → run h t (room_in o.frame) (as_row t o.frame.at next o.values x) u r ≡ run h t (room_in o.frame) (t.rest o c w) v s
    → os ≡ below ++ o ∷ [] → control ≡ control_of o.frame.at next → frames ≡ below ++ frame_of o.frame.at next o.values
    → rest h t control frames u x r ≡ rest h t (Give c) os v w s
given_rest h t c next below os frames o control w x s r u v same is d f =
    let at : Part = o.frame.at in
    ap (λ e. rest h t e frames u x r) d ∙ ap (λ fs. rest h t (control_of at next) fs u x r) f
    ∙ sym (rest-next h t at next o.values below u x r) ∙ ap (unwind h t below) same
    ∙ sym (rest-gives h t c below o v w s) ∙ ap (λ fs. rest h t (Give c) fs v w s) (sym is)
