-- From the steps of a call to what `resume` promises.
use Rattle.std.proofs.Common.{◌≡◌, ℕ, ◌+◌, ◌-◌, ◌<◌, ◌≤◌, min, Bool, true, false, nat_lt, nat_le, List, [], Some, refl, ap, sym, ◌∙◌, inl, inr, arith}
use Rattle.std.proofs.lemmas.Bool.{ltb-true, ltb-false, le-leb, leb-false, leb-true}
use Rattle.rip_base.specs.declared.value.Limit.TheVariants.{Fuel}
use Rattle.rip_base.specs.declared.value.Value.TheVariants.{Undefined}
use Rattle.rip_heap.specs.World.{World}
use Rattle.rip_eval_rows.specs.declared.completion.Completion.{Completion}
use Rattle.rip_eval_rows.specs.declared.completion.Completion.TheVariants.{Normal, Thrown, Returned, Broken, Continued, Referred, Method}
use Rattle.rip_eval_rows.specs.declared.completion.Stop.{Stop}
use Rattle.rip_eval_rows.specs.declared.completion.Stop.TheVariants.{Fault as AtFault, Limit as AtLimit}
use Rattle.rip_eval_rows.specs.declared.next.Control.{Control}
use Rattle.rip_eval_rows.specs.declared.next.Control.TheVariants.{Enter, Give, Halted}
use Rattle.rip_eval_rows.specs.declared.part.Part.{Part}
use Rattle.rip_eval_rows.specs.Cut.{capped, conclude, run_of}
use Rattle.rip_eval_rows.specs.Rest.{as_row, control_of, rest, unwind}
use Rattle.rip_eval_rows.specs.Row.{Row, Table}
use Rattle.rip_eval_rows.specs.Run.{Answer, Completes, Stops, Cuts, Calling, run}
use Rattle.rip_eval_rows.specs.Stack.{Open}
use Rattle.rip_eval_rows.proofs.Laws.{rest-next, rest-gives, unwind-stops, unwind-cuts}
use Rattle.rip_eval_rows.specs.Law.{Begins, Ends, Standing, Stands, StandsAt, Resumes, end_of, further, left, open_depth, turned_of}
use Rattle.rip_eval_rows.specs.declared.outcome.Outcome.{Outcome}
use Rattle.rip_eval_rows.specs.declared.outcome.Outcome.TheVariants.{Value as Gives, Thrown as ThrownValue, Fault, Limit}

-- so much depth is left where a run goes on with this
abbrev IsLeft : ℕ → Control → Type 0
IsLeft room (Enter part) = part.room ≡ room
IsLeft room (Give c) = ⊥
IsLeft room (Halted stop there) = there ≡ room

conclude_completes : {S : Type 0} (b : Bool) (c : Completion) (u : ℕ) (w : World) (s : S) → conclude b (Completes c u w s) ≡ Completes c u w s
conclude_completes true c u w s = refl
conclude_completes false c u w s = refl

conclude_stops : {S : Type 0} (b : Bool) (stop : Stop) (room u : ℕ) (w : World) (s : S) → conclude b (Stops stop room u w s) ≡ Stops stop room u w s
conclude_stops true stop room u w s = refl
conclude_stops false stop room u w s = refl

not_leb : (a b : ℕ) (t : Bool) → nat_le a b ≡ t → b < a → nat_le a b ≡ false
not_leb a b true e h = absurd (let g = leb-true a b e in omega arith)
not_leb a b false e h = e

same_leb : (a b c d : ℕ) (t : Bool) → nat_le a b ≡ t → (a ≤ b → c ≤ d) → (b < a → d < c) → nat_le a b ≡ nat_le c d
same_leb a b c d true e f g = e ∙ sym (le-leb c d (f (leb-true a b e)))
same_leb a b c d false e f g = e ∙ sym (not_leb c d (nat_le c d) refl (g (leb-false a b e)))

-- the rest where a completion meets no frame
rest_of_give : {S : Type 0} (h : Calling S) (t : Table) (c : Completion) (frames : List Open) (u : ℕ) (w : World) (s : S) → frames ≡ [] → rest h t (Give c) frames u w s ≡ Completes c u w s
unfolding rest unwind
rest_of_give h t c frames u w s e = ap (λ fs. rest h t (Give c) fs u w s) e

rest_of_halt : {S : Type 0} (h : Calling S) (t : Table) (stop : Stop) (room : ℕ) (frames : List Open) (u : ℕ) (w : World) (s : S) → rest h t (Halted stop room) frames u w s ≡ Stops stop room u w s
unfolding rest
rest_of_halt h t stop room frames u w s = unwind-stops h t frames stop room u w s

rest_of_cut : {S : Type 0} (h : Calling S) (t : Table) (part : Part) (frames : List Open) (w : World) (s : S) → rest h t (Enter part) frames 0 w s ≡ Cuts part.room w s
unfolding rest
rest_of_cut h t part frames w s = unwind-cuts h t frames part.room w s

-- a run that is at its end
ended : {S : Type 0} (h : Calling S) (t : Table) (m n : Standing) (w x : World) (s r : S) (k u : ℕ) (answer : ℕ → Answer S) (outcome : Outcome) (there : ℕ)
    → ((j : ℕ) → left h t m w s (k + j) ≡ answer j) → ((j : ℕ) → end_of m.depth (answer j) ≡ Some (outcome, there, u + further m.fuel k j, x, r)) → open_depth n ≡ there → n.spent + u ≡ m.spent + min k m.fuel → Ends h t m w s k n x r outcome
ended h t m n w x s r k u answer outcome there e f d p =
    (u, λ j. ap (end_of m.depth) (e j) ∙ f j ∙ ap (λ o. Some (outcome, o, u + further m.fuel k j, x, r)) (sym d), p)

-- a run that has completed
ends_give : {S : Type 0} (h : Calling S) (t : Table) (m n : Standing) (w x : World) (s r : S) (k u : ℕ) (c : Completion)
    → ((j : ℕ) → left h t m w s (k + j) ≡ Completes c (u + further m.fuel k j) x r) → open_depth n ≡ 0 → n.spent + u ≡ m.spent + min k m.fuel → Resumes h t m w s k n x r (turned_of (Give c) true)
ends_give h t m n w x s r k u (Normal v) e d p = ended h t m n w x s r k u (λ j. Completes (Normal v) (u + further m.fuel k j) x r) (Gives v) 0 e (λ j. refl) d p
ends_give h t m n w x s r k u (Thrown v) e d p = ended h t m n w x s r k u (λ j. Completes (Thrown v) (u + further m.fuel k j) x r) (ThrownValue v) 0 e (λ j. refl) d p
ends_give h t m n w x s r k u (Returned v) e d p = ended h t m n w x s r k u (λ j. Completes (Returned v) (u + further m.fuel k j) x r) (Gives v) 0 e (λ j. refl) d p
ends_give h t m n w x s r k u Broken e d p = ended h t m n w x s r k u (λ j. Completes Broken (u + further m.fuel k j) x r) (Gives Undefined) 0 e (λ j. refl) d p
ends_give h t m n w x s r k u Continued e d p = ended h t m n w x s r k u (λ j. Completes Continued (u + further m.fuel k j) x r) (Gives Undefined) 0 e (λ j. refl) d p
ends_give h t m n w x s r k u (Referred target) e d p = ended h t m n w x s r k u (λ j. Completes (Referred target) (u + further m.fuel k j) x r) (Gives Undefined) 0 e (λ j. refl) d p
ends_give h t m n w x s r k u (Method f this) e d p = ended h t m n w x s r k u (λ j. Completes (Method f this) (u + further m.fuel k j) x r) (Gives Undefined) 0 e (λ j. refl) d p

ends_halt : {S : Type 0} (h : Calling S) (t : Table) (m n : Standing) (w x : World) (s r : S) (k u room : ℕ) (stop : Stop)
    → ((j : ℕ) → left h t m w s (k + j) ≡ Stops stop room (u + further m.fuel k j) x r) → open_depth n ≡ m.depth - room → n.spent + u ≡ m.spent + min k m.fuel → Resumes h t m w s k n x r (turned_of (Halted stop room) true)
ends_halt h t m n w x s r k u room (AtFault fault) e d p = ended h t m n w x s r k u (λ j. Stops (AtFault fault) room (u + further m.fuel k j) x r) (Fault fault) (m.depth - room) e (λ j. refl) d p
ends_halt h t m n w x s r k u room (AtLimit limit) e d p = ended h t m n w x s r k u (λ j. Stops (AtLimit limit) room (u + further m.fuel k j) x r) (Limit limit) (m.depth - room) e (λ j. refl) d p

-- what is left after a cut is what was left, later
resumes_later : {S : Type 0} (h : Calling S) (t : Table) (m n : Standing) (w x : World) (s r : S) (k u j : ℕ) (c : Control)
    → k < m.fuel → u ≡ 0 → ((j : ℕ) → rest h t c n.frames (u + j) x r ≡ rest h t m.control m.frames (min k m.fuel + j) w s)
    → n.control ≡ c → n.fuel ≡ m.fuel - k → left h t n x r j ≡ left h t m w s (k + j)
resumes_later h t m n w x s r k u j c less none e control fuel =
    let i : ℕ = min n.fuel j in
    ap (λ d. conclude (nat_le n.fuel j) (rest h t d n.frames i x r)) control
    ∙ ap (λ q. conclude (nat_le n.fuel j) (rest h t c n.frames q x r)) (omega arith)
    ∙ ap (conclude (nat_le n.fuel j)) (e i)
    ∙ ap (λ b. conclude b (rest h t m.control m.frames (min k m.fuel + i) w s)) (same_leb n.fuel j m.fuel (k + j) (nat_le n.fuel j) refl (λ a. omega arith) (λ a. omega arith))
    ∙ ap (λ q. conclude (nat_le m.fuel (k + j)) (rest h t m.control m.frames q w s)) (omega arith)

-- nothing is open where a run has completed
none_open : (n : Standing) (c : Completion) → n.control ≡ Give c → n.frames ≡ [] → open_depth n ≡ 0
none_open n c control frames = rw (control, frames) refl

-- how much is open where the run goes on with this
open_there : (m n : Standing) (c : Control) (room : ℕ) → IsLeft room c → n.control ≡ c → n.depth ≡ m.depth → open_depth n ≡ m.depth - room
open_there m n (Enter part) room left control depth = rw (control, depth, left) refl
open_there m n (Halted stop there) room left control depth = rw (control, depth, left) refl
open_there m n (Give c) room left control depth = absurd left

-- the law, from what the steps of a call leave
pub resumes : {S : Type 0} (h : Calling S) (t : Table) (m n : Standing) (w x : World) (s r : S) (k u : ℕ) (c : Control) (more : Bool)
    → ((j : ℕ) → rest h t c n.frames (u + j) x r ≡ rest h t m.control m.frames (min k m.fuel + j) w s)
    → Stands c n.frames u → u ≤ min k m.fuel → n.control ≡ c → n.fuel ≡ m.fuel - (min k m.fuel - u) → n.spent ≡ m.spent + (min k m.fuel - u) → n.depth ≡ m.depth → nat_lt k m.fuel ≡ more
    → Resumes h t m w s k n x r (turned_of c more)
resumes h t m n w x s r k u (Give c) more e stands within control fuel spent depth lt =
    let a : (j : ℕ) → rest h t m.control m.frames (min m.fuel (k + j)) w s ≡ Completes c (u + further m.fuel k j) x r =
    λ j. ap (λ i. rest h t m.control m.frames i w s) (omega arith) ∙ sym (e (further m.fuel k j)) ∙ rest_of_give h t c n.frames (u + further m.fuel k j) x r stands in
    ends_give h t m n w x s r k u c (λ j. ap (conclude (nat_le m.fuel (k + j))) (a j) ∙ conclude_completes (nat_le m.fuel (k + j)) c (u + further m.fuel k j) x r) (none_open n c control stands) (omega arith)
resumes h t m n w x s r k u (Halted stop room) more e stands within control fuel spent depth lt =
    let a : (j : ℕ) → rest h t m.control m.frames (min m.fuel (k + j)) w s ≡ Stops stop room (u + further m.fuel k j) x r =
    λ j. ap (λ i. rest h t m.control m.frames i w s) (omega arith) ∙ sym (e (further m.fuel k j)) ∙ rest_of_halt h t stop room n.frames (u + further m.fuel k j) x r in
    ends_halt h t m n w x s r k u room stop (λ j. ap (conclude (nat_le m.fuel (k + j))) (a j) ∙ conclude_stops (nat_le m.fuel (k + j)) stop room (u + further m.fuel k j) x r) (open_there m n (Halted stop room) room refl control depth) (omega arith)
resumes h t m n w x s r k u (Enter part) false e stands within control fuel spent depth lt =
    let le : m.fuel ≤ k = ltb-false k m.fuel lt in
    let a : (j : ℕ) → rest h t m.control m.frames (min m.fuel (k + j)) w s ≡ Cuts part.room x r =
    λ j. ap (λ i. rest h t m.control m.frames i w s) (omega arith) ∙ sym (e 0) ∙ ap (λ i. rest h t (Enter part) n.frames i x r) (omega arith) ∙ rest_of_cut h t part n.frames x r in
    let b : (j : ℕ) → left h t m w s (k + j) ≡ Stops (AtLimit Fuel) part.room (0 + further m.fuel k j) x r =
    λ j. ap (λ b. conclude b (rest h t m.control m.frames (min m.fuel (k + j)) w s)) (le-leb m.fuel (k + j) (omega arith)) ∙ ap (conclude true) (a j) ∙ ap (λ i. Stops (AtLimit Fuel) part.room i x r) (omega arith) in
    ended h t m n w x s r k 0 (λ j. Stops (AtLimit Fuel) part.room (0 + further m.fuel k j) x r) (Limit Fuel) (m.depth - part.room) b (λ j. refl) (open_there m n (Enter part) part.room refl control depth) (omega arith)
resumes h t m n w x s r k u (Enter part) true e stands within control fuel spent depth lt =
    let less : k < m.fuel = ltb-true k m.fuel lt in
    let a : rest h t m.control m.frames (min m.fuel k) w s ≡ Cuts part.room x r =
    ap (λ j. rest h t m.control m.frames j w s) (omega arith) ∙ sym (e 0) ∙ ap (λ j. rest h t (Enter part) n.frames j x r) (omega arith) ∙ rest_of_cut h t part n.frames x r in
    let b : left h t m w s k ≡ Cuts part.room x r = ap (λ b. conclude b (rest h t m.control m.frames (min m.fuel k) w s)) (not_leb m.fuel k (nat_le m.fuel k) refl less) ∙ a in
    ((part.room, b, open_there m n (Enter part) part.room refl control depth), λ j. resumes_later h t m n w x s r k u j (Enter part) less stands e control (omega arith), omega arith)

-- a run that stands at the beginning of a row runs that row
stands_rest : {S : Type 0} (h : Calling S) (t : Table) (row : Row) (room u : ℕ) (w : World) (s : S) (control : Control) (frames : List Open)
    → StandsAt t row room w control frames → rest h t control frames u w s ≡ run h t room row u s
unfolding unwind
stands_rest h t row room u w s control frames (inl (at, next, is, inside, c, f)) =
    ap (λ d. rest h t d frames u w s) c ∙ ap (λ fs. rest h t (control_of at next) fs u w s) f
    ∙ sym (rest-next h t at next [] [] u w s) ∙ ap (λ left. run h t left (as_row t at next [] w) u s) (sym inside) ∙ ap (λ r. run h t room r u s) is
stands_rest h t row room u w s control frames (inr (given, o, is, there, c, f)) =
    ap (λ d. rest h t d frames u w s) c ∙ ap (λ fs. rest h t (Give given) fs u w s) f
    ∙ rest-gives h t given [] o u w s ∙ ap (λ left. run h t left (t.rest o given w) u s) there ∙ ap (λ r. run h t room r u s) is

-- what is left of a run that begins is the whole run
pub begins_whole : {S : Type 0} (h : Calling S) (t : Table) (row : Row) (fuel : ℕ) (w : World) (s : S) (m : Standing) → Begins t row fuel w m → (k : ℕ) → left h t m w s k ≡ run_of h t m.depth row s fuel k
begins_whole h t row fuel w s m b k =
    ap (conclude (nat_le m.fuel k)) (stands_rest h t row m.depth (min m.fuel k) w s m.control m.frames b.0) ∙ ap (λ n. capped n (λ u. run h t m.depth row u s) k) b.1
