-- What is done next needs no more room for values than there was.
use Rattle.std.proofs.Common.{◌≡◌, ℕ, ◌+◌, ◌-◌, ◌≤◌, ◌==◌, if◌then◌else◌, Bool, true, false, List, [], ◌∷◌, ◌++◌, length, take, refl, ap, ◌∙◌, sym, subst, arith, append-nil, zero-add}
use Rattle.std.proofs.Math.Seq.{take-append_seam}
use Rattle.std.proofs.lemmas.List.{length_push}
use Rattle.std.proofs.lemmas.List.Sums.{sum_by-append}
use Rattle.rip_base.specs.declared.value.Value.{Value}
use Rattle.rip_base.specs.declared.value.Limit.TheVariants.{Depth}
use Rattle.rip_eval_rows.specs.declared.completion.Completion.{Completion}
use Rattle.rip_eval_rows.specs.declared.completion.Completion.TheVariants.{Normal}
use Rattle.rip_eval_rows.specs.declared.completion.Stop.TheVariants.{Limit as AtLimit}
use Rattle.rip_eval_rows.specs.declared.next.Control.{Control}
use Rattle.rip_eval_rows.specs.declared.next.Control.TheVariants.{Enter, Halted}
use Rattle.rip_eval_rows.specs.declared.next.Next.{Next}
use Rattle.rip_eval_rows.specs.declared.next.Next.TheVariants.{End, Halt, Ask, Keep, Turn, Call}
use Rattle.rip_eval_rows.specs.declared.part.Part.{Part}
use Rattle.rip_eval_rows.specs.Frame.{inner, inside, waiting}
use Rattle.rip_eval_rows.specs.Rest.{control_of, frame_of}
use Rattle.rip_eval_rows.specs.Room.{AreTogether, most_values}
use Rattle.rip_eval_rows.specs.Stack.{Frames, Open, count_of_values, framed, without_last}

-- the values beside some frames and one more
pub count-push : (os : List Open) (o : Open) → count_of_values (os ++ o ∷ []) ≡ count_of_values os + length o.values
count-push os o = sum_by-append (λ (o : Open). length o.values) os (o ∷ []) ∙ ap (λ n. count_of_values os + n) (zero-add (length o.values))

count-empty : (os : List Open) (o : Open) → o.values ≡ [] → count_of_values (os ++ o ∷ []) ≡ count_of_values os
count-empty os o none = let n : length o.values ≡ 0 = ap length none in omega (arith, count-push os o)

-- a part that is called
called_values : (os : List Open) (o : Open) (part : Part) (room u : ℕ) (full : Bool) → o.values ≡ []
    → most_values (if full then Halted (AtLimit Depth) room else Enter part) (os ++ (if full then [] else o ∷ [])) u ≤ count_of_values os + u + 1
called_values os o part room u true none = let n : count_of_values (os ++ []) ≡ count_of_values os = ap count_of_values (append-nil os) in omega arith
called_values os o part room u false none = omega (arith, count-empty os o none)

-- what an open part does next, behind these frames and with these values beside its own
pub next_values : (os : List Open) (at : Part) (next : Next) (values : List Value) (u : ℕ)
    → most_values (control_of at next) (os ++ frame_of at next values) u ≤ count_of_values os + length values + u + 1
next_values os at (End c) values u = let n : count_of_values (os ++ []) ≡ count_of_values os = ap count_of_values (append-nil os) in omega arith
next_values os at (Halt stop) values u = let n : count_of_values (os ++ []) ≡ count_of_values os = ap count_of_values (append-nil os) in omega arith
next_values os at (Ask part wait) values u = omega (arith, count-push os (framed (waiting at wait) []))
next_values os at (Keep part wait v) values u = omega (arith, count-push os (framed (waiting at wait) (values ++ v ∷ [])), length_push values v)
next_values os at (Turn part wait) values u = omega (arith, count-push os (framed (waiting at wait) []))
next_values os at (Call part node wait) values u =
    let a : Part = inside at part in
    let called = called_values os (framed (waiting a wait) []) (inside a (inner a node)) a.room u (a.room == 0) refl in
    omega (arith, called)

-- a run that went on with what an open part does next
pub went_values : (m n : Frames) (at : Part) (next : Next) (values : List Value) (os : List Open) (control : Control) (u most : ℕ)
    → control ≡ control_of at next → n ≡ record m { frames = os ++ frame_of at next values } → count_of_values os + length values + u + 1 ≤ most → most_values control n.frames u ≤ most
went_values m n at next values os control u most c f le = rw (c, f) (let next_le = next_values os at next values u in omega (arith, next_le, le))

-- the values beside the innermost frame and those beside the others
pub count_split : (os : List Open) (o : Open) → os ≡ without_last os ++ o ∷ [] → count_of_values os ≡ count_of_values (without_last os) + length o.values
count_split os o is = ap count_of_values is ∙ count-push (without_last os) o

-- all values but for the last
pub taken : (all values : List Value) (v : Value) → all ≡ values ++ v ∷ [] → take (length all - 1) all ≡ values
taken all values v is =
    let len : length (values ++ v ∷ []) - 1 ≡ length values = omega (arith, length_push values v) in
    ap (λ xs. take (length xs - 1) xs) is ∙ ap (λ n. take n (values ++ v ∷ [])) len ∙ take-append_seam values (v ∷ [])

-- they stand together with the last, which is the value of the completion
pub together : (all values : List Value) (v : Value) (c : Completion) → c ≡ Normal v → all ≡ values ++ v ∷ [] → AreTogether (take (length all - 1) all) c all
together all values v c normal is =
    let P : Completion → Type 0 = λ d. AreTogether (take (length all - 1) all) d all in
    subst P (sym normal) (is ∙ ap (λ vs. vs ++ v ∷ []) (sym (taken all values v is)))
