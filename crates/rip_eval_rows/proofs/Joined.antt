-- Frames joined with their values, when the innermost frame is put on or taken off.
use Rattle.std.proofs.Common.{◌≡◌, ℕ, zero, suc, ◌+◌, ◌-◌, ◌≤◌, List, [], ◌∷◌, ◌++◌, length, take, drop, sum_by, slice_get, slice_set, get_or, Some, ◌<◌, length-set, sym, refl, ap, ap₂, ◌∙◌, arith, take_all, take-suc, length-drop, length-take-le, take-append-drop, append-nil, append_assoc, zero-add}
use Rattle.std.proofs.lemmas.Option.{slice_get_within}
use Rattle.std.proofs.lemmas.List.{take-append-le, drop-append-le, length_push, take_more_set}
use Rattle.std.proofs.lemmas.List.Sums.{sum_by-append}
use Rattle.std.proofs.Math.Seq.{take-append_seam}
use Rattle.rip_base.specs.declared.value.Value.{Value}
use Rattle.rip_eval_rows.specs.declared.stack.Entry.{Entry}
use Rattle.rip_eval_rows.specs.Stack.{Open, Frames, framed, without_last, last_values, count_of_values}
use Rattle.rip_eval_rows.specs.Joining.{joined}

sum-more : (e : Entry) (es : List Entry) → sum_by (λ (e : Entry). e.values) (e ∷ es) ≡ e.values + sum_by (λ (e : Entry). e.values) es
sum-more e es = sum_by-append (λ (e : Entry). e.values) (e ∷ []) es ∙ ap (λ n. n + sum_by (λ (e : Entry). e.values) es) (zero-add e.values)

open-more : (o : Open) (os : List Open) → count_of_values (o ∷ os) ≡ length o.values + count_of_values os
open-more o os = sum_by-append (λ (o : Open). length o.values) (o ∷ []) os ∙ ap (λ n. n + count_of_values os) (zero-add (length o.values))

-- a frame with its values, put behind the others
pub joined-push : (es : List Entry) (e : Entry) (vs us : List Value) → sum_by (λ e. e.values) es ≡ length vs → e.values ≡ length us → joined (es ++ e ∷ []) (vs ++ us) ≡ joined es vs ++ framed e.frame us ∷ []
joined-push [] e [] us h g = ap (λ xs. framed e.frame xs ∷ []) (take_all e.values us (omega arith))
joined-push [] e (v ∷ vs) us h g = absurd (omega arith)
joined-push (d ∷ es) e vs us h g =
    let s : d.values + sum_by (λ (e : Entry). e.values) es ≡ length vs = sym (sum-more d es) ∙ h in
    let le : d.values ≤ length vs = omega arith in
    let rest : sum_by (λ (e : Entry). e.values) es ≡ length (drop d.values vs) = omega (arith, length-drop d.values vs) in
    rw (take-append-le d.values vs us le, drop-append-le d.values vs us le) (ap (λ xs. framed d.frame (take d.values vs) ∷ xs) (joined-push es e (drop d.values vs) us rest g))

-- the innermost frame and its values, taken apart from the others
pub joined-split : (es below : List Entry) (e : Entry) (vs : List Value) → es ≡ below ++ e ∷ [] → sum_by (λ e. e.values) es ≡ length vs
    → (joined es vs ≡ joined below (take (length vs - e.values) vs) ++ framed e.frame (drop (length vs - e.values) vs) ∷ [])
    × (sum_by (λ e. e.values) below ≡ length (take (length vs - e.values) vs))
    × (e.values ≤ length vs)
joined-split es below e vs h g =
    let s : sum_by (λ (e : Entry). e.values) below + e.values ≡ length vs = omega (arith, sum_by-append (λ (e : Entry). e.values) below (e ∷ []), ap (sum_by (λ (e : Entry). e.values)) h) in
    let le : length vs - e.values ≤ length vs = omega arith in
    let t : sum_by (λ (e : Entry). e.values) below ≡ length (take (length vs - e.values) vs) = omega (arith, length-take-le (length vs - e.values) vs le) in
    let u : e.values ≡ length (drop (length vs - e.values) vs) = omega (arith, length-drop (length vs - e.values) vs) in
    (ap (λ xs. joined xs vs) h ∙ ap (joined (below ++ e ∷ [])) (sym (take-append-drop (length vs - e.values) vs)) ∙ joined-push below e (take (length vs - e.values) vs) (drop (length vs - e.values) vs) t u, t, omega arith)

pub without_last-push : (os : List Open) (o : Open) → without_last (os ++ o ∷ []) ≡ os
without_last-push os o =
    let n : length (os ++ o ∷ []) - 1 ≡ length os = omega (arith, length_push os o) in
    rw n (take-append_seam os (o ∷ []))

slice_get-push : (os : List Open) (o : Open) → slice_get (os ++ o ∷ []) (length os) ≡ Some o
slice_get-push [] o = refl
slice_get-push (p ∷ os) o = slice_get-push os o

pub last_values-push : (os : List Open) (o : Open) → last_values (os ++ o ∷ []) ≡ o.values
last_values-push os o =
    let n : length (os ++ o ∷ []) - 1 ≡ length os = omega (arith, length_push os o) in
    rw (n, slice_get-push os o) refl

pub length-joined : (es : List Entry) (vs : List Value) → length (joined es vs) ≡ length es
length-joined [] vs = refl
length-joined (e ∷ es) vs = ap suc (length-joined es (drop e.values vs))

-- as many values as are kept
pub count-joined : (es : List Entry) (vs : List Value) → sum_by (λ e. e.values) es ≡ length vs → count_of_values (joined es vs) ≡ length vs
count-joined [] vs h = h
count-joined (e ∷ es) vs h =
    let s : e.values + sum_by (λ (e : Entry). e.values) es ≡ length vs = sym (sum-more e es) ∙ h in
    let rest : sum_by (λ (e : Entry). e.values) es ≡ length (drop e.values vs) = omega (arith, length-drop e.values vs) in
    let first : length (take e.values vs) ≡ e.values = length-take-le e.values vs (omega arith) in
    let more = count-joined es (drop e.values vs) rest in
    open-more (framed e.frame (take e.values vs)) (joined es (drop e.values vs)) ∙ omega (arith, length-drop e.values vs)

-- the last entry and those before it
pub last-split : (es : List Entry) (e : Entry) → slice_get es (length es - 1) ≡ Some e → es ≡ take (length es - 1) es ++ e ∷ []
last-split es e h =
    let lt = slice_get_within es (length es - 1) e h in
    let g : get_or es (length es - 1) e ≡ e = slice_get-or es (length es - 1) e h in
    let n : suc (length es - 1) ≡ length es = omega arith in
    sym (take_all (length es) es (omega arith)) ∙ ap (λ k. take k es) (sym n) ∙ take-suc es (length es - 1) e lt ∙ ap (λ x. take (length es - 1) es ++ x ∷ []) g
  where
    slice_get-or : (es : List Entry) (i : ℕ) (e : Entry) → slice_get es i ≡ Some e → get_or es i e ≡ e
    slice_get-or [] i e h = refl
    slice_get-or (d ∷ es) zero e h = cc
    slice_get-or (d ∷ es) (suc i) e h = slice_get-or es i e h

-- the same by its place, which is numbered
pub last-taken : (es : List Entry) (n : ℕ) (e : Entry) → n ≡ length es → 0 < n → e ≡ get_or es (n - 1) e → es ≡ take (n - 1) es ++ e ∷ []
last-taken es n e is some g =
    let lt : n - 1 < length es = omega arith in
    sym (take_all (suc (n - 1)) es (omega arith)) ∙ take-suc es (n - 1) e lt ∙ ap (λ x. take (n - 1) es ++ x ∷ []) (sym g)

-- another entry in its place
pub set-last : (es : List Entry) (n : ℕ) (r : Entry) → n ≡ length es → 0 < n → slice_set es (n - 1) r ≡ take (n - 1) es ++ r ∷ []
set-last es n r is some =
    let lt : n - 1 < length es = omega arith in
    sym (take_all (n - 1 + 1) (slice_set es (n - 1) r) (omega (arith, length-set es (n - 1) r))) ∙ take_more_set es (n - 1) r lt

-- WHAT A STACK HOLDS

-- the frames of a stack whose last entry is e
pub frames-last : (m : Frames) (es below : List Entry) (e : Entry) (vs : List Value) → joined es vs ≡ m.frames → es ≡ below ++ e ∷ [] → sum_by (λ e. e.values) es ≡ length vs
    → (m.frames ≡ without_last m.frames ++ framed e.frame (last_values m.frames) ∷ [])
    × (joined below (take (length vs - e.values) vs) ≡ without_last m.frames)
    × (drop (length vs - e.values) vs ≡ last_values m.frames)
frames-last m es below e vs f h g =
    let s = joined-split es below e vs h g in
    let x : Open = framed e.frame (drop (length vs - e.values) vs) in
    let is : m.frames ≡ joined below (take (length vs - e.values) vs) ++ x ∷ [] = sym f ∙ s.0 in
    let before : without_last m.frames ≡ joined below (take (length vs - e.values) vs) = ap without_last is ∙ without_last-push (joined below (take (length vs - e.values) vs)) x in
    let beside : last_values m.frames ≡ drop (length vs - e.values) vs = ap last_values is ∙ last_values-push (joined below (take (length vs - e.values) vs)) x in
    (is ∙ ap (λ os. os ++ x ∷ []) (sym before) ∙ ap (λ xs. without_last m.frames ++ framed e.frame xs ∷ []) (sym beside), sym before, sym beside)

-- its last entry taken away
pub frames-popped : (m : Frames) (es below : List Entry) (e : Entry) (vs us : List Value) → joined es vs ≡ m.frames → es ≡ below ++ e ∷ [] → sum_by (λ e. e.values) es ≡ length vs
    → us ≡ take (length vs - e.values) vs → joined below us ≡ without_last m.frames
frames-popped m es below e vs us f h g k = ap (joined below) k ∙ (frames-last m es below e vs f h g).1

-- an entry with no values behind others
pub frames-pushed : (es : List Entry) (e : Entry) (vs : List Value) → sum_by (λ e. e.values) es ≡ length vs → e.values ≡ 0 → joined (es ++ e ∷ []) vs ≡ joined es vs ++ framed e.frame [] ∷ []
frames-pushed es e vs h g = ap (joined (es ++ e ∷ [])) (sym (append-nil vs)) ∙ joined-push es e vs [] h g

-- an entry with no values in place of the last one
pub frames-replaced : (m : Frames) (es below : List Entry) (e r : Entry) (vs us : List Value) → joined es vs ≡ m.frames → es ≡ below ++ e ∷ [] → sum_by (λ e. e.values) es ≡ length vs
    → us ≡ take (length vs - e.values) vs → r.values ≡ 0 → joined (below ++ r ∷ []) us ≡ without_last m.frames ++ framed r.frame [] ∷ []
frames-replaced m es below e r vs us f h g k z =
    let s = joined-split es below e vs h g in
    frames-pushed below r us (s.1 ∙ ap length (sym k)) z ∙ ap (λ os. os ++ framed r.frame [] ∷ []) (frames-popped m es below e vs us f h g k)

-- an entry with one value more in place of the last one
pub frames-kept : (m : Frames) (es below : List Entry) (e r : Entry) (vs : List Value) (v : Value) → joined es vs ≡ m.frames → es ≡ below ++ e ∷ [] → sum_by (λ e. e.values) es ≡ length vs
    → r.values ≡ e.values + 1 → joined (below ++ r ∷ []) (vs ++ v ∷ []) ≡ without_last m.frames ++ framed r.frame (last_values m.frames ++ v ∷ []) ∷ []
frames-kept m es below e r vs v f h g k =
    let s = joined-split es below e vs h g in
    let l = frames-last m es below e vs f h g in
    let front : List Value = take (length vs - e.values) vs in
    let back : List Value = drop (length vs - e.values) vs in
    let n : r.values ≡ length (back ++ v ∷ []) = omega (arith, length-drop (length vs - e.values) vs, length_push back v, s.2) in
    let cut : vs ++ v ∷ [] ≡ front ++ (back ++ v ∷ []) = ap (λ xs. xs ++ v ∷ []) (sym (take-append-drop (length vs - e.values) vs)) ∙ append_assoc front back (v ∷ []) in
    ap (joined (below ++ r ∷ [])) cut ∙ joined-push below r front (back ++ v ∷ []) s.1 n ∙ ap₂ (λ os xs. os ++ framed r.frame (xs ++ v ∷ []) ∷ []) l.1 l.2

-- as many values are beside the last frame as its entry says
pub last-count : (m : Frames) (es below : List Entry) (e : Entry) (vs values : List Value) (os : List Open) (o : Open) → joined es vs ≡ m.frames → es ≡ below ++ e ∷ [] → sum_by (λ e. e.values) es ≡ length vs
    → m.frames ≡ os ++ o ∷ [] → o.values ≡ values → e.values ≡ length values
last-count m es below e vs values os o f h g is beside =
    let s = joined-split es below e vs h g in
    let l = frames-last m es below e vs f h g in
    let last : drop (length vs - e.values) vs ≡ values = l.2 ∙ ap last_values is ∙ last_values-push os o ∙ beside in
    omega (arith, ap length last, length-drop (length vs - e.values) vs, s.2)

-- an entry with one value less in place of the last one
pub frames-taken : (m : Frames) (es below : List Entry) (e r : Entry) (vs us : List Value) (os : List Open) (values : List Value) (v : Value) → joined es vs ≡ m.frames → es ≡ below ++ e ∷ [] → sum_by (λ e. e.values) es ≡ length vs
    → m.frames ≡ os ++ framed r.frame (values ++ v ∷ []) ∷ [] → us ≡ take (length vs - 1) vs → r.values ≡ e.values - 1 → joined (below ++ r ∷ []) us ≡ os ++ framed r.frame values ∷ []
frames-taken m es below e r vs us os values v f h g is k n =
    let s = joined-split es below e vs h g in
    let l = frames-last m es below e vs f h g in
    let x : Open = framed r.frame (values ++ v ∷ []) in
    let front : List Value = take (length vs - e.values) vs in
    let back : List Value = drop (length vs - e.values) vs in
    let before : joined below front ≡ os = l.1 ∙ ap without_last is ∙ without_last-push os x in
    let beside : back ≡ values ++ v ∷ [] = l.2 ∙ ap last_values is ∙ last_values-push os x in
    let all : vs ≡ (front ++ values) ++ v ∷ [] = sym (take-append-drop (length vs - e.values) vs) ∙ ap (λ xs. front ++ xs) beside ∙ sym (append_assoc front values (v ∷ [])) in
    let len : length vs - 1 ≡ length (front ++ values) = omega (arith, ap length all, length_push (front ++ values) v) in
    let cut : us ≡ front ++ values = k ∙ ap (λ i. take i vs) len ∙ ap (take (length (front ++ values))) all ∙ take-append_seam (front ++ values) (v ∷ []) in
    let all_count : e.values ≡ length (values ++ v ∷ []) = last-count m es below e vs (values ++ v ∷ []) os x f h g is refl in
    let count : r.values ≡ length values = omega (arith, all_count, length_push values v) in
    ap (joined (below ++ r ∷ [])) cut ∙ joined-push below r front values s.1 count ∙ ap (λ os. os ++ framed r.frame values ∷ []) before
