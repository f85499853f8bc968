-- What sessions do asks before it reads: behind parts in which no more calls are served than were given the next part, too, is the
-- same whatever is given behind.
use Rattle.std.proofs.Common.{◌≡◌, ℕ, zero, suc, ◌+◌, ◌-◌, ◌≤◌, min, Bool, true, false, List, [], ◌∷◌, ◌++◌, length, take, None, Some, if◌then◌else◌, refl, ap, sym, subst, ◌∙◌, arith}
use Rattle.rip_heap.specs.World.{World}
use Rattle.rip_wire.specs.Batches.{Contents}
use Rattle.rip_eval_rows.specs.declared.close.Close.{Close}
use Rattle.rip_eval_rows.specs.declared.close.Close.TheVariants.{Fine, Refused, Mismatch, Stopped}
use Rattle.rip_eval_rows.specs.Evaluation.{Reached, Passes, Breaks, Pauses}
use Rattle.rip_eval_rows.specs.Plan.{IsPlain, Plan, Over, Takes, Awaits, Runs}
use Rattle.rip_eval_rows.specs.Started.{Started}
use Rattle.rip_replica.specs.Play.{Played, Closes, Holds, after_run, play}
use Rattle.rip_history.specs.Parts.{Fact, passes, serves, finishes, Given, Part, served_count, serves_call}
use Rattle.rip_replica.specs.Parts.{Doing, after_item, first_given, given_behind, is_fine, items_parts, later_parts, part_of, session_parts}
use Rattle.rip_replica.specs.Plays.{IsItemPlan}
use Rattle.rip_replica.proofs.TurnLemmas.{after_ended, after_fine}

-- as far as the first parts serve no more calls than this, the others are the same, and the next too
abbrev SameFor : ℕ → List Part → List Part → Type 0
SameFor given ps qs = (k : ℕ) → served_count (take k ps) ≤ given → take (suc k) ps ≡ take (suc k) qs

same_for_by : (given : ℕ) (ps qs xs ys : List Part) → ps ≡ xs → qs ≡ ys → SameFor given xs ys → SameFor given ps qs
same_for_by given ps qs xs ys first second h =
    let P : List Part → Type 0 = λ ps. SameFor given ps qs in
    let Q : List Part → Type 0 = λ qs. SameFor given xs qs in
    subst P (sym first) (subst Q (sym second) h)

-- behind a part that serves no call, and one that serves a call
behind_other : (given : ℕ) (p : Part) (ps qs : List Part) → serves_call p.fact ≡ false → SameFor given ps qs → SameFor given (p ∷ ps) (p ∷ qs)
behind_other given p ps qs other h zero few = refl
behind_other given p ps qs other h (suc k) few =
    let count : served_count (take (suc k) (p ∷ ps)) ≡ served_count (take k ps) = ap (λ b. if b then suc (served_count (take k ps)) else served_count (take k ps)) other in
    ap (λ xs. p ∷ xs) (h k (omega (arith, count, few)))

behind_call : (given : ℕ) (p : Part) (ps qs : List Part) → serves_call p.fact ≡ true → SameFor given ps qs → SameFor (suc given) (p ∷ ps) (p ∷ qs)
behind_call given p ps qs call h zero few = refl
behind_call given p ps qs call h (suc k) few =
    let count : served_count (take (suc k) (p ∷ ps)) ≡ suc (served_count (take k ps)) = ap (λ b. if b then suc (served_count (take k ps)) else served_count (take k ps)) call in
    ap (λ xs. p ∷ xs) (h k (omega (arith, count, few)))

-- a call for which nothing is given is the last
no_call : (p : Part) (ps qs : List Part) → serves_call p.fact ≡ true → SameFor 0 (p ∷ ps) (p ∷ qs)
no_call p ps qs call zero few = refl
no_call p ps qs call (suc k) few =
    let count : served_count (take (suc k) (p ∷ ps)) ≡ suc (served_count (take k ps)) = ap (λ b. if b then suc (served_count (take k ps)) else served_count (take k ps)) call in
    absurd (omega (arith, count, few))

-- ---- an item that waits for nothing

either_same : (given : ℕ) (b : Bool) (p q : Part) (ps qs : List Part) → SameFor given (p ∷ ps) (p ∷ qs) → SameFor given (if b then p ∷ ps else q ∷ []) (if b then p ∷ qs else q ∷ [])
either_same given true p q ps qs h = h
either_same given false p q ps qs h = λ k few. refl

after_same : {A S : Type 0} (d : Doing A S) (batch : ℕ) (all : List A) (n cost : ℕ) (a : A) (p : Played S) (go on : ℕ → World → S → List Part) (given : ℕ) → serves_call (d.fact a) ≡ false
    → ((c : ℕ) (w : World) (s : S) → SameFor given (go c w s) (on c w s)) → SameFor given (after_item d batch all n cost a p go) (after_item d batch all n cost a p on)
after_same d batch all n cost a (Closes close gs fuel u w s) go on given other h =
    let c : ℕ = cost + 1 + (d.full - u) in
    let p : Part = part_of batch n c (d.fact a) in
    either_same given (is_fine close) p (part_of batch n c (finishes (Some (d.ending all close s)))) (go c w s) (on c w s) (behind_other given p (go c w s) (on c w s) other (h c w s))
after_same d batch all n cost a (Holds depth w s) go on given other h = λ k few. refl

-- it is played alike, whatever is given
run_same : {A S : Type 0} (d : Doing A S) (batch : ℕ) (all : List A) (n cost : ℕ) (a : A) (go : ℕ → World → S → List Part) (item : ℕ) (r : Reached S) (gs hs : List (S → S)) (fuel u : ℕ) (f g : ℕ → ℕ → World → S → Played S)
    → ((e v : ℕ) (w : World) (s : S) → after_item d batch all n cost a (f e v w s) go ≡ after_item d batch all n cost a (g e v w s) go)
    → after_item d batch all n cost a (after_run item r gs fuel u f) go ≡ after_item d batch all n cost a (after_run item r hs fuel u g) go
run_same d batch all n cost a go item (Passes v w s) gs hs fuel u f g h = h (fuel - min u fuel + v) (u - min u fuel + v) w s
run_same d batch all n cost a go item (Breaks stop v w s) gs hs fuel u f g h = refl
run_same d batch all n cost a go item (Pauses depth w s) gs hs fuel u f g h = refl

plain_same : {A S : Type 0} (d : Doing A S) (batch : ℕ) (all : List A) (n cost : ℕ) (a : A) (go : ℕ → World → S → List Part) (run : Started → World → S → ℕ → ℕ → Reached S) (full : ℕ) (plan : Plan S) (gs hs : List (S → S)) (fuel u : ℕ)
    → IsPlain plan → after_item d batch all n cost a (play run full plan gs fuel u) go ≡ after_item d batch all n cost a (play run full plan hs fuel u) go
plain_same d batch all n cost a go run full (Over close w s) gs hs fuel u plain = refl
plain_same d batch all n cost a go run full (Takes w s plan) gs hs fuel u plain = absurd plain
plain_same d batch all n cost a go run full (Awaits w s on) gs hs fuel u plain = absurd plain
plain_same d batch all n cost a go run full (Runs item start w s on) gs hs fuel u plain =
    run_same d batch all n cost a go item (run start w s fuel u) gs hs fuel u (λ e v x r. play run full (on x r) gs e v) (λ e v x r. play run full (on x r) hs e v)
    (λ e v x r. plain_same d batch all n cost a go run full (on x r) gs hs e v (plain x r))

-- ---- an item

never_fine : (close : Close) → ¬ (close ≡ Fine) → is_fine close ≡ false
never_fine Fine h = absurd (h refl)
never_fine (Refused item kind) h = refl
never_fine (Mismatch item) h = refl
never_fine (Stopped item stop) h = refl

-- an item as it is played with what comes first
abbrev played : {A S : Type 0} → Doing A S → ℕ → Plan S → List Given → Played S
played d batch plan gs = play d.run d.full plan (d.serve batch (first_given gs) ∷ []) d.full d.full

-- a call that waits, behind which there are these parts
call_waits : {A S : Type 0} (d : Doing A S) (batch : ℕ) (all : List A) (n cost : ℕ) (a : A) (go : ℕ → World → S → List Part) (w : World) (s : S) (on : S → Plan S) (g : Given)
    → ((r : S) → on r ≡ Over Fine w r)
    → after_item d batch all n cost a (play d.run d.full (Awaits w s on) (d.serve batch g ∷ []) d.full d.full) go
    ≡ part_of batch n (cost + 1 + (d.full - d.full)) (d.fact a) ∷ go (cost + 1 + (d.full - d.full)) w (d.serve batch g s)
call_waits d batch all n cost a go w s on g over =
    after_fine d batch all n cost a (play d.run d.full (on (d.serve batch g s)) [] d.full d.full) go [] d.full d.full (cost + 1 + (d.full - d.full)) w (d.serve batch g s)
    (ap (λ p. play d.run d.full p [] d.full d.full) (over (d.serve batch g s))) refl

-- behind it what is given behind it is read
call_reads : {A S : Type 0} (d : Doing A S) (batch : ℕ) (all : List A) (n cost : ℕ) (a : A) (go : List Given → ℕ → World → S → List Part) (w : World) (s : S) (on : S → Plan S) (number : ℕ) (name : List ℕ) (args : List _)
    (gs more : List Given) → d.fact a ≡ serves number name args → ((r : S) → on r ≡ Over Fine w r)
    → ((hs : List Given) (c : ℕ) (x : World) (r : S) → SameFor (length hs) (go hs c x r) (go (hs ++ more) c x r))
    → SameFor (length gs) (after_item d batch all n cost a (played d batch (Awaits w s on) gs) (go (given_behind (serves number name args) gs)))
    (after_item d batch all n cost a (played d batch (Awaits w s on) (gs ++ more)) (go (given_behind (serves number name args) (gs ++ more))))
call_reads d batch all n cost a go w s on number name args [] more fact over h =
    let f : Fact = serves number name args in
    let c : ℕ = cost + 1 + (d.full - d.full) in
    let p : Part = part_of batch n c (d.fact a) in
    let r : _ = d.serve batch (first_given []) s in
    let q : _ = d.serve batch (first_given ([] ++ more)) s in
    same_for_by 0 _ _ (p ∷ go (given_behind f []) c w r) (p ∷ go (given_behind f ([] ++ more)) c w q)
    (call_waits d batch all n cost a (go (given_behind f [])) w s on (first_given []) over)
    (call_waits d batch all n cost a (go (given_behind f ([] ++ more))) w s on (first_given ([] ++ more)) over)
    (no_call p (go (given_behind f []) c w r) (go (given_behind f ([] ++ more)) c w q) (ap serves_call fact))
call_reads d batch all n cost a go w s on number name args (g ∷ gs) more fact over h =
    let c : ℕ = cost + 1 + (d.full - d.full) in
    let p : Part = part_of batch n c (d.fact a) in
    let r : _ = d.serve batch g s in
    same_for_by (suc (length gs)) _ _ (p ∷ go gs c w r) (p ∷ go (gs ++ more) c w r)
    (call_waits d batch all n cost a (go gs) w s on g over)
    (call_waits d batch all n cost a (go (gs ++ more)) w s on g over)
    (behind_call (length gs) p (go gs c w r) (go (gs ++ more) c w r) (ap serves_call fact) (h gs c w r))

item_reads : {A S : Type 0} (d : Doing A S) (may : S → Bool) (batch : ℕ) (all : List A) (n cost : ℕ) (a : A) (go : List Given → ℕ → World → S → List Part) (fact : Fact) (plan : Plan S) (gs more : List Given)
    → d.fact a ≡ fact → IsItemPlan may fact plan → ((hs : List Given) (c : ℕ) (x : World) (r : S) → SameFor (length hs) (go hs c x r) (go (hs ++ more) c x r))
    → SameFor (length gs) (after_item d batch all n cost a (played d batch plan gs) (go (given_behind fact gs)))
    (after_item d batch all n cost a (played d batch plan (gs ++ more)) (go (given_behind fact (gs ++ more))))
item_reads d may batch all n cost a go passes plan gs more fact shape h = λ k few.
    after_same d batch all n cost a (played d batch plan gs) (go gs) (go (gs ++ more)) (length gs) (ap serves_call fact) (h gs) k few
    ∙ ap (λ ps. take (suc k) ps) (plain_same d batch all n cost a (go (gs ++ more)) d.run d.full plan (d.serve batch (first_given gs) ∷ []) (d.serve batch (first_given (gs ++ more)) ∷ []) d.full d.full shape)
item_reads d may batch all n cost a go (serves number name args) (Over close w s) gs more fact shape h = λ k few.
    let f : Fact = serves number name args in
    let c : ℕ = cost + 1 + (d.full - d.full) in
    let first : List (_ → _) = d.serve batch (first_given gs) ∷ [] in
    let second : List (_ → _) = d.serve batch (first_given (gs ++ more)) ∷ [] in
    ap (λ ps. take (suc k) ps)
    (after_ended d batch all n cost a (Closes close first d.full d.full w s) (go (given_behind f gs)) close first d.full d.full c w s refl (never_fine close shape) refl
    ∙ sym (after_ended d batch all n cost a (Closes close second d.full d.full w s) (go (given_behind f (gs ++ more))) close second d.full d.full c w s refl (never_fine close shape) refl))
item_reads d may batch all n cost a go (serves number name args) (Takes w s plan) gs more fact shape h = absurd shape
item_reads d may batch all n cost a go (serves number name args) (Awaits w s on) gs more fact shape h = call_reads d batch all n cost a go w s on number name args gs more fact shape.1 h
item_reads d may batch all n cost a go (serves number name args) (Runs item start w s on) gs more fact shape h = absurd shape
item_reads d may batch all n cost a go (finishes how) plan gs more fact shape h = absurd shape

-- ---- items, batches, sessions

items_read : {A S : Type 0} (d : Doing A S) (may : S → Bool) (batch : ℕ) → ((a : A) (n : ℕ) (w : World) (s : S) → IsItemPlan may (d.fact a) (d.plan batch a n w s))
    → (all : List A) (n cost : ℕ) (items : List A) (gs more : List Given) (w : World) (s : S) (next : List Given → World → S → List Part)
    → ((hs : List Given) (x : World) (r : S) → SameFor (length hs) (next hs x r) (next (hs ++ more) x r))
    → SameFor (length gs) (items_parts d batch all n cost items gs w s next) (items_parts d batch all n cost items (gs ++ more) w s next)
items_read d may batch shapes all n cost [] gs more w s next h =
    behind_other (length gs) (part_of batch n cost (finishes None)) (next gs w s) (next (gs ++ more) w s) refl (h gs w s)
items_read d may batch shapes all n cost (a ∷ items) gs more w s next h =
    item_reads d may batch all n cost a (λ hs c x r. items_parts d batch all (n + 1) c items hs x r next) (d.fact a) (d.plan batch a n w s) gs more refl (shapes a n w s)
    (λ hs c x r. items_read d may batch shapes all (n + 1) c items hs more x r next h)

later_read : {A S : Type 0} (d : Doing A S) (may : S → Bool) → ((batch : ℕ) (a : A) (n : ℕ) (w : World) (s : S) → IsItemPlan may (d.fact a) (d.plan batch a n w s))
    → (batch : ℕ) (bs : List Contents) (gs more : List Given) (w : World) (s : S) → SameFor (length gs) (later_parts d batch bs gs w s) (later_parts d batch bs (gs ++ more) w s)
later_read d may shapes batch [] gs more w s = λ k few. refl
later_read d may shapes batch (b ∷ bs) gs more w s =
    items_read d may batch (shapes batch) (d.items b) 1 1 (d.items b) gs more w s (λ hs x r. later_parts d (batch + 1) bs hs x r)
    (λ hs x r. later_read d may shapes (batch + 1) bs hs more x r)

pub session_asks : {A S : Type 0} (d : Doing A S) (may : S → Bool) → ((batch : ℕ) (a : A) (n : ℕ) (w : World) (s : S) → IsItemPlan may (d.fact a) (d.plan batch a n w s))
    → (bs : List Contents) (gs more : List Given) → SameFor (length gs) (session_parts d bs gs) (session_parts d bs (gs ++ more))
session_asks d may shapes bs gs more =
    items_read d may 0 (shapes 0) (d.opening ∷ []) 1 1 (d.opening ∷ []) gs more d.world d.page (λ hs x r. later_parts d 1 bs hs x r)
    (λ hs x r. later_read d may shapes 1 bs hs more x r)
