-- Parts that tell of a call are those of items that report one.
use Rattle.std.proofs.Common.{◌≡◌, inl, inr, ℕ, ◌+◌, ◌-◌, Bool, true, false, List, [], ◌∷◌, ◌++◌, Some, if◌then◌else◌, refl, sym, subst}
use Rattle.std.proofs.lemmas.Bool.{true≢false}
use Rattle.std.specs.List.{AllByRecursion}
use Rattle.rip_app.specs.App.{Loaded}
use Rattle.rip_heap.specs.World.{World}
use Rattle.rip_wire.specs.Batches.{Contents}
use Rattle.rip_host.specs.declared.browser.Browser.{Browser}
use Rattle.rip_eval_rows.specs.declared.close.Close.{Close}
use Rattle.rip_eval_rows.specs.declared.close.Close.TheVariants.{Fine, Refused, Mismatch, Stopped}
use Rattle.rip_eval_rows.specs.declared.completion.Stop.TheVariants.{Fault as AtFault, Limit as AtLimit}
use Rattle.rip_eval_rows.specs.Plan.{Plan}
use Rattle.rip_replica.specs.Play.{Closes, Holds, Played}
use Rattle.rip_history.specs.Parts.{Fact, finishes, passes, serves, Given, IsLack, Lacking, Part, behind, ends_at_mismatch, is_before, serves_call, tells_call}
use Rattle.rip_replica.specs.Parts.{Doing, after_item, first_given, given_behind, is_fine, items_parts, later_parts, part_of, whole_item}
use Rattle.rip_replica.specs.Plays.{IsItemPlan}
use Rattle.rip_replica.specs.Rooms.{IsMismatch}
use Rattle.rip_replica.proofs.ItemLemmas.{mismatch_serves}
use Rattle.rip_law_replica.specs.Prefix.{Placed, items_of, placed, placed_in}
use Rattle.rip_session.specs.Endings.{ending_of}
use Rattle.rip_session.specs.Serving.{may_serve}
use Rattle.rip_session.specs.Shapes.{shapes}
use Rattle.rip_session.specs.Tasks.{Task, fact_of}
use Rattle.rip_session.specs.Application.{doing_of, meaning_of_app}
use Rattle.rip_headline.specs.Lacks.{HasCallAt}

-- ---- items among others

has_left : {A S : Type 0} (d : Doing A S) (batch number : ℕ) (xs ys : List (Placed A)) → HasCallAt d batch number xs → HasCallAt d batch number (xs ++ ys)
has_left d batch number [] ys h = absurd h
has_left d batch number (x ∷ xs) ys (inl here) = inl here
has_left d batch number (x ∷ xs) ys (inr there) = inr (has_left d batch number xs ys there)

has_right : {A S : Type 0} (d : Doing A S) (batch number : ℕ) (xs ys : List (Placed A)) → HasCallAt d batch number ys → HasCallAt d batch number (xs ++ ys)
has_right d batch number [] ys h = h
has_right d batch number (x ∷ xs) ys h = inr (has_right d batch number xs ys h)

-- ---- what ends at a mismatch

only_mismatch : (all : List Task) (close : Close) (s : Browser) → ends_at_mismatch (Some (ending_of all close s)) ≡ true → IsMismatch close
only_mismatch all Fine s h = absurd (true≢false (sym h))
only_mismatch all (Refused item kind) s h = absurd (true≢false (sym h))
only_mismatch all (Mismatch item) s h = tt
only_mismatch all (Stopped item (AtFault fault)) s h = absurd (true≢false (sym h))
only_mismatch all (Stopped item (AtLimit limit)) s h = absurd (true≢false (sym h))

told_serves : {S : Type 0} (may : S → Bool) (fact : Fact) (plan : Plan S) → IsItemPlan may fact plan → tells_call fact ≡ true → serves_call fact ≡ true
told_serves may passes plan shape told = told
told_serves may (serves number name args) plan shape told = refl
told_serves may (finishes how) plan shape told = absurd shape

-- ---- parts

-- a part that tells of a call is that of one of these items, which reports it
abbrev pub Tells : {A S : Type 0} → Doing A S → List (Placed A) → Part → Type 0
Tells d items p = tells_call p.fact ≡ true → HasCallAt d p.batch p.item items

either_tells : {A S : Type 0} (d : Doing A S) (items : List (Placed A)) (b : Bool) (p q : Part) (ps : List Part)
    → Tells d items p → Tells d items q → AllByRecursion (Tells d items) ps → AllByRecursion (Tells d items) (if b then p ∷ ps else q ∷ [])
either_tells d items true p q ps first last rest = (first, rest)
either_tells d items false p q ps first last rest = (last, tt)

-- an item as it is played: a mismatch comes of one that reports a call, and that has its place among the items
after_tells : {A S : Type 0} (d : Doing A S) (items : List (Placed A)) (batch : ℕ) (all : List A) (n cost : ℕ) (a : A) (p q : Played S) (go : ℕ → World → S → List Part) → q ≡ p
    → (tells_call (d.fact a) ≡ true → HasCallAt d batch n items)
    → ((close : Close) (gs : List (S → S)) (fuel u : ℕ) (w : World) (s : S) → q ≡ Closes close gs fuel u w s → ends_at_mismatch (Some (d.ending all close s)) ≡ true → HasCallAt d batch n items)
    → ((c : ℕ) (w : World) (s : S) → AllByRecursion (Tells d items) (go c w s)) → AllByRecursion (Tells d items) (after_item d batch all n cost a p go)
after_tells d items batch all n cost a (Closes close gs fuel u w s) q go same fine ends rest =
    let c : ℕ = cost + 1 + (d.full - u) in
    either_tells d items (is_fine close) (part_of batch n c (d.fact a)) (part_of batch n c (finishes (Some (d.ending all close s)))) (go c w s) fine (ends close gs fuel u w s same) (rest c w s)
after_tells d items batch all n cost a (Holds depth w s) q go same fine ends rest = tt

-- ---- the parts of a session of an application

items_tell : (app : Loaded) (seed time : ℕ) (big : List (Placed Task)) (batch : ℕ) (all : List Task) (n cost : ℕ) (items : List Task) (gs : List Given) (w : World) (s : Browser)
    (next : List Given → World → Browser → List Part) → ((b k : ℕ) → HasCallAt (doing_of app seed time) b k (placed batch n items) → HasCallAt (doing_of app seed time) b k big)
    → ((hs : List Given) (x : World) (r : Browser) → AllByRecursion (Tells (doing_of app seed time) big) (next hs x r))
    → AllByRecursion (Tells (doing_of app seed time) big) (items_parts (doing_of app seed time) batch all n cost items gs w s next)
items_tell app seed time big batch all n cost [] gs w s next up rest = ((λ told. absurd (true≢false (sym told))), rest gs w s)
items_tell app seed time big batch all n cost (a ∷ items) gs w s next up rest =
    let d : Doing Task Browser = doing_of app seed time in
    let g : Given = first_given gs in
    let plan : Plan Browser = d.plan batch a n w s in
    let shape : IsItemPlan may_serve (fact_of a) plan = shapes batch a n w s in
    let here : serves_call (fact_of a) ≡ true → HasCallAt d batch n big = λ h. up batch n (inl (refl, refl, h)) in
    after_tells d big batch all n cost a (whole_item d batch a n w s g) (whole_item d batch a n w s g)
    (λ c x r. items_parts d batch all (n + 1) c items (given_behind (d.fact a) gs) x r next) refl
    (λ told. here (told_serves may_serve (fact_of a) plan shape told))
    (λ close hs fuel u x r is told.
    here (mismatch_serves d.run d.full may_serve (fact_of a) plan (d.serve batch g ∷ []) hs d.full fuel d.full u x r close shape is (only_mismatch all close r told)))
    (λ c x r. items_tell app seed time big batch all (n + 1) c items (given_behind (d.fact a) gs) x r next (λ b k h. up b k (inr h)) rest)

later_tell : (app : Loaded) (seed time : ℕ) (big : List (Placed Task)) (batch : ℕ) (bs : List Contents) (gs : List Given) (w : World) (s : Browser)
    → ((b k : ℕ) → HasCallAt (doing_of app seed time) b k (placed_in (doing_of app seed time) batch bs) → HasCallAt (doing_of app seed time) b k big)
    → AllByRecursion (Tells (doing_of app seed time) big) (later_parts (doing_of app seed time) batch bs gs w s)
later_tell app seed time big batch [] gs w s up = tt
later_tell app seed time big batch (b ∷ bs) gs w s up =
    let d : Doing Task Browser = doing_of app seed time in
    items_tell app seed time big batch (d.items b) 1 1 (d.items b) gs w s (λ hs x r. later_parts d (batch + 1) bs hs x r)
    (λ c k h. up c k (has_left d c k (placed batch 1 (d.items b)) (placed_in d (batch + 1) bs) h))
    (λ hs x r. later_tell app seed time big (batch + 1) bs hs x r (λ c k h. up c k (has_right d c k (placed batch 1 (d.items b)) (placed_in d (batch + 1) bs) h)))

session_tells : (app : Loaded) (seed time : ℕ) (bs : List Contents) (gs : List Given)
    → AllByRecursion (Tells (doing_of app seed time) (items_of (doing_of app seed time) bs)) (meaning_of_app app seed time bs gs)
session_tells app seed time bs gs =
    let d : Doing Task Browser = doing_of app seed time in
    let big : List (Placed Task) = items_of d bs in
    items_tell app seed time big 0 (d.opening ∷ []) 1 1 (d.opening ∷ []) gs d.world d.page (λ hs x r. later_parts d 1 bs hs x r)
    (λ c k h. has_left d c k (placed 0 1 (d.opening ∷ [])) (placed_in d 1 bs) h)
    (λ hs x r. later_tell app seed time big 1 bs hs x r (λ c k h. has_right d c k (placed 0 1 (d.opening ∷ [])) (placed_in d 1 bs) h))

-- ---- where memory may be wanting

either_all : (P : Part → Type 0) (b : Bool) (ps qs : List Part) → AllByRecursion P ps → AllByRecursion P qs → AllByRecursion P (if b then ps else qs)
either_all P true ps qs x y = x
either_all P false ps qs x y = y

behind_all : (P : Part → Type 0) (l : Lacking) (ps : List Part) → AllByRecursion P ps → AllByRecursion P (behind l ps)
behind_all P l [] h = tt
behind_all P l (p ∷ ps) h = either_all P (is_before l p) (behind l ps) (p ∷ ps) (behind_all P l ps h.1) h

pub lacks_at_calls : (app : Loaded) (seed time : ℕ) (bs : List Contents) (gs : List Given) (l : Lacking) → IsLack l (meaning_of_app app seed time bs gs)
    → HasCallAt (doing_of app seed time) l.batch l.item (items_of (doing_of app seed time) bs)
lacks_at_calls app seed time bs gs l lack =
    let d : Doing Task Browser = doing_of app seed time in
    let P : Part → Type 0 = Tells d (items_of d bs) in
    let A : List Part → Type 0 = λ ps. AllByRecursion P ps in
    let all : AllByRecursion P (lack.part ∷ lack.others) = subst A lack.comes (behind_all P l (meaning_of_app app seed time bs gs) (session_tells app seed time bs gs)) in
    let B : ℕ → Type 0 = λ b. HasCallAt d b lack.part.item (items_of d bs) in
    let N : ℕ → Type 0 = λ k. HasCallAt d l.batch k (items_of d bs) in
    subst N lack.item (subst B lack.batch (all.0 lack.call))
