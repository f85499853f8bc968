-- The served calls of a session, item by item.
use Rattle.std.proofs.Common.{◌≡◌, ℕ, ◌+◌, ◌-◌, Bool, true, false, List, [], ◌∷◌, ◌++◌, slice_get, Option, None, Some, if◌then◌else◌, refl, ap, sym, subst, ◌∙◌, arith}
use Rattle.std.specs.Prelude.{IfSome}
use Rattle.rip_heap.specs.World.{World}
use Rattle.rip_wire.specs.Batches.{Contents}
use Rattle.rip_eval_rows.specs.Evaluation as runs
use Rattle.rip_eval_rows.specs.Plan.{Plan}
use Rattle.rip_eval_rows.specs.Started.{Started}
use Rattle.rip_replica.specs.Play.{Played, Closes, Holds, play}
use Rattle.rip_replica.specs.Items.{call_plan}
use Rattle.rip_replica.specs.Rules.{Rules, StandsSo, TellsPositions}
use Rattle.rip_replica.specs.declared.items.page_host.Position.{Position}
use Rattle.rip_replica.specs.declared.items.page_host.Position.TheVariants as position
use Rattle.rip_history.specs.Parts.{Fact, finishes, Given, Part, serves_call}
use Rattle.rip_replica.specs.Parts.{Doing, after_item, first_given, given_behind, is_fine, items_parts, later_parts, part_of, session_parts, whole_item}
use Rattle.rip_law_replica.specs.Prefix.{AreCounted, AreLongest, AreMade, EndsBy, IsMade, MayBeServed, Placed, Reached, ReportsBy, ServesPrefix, AreNumbered, CountsServed, next_number, after, closes_fine, handled, items_of, left_by, opened, placed, placed_in, played, reported_in, served_in}

-- ---- all calls that are reported before the end are served

either_served : {A S : Type 0} (d : Doing A S) (batch n c : ℕ) (a : A) (b : Bool) (ps : List Part) (xs : List (Placed A)) (how : _)
    → served_in ps ≡ reported_in d xs
    → served_in (if b then part_of batch n c (d.fact a) ∷ ps else part_of batch n c (finishes how) ∷ []) ≡ reported_in d (if b then record { batch = batch; number = n; item = a } ∷ xs else [])
either_served d batch n c a true ps xs how h = ap (λ (fs : List Fact). if serves_call (d.fact a) then d.fact a ∷ fs else fs) h
either_served d batch n c a false ps xs how h = refl

after_served : {A S : Type 0} (d : Doing A S) (batch : ℕ) (all : List A) (n cost : ℕ) (a : A) (gs : List Given) (p : Played S) (go : ℕ → World → S → List Part) (rest : List (Placed A))
    → ((c : ℕ) (w : World) (s : S) → served_in (go c w s) ≡ reported_in d (handled d (record { world = w; page = s; given = given_behind (d.fact a) gs }) rest))
    → served_in (after_item d batch all n cost a p go) ≡ reported_in d (if closes_fine p then record { batch = batch; number = n; item = a } ∷ handled d (left_by d a gs p) rest else [])
after_served d batch all n cost a gs (Closes close hs fuel u w s) go rest h =
    let c : ℕ = cost + 1 + (d.full - u) in
    either_served d batch n c a (is_fine close) (go c w s) (handled d (record { world = w; page = s; given = given_behind (d.fact a) gs }) rest) (Some (d.ending all close s)) (h c w s)
after_served d batch all n cost a gs (Holds depth w s) go rest h = refl

items_served : {A S : Type 0} (d : Doing A S) (batch : ℕ) (all : List A) (n cost : ℕ) (items : List A) (gs : List Given) (w : World) (s : S) (next : List Given → World → S → List Part) (rest : List (Placed A))
    → ((hs : List Given) (x : World) (r : S) → served_in (next hs x r) ≡ reported_in d (handled d (record { world = x; page = r; given = hs }) rest))
    → served_in (items_parts d batch all n cost items gs w s next) ≡ reported_in d (handled d (record { world = w; page = s; given = gs }) (placed batch n items ++ rest))
items_served d batch all n cost [] gs w s next rest h = h gs w s
items_served d batch all n cost (a ∷ items) gs w s next rest h =
    after_served d batch all n cost a gs (whole_item d batch a n w s (first_given gs)) (λ c x r. items_parts d batch all (n + 1) c items (given_behind (d.fact a) gs) x r next) (placed batch (n + 1) items ++ rest)
    (λ c x r. items_served d batch all (n + 1) c items (given_behind (d.fact a) gs) x r next rest h)

later_served : {A S : Type 0} (d : Doing A S) (batch : ℕ) (bs : List Contents) (gs : List Given) (w : World) (s : S)
    → served_in (later_parts d batch bs gs w s) ≡ reported_in d (handled d (record { world = w; page = s; given = gs }) (placed_in d batch bs))
later_served d batch [] gs w s = refl
later_served d batch (b ∷ bs) gs w s =
    items_served d batch (d.items b) 1 1 (d.items b) gs w s (λ hs x r. later_parts d (batch + 1) bs hs x r) (placed_in d (batch + 1) bs) (λ hs x r. later_served d (batch + 1) bs hs x r)

session_served : {A S : Type 0} (d : Doing A S) (bs : List Contents) (gs : List Given) → served_in (session_parts d bs gs) ≡ reported_in d (handled d (opened d gs) (items_of d bs))
session_served d bs gs =
    items_served d 0 (d.opening ∷ []) 1 1 (d.opening ∷ []) gs d.world d.page (λ hs x r. later_parts d 1 bs hs x r) (placed_in d 1 bs) (λ hs x r. later_served d 1 bs hs x r)

-- ---- a call as it is played, by how it stands

fine_made : {S : Type 0} (run : Started → World → S → ℕ → ℕ → runs.Reached S) (full n : ℕ) (w : World) (s : S) (g : S → S) (made : List (List ℕ)) (calls_back : ℕ → Bool) (taken undelivered most : ℕ) (c : ℕ × List ℕ) (q : Position)
    → StandsSo made calls_back taken undelivered most c.0 c.1 q → closes_fine (play run full (call_plan n q w s) (g ∷ []) full full) ≡ true → IsMade made c
fine_made run full n w s g made calls_back taken undelivered most c position.NotNext stands fine = absurd (let e : false ≡ true = fine in cc)
fine_made run full n w s g made calls_back taken undelivered most c position.Other stands fine = absurd (let e : false ≡ true = fine in cc)
fine_made run full n w s g made calls_back taken undelivered most c position.TooMany stands fine = absurd (let e : false ≡ true = fine in cc)
fine_made run full n w s g made calls_back taken undelivered most c position.Served stands fine =
    let at : taken ≡ c.0 - 1 = omega (arith, stands.0) in
    let G : ℕ → Type 0 = λ k. slice_get made k ≡ Some c.1 in
    (omega (arith, stands.0), subst G at stands.1)

ends_unserved : {F S : Type 0} (rules : Rules F S) (run : Started → World → S → ℕ → ℕ → runs.Reached S) (full n : ℕ) (w : World) (s : S) (g : S → S) (c : ℕ × List ℕ) (q : Position)
    → StandsSo (rules.made s) (rules.calls_back s) (rules.taken s) (rules.undelivered s) (rules.most_undelivered s) c.0 c.1 q
    → closes_fine (play run full (call_plan n q w s) (g ∷ []) full full) ≡ false → MayBeServed rules s c → ⊥
ends_unserved rules run full n w s g c position.NotNext stands ends may = stands may.0
ends_unserved rules run full n w s g c position.Other stands ends may = stands.1 may.1
ends_unserved rules run full n w s g c position.TooMany stands ends may = may.2 stands.2
ends_unserved rules run full n w s g c position.Served stands ends may = (let e : true ≡ false = ends in cc)

-- ---- each is made, and the last is the last that may be served

made_at : {F A S : Type 0} (rules : Rules F S) (d : Doing A S) (call : A → Option (ℕ × List ℕ)) → ((s : S) → TellsPositions rules s) → ReportsBy rules d call
    → (at : Reached S) (p : Placed A) (o : Option (ℕ × List ℕ)) → call p.item ≡ o → closes_fine (played d at p) ≡ true → IfSome o (IsMade (rules.made at.page))
made_at rules d call tells reports at p None is fine = tt
made_at rules d call tells reports at p (Some c) is fine =
    let s : _ = at.page in
    let P : Plan _ → Type 0 = λ plan. closes_fine (play d.run d.full plan (d.serve p.batch (first_given at.given) ∷ []) d.full d.full) ≡ true in
    fine_made d.run d.full p.number at.world s (d.serve p.batch (first_given at.given)) (rules.made s) (rules.calls_back s) (rules.taken s) (rules.undelivered s) (rules.most_undelivered s) c (rules.position s c.0 c.1)
    (tells s c.0 c.1) (subst P (reports.plan p.item c is p.batch p.number at.world s) fine)

either_made : {F A S : Type 0} (rules : Rules F S) (d : Doing A S) (call : A → Option (ℕ × List ℕ)) (at : Reached S) (p : Placed A) (b : Bool) (xs : List (Placed A))
    → (b ≡ true → IfSome (call p.item) (IsMade (rules.made at.page))) → AreMade rules d call (after d at p) xs → AreMade rules d call at (if b then p ∷ xs else [])
either_made rules d call at p true xs one rest = (one refl, rest)
either_made rules d call at p false xs one rest = tt

all_made : {F A S : Type 0} (rules : Rules F S) (d : Doing A S) (call : A → Option (ℕ × List ℕ)) → ((s : S) → TellsPositions rules s) → ReportsBy rules d call
    → (at : Reached S) (ps : List (Placed A)) → AreMade rules d call at (handled d at ps)
all_made rules d call tells reports at [] = tt
all_made rules d call tells reports at (p ∷ ps) =
    either_made rules d call at p (closes_fine (played d at p)) (handled d (after d at p) ps)
    (λ fine. made_at rules d call tells reports at p (call p.item) refl fine) (all_made rules d call tells reports (after d at p) ps)

ends_at : {F A S : Type 0} (rules : Rules F S) (d : Doing A S) (call : A → Option (ℕ × List ℕ)) → ((s : S) → TellsPositions rules s) → ReportsBy rules d call
    → (at : Reached S) (p : Placed A) (o : Option (ℕ × List ℕ)) → call p.item ≡ o → closes_fine (played d at p) ≡ false → IfSome o (λ c. ¬ (MayBeServed rules at.page c))
ends_at rules d call tells reports at p None is ends = tt
ends_at rules d call tells reports at p (Some c) is ends =
    let s : _ = at.page in
    let P : Plan _ → Type 0 = λ plan. closes_fine (play d.run d.full plan (d.serve p.batch (first_given at.given) ∷ []) d.full d.full) ≡ false in
    ends_unserved rules d.run d.full p.number at.world s (d.serve p.batch (first_given at.given)) c (rules.position s c.0 c.1)
    (tells s c.0 c.1) (subst P (reports.plan p.item c is p.batch p.number at.world s) ends)

either_ends : {F A S : Type 0} (rules : Rules F S) (call : A → Option (ℕ × List ℕ)) (a : A) (s : S) (On : Type 0) (b : Bool)
    → On → (b ≡ false → IfSome (call a) (λ c. ¬ (MayBeServed rules s c))) → EndsBy b rules call a s On
either_ends rules call a s On true on ends = on
either_ends rules call a s On false on ends = ends refl

all_longest : {F A S : Type 0} (rules : Rules F S) (d : Doing A S) (call : A → Option (ℕ × List ℕ)) → ((s : S) → TellsPositions rules s) → ReportsBy rules d call
    → (at : Reached S) (ps : List (Placed A)) → AreLongest rules d call at ps
all_longest rules d call tells reports at [] = tt
all_longest rules d call tells reports at (p ∷ ps) =
    either_ends rules call p.item at.page (AreLongest rules d call (after d at p) ps) (closes_fine (played d at p)) (all_longest rules d call tells reports (after d at p) ps)
    (λ ends. ends_at rules d call tells reports at p (call p.item) refl ends)

pub served_are_made : {F A S : Type 0} (rules : Rules F S) (d : Doing A S) (call : A → Option (ℕ × List ℕ)) → ((s : S) → TellsPositions rules s) → ReportsBy rules d call
    → (bs : List Contents) (gs : List Given) → ServesPrefix rules d call bs gs
served_are_made rules d call tells reports bs gs = record {
  served = session_served d bs gs;
  made = all_made rules d call tells reports (opened d gs) (items_of d bs);
  longest = all_longest rules d call tells reports (opened d gs) (items_of d bs);
}

-- ---- numbers

-- a call that is over and fine was served, and had the next number
page_of : {A S : Type 0} → Doing A S → A → List Given → Played S → S
page_of d a gs p = (let x = left_by d a gs p in x.page)

call_counts : {F A S : Type 0} (rules : Rules F S) (d : Doing A S) (a : A) (gs : List Given) (run : Started → World → S → ℕ → ℕ → runs.Reached S) (full n : ℕ) (w : World) (s : S) (g : S → S) (c : ℕ × List ℕ) (q : Position)
    → StandsSo (rules.made s) (rules.calls_back s) (rules.taken s) (rules.undelivered s) (rules.most_undelivered s) c.0 c.1 q
    → closes_fine (play run full (call_plan n q w s) (g ∷ []) full full) ≡ true
    → (c.0 ≡ rules.taken s + 1) × (page_of d a gs (play run full (call_plan n q w s) (g ∷ []) full full) ≡ g s)
unfolding page_of
call_counts rules d a gs run full n w s g c position.NotNext stands fine = absurd (let e : false ≡ true = fine in cc)
call_counts rules d a gs run full n w s g c position.Other stands fine = absurd (let e : false ≡ true = fine in cc)
call_counts rules d a gs run full n w s g c position.TooMany stands fine = absurd (let e : false ≡ true = fine in cc)
call_counts rules d a gs run full n w s g c position.Served stands fine = (stands.0, refl)

number_at : {F A S : Type 0} (rules : Rules F S) (d : Doing A S) (call : A → Option (ℕ × List ℕ)) → ((s : S) → TellsPositions rules s) → ReportsBy rules d call → CountsServed rules d call
    → (at : Reached S) (p : Placed A) (k : ℕ) (o : Option (ℕ × List ℕ)) → k ≡ rules.taken at.page + 1 → call p.item ≡ o → closes_fine (played d at p) ≡ true
    → IfSome o (λ c. c.0 ≡ k) × (next_number o k ≡ rules.taken (let x = after d at p in x.page) + 1)
unfolding page_of
number_at rules d call tells reports counts at p k None next is fine = (tt, next ∙ ap (λ m. m + 1) (sym (counts.others at p is)))
number_at rules d call tells reports counts at p k (Some c) next is fine =
    let s : _ = at.page in
    let g : _ → _ = d.serve p.batch (first_given at.given) in
    let plan : d.plan p.batch p.item p.number at.world s ≡ call_plan p.number (rules.position s c.0 c.1) at.world s = reports.plan p.item c is p.batch p.number at.world s in
    let P : Plan _ → Type 0 = λ x. closes_fine (play d.run d.full x (g ∷ []) d.full d.full) ≡ true in
    let both : _ × _ = call_counts rules d p.item at.given d.run d.full p.number at.world s g c (rules.position s c.0 c.1) (tells s c.0 c.1) (subst P plan fine) in
    let page : page_of d p.item at.given (played d at p) ≡ g s = ap (λ x. page_of d p.item at.given (play d.run d.full x (g ∷ []) d.full d.full)) plan ∙ both.1 in
    let taken : rules.taken (let x = after d at p in x.page) ≡ rules.taken s + 1 = ap rules.taken page ∙ counts.one p.batch (first_given at.given) s in
    (both.0 ∙ sym next, omega (arith, next, taken))

either_numbered : {A : Type 0} (call : A → Option (ℕ × List ℕ)) (p : Placed A) (k : ℕ) (b : Bool) (xs : List (Placed A))
    → (b ≡ true → IfSome (call p.item) (λ c. c.0 ≡ k) × AreNumbered call (next_number (call p.item) k) xs) → AreNumbered call k (if b then p ∷ xs else [])
either_numbered call p k true xs h = h refl
either_numbered call p k false xs h = tt

all_numbered : {F A S : Type 0} (rules : Rules F S) (d : Doing A S) (call : A → Option (ℕ × List ℕ)) → ((s : S) → TellsPositions rules s) → ReportsBy rules d call → CountsServed rules d call
    → (at : Reached S) (k : ℕ) (ps : List (Placed A)) → k ≡ rules.taken at.page + 1 → AreNumbered call k (handled d at ps)
all_numbered rules d call tells reports counts at k [] next = tt
all_numbered rules d call tells reports counts at k (p ∷ ps) next =
    either_numbered call p k (closes_fine (played d at p)) (handled d (after d at p) ps)
    (λ fine. (let one = number_at rules d call tells reports counts at p k (call p.item) next refl fine in
    (one.0, all_numbered rules d call tells reports counts (after d at p) (next_number (call p.item) k) ps one.1)))

pub served_are_first : {F A S : Type 0} (rules : Rules F S) (d : Doing A S) (call : A → Option (ℕ × List ℕ)) → ((s : S) → TellsPositions rules s) → ReportsBy rules d call → CountsServed rules d call
    → (bs : List Contents) (gs : List Given) → AreNumbered call 1 (handled d (opened d gs) (items_of d bs))
served_are_first rules d call tells reports counts bs gs =
    all_numbered rules d call tells reports counts (opened d gs) 1 (items_of d bs) (omega (arith, counts.none))

-- ---- positions

all_counted : {F A S : Type 0} (rules : Rules F S) (d : Doing A S) (call : A → Option (ℕ × List ℕ)) → ((s : S) → TellsPositions rules s) → ReportsBy rules d call → CountsServed rules d call
    → (at : Reached S) (k : ℕ) (ps : List (Placed A)) → k ≡ rules.taken at.page + 1 → AreCounted rules d call at k ps
all_counted rules d call tells reports counts at k [] next = tt
all_counted rules d call tells reports counts at k (p ∷ ps) next = (
  next,
  λ fine. (let one = number_at rules d call tells reports counts at p k (call p.item) next refl fine in
      all_counted rules d call tells reports counts (after d at p) (next_number (call p.item) k) ps one.1),
)

pub served_are_counted : {F A S : Type 0} (rules : Rules F S) (d : Doing A S) (call : A → Option (ℕ × List ℕ)) → ((s : S) → TellsPositions rules s) → ReportsBy rules d call → CountsServed rules d call
    → (bs : List Contents) (gs : List Given) → AreCounted rules d call (opened d gs) 1 (items_of d bs)
served_are_counted rules d call tells reports counts bs gs =
    all_counted rules d call tells reports counts (opened d gs) 1 (items_of d bs) (omega (arith, counts.none))
