-- The served calls of a session in a history, item by item.
use Rattle.std.proofs.Common.{◌≡◌, ℕ, ◌+◌, ◌-◌, ◌≤◌, Bool, true, false, cond, List, [], ◌∷◌, ◌++◌, slice_get, Option, None, Some, refl, sym, ap, subst, ◌∙◌, arith}
use Rattle.std.specs.Prelude.{IfSome, is_some}
use Rattle.std.proofs.lemmas.Bool.{true≢false, false≢true, ne_eqb}
use Rattle.rip_heap.specs.World.{World}
use Rattle.rip_wire.specs.Batches.{Contents}
use Rattle.rip_host.specs.declared.browser.Browser.{Browser}
use Rattle.rip_browser.specs.Visits.{browser_rules}
use Rattle.rip_replica.specs.Play.{Closes, Holds, Played}
use Rattle.rip_history.specs.Parts.{finishes, Given, Lacking, Part, is_before, serves_call, tells_call}
use Rattle.rip_history.specs.Sessions.{Deed, comes_by}
use Rattle.rip_replica.specs.Rules.{HasNoRoom}
use Rattle.rip_replica.specs.Parts.{Doing, after_item, first_given, given_behind, is_fine, items_parts, later_parts, part_of, session_parts, whole_item}
use Rattle.rip_law_replica.specs.Prefix.{AreCounted, AreLongest, AreMade, AreNumbered, EndsBy, IsMade, MayBeServed, Placed, Reached, after, closes_fine, handled, items_of, left_by, next_number, opened, placed, placed_in, played}
use Rattle.rip_session.specs.Tasks.{Task}
use Rattle.rip_law_served.specs.Served.{call_of}
use Rattle.rip_headline.specs.PrefixHistories.{MayBeServedAt, Serves, through, goes_on, is_served, ends_at, lacks_at, is_later, comes, part_by, spent_before, spent_by, spent_with, wants_at}
use Rattle.rip_headline.proofs.CallLemmas.{Ahead, Lack, Lacks, ahead_behind, early, lacks_here, served_by, served_last, served_late, served_more, served_none, served_not_early, wanted_here}

-- ---- a session, and what it did by the last turn

record Case (d : Doing Task Browser) (did : List Deed) (o : Option Lacking) : Type 0 where
  tells : (a : Task) → serves_call (d.fact a) ≡ is_some (call_of a)
  plain : (a : Task) → tells_call (d.fact a) ≡ serves_call (d.fact a)
  clear : (q : Part) → early o q ≡ true → wants_at q.batch q.item did ≡ false

-- what is known of its items from where it stands
record Known (d : Doing Task Browser) (at : Reached Browser) (k : ℕ) (xs : List (Placed Task)) : Type 0 where
  made : AreMade browser_rules d call_of at (handled d at xs)
  longest : AreLongest browser_rules d call_of at xs
  numbered : AreNumbered call_of k (handled d at xs)
  counted : AreCounted browser_rules d call_of at k xs

record KnownFine (d : Doing Task Browser) (at : Reached Browser) (k : ℕ) (p : Placed Task) (xs : List (Placed Task)) : Type 0 where
  made : IfSome (call_of p.item) (IsMade (browser_rules.made at.page))
  number : IfSome (call_of p.item) (λ c. c.0 ≡ k)
  rest : Known d (after d at p) (next_number (call_of p.item) k) xs

known_fine : (d : Doing Task Browser) (at : Reached Browser) (k : ℕ) (p : Placed Task) (xs : List (Placed Task)) → closes_fine (played d at p) ≡ true
    → Known d at k (p ∷ xs) → KnownFine d at k p xs
known_fine d at k p xs fine known =
    let made : AreMade browser_rules d call_of at (p ∷ handled d (after d at p) xs) =
    subst (λ (b : Bool). AreMade browser_rules d call_of at (cond b (p ∷ handled d (after d at p) xs) [])) fine known.made in
    let numbered : AreNumbered call_of k (p ∷ handled d (after d at p) xs) =
    subst (λ (b : Bool). AreNumbered call_of k (cond b (p ∷ handled d (after d at p) xs) [])) fine known.numbered in
    record {
      made = made.0;
      number = numbered.0;
      rest = record {
        made = made.1;
        longest = subst (λ (b : Bool). EndsBy b browser_rules call_of p.item at.page (AreLongest browser_rules d call_of (after d at p) xs)) fine known.longest;
        numbered = numbered.1;
        counted = known.counted.1 fine;
      };
    }

-- a call that the page may not serve next may not be served at the position that the page's count tells
by_position : (s : Browser) (k : ℕ) (o : Option (ℕ × List ℕ)) → k ≡ browser_rules.taken s + 1 → IfSome o (λ c. ¬ (MayBeServed browser_rules s c)) → IfSome o (λ c. ¬ (MayBeServedAt k s c))
by_position s k None next h = tt
by_position s k (Some c) next h = λ may.
    let at : k - 1 ≡ browser_rules.taken s = omega (arith, next) in
    h (
      may.0 ∙ next,
      subst (λ (n : ℕ). slice_get (browser_rules.made s) n ≡ Some c.1) at may.1,
      subst (λ (n : ℕ). ¬ (HasNoRoom (browser_rules.calls_back s) n (browser_rules.undelivered s) (browser_rules.most_undelivered s))) at may.2,
    )

known_ends : (d : Doing Task Browser) (at : Reached Browser) (k : ℕ) (p : Placed Task) (xs : List (Placed Task)) → closes_fine (played d at p) ≡ false
    → Known d at k (p ∷ xs) → IfSome (call_of p.item) (λ c. ¬ (MayBeServedAt k at.page c))
known_ends d at k p xs broken known =
    by_position at.page k (call_of p.item) known.counted.0
    (subst (λ (b : Bool). EndsBy b browser_rules call_of p.item at.page (AreLongest browser_rules d call_of (after d at p) xs)) broken known.longest)

-- ---- an item at which it stops

stops : (d : Doing Task Browser) (last : ℕ) (turns : List ℕ) (did : List Deed) (o : Option Lacking) (at : Reached Browser) (spent k : ℕ) (p : Placed Task) (xs : List (Placed Task)) (ps : List Part)
    → Case d did o → early o (part_by d at spent p) ≡ false → comes last turns (part_by d at spent p) ≡ true → Ahead last turns did o (part_by d at spent p ∷ ps)
    → Serves d last turns did at spent k (p ∷ xs) []
stops d last turns did None at spent k p xs ps c e come a = absurd (true≢false e)
stops d last turns did (Some l) at spent k p xs ps c e come a =
    let q : Part = part_by d at spent p in
    let lack : Lack l (q ∷ ps) = a.lacks in
    let call : is_some (call_of p.item) ≡ true = sym (c.tells p.item) ∙ sym (c.plain p.item) ∙ (subst (λ (x : Part). tells_call x.fact ≡ true) (sym (lacks_here l q ps e lack)) lack.call) in
    lacks_at at spent k p xs call (wanted_here last turns did l q ps e come a)

-- ---- an item that is over and fine

fine_goes : (d : Doing Task Browser) (last : ℕ) (turns : List ℕ) (did : List Deed) (o : Option Lacking) (at : Reached Browser) (spent k : ℕ) (p : Placed Task) (xs : List (Placed Task)) (ps : List Part)
    → Case d did o → closes_fine (played d at p) ≡ true → Known d at k (p ∷ xs) → Ahead last turns did o (part_by d at spent p ∷ ps)
    → (comes last turns (part_by d at spent p) ≡ true → (m : ℕ) → Known d (after d at p) m xs → Ahead last turns did o ps
    → Serves d last turns did (after d at p) (spent_by d at spent p) m xs (served_by last turns o ps))
    → Serves d last turns did at spent k (p ∷ xs) (served_by last turns o (part_by d at spent p ∷ ps))
fine_goes d last turns did o at spent k p xs ps c fine known a go = by (early o q) refl (comes last turns q) refl
  where
    q : Part
    q = part_by d at spent p

    G : List Deed → Type 0
    G ds = Serves d last turns did at spent k (p ∷ xs) ds

    first : KnownFine d at k p xs
    first = known_fine d at k p xs fine known

    told : (called : Option (ℕ × List ℕ)) → call_of p.item ≡ called → early o q ≡ true → comes last turns q ≡ true → G (served_by last turns o (q ∷ ps))
    told None is e come =
        subst G (sym (served_more last turns o q ps false e come (c.tells p.item ∙ ap is_some is)))
        (goes_on at spent k p xs (served_by last turns o ps) fine come is
        (go come k (subst (λ (x : Option (ℕ × List ℕ)). Known d (after d at p) (next_number x k) xs) is first.rest) (ahead_behind last turns did o q ps e come a)))
    told (Some call) is e come =
        subst G (sym (served_more last turns o q ps true e come (c.tells p.item ∙ ap is_some is)))
        (is_served at spent k p xs (served_by last turns o ps) call fine come is
        (subst (λ (x : Option (ℕ × List ℕ)). IfSome x (λ y. y.0 ≡ k)) is first.number)
        (subst (λ (x : Option (ℕ × List ℕ)). IfSome x (IsMade (browser_rules.made at.page))) is first.made)
        (c.clear q e)
        (go come (k + 1) (subst (λ (x : Option (ℕ × List ℕ)). Known d (after d at p) (next_number x k) xs) is first.rest) (ahead_behind last turns did o q ps e come a)))

    by : (b : Bool) → early o q ≡ b → (f : Bool) → comes last turns q ≡ f → G (served_by last turns o (q ∷ ps))
    by b e false come = subst G (sym (served_late last turns o q ps come)) (is_later at spent k p xs come)
    by false e true come = subst G (sym (served_not_early last turns o q ps e)) (stops d last turns did o at spent k p xs ps c e come a)
    by true e true come = told (call_of p.item) refl e come

-- ---- an item as it is played

item_goes : (d : Doing Task Browser) (last : ℕ) (turns : List ℕ) (did : List Deed) (o : Option Lacking) (batch : ℕ) (all : List Task) (n cost : ℕ) (a : Task) (gs : List Given) (w : World) (s : Browser)
    (xs : List (Placed Task)) (spent k : ℕ) (q : Played Browser) (go : ℕ → World → Browser → List Part)
    → Case d did o → whole_item d batch a n w s (first_given gs) ≡ q → spent_before n spent ≡ cost
    → Known d (record { world = w; page = s; given = gs }) k (record { batch = batch; number = n; item = a } ∷ xs)
    → Ahead last turns did o (after_item d batch all n cost a q go)
    → ((c : ℕ) (x : World) (r : Browser) (m : ℕ) → comes_by last c (slice_get turns batch) ≡ true
    → Known d (record { world = x; page = r; given = given_behind (d.fact a) gs }) m xs → Ahead last turns did o (go c x r)
    → Serves d last turns did (record { world = x; page = r; given = given_behind (d.fact a) gs }) c m xs (served_by last turns o (go c x r)))
    → Serves d last turns did (record { world = w; page = s; given = gs }) spent k (record { batch = batch; number = n; item = a } ∷ xs) (served_by last turns o (after_item d batch all n cost a q go))
item_goes d last turns did o batch all n cost a gs w s xs spent k (Holds depth x r) go c is before known ahead rest =
    let at : Reached Browser = record { world = w; page = s; given = gs } in
    let p : Placed Task = record { batch = batch; number = n; item = a } in
    let over_not : closes_fine (played d at p) ≡ false = ap closes_fine is in
    subst (Serves d last turns did at spent k (p ∷ xs)) (sym (served_none last turns o)) (ends_at at spent k p xs over_not (known_ends d at k p xs over_not known))
item_goes d last turns did o batch all n cost a gs w s xs spent k (Closes close hs fuel u x r) go c is before known ahead rest = by (is_fine close) refl
  where
    at : Reached Browser
    at = record { world = w; page = s; given = gs }

    p : Placed Task
    p = record { batch = batch; number = n; item = a }

    next : Reached Browser
    next = record { world = x; page = r; given = given_behind (d.fact a) gs }

    cost_is : spent_by d at spent p ≡ cost + 1 + (d.full - u)
    cost_is = ap (spent_with d (spent_before n spent)) is ∙ ap (λ (m : ℕ). m + 1 + (d.full - u)) before

    next_is : after d at p ≡ next
    next_is = ap (left_by d a gs) is

    parts : List Part
    parts = go (cost + 1 + (d.full - u)) x r

    fine_parts : is_fine close ≡ true → after_item d batch all n cost a (Closes close hs fuel u x r) go ≡ part_by d at spent p ∷ parts
    fine_parts e =
        ap (λ (b : Bool). cond b (part_of batch n (cost + 1 + (d.full - u)) (d.fact a) ∷ parts) (part_of batch n (cost + 1 + (d.full - u)) (finishes (Some (d.ending all close r))) ∷ [])) e
        ∙ ap (λ (m : ℕ). part_of batch n m (d.fact a) ∷ parts) (sym cost_is)

    end_part : is_fine close ≡ false
        → after_item d batch all n cost a (Closes close hs fuel u x r) go ≡ part_of batch n (cost + 1 + (d.full - u)) (finishes (Some (d.ending all close r))) ∷ []
    end_part e =
        ap (λ (b : Bool). cond b (part_of batch n (cost + 1 + (d.full - u)) (d.fact a) ∷ parts) (part_of batch n (cost + 1 + (d.full - u)) (finishes (Some (d.ending all close r))) ∷ [])) e

    G : List Part → Type 0
    G ps = Serves d last turns did at spent k (p ∷ xs) (served_by last turns o ps)

    go_on : comes last turns (part_by d at spent p) ≡ true → (m : ℕ) → Known d (after d at p) m xs → Ahead last turns did o parts
        → Serves d last turns did (after d at p) (spent_by d at spent p) m xs (served_by last turns o parts)
    go_on come m more behind =
        let came : comes_by last (cost + 1 + (d.full - u)) (slice_get turns batch) ≡ true = ap (λ (y : ℕ). comes_by last y (slice_get turns batch)) (sym cost_is) ∙ come in
        let there : Known d next m xs = subst (λ (y : Reached Browser). Known d y m xs) next_is more in
        let goes : Serves d last turns did next (cost + 1 + (d.full - u)) m xs (served_by last turns o parts) = rest (cost + 1 + (d.full - u)) x r m came there behind in
        let here : Serves d last turns did (after d at p) (cost + 1 + (d.full - u)) m xs (served_by last turns o parts) =
        subst (λ (y : Reached Browser). Serves d last turns did y (cost + 1 + (d.full - u)) m xs (served_by last turns o parts)) (sym next_is) goes in
        subst (λ (y : ℕ). Serves d last turns did (after d at p) y m xs (served_by last turns o parts)) (sym cost_is) here

    by : (b : Bool) → is_fine close ≡ b → G (after_item d batch all n cost a (Closes close hs fuel u x r) go)
    by true e =
        subst G (sym (fine_parts e))
        (fine_goes d last turns did o at spent k p xs parts c (ap closes_fine is ∙ e) known (subst (Ahead last turns did o) (fine_parts e) ahead) go_on)
    by false e =
        let over_not : closes_fine (played d at p) ≡ false = ap closes_fine is ∙ e in
        let none : served_by last turns o (after_item d batch all n cost a (Closes close hs fuel u x r) go) ≡ [] =
        ap (served_by last turns o) (end_part e) ∙ served_last last turns o (part_of batch n (cost + 1 + (d.full - u)) (finishes (Some (d.ending all close r)))) refl in
        subst (Serves d last turns did at spent k (p ∷ xs)) (sym none) (ends_at at spent k p xs over_not (known_ends d at k p xs over_not known))

-- ---- the items of a batch, and of batches

-- a batch that is done is not where memory is wanting
done_early : (o : Option Lacking) (batch n cost : ℕ) (ps : List Part) → Lacks o (part_of batch n cost (finishes None) ∷ ps) → early o (part_of batch n cost (finishes None)) ≡ true
done_early None batch n cost ps k = refl
done_early (Some l) batch n cost ps k = by (is_before l q) refl
  where
    q : Part
    q = part_of batch n cost (finishes None)

    by : (b : Bool) → is_before l q ≡ b → is_before l q ≡ true
    by true e = e
    by false e = absurd (false≢true (subst (λ (x : Part). tells_call x.fact ≡ true) (sym (lacks_here l q ps e k)) k.call))

-- nothing of the batch of this number comes by the last turn
abbrev pub IsLate : ℕ → List ℕ → ℕ → Type 0
IsLate last turns batch = (cost : ℕ) → comes_by last cost (slice_get turns batch) ≡ false

-- nothing comes of batches behind one of which nothing does
abbrev pub AreInOrder : ℕ → List ℕ → Type 0
AreInOrder last turns = (batch other : ℕ) → comes_by last 1 (slice_get turns batch) ≡ false → batch ≤ other → IsLate last turns other

-- so none of their calls is served
late_serve_none : (d : Doing Task Browser) (last : ℕ) (turns : List ℕ) (did : List Deed) (batch : ℕ) (bs : List Contents) (at : Reached Browser) (spent k : ℕ)
    → ((other : ℕ) → batch ≤ other → IsLate last turns other)
    → Serves d last turns did at spent k (placed_in d batch bs) []
late_serve_none d last turns did batch [] at spent k late = through at spent k
late_serve_none d last turns did batch (b ∷ bs) at spent k late =
    by (d.items b) (late_serve_none d last turns did (batch + 1) bs at spent k (λ other le. late other (omega (arith, le))))
  where
    by : (items : List Task) → Serves d last turns did at spent k (placed_in d (batch + 1) bs) []
        → Serves d last turns did at spent k (placed batch 1 items ++ placed_in d (batch + 1) bs) []
    by [] rest = rest
    by (a ∷ items) rest =
        let p : Placed Task = record { batch = batch; number = 1; item = a } in
        is_later at spent k p (placed batch 2 items ++ placed_in d (batch + 1) bs) (late batch (omega arith) (spent_by d at spent p))

items_go : (d : Doing Task Browser) (last : ℕ) (turns : List ℕ) (did : List Deed) (o : Option Lacking) (batch : ℕ) (all : List Task) (n cost : ℕ) (items : List Task) (gs : List Given) (w : World) (s : Browser)
    (next : List Given → World → Browser → List Part) (xs : List (Placed Task)) (spent k : ℕ)
    → Case d did o → 1 ≤ n → spent_before n spent ≡ cost
    → (comes_by last cost (slice_get turns batch) ≡ false → (at : Reached Browser) (u m : ℕ) → Serves d last turns did at u m xs [])
    → ((hs : List Given) (x : World) (r : Browser) (u m : ℕ) → Known d (record { world = x; page = r; given = hs }) m xs → Ahead last turns did o (next hs x r)
    → Serves d last turns did (record { world = x; page = r; given = hs }) u m xs (served_by last turns o (next hs x r)))
    → Known d (record { world = w; page = s; given = gs }) k (placed batch n items ++ xs)
    → Ahead last turns did o (items_parts d batch all n cost items gs w s next)
    → Serves d last turns did (record { world = w; page = s; given = gs }) spent k (placed batch n items ++ xs) (served_by last turns o (items_parts d batch all n cost items gs w s next))
items_go d last turns did o batch all n cost [] gs w s next xs spent k c above before late rest known ahead = by (comes last turns q) refl
  where
    at : Reached Browser
    at = record { world = w; page = s; given = gs }

    q : Part
    q = part_of batch n cost (finishes None)

    e : early o q ≡ true
    e = done_early o batch n cost (next gs w s) ahead.lacks

    by : (b : Bool) → comes last turns q ≡ b → Serves d last turns did at spent k xs (served_by last turns o (q ∷ next gs w s))
    by true come =
        subst (Serves d last turns did at spent k xs) (sym (served_more last turns o q (next gs w s) false e come refl))
        (rest gs w s spent k known (ahead_behind last turns did o q (next gs w s) e come ahead))
    by false come = subst (Serves d last turns did at spent k xs) (sym (served_late last turns o q (next gs w s) come)) (late come at spent k)
items_go d last turns did o batch all n cost (a ∷ items) gs w s next xs spent k c above before late rest known ahead =
    item_goes d last turns did o batch all n cost a gs w s (placed batch (n + 1) items ++ xs) spent k (whole_item d batch a n w s (first_given gs))
    (λ u x r. items_parts d batch all (n + 1) u items (given_behind (d.fact a) gs) x r next) c refl before known ahead
    (λ u x r m came more behind.
    items_go d last turns did o batch all (n + 1) u items (given_behind (d.fact a) gs) x r next xs u m c (omega (arith, above))
    (ap (λ (b : Bool). cond b 1 u) (ne_eqb (n + 1) 1 (λ e. omega (arith, e, above)))) (λ later. absurd (true≢false (sym came ∙ later))) rest more behind)

later_go : (d : Doing Task Browser) (last : ℕ) (turns : List ℕ) (did : List Deed) (o : Option Lacking) (batch : ℕ) (bs : List Contents) (gs : List Given) (w : World) (s : Browser) (spent k : ℕ)
    → Case d did o → AreInOrder last turns
    → Known d (record { world = w; page = s; given = gs }) k (placed_in d batch bs)
    → Ahead last turns did o (later_parts d batch bs gs w s)
    → Serves d last turns did (record { world = w; page = s; given = gs }) spent k (placed_in d batch bs) (served_by last turns o (later_parts d batch bs gs w s))
later_go d last turns did o batch [] gs w s spent k c order known ahead =
    subst (Serves d last turns did (record { world = w; page = s; given = gs }) spent k []) (sym (served_none last turns o)) (through (record { world = w; page = s; given = gs }) spent k)
later_go d last turns did o batch (b ∷ bs) gs w s spent k c order known ahead =
    items_go d last turns did o batch (d.items b) 1 1 (d.items b) gs w s (λ hs x r. later_parts d (batch + 1) bs hs x r) (placed_in d (batch + 1) bs) spent k c (omega arith) refl
    (λ late at u m. late_serve_none d last turns did (batch + 1) bs at u m (λ other le. order batch other late (omega (arith, le))))
    (λ hs x r u m. later_go d last turns did o (batch + 1) bs hs x r u m c order) known ahead

-- ---- a session

pub session_goes : (d : Doing Task Browser) (last : ℕ) (turns : List ℕ) (did : List Deed) (o : Option Lacking) (bs : List Contents) (gs : List Given)
    → ((a : Task) → serves_call (d.fact a) ≡ is_some (call_of a)) → ((a : Task) → tells_call (d.fact a) ≡ serves_call (d.fact a))
    → ((q : Part) → early o q ≡ true → wants_at q.batch q.item did ≡ false)
    → AreInOrder last turns
    → AreMade browser_rules d call_of (opened d gs) (handled d (opened d gs) (items_of d bs))
    → AreLongest browser_rules d call_of (opened d gs) (items_of d bs)
    → AreNumbered call_of 1 (handled d (opened d gs) (items_of d bs))
    → AreCounted browser_rules d call_of (opened d gs) 1 (items_of d bs)
    → Ahead last turns did o (session_parts d bs gs)
    → Serves d last turns did (opened d gs) 1 1 (items_of d bs) (served_by last turns o (session_parts d bs gs))
session_goes d last turns did o bs gs tells plain clear order made longest numbered counted ahead =
    let c : Case d did o = record { tells = tells; plain = plain; clear = clear } in
    items_go d last turns did o 0 (d.opening ∷ []) 1 1 (d.opening ∷ []) gs d.world d.page (λ hs x r. later_parts d 1 bs hs x r) (placed_in d 1 bs) 1 1 c (omega arith) refl
    (λ late at u m. late_serve_none d last turns did 1 bs at u m (λ other le. order 0 other late (omega arith)))
    (λ hs x r u m. later_go d last turns did o 1 bs hs x r u m c order)
    (record { made = made; longest = longest; numbered = numbered; counted = counted }) ahead
