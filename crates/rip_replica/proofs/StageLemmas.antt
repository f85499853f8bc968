-- What a slice comes to, at a stage.
use Rattle.std.proofs.Common.{◌≡◌, ◌⊎◌, ℕ, suc, ◌+◌, ◌-◌, ◌<◌, ◌≤◌, ◌==◌, ◌&&◌, ◌||◌, nat_lt, nat_le, Bool, true, false, List, [], ◌∷◌, ◌++◌, drop, length, Option, None, Some, inl, inr, if◌then◌else◌, refl, ap, sym, subst, ◌∙◌, arith, append-nil, append_assoc, eq-eqb}
use Rattle.std.specs.List.{AllByRecursion, list_any}
use Rattle.std.proofs.lemmas.Bool.{le-leb}
use Rattle.rip_heap.specs.World.{World}
use Rattle.rip_wire.specs.Batches.{Contents}
use Rattle.rip_wire.specs.declared.ending.Ending.{Ending}
use Rattle.rip_wire.specs.declared.ending.Ending.TheVariants.{Memory}
use Rattle.rip_eval_rows.specs.Evaluation.{Evaluation}
use Rattle.rip_replica.specs.Play.{Played, Closes, Holds}
use Rattle.rip_history.specs.Parts.{Fact, passes, serves, finishes, Part, Given, Lacking, Meaning, ends_batch, ends_session, has_ended, has_finished, is_before, served_count, with_lack}
use Rattle.rip_history.specs.Parts as parts
use Rattle.rip_history.specs.Services.{Called, Service}
use Rattle.rip_history.specs.Stages.{ComesNow, Resumed, Stage, come, finishes_batch, has_come, parts_at}
use Rattle.rip_history.specs.declared.sessions.Made.{Made}
use Rattle.rip_history.specs.declared.sessions.Progress.{Progress}
use Rattle.rip_history.specs.declared.sessions.Progress.TheVariants.{Busy, Finished}
use Rattle.rip_history.specs.declared.sessions.Slice.{Slice}
use Rattle.rip_replica.specs.declared.replica.Place.{Place}
use Rattle.rip_replica.specs.declared.replica.Place.TheVariants.{First, Between, Within, Idle}
use Rattle.rip_replica.specs.Cuts.{StandsEnded}
use Rattle.rip_replica.specs.Numbers.{StandsIdleSo}
use Rattle.rip_replica.specs.Parts.{Doing, after_item, first_given, is_fine, items_parts, last_items, meaning_of, part_of, session_behind, session_parts, whole_item}
use Rattle.rip_replica.specs.Plays.{CountsUnits, IsItemPlan}
use Rattle.rip_replica.specs.Rooms.{HeadsCall}
use Rattle.rip_replica.specs.Sessions.{AreBehind, IsAt, IsBusy, behind_batch}
use Rattle.rip_replica.specs.Slices.{AreServed, BusySo, DoneSo, EndsSo, LacksSo, Sliced}
use Rattle.rip_replica.specs.Standing.{Ahead, AreGone, Behind, CostsMore, Left, Spot, StartsItem, next_number}
use Rattle.rip_replica.proofs.ItemLemmas.{item_closes}
use Rattle.rip_replica.proofs.ServedParts.{served_last}
use Rattle.rip_replica.proofs.TurnLemmas.{after_starts}
use Rattle.rip_replica.proofs.WithinLemmas.{closed_as}

-- BOOLEANS

or_true : (a : Bool) → (a || true) ≡ true
or_true true = refl
or_true false = refl

and_false : (a : Bool) → (a && false) ≡ false
and_false true = refl
and_false false = refl

lt_true : (a b : ℕ) → a < b → nat_lt a b ≡ true
lt_true a b less = le-leb (suc a) b less

lt_false : (a b : ℕ) → b ≤ a → nat_lt a b ≡ false
lt_false a b le = grind (arith, le)

le_false : (a b : ℕ) → b < a → nat_le a b ≡ false
le_false a b less = grind (arith, less)

-- THE NEXT PART

-- the next part, if there is one, is of this batch
unfoldable pub HeadsBatch : ℕ → List Part → Type 0
HeadsBatch batch [] = Unit {0}
HeadsBatch batch (p ∷ ps) = p.batch ≡ batch

either_heads : (b : Bool) (batch : ℕ) (p q : Part) (ps qs : List Part) → p.batch ≡ batch → q.batch ≡ batch → HeadsBatch batch (if b then p ∷ ps else q ∷ qs)
unfolding HeadsBatch
either_heads true batch p q ps qs h g = h
either_heads false batch p q ps qs h g = g

after_heads : {A S : Type 0} (d : Doing A S) (batch : ℕ) (all : List A) (n cost : ℕ) (a : A) (p : Played S) (go : ℕ → World → S → List Part) → HeadsBatch batch (after_item d batch all n cost a p go)
unfolding HeadsBatch
after_heads d batch all n cost a (Closes close gs fuel u w s) go =
    either_heads (is_fine close) batch (part_of batch n (cost + 1 + (d.full - u)) (d.fact a)) (part_of batch n (cost + 1 + (d.full - u)) (finishes (Some (d.ending all close s)))) _ _ refl refl
after_heads d batch all n cost a (Holds depth w s) go = tt

items_head : {A S : Type 0} (d : Doing A S) (batch : ℕ) (all : List A) (n cost : ℕ) (items : List A) (gs : List Given) (w : World) (s : S) (next : List Given → World → S → List Part)
    → HeadsBatch batch (items_parts d batch all n cost items gs w s next)
unfolding HeadsBatch
items_head d batch all n cost [] gs w s next = refl
items_head d batch all n cost (a ∷ items) gs w s next = after_heads d batch all n cost a (whole_item d batch a n w s (first_given gs)) _

pub left_heads : {M A S : Type 0} (e : Evaluation M S) (d : Doing A S) (batch : ℕ) (next : Behind S) (at : Spot M A S) (place : Place) (base spent : ℕ) (ahead : Ahead S) → Left e d batch next at place base spent ahead
    → (bs : List Contents) (gs : List Given) → HeadsBatch batch (ahead.parts bs gs)
left_heads e d batch next at First base spent ahead left bs gs =
    let H : List Part → Type 0 = λ ps. HeadsBatch batch ps in
    subst H (sym (left.3 bs gs)) (items_head d batch at.all 1 1 at.all gs at.world at.page (next bs))
left_heads e d batch next at Between base spent ahead left bs gs =
    let H : List Part → Type 0 = λ ps. HeadsBatch batch ps in
    subst H (sym (left.3 bs gs)) (items_head d batch at.all (at.begun + 1) base (drop at.begun at.all) gs at.world at.page (next bs))
left_heads e d batch next at Within base spent ahead left bs gs =
    let H : List Part → Type 0 = λ ps. HeadsBatch batch ps in
    subst H (sym (left.parts bs gs)) (items_head d batch at.all at.begun base (left.item ∷ drop at.begun at.all) gs left.world left.page (next bs))
left_heads e d batch next at Idle base spent ahead left bs gs = absurd left

-- WHAT HAS COME

come_behind : (last number units : ℕ) (p : Part) → (p.batch < last) ⊎ ((p.batch ≡ last) × (p.item < number) × (p.cost ≤ units)) → has_come last units p ≡ true
come_behind last number units p (inl less) = ap (λ b. b || (p.batch == last && nat_le p.cost units)) (lt_true p.batch last less)
come_behind last number units p (inr h) =
    ap (λ b. nat_lt p.batch last || (b && nat_le p.cost units)) (eq-eqb p.batch last h.0)
    ∙ ap (λ b. nat_lt p.batch last || b) (le-leb p.cost units h.2)
    ∙ or_true (nat_lt p.batch last)

not_come : (last units : ℕ) (p : Part) → p.batch ≡ last → units < p.cost → has_come last units p ≡ false
not_come last units p is above =
    ap (λ b. b || (p.batch == last && nat_le p.cost units)) (lt_false p.batch last (omega (arith, is)))
    ∙ ap (λ b. p.batch == last && b) (le_false p.cost units above)
    ∙ and_false (p.batch == last)

come_none : (last units : ℕ) (qs : List Part) → HeadsBatch last qs → CostsMore units qs → come last units qs ≡ []
unfolding HeadsBatch
come_none last units [] heads above = refl
come_none last units (q ∷ qs) heads above = ap (λ b. if b then q ∷ come last units qs else []) (not_come last units q heads above)

come_all : (last number units : ℕ) (ps qs : List Part) → AreBehind last number units ps → HeadsBatch last qs → CostsMore units qs → come last units (ps ++ qs) ≡ ps
come_all last number units [] qs behind heads above = come_none last units qs heads above
come_all last number units (p ∷ ps) qs behind heads above =
    ap (λ b. if b then p ∷ come last units (ps ++ qs) else []) (come_behind last number units p behind.0)
    ∙ ap (λ xs. p ∷ xs) (come_all last number units ps qs behind.1 heads above)

behind_up_one : (last n m u v : ℕ) (p : Part) → n ≤ m → u ≤ v → (p.batch < last) ⊎ ((p.batch ≡ last) × (p.item < n) × (p.cost ≤ u)) → (p.batch < last) ⊎ ((p.batch ≡ last) × (p.item < m) × (p.cost ≤ v))
behind_up_one last n m u v p up on (inl less) = inl less
behind_up_one last n m u v p up on (inr h) = inr (h.0, omega (arith, h.1, up), omega (arith, h.2, on))

behind_up : (last n m u v : ℕ) (ps : List Part) → n ≤ m → u ≤ v → AreBehind last n u ps → AreBehind last m v ps
behind_up last n m u v [] up on h = tt
behind_up last n m u v (p ∷ ps) up on h = (behind_up_one last n m u v p up on h.0, behind_up last n m u v ps up on h.1)

behind_append : (last n u : ℕ) (ps qs : List Part) → AreBehind last n u ps → AreBehind last n u qs → AreBehind last n u (ps ++ qs)
behind_append last n u [] qs h g = g
behind_append last n u (p ∷ ps) qs h g = (h.0, behind_append last n u ps qs h.1 g)

gone_behind : (b n from s : ℕ) (ps : List Part) → AreGone b n from s ps → AreBehind b n s ps
gone_behind b n from s [] h = tt
gone_behind b n from s (p ∷ ps) h = (inr (h.0, h.1, h.4), gone_behind b n from s ps h.5)

-- parts that end nothing

or_assoc : (a b c : Bool) → (a || (b || c)) ≡ ((a || b) || c)
or_assoc true b c = refl
or_assoc false b c = refl

any_append : (f : Part → Bool) (ps qs : List Part) → list_any f (ps ++ qs) ≡ (list_any f ps || list_any f qs)
any_append f [] qs = refl
any_append f (p ∷ ps) qs = ap (λ b. f p || b) (any_append f ps qs) ∙ or_assoc (f p) (list_any f ps) (list_any f qs)

lives_of : (f : Fact) → ends_batch f ≡ false → ends_session f ≡ false
lives_of passes h = refl
lives_of (serves number name args) h = refl
lives_of (finishes how) h = cc

gone_unfinished : (b n from s last : ℕ) (ps : List Part) → AreGone b n from s ps → finishes_batch last ps ≡ false
gone_unfinished b n from s last [] h = refl
gone_unfinished b n from s last (p ∷ ps) h =
    ap (λ x. (p.batch == last && x) || finishes_batch last ps) h.2
    ∙ ap (λ x. x || finishes_batch last ps) (and_false (p.batch == last))
    ∙ gone_unfinished b n from s last ps h.5

gone_busy : (b n from s : ℕ) (ps : List Part) → AreGone b n from s ps → has_finished ps ≡ false
gone_busy b n from s [] h = refl
gone_busy b n from s (p ∷ ps) h = ap (λ x. x || has_finished ps) h.2 ∙ gone_busy b n from s ps h.5

gone_lives : (b n from s : ℕ) (ps : List Part) → AreGone b n from s ps → has_ended ps ≡ false
gone_lives b n from s [] h = refl
gone_lives b n from s (p ∷ ps) h = ap (λ x. x || has_ended ps) (lives_of p.fact h.2) ∙ gone_lives b n from s ps h.5

gone_now : (st : Stage) (n s : ℕ) (ps : List Part) → AreGone (length st.batches) n st.units s ps → AllByRecursion (ComesNow st) ps
gone_now st n s [] h = tt
gone_now st n s (p ∷ ps) h = (record { batch = h.0; above = h.3 }, gone_now st n s ps h.5)

spent_append : (b : ℕ) (ps qs : List Part) (base : ℕ) → parts.spent b (ps ++ qs) base ≡ parts.spent b qs (parts.spent b ps base)
spent_append b [] qs base = refl
spent_append b (p ∷ ps) qs base = spent_append b ps qs (if p.batch == b then p.cost else base)

-- A STAGE

-- what has come at a stage where so much is behind and this is ahead
pub parts_of_stage : {A S : Type 0} (doing : ℕ → ℕ → Doing A S) (st : Stage) (number : ℕ) (earlier rest : List Part) → st.lacking ≡ None
    → session_parts (doing st.seed st.time) (st.batches ++ []) (st.given ++ []) ≡ earlier ++ rest
    → AreBehind (length st.batches) number st.units earlier → HeadsBatch (length st.batches) rest → CostsMore st.units rest → parts_at (meaning_of doing) st ≡ earlier
parts_of_stage doing st number earlier rest none whole behind heads above =
    let d : Doing _ _ = doing st.seed st.time in
    ap (λ l. come (length st.batches) st.units (with_lack l (session_parts d st.batches st.given))) none
    ∙ ap (λ bs. come (length st.batches) st.units (session_parts d bs st.given)) (sym (append-nil st.batches))
    ∙ ap (λ gs. come (length st.batches) st.units (session_parts d (st.batches ++ []) gs)) (sym (append-nil st.given))
    ∙ ap (λ ps. come (length st.batches) st.units ps) whole
    ∙ come_all (length st.batches) number st.units earlier rest behind heads above

-- the stage after a slice, in which its calls were given this
abbrev pub went_to : Stage → List Given → ℕ → Stage
went_to st gs n = record { seed = st.seed; time = st.time; batches = st.batches; given = st.given ++ gs; units = st.units + n; lacking = st.lacking }

-- all of a session, where these were given in the slice
whole_on : {A S : Type 0} (d : Doing A S) (st : Stage) (earlier ps : List Part) (ahead later : List Contents → List Given → List Part) (gs : List Given)
    → ((bs : List Contents) (hs : List Given) → session_parts d (st.batches ++ bs) (st.given ++ hs) ≡ earlier ++ ahead bs hs)
    → ((bs : List Contents) (hs : List Given) → ahead bs (gs ++ hs) ≡ ps ++ later bs hs)
    → (bs : List Contents) (hs : List Given) → session_parts d (st.batches ++ bs) ((st.given ++ gs) ++ hs) ≡ (earlier ++ ps) ++ later bs hs
whole_on d st earlier ps ahead later gs whole goes bs hs =
    ap (λ xs. session_parts d (st.batches ++ bs) xs) (append_assoc st.given gs hs) ∙ whole bs (gs ++ hs) ∙ ap (λ xs. earlier ++ xs) (goes bs hs) ∙ sym (append_assoc earlier ps (later bs hs))

pub resumed_busy : {M A S Roomed : Type 0} (e : Evaluation M S) (doing : ℕ → ℕ → Doing A S) (may : S → Bool) (at to : Spot M A S) (st : Stage) (service : Service) (calls : List Called) (slice : Slice) (old new : Made) (Replies : List Called → Type 0)
    (busy : IsBusy e (doing st.seed st.time) may at st)
    → Sliced Roomed e (doing st.seed st.time) may (length st.batches) (behind_batch (doing st.seed st.time) (length st.batches)) to st.units busy.base (st.units + slice.units) busy.ahead service calls slice old new Busy Replies
    → next_number at.place at.begun ≤ next_number to.place to.begun → to.all ≡ at.all
    → Resumed (meaning_of doing) st service calls slice old new Busy (IsAt e doing may to) Replies
resumed_busy e doing may at to st service calls slice old new Replies busy sliced up same =
    let d : Doing _ _ = doing st.seed st.time in
    let b : ℕ = length st.batches in
    let comes : BusySo _ _ _ _ _ _ _ _ _ _ _ _ = sliced.comes in
    let st' : Stage = went_to st sliced.gs slice.units in
    let earlier : List Part = busy.earlier ++ sliced.ps in
    let whole : (bs : List Contents) (hs : List Given) → session_parts d (st.batches ++ bs) ((st.given ++ sliced.gs) ++ hs) ≡ earlier ++ comes.later.parts bs hs =
    whole_on d st busy.earlier sliced.ps busy.ahead.parts comes.later.parts sliced.gs busy.whole comes.gone.goes in
    let behind : AreBehind b (next_number to.place to.begun) (st.units + slice.units) earlier =
    behind_append b (next_number to.place to.begun) (st.units + slice.units) busy.earlier sliced.ps
    (behind_up b (next_number at.place at.begun) (next_number to.place to.begun) st.units (st.units + slice.units) busy.earlier up (omega arith) busy.come)
    (gone_behind b (next_number to.place to.begun) st.units (st.units + slice.units) sliced.ps comes.gone.gone) in
    record {
      parts = sliced.ps;
      given = sliced.gs;
      next = st';
      goes_on = record {
        seed = refl;
        time = refl;
        batches = refl;
        given = refl;
        units = refl;
        lacking = inl refl;
        come =
            parts_of_stage doing st' (next_number to.place to.begun) earlier (comes.later.parts [] []) busy.none (whole [] []) behind
            (left_heads e d b (behind_batch d b) to to.place comes.new_base (st.units + slice.units) comes.later comes.stands.left [] []) (comes.stands.more [] [])
            ∙ ap (λ xs. xs ++ sliced.ps) (sym (parts_of_stage doing st (next_number at.place at.begun) busy.earlier (busy.ahead.parts [] []) busy.none (busy.whole [] []) busy.come
            (left_heads e d b (behind_batch d b) at at.place busy.base st.units busy.ahead busy.stands.left [] []) (busy.stands.more [] [])));
        now = gone_now st (next_number to.place to.begun) (st.units + slice.units) sliced.ps comes.gone.gone;
        each = sliced.served.each;
      };
      stands = inl (record {
        earlier = earlier;
        ahead = comes.later;
        base = comes.new_base;
        whole = whole;
        behind = λ hs k. ap (λ xs. session_behind d st.batches xs k) (append_assoc st.given sliced.gs hs) ∙ busy.behind (sliced.gs ++ hs) k ∙ comes.gone.behind hs k;
        all = same ∙ busy.all;
        come = behind;
        busy = any_append _ busy.earlier sliced.ps ∙ ap (λ x. x || finishes_batch b sliced.ps) busy.busy ∙ gone_unfinished b (next_number to.place to.begun) st.units (st.units + slice.units) b sliced.ps comes.gone.gone;
        lives = any_append _ busy.earlier sliced.ps ∙ ap (λ x. x || has_ended sliced.ps) busy.lives ∙ gone_lives b (next_number to.place to.begun) st.units (st.units + slice.units) sliced.ps comes.gone.gone;
        based = spent_append b busy.earlier sliced.ps 1 ∙ ap (λ u. parts.spent b sliced.ps u) busy.based ∙ comes.gone.based;
        none = busy.none;
        stands = comes.stands;
        cut = comes.cut;
      });
      replied = sliced.served.replied;
      replies = sliced.served.replies;
      entries = sliced.served.entries;
      served = sliced.served.served;
      how_far = gone_busy b (next_number to.place to.begun) st.units (st.units + slice.units) sliced.ps comes.gone.gone;
    }

-- A BATCH THAT IS DONE, OR AN ITEM THAT ENDS THE SESSION

-- a part that ends its batch, behind those that are gone
last_unfinished : (b n from s : ℕ) (ps : List Part) (p : Part) → AreGone b n from s ps → p.batch ≡ b → ends_batch p.fact ≡ true → finishes_batch b (ps ++ p ∷ []) ≡ true
last_unfinished b n from s ps p gone is ends =
    any_append (λ (q : Part). q.batch == b && ends_batch q.fact) ps (p ∷ [])
    ∙ ap (λ x. x || ((p.batch == b && ends_batch p.fact) || false)) (gone_unfinished b n from s b ps gone)
    ∙ ap (λ x. (x && ends_batch p.fact) || false) (eq-eqb p.batch b is)
    ∙ ap (λ x. x || false) ends

or_last : (a : Bool) (b : Bool) → b ≡ true → (a || b) ≡ true
or_last a b h = ap (λ x. a || x) h ∙ or_true a

served_fact_more : (f : Fact) (m k : ℕ) → m ≡ k → (if parts.serves_call f then suc m else m) ≡ (if parts.serves_call f then suc k else k)
served_fact_more f m k h = ap (λ x. if parts.serves_call f then suc x else x) h

served_none_more : (ps : List Part) (b n c : ℕ) (how : Option Ending) → served_count (ps ++ part_of b n c (finishes how) ∷ []) ≡ served_count ps
served_none_more [] b n c how = refl
served_none_more (p ∷ ps) b n c how = served_fact_more p.fact (served_count (ps ++ part_of b n c (finishes how) ∷ [])) (served_count ps) (served_none_more ps b n c how)

now_append : (st : Stage) (ps qs : List Part) → AllByRecursion (ComesNow st) ps → AllByRecursion (ComesNow st) qs → AllByRecursion (ComesNow st) (ps ++ qs)
now_append st [] qs h g = g
now_append st (p ∷ ps) qs h g = (h.0, now_append st ps qs h.1 g)

-- a part behind others, and what is behind it
list_last : {X : Type 0} (xs ys : List X) (z : X) (zs : List X) → (xs ++ ys) ++ (z ∷ zs) ≡ (xs ++ (ys ++ z ∷ [])) ++ zs
list_last xs ys z zs =
    sym (append_assoc (xs ++ ys) (z ∷ []) zs) ∙ ap (λ ws. ws ++ zs) (append_assoc xs ys (z ∷ []))

behind_last : (b n u : ℕ) (ps : List Part) (item cost : ℕ) (how : Option Ending) → AreBehind b n u ps → item < n → cost ≤ u → AreBehind b n u (ps ++ part_of b item cost (finishes how) ∷ [])
behind_last b n u ps item cost how h less le = behind_append b n u ps (part_of b item cost (finishes how) ∷ []) h (inr (refl, less, le), tt)

pub resumed_done : {M A S Roomed : Type 0} (e : Evaluation M S) (doing : ℕ → ℕ → Doing A S) (may : S → Bool) (at to : Spot M A S) (st : Stage) (service : Service) (calls : List Called) (slice : Slice) (old new : Made) (Replies : List Called → Type 0)
    (busy : IsBusy e (doing st.seed st.time) may at st)
    → Sliced Roomed e (doing st.seed st.time) may (length st.batches) (behind_batch (doing st.seed st.time) (length st.batches)) to st.units busy.base (st.units + slice.units) busy.ahead service calls slice old new (Finished None) Replies → to.all ≡ at.all → to.place ≡ Idle
    → Resumed (meaning_of doing) st service calls slice old new (Finished None) (IsAt e doing may to) Replies
unfolding HeadsBatch
resumed_done e doing may at to st service calls slice old new Replies busy sliced same idle =
    let d : Doing _ _ = doing st.seed st.time in
    let b : ℕ = length st.batches in
    let comes : DoneSo _ _ _ _ _ _ _ _ _ _ _ _ = sliced.comes in
    let st' : Stage = went_to st sliced.gs slice.units in
    let last : Part = part_of b comes.item comes.cost (finishes None) in
    let ps : List Part = sliced.ps ++ last ∷ [] in
    let n : ℕ = next_number at.place at.begun + comes.number + comes.item + 1 in
    let limit : ℕ = st.units + slice.units in
    let earlier : List Part = busy.earlier ++ ps in
    let whole : (bs : List Contents) (hs : List Given) → session_parts d (st.batches ++ bs) ((st.given ++ sliced.gs) ++ hs) ≡ earlier ++ behind_batch d b bs hs to.world to.page = λ bs hs.
    whole_on d st busy.earlier sliced.ps busy.ahead.parts (λ bs hs. last ∷ behind_batch d b bs hs to.world to.page) sliced.gs busy.whole comes.gone.goes bs hs
    ∙ list_last busy.earlier sliced.ps last (behind_batch d b bs hs to.world to.page) in
    let behind : AreBehind b n limit earlier =
    behind_append b n limit busy.earlier ps
    (behind_up b (next_number at.place at.begun) n st.units limit busy.earlier (omega arith) (omega arith) busy.come)
    (behind_last b n limit sliced.ps comes.item comes.cost None (behind_up b comes.number n limit limit sliced.ps (omega arith) (omega arith) (gone_behind b comes.number st.units limit sliced.ps comes.gone.gone)) (omega arith) comes.within) in
    let served : AreServed service calls slice old new Replies ps sliced.gs = served_last service calls slice old new Replies sliced.ps sliced.gs b comes.item comes.cost None sliced.served in
    let done : finishes_batch b ps ≡ true = last_unfinished b comes.number st.units limit sliced.ps last comes.gone.gone refl refl in
    record {
      parts = ps;
      given = sliced.gs;
      next = st';
      goes_on = record {
        seed = refl;
        time = refl;
        batches = refl;
        given = refl;
        units = refl;
        lacking = inl refl;
        come =
            parts_of_stage doing st' n earlier [] busy.none (whole [] []) behind tt tt
            ∙ ap (λ xs. xs ++ ps) (sym (parts_of_stage doing st (next_number at.place at.begun) busy.earlier (busy.ahead.parts [] []) busy.none (busy.whole [] []) busy.come
            (left_heads e d b (behind_batch d b) at at.place busy.base st.units busy.ahead busy.stands.left [] []) (busy.stands.more [] [])));
        now = now_append st sliced.ps (last ∷ []) (gone_now st comes.number limit sliced.ps comes.gone.gone) (record { batch = refl; above = comes.above }, tt);
        each = served.each;
      };
      stands = inr (inl (record {
        earlier = earlier;
        number = n;
        whole = whole;
        cost = comes.new_base;
        behind = λ hs.
            ap (λ xs. session_behind d st.batches xs (length (last_items d st.batches))) (append_assoc st.given sliced.gs hs)
            ∙ busy.behind (sliced.gs ++ hs) (length (last_items d st.batches))
            ∙ ap (λ xs. busy.ahead.behind (sliced.gs ++ hs) (length xs)) (sym (same ∙ busy.all)) ∙ comes.behind hs;
        come = behind;
        done = any_append (λ (q : Part). q.batch == b && ends_batch q.fact) busy.earlier ps ∙ or_last (finishes_batch b busy.earlier) (finishes_batch b ps) done;
        lives = any_append (λ (q : Part). ends_session q.fact) busy.earlier ps ∙ ap (λ x. x || has_ended ps) busy.lives
            ∙ any_append (λ (q : Part). ends_session q.fact) sliced.ps (last ∷ []) ∙ ap (λ x. x || false) (gone_lives b comes.number st.units limit sliced.ps comes.gone.gone);
        none = busy.none;
        keeps = comes.keeps;
        place = idle;
      }));
      replied = served.replied;
      replies = served.replies;
      entries = served.entries;
      served = served.served;
      how_far = record { others = sliced.ps; last = last; are = refl; busy = gone_busy b comes.number st.units limit sliced.ps comes.gone.gone; fact = refl };
    }

pub resumed_ends : {M A S : Type 0} (e : Evaluation M S) (doing : ℕ → ℕ → Doing A S) (may : S → Bool) (at to : Spot M A S) (st : Stage) (service : Service) (calls : List Called) (slice : Slice) (old new : Made) (Replies : List Called → Type 0)
    (how : Ending) (busy : IsBusy e (doing st.seed st.time) may at st) (ps : List Part) (gs : List Given)
    → EndsSo (doing st.seed st.time) (length st.batches) to.all st.units busy.base (st.units + slice.units) busy.ahead ps gs how to.world to.page
    → AreServed service calls slice old new Replies ps gs → to.all ≡ at.all → to.place ≡ Idle
    → Resumed (meaning_of doing) st service calls slice old new (Finished (Some how)) (IsAt e doing may to) Replies
unfolding HeadsBatch
resumed_ends e doing may at to st service calls slice old new Replies how busy qs gs comes was same idle =
    let d : Doing _ _ = doing st.seed st.time in
    let b : ℕ = length st.batches in
    let st' : Stage = went_to st gs slice.units in
    let last : Part = part_of b comes.item comes.cost (finishes (Some how)) in
    let ps : List Part = qs ++ last ∷ [] in
    let n : ℕ = next_number at.place at.begun + comes.number + comes.item + 1 in
    let limit : ℕ = st.units + slice.units in
    let earlier : List Part = busy.earlier ++ ps in
    let whole : (bs : List Contents) (hs : List Given) → session_parts d (st.batches ++ bs) ((st.given ++ gs) ++ hs) ≡ earlier ++ [] = λ bs hs.
    whole_on d st busy.earlier qs busy.ahead.parts (λ bs hs. last ∷ []) gs busy.whole comes.gone.goes bs hs ∙ list_last busy.earlier qs last [] in
    let behind : AreBehind b n limit earlier =
    behind_append b n limit busy.earlier ps
    (behind_up b (next_number at.place at.begun) n st.units limit busy.earlier (omega arith) (omega arith) busy.come)
    (behind_last b n limit qs comes.item comes.cost (Some how) (behind_up b comes.number n limit limit qs (omega arith) (omega arith) (gone_behind b comes.number st.units limit qs comes.gone.gone)) (omega arith) comes.within) in
    let served : AreServed service calls slice old new Replies ps gs = served_last service calls slice old new Replies qs gs b comes.item comes.cost (Some how) was in
    let done : finishes_batch b ps ≡ true = last_unfinished b comes.number st.units limit qs last comes.gone.gone refl refl in
    let ended : has_ended ps ≡ true = any_append (λ (q : Part). ends_session q.fact) qs (last ∷ []) ∙ or_true (has_ended qs) in
    let now : parts_at (meaning_of doing) st' ≡ earlier = parts_of_stage doing st' n earlier [] busy.none (whole [] []) behind tt tt in
    let E : Option Lacking → Type 0 = λ o. StandsEnded d st.batches (st.given ++ gs) o to.world to.page in
    let all : to.all ≡ last_items d st.batches = same ∙ busy.all in
    record {
      parts = ps;
      given = gs;
      next = st';
      goes_on = record {
        seed = refl;
        time = refl;
        batches = refl;
        given = refl;
        units = refl;
        lacking = inl refl;
        come = now
            ∙ ap (λ xs. xs ++ ps) (sym (parts_of_stage doing st (next_number at.place at.begun) busy.earlier (busy.ahead.parts [] []) busy.none (busy.whole [] []) busy.come
            (left_heads e d b (behind_batch d b) at at.place busy.base st.units busy.ahead busy.stands.left [] []) (busy.stands.more [] [])));
        now = now_append st qs (last ∷ []) (gone_now st comes.number limit qs comes.gone.gone) (record { batch = refl; above = comes.above }, tt);
        each = served.each;
      };
      stands = inr (inr (record {
        done = ap (λ xs. finishes_batch b xs) now ∙ any_append (λ (q : Part). q.batch == b && ends_batch q.fact) busy.earlier ps ∙ or_last (finishes_batch b busy.earlier) (finishes_batch b ps) done;
        ended = ap (λ xs. has_ended xs) now ∙ any_append (λ (q : Part). ends_session q.fact) busy.earlier ps ∙ or_last (has_ended busy.earlier) (has_ended ps) ended;
        place = idle;
        stands = subst E (sym busy.none) (record {
          number = comes.item;
          base = comes.new_base;
          cost = comes.cost;
          close = comes.close;
          earlier = busy.earlier ++ qs;
          closed = closed_as d b to.all (last_items d st.batches) comes.item comes.new_base comes.cost comes.close (λ hs k. busy.ahead.behind (gs ++ hs) k) (λ hs k. session_behind d st.batches ((st.given ++ gs) ++ hs) k) to.world to.page
              all (λ hs k. ap (λ xs. session_behind d st.batches xs k) (append_assoc st.given gs hs) ∙ busy.behind (gs ++ hs) k) comes.closed;
          whole = λ bs hs.
              whole_on d st busy.earlier qs busy.ahead.parts (λ bs hs. last ∷ []) gs busy.whole comes.gone.goes bs hs
              ∙ ap (λ h. (busy.earlier ++ qs) ++ part_of b comes.item comes.cost (finishes (Some h)) ∷ []) (comes.told ∙ ap (λ xs. d.ending xs comes.close to.page) all);
        });
      }));
      replied = served.replied;
      replies = served.replies;
      entries = served.entries;
      served = served.served;
      how_far = record { others = qs; last = last; are = refl; busy = gone_busy b comes.number st.units limit qs comes.gone.gone; fact = refl };
    }

-- WANT OF MEMORY

before_one : (l : Lacking) (n u : ℕ) (p : Part) → n ≤ l.item → (p.batch < l.batch) ⊎ ((p.batch ≡ l.batch) × (p.item < n) × (p.cost ≤ u)) → is_before l p ≡ true
before_one l n u p up (inl less) = ap (λ b. b || (p.batch == l.batch && nat_lt p.item l.item)) (lt_true p.batch l.batch less)
before_one l n u p up (inr h) =
    ap (λ b. nat_lt p.batch l.batch || (b && nat_lt p.item l.item)) (eq-eqb p.batch l.batch h.0)
    ∙ ap (λ b. nat_lt p.batch l.batch || b) (lt_true p.item l.item (omega (arith, h.1, up)))
    ∙ or_true (nat_lt p.batch l.batch)

not_before : (l : Lacking) (p : Part) → p.batch ≡ l.batch → p.item ≡ l.item → is_before l p ≡ false
not_before l p is same =
    ap (λ b. b || (p.batch == l.batch && nat_lt p.item l.item)) (lt_false p.batch l.batch (omega (arith, is)))
    ∙ ap (λ b. p.batch == l.batch && b) (lt_false p.item l.item (omega (arith, same)))
    ∙ and_false (p.batch == l.batch)

before_all : (l : Lacking) (n u : ℕ) (ps : List Part) (p : Part) (qs : List Part) → n ≤ l.item → AreBehind l.batch n u ps → p.batch ≡ l.batch → p.item ≡ l.item → parts.before l (ps ++ p ∷ qs) ≡ ps
before_all l n u [] p qs up behind is same = ap (λ b. if b then p ∷ parts.before l qs else []) (not_before l p is same)
before_all l n u (q ∷ ps) p qs up behind is same =
    ap (λ b. if b then q ∷ parts.before l (ps ++ p ∷ qs) else []) (before_one l n u q up behind.0) ∙ ap (λ xs. q ∷ xs) (before_all l n u ps p qs up behind.1 is same)

behind_all : (l : Lacking) (n u : ℕ) (ps : List Part) (p : Part) (qs : List Part) → n ≤ l.item → AreBehind l.batch n u ps → p.batch ≡ l.batch → p.item ≡ l.item → parts.behind l (ps ++ p ∷ qs) ≡ p ∷ qs
behind_all l n u [] p qs up behind is same = ap (λ b. if b then parts.behind l qs else p ∷ qs) (not_before l p is same)
behind_all l n u (q ∷ ps) p qs up behind is same =
    ap (λ b. if b then parts.behind l (ps ++ p ∷ qs) else q ∷ (ps ++ p ∷ qs)) (before_one l n u q up behind.0) ∙ behind_all l n u ps p qs up behind.1 is same

-- the first of some parts
split : (b n base from : ℕ) (xs : List Part) → StartsItem b n base xs → CostsMore from xs
    → (p : Part) × (rest : List Part) × (xs ≡ p ∷ rest) × (p.batch ≡ b) × (p.item ≡ n) × (base < p.cost) × (from < p.cost)
split b n base from [] starts above = absurd starts
split b n base from (p ∷ rest) starts above = (p, rest, refl, starts.0, starts.1, starts.2, above)

pub resumed_lacks : {M A S Roomed : Type 0} (e : Evaluation M S) (doing : ℕ → ℕ → Doing A S) (may : S → Bool) (at to : Spot M A S) (st : Stage) (service : Service) (calls : List Called) (slice : Slice) (old new : Made) (Replies : List Called → Type 0)
    (how : Ending) (busy : IsBusy e (doing st.seed st.time) may at st) (qs : List Part) (gs : List Given)
    (comes : LacksSo Roomed (length st.batches) st.units busy.base (st.units + slice.units) busy.ahead qs gs how to.world to.page) → AreServed service calls slice old new Replies qs gs
    → 1 ≤ slice.units → next_number at.place at.begun ≤ comes.number → Roomed → to.place ≡ Idle
    → Resumed (meaning_of doing) st service calls slice old new (Finished (Some how)) (IsAt e doing may to) Replies
unfolding HeadsBatch
resumed_lacks e doing may at to st service calls slice old new Replies how busy qs gs comes was some up roomed idle =
    let d : Doing _ _ = doing st.seed st.time in
    let b : ℕ = length st.batches in
    let limit : ℕ = st.units + slice.units in
    let l : Lacking = record { batch = b; item = comes.number; cost = st.units + 1 + (comes.new_base - st.units) } in
    let st' : Stage = record { seed = st.seed; time = st.time; batches = st.batches; given = st.given ++ gs; units = limit; lacking = Some l } in
    let last : Part = part_of b comes.number l.cost (finishes (Some (Memory comes.number))) in
    let ps : List Part = qs ++ last ∷ [] in
    let front : List Part = busy.earlier ++ qs in
    let head : (p : Part) × (rest : List Part) × (comes.later.parts [] [] ≡ p ∷ rest) × (p.batch ≡ b) × (p.item ≡ comes.number) × (comes.new_base < p.cost) × (st.units < p.cost) =
    split b comes.number comes.new_base st.units (comes.later.parts [] []) (comes.starts [] []) (comes.more [] []) in
    let behind : AreBehind b comes.number limit front =
    behind_append b comes.number limit busy.earlier qs
    (behind_up b (next_number at.place at.begun) comes.number st.units limit busy.earlier up (omega arith) busy.come)
    (gone_behind b comes.number st.units limit qs comes.gone.gone) in
    let all : List Part = session_parts d st.batches (st.given ++ gs) in
    let whole : all ≡ front ++ (head.0 ∷ head.1) =
    ap (λ bs. session_parts d bs (st.given ++ gs)) (sym (append-nil st.batches))
    ∙ ap (λ xs. session_parts d (st.batches ++ []) xs) (sym (append-nil (st.given ++ gs)))
    ∙ whole_on d st busy.earlier qs busy.ahead.parts comes.later.parts gs busy.whole comes.gone.goes [] []
    ∙ ap (λ xs. front ++ xs) head.2 in
    let before : parts.before l all ≡ front = ap (λ xs. parts.before l xs) whole ∙ before_all l comes.number limit front head.0 head.1 (omega arith) behind head.3 head.4 in
    let lives : has_ended front ≡ false = any_append (λ (q : Part). ends_session q.fact) busy.earlier qs ∙ ap (λ x. x || has_ended qs) busy.lives ∙ gone_lives b comes.number st.units limit qs comes.gone.gone in
    let based : parts.spent b front 1 ≡ comes.new_base = spent_append b busy.earlier qs 1 ∙ ap (λ u. parts.spent b qs u) busy.based ∙ comes.gone.based in
    let within : l.cost ≤ limit = omega (arith, comes.taken, some) in
    let behind' : AreBehind b (comes.number + 1) limit (front ++ last ∷ []) =
    behind_last b (comes.number + 1) limit front comes.number l.cost (Some (Memory comes.number)) (behind_up b comes.number (comes.number + 1) limit limit front (omega arith) (omega arith) behind) (omega arith) within in
    let done : finishes_batch b ps ≡ true = last_unfinished b comes.number st.units limit qs last comes.gone.gone refl refl in
    let ended : has_ended ps ≡ true = any_append (λ (q : Part). ends_session q.fact) qs (last ∷ []) ∙ or_true (has_ended qs) in
    let now : parts_at (meaning_of doing) st' ≡ busy.earlier ++ ps =
    ap (λ xs. come b limit (xs ++ last ∷ [])) before
    ∙ ap (λ xs. come b limit xs) (sym (append-nil (front ++ last ∷ [])))
    ∙ come_all b (comes.number + 1) limit (front ++ last ∷ []) [] behind' tt tt
    ∙ append_assoc busy.earlier qs (last ∷ []) in
    let served : AreServed service calls slice old new Replies ps gs = served_last service calls slice old new Replies qs gs b comes.number l.cost (Some (Memory comes.number)) was in
    let lack-above : parts.spent b (parts.before l all) 1 < l.cost = omega (arith, ap (λ xs. parts.spent b xs 1) before ∙ based) in
    record {
      parts = ps;
      given = gs;
      next = st';
      goes_on = record {
        seed = refl;
        time = refl;
        batches = refl;
        given = refl;
        units = refl;
        lacking = inr (record {
          lack = l;
          none = busy.none;
          some = refl;
          may = record {
            part = head.0;
            others = head.1;
            comes = ap (λ xs. parts.behind l xs) whole ∙ behind_all l comes.number limit front head.0 head.1 (omega arith) behind head.3 head.4;
            batch = head.3;
            item = head.4;
            call = subst HeadsCall head.2 (comes.call roomed [] []);
            lives = ap (λ xs. has_ended xs) before ∙ lives;
            above = lack-above;
            within = omega (arith, head.5, head.6);
          };
          ends = ended;
        });
        come = now
            ∙ ap (λ xs. xs ++ ps) (sym (parts_of_stage doing st (next_number at.place at.begun) busy.earlier (busy.ahead.parts [] []) busy.none (busy.whole [] []) busy.come
            (left_heads e d b (behind_batch d b) at at.place busy.base st.units busy.ahead busy.stands.left [] []) (busy.stands.more [] [])));
        now = now_append st qs (last ∷ []) (gone_now st comes.number limit qs comes.gone.gone) (record { batch = refl; above = omega arith }, tt);
        each = served.each;
      };
      stands = inr (inr (record {
        done = ap (λ xs. finishes_batch b xs) now ∙ any_append (λ (q : Part). q.batch == b && ends_batch q.fact) busy.earlier ps ∙ or_last (finishes_batch b busy.earlier) (finishes_batch b ps) done;
        ended = ap (λ xs. has_ended xs) now ∙ any_append (λ (q : Part). ends_session q.fact) busy.earlier ps ∙ or_last (has_ended busy.earlier) (has_ended ps) ended;
        place = idle;
        stands = (
          comes.new_base,
          λ hs.
              ap (λ xs. session_behind d st.batches xs (comes.number - 1)) (append_assoc st.given gs hs) ∙ busy.behind (gs ++ hs) (comes.number - 1) ∙ comes.stays roomed hs,
        );
      }));
      replied = served.replied;
      replies = served.replies;
      entries = served.entries;
      served = served.served;
      how_far = record { others = qs; last = last; are = refl; busy = gone_busy b comes.number st.units limit qs comes.gone.gone; fact = ap (λ h. finishes (Some h)) (sym comes.is) };
    }

-- THE NUMBER OF THE NEXT ITEM

HasHead : ℕ → List Part → Type 0
HasHead n [] = ⊥
HasHead n (p ∷ ps) = p.item ≡ n

starts_head : (b n base : ℕ) (xs : List Part) → StartsItem b n base xs → HasHead n xs
unfolding HasHead
starts_head b n base [] h = h
starts_head b n base (p ∷ ps) h = h.1

items_has : {A S : Type 0} (d : Doing A S) (may : S → Bool) (batch : ℕ) (all : List A) (n cost : ℕ) (items : List A) (gs : List Given) (w : World) (s : S) (next : List Given → World → S → List Part)
    → CountsUnits d.run → ((a : A) (k : ℕ) (x : World) (t : S) → IsItemPlan may (d.fact a) (d.plan batch a k x t)) → HasHead n (items_parts d batch all n cost items gs w s next)
unfolding HasHead
items_has d may batch all n cost [] gs w s next counts shapes = refl
items_has d may batch all n cost (a ∷ items) gs w s next counts shapes =
    starts_head batch n cost (items_parts d batch all n cost (a ∷ items) gs w s next)
    (after_starts d batch all n cost a (whole_item d batch a n w s (first_given gs)) _
    (item_closes d.run d.full may counts (d.fact a) (d.plan batch a n w s) (d.serve batch (first_given gs)) (shapes a n w s)))

left_has : {M A S : Type 0} (e : Evaluation M S) (d : Doing A S) (may : S → Bool) (batch : ℕ) (next : Behind S) (at : Spot M A S) (place : Place) (base spent : ℕ) (ahead : Ahead S)
    → CountsUnits d.run → ((a : A) (k : ℕ) (x : World) (t : S) → IsItemPlan may (d.fact a) (d.plan batch a k x t))
    → Left e d batch next at place base spent ahead → (bs : List Contents) (gs : List Given) → HasHead (next_number place at.begun) (ahead.parts bs gs)
left_has e d may batch next at First base spent ahead counts shapes left bs gs =
    let H : List Part → Type 0 = λ ps. HasHead (at.begun + 1) ps in
    let same : 1 ≡ at.begun + 1 = omega (arith, left.2) in
    let N : ℕ → Type 0 = λ n. HasHead n (items_parts d batch at.all 1 1 at.all gs at.world at.page (next bs)) in
    subst H (sym (left.3 bs gs)) (subst N same (items_has d may batch at.all 1 1 at.all gs at.world at.page (next bs) counts shapes))
left_has e d may batch next at Between base spent ahead counts shapes left bs gs =
    let H : List Part → Type 0 = λ ps. HasHead (at.begun + 1) ps in
    subst H (sym (left.3 bs gs)) (items_has d may batch at.all (at.begun + 1) base (drop at.begun at.all) gs at.world at.page (next bs) counts shapes)
left_has e d may batch next at Within base spent ahead counts shapes left bs gs =
    let H : List Part → Type 0 = λ ps. HasHead at.begun ps in
    subst H (sym (left.parts bs gs)) (items_has d may batch at.all at.begun base (left.item ∷ drop at.begun at.all) gs left.world left.page (next bs) counts shapes)
left_has e d may batch next at Idle base spent ahead counts shapes left bs gs = absurd left

same_head : (n m : ℕ) (xs : List Part) → HasHead n xs → HasHead m xs → n ≤ m
unfolding HasHead
same_head n m [] h g = absurd h
same_head n m (p ∷ ps) h g = omega (arith, h, g)

up_of : (start n b from s : ℕ) (xs qs rest : List Part) → xs ≡ qs ++ rest → HasHead start xs → AreGone b n from s qs → HasHead n rest → start ≤ n
unfolding HasHead
up_of start n b from s xs [] rest is head gone h = (let H : List Part → Type 0 = λ ps. HasHead start ps in same_head start n rest (subst H is head) h)
up_of start n b from s xs (q ∷ qs) rest is head gone h =
    let H : List Part → Type 0 = λ ps. HasHead start ps in
    let first : q.item ≡ start = subst H is head in
    omega (arith, first, gone.1)

-- A SLICE

ended_so : {M A S Roomed : Type 0} (e : Evaluation M S) (doing : ℕ → ℕ → Doing A S) (may : S → Bool) (at to : Spot M A S) (st : Stage) (service : Service) (calls : List Called) (slice : Slice) (old new : Made) (Replies : List Called → Type 0)
    (how : Ending) (busy : IsBusy e (doing st.seed st.time) may at st) (qs : List Part) (gs : List Given)
    → EndsSo (doing st.seed st.time) (length st.batches) to.all st.units busy.base (st.units + slice.units) busy.ahead qs gs how to.world to.page
    ⊎ LacksSo Roomed (length st.batches) st.units busy.base (st.units + slice.units) busy.ahead qs gs how to.world to.page
    → AreServed service calls slice old new Replies qs gs → 1 ≤ slice.units → Roomed → to.all ≡ at.all → to.place ≡ Idle
    → Resumed (meaning_of doing) st service calls slice old new (Finished (Some how)) (IsAt e doing may to) Replies
ended_so e doing may at to st service calls slice old new Replies how busy qs gs (inl ends) was some roomed same idle =
    resumed_ends e doing may at to st service calls slice old new Replies how busy qs gs ends was same idle
ended_so e doing may at to st service calls slice old new Replies how busy qs gs (inr lacks) was some roomed same idle =
    let d : Doing _ _ = doing st.seed st.time in
    let b : ℕ = length st.batches in
    resumed_lacks e doing may at to st service calls slice old new Replies how busy qs gs lacks was some
    (up_of (next_number at.place at.begun) lacks.number b st.units (st.units + slice.units) (busy.ahead.parts [] (gs ++ [])) qs (lacks.later.parts [] []) (lacks.gone.goes [] [])
    (left_has e d may b (behind_batch d b) at at.place busy.base st.units busy.ahead busy.stands.keeps.counts busy.stands.keeps.shapes busy.stands.left [] (gs ++ []))
    lacks.gone.gone (starts_head b lacks.number lacks.new_base (lacks.later.parts [] []) (lacks.starts [] []))) roomed idle

pub resumed : {M A S Roomed : Type 0} (e : Evaluation M S) (doing : ℕ → ℕ → Doing A S) (may : S → Bool) (at to : Spot M A S) (st : Stage) (service : Service) (calls : List Called) (slice : Slice) (old new : Made) (progress : Progress) (Replies : List Called → Type 0)
    (busy : IsBusy e (doing st.seed st.time) may at st)
    → Sliced Roomed e (doing st.seed st.time) may (length st.batches) (behind_batch (doing st.seed st.time) (length st.batches)) to st.units busy.base (st.units + slice.units) busy.ahead service calls slice old new progress Replies
    → 1 ≤ slice.units → Roomed → to.all ≡ at.all → StandsIdleSo progress to.place
    → Resumed (meaning_of doing) st service calls slice old new progress (IsAt e doing may to) Replies
resumed e doing may at to st service calls slice old new Busy Replies busy sliced some roomed same idle =
    let d : Doing _ _ = doing st.seed st.time in
    let b : ℕ = length st.batches in
    let comes : BusySo _ _ _ _ _ _ _ _ _ _ _ _ = sliced.comes in
    resumed_busy e doing may at to st service calls slice old new Replies busy sliced
    (up_of (next_number at.place at.begun) (next_number to.place to.begun) b st.units (st.units + slice.units) (busy.ahead.parts [] (sliced.gs ++ [])) sliced.ps (comes.later.parts [] []) (comes.gone.goes [] [])
    (left_has e d may b (behind_batch d b) at at.place busy.base st.units busy.ahead busy.stands.keeps.counts busy.stands.keeps.shapes busy.stands.left [] (sliced.gs ++ []))
    comes.gone.gone
    (left_has e d may b (behind_batch d b) to to.place comes.new_base (st.units + slice.units) comes.later comes.stands.keeps.counts comes.stands.keeps.shapes comes.stands.left [] [])) same
resumed e doing may at to st service calls slice old new (Finished None) Replies busy sliced some roomed same idle = resumed_done e doing may at to st service calls slice old new Replies busy sliced same idle
resumed e doing may at to st service calls slice old new (Finished (Some how)) Replies busy sliced some roomed same idle =
    ended_so e doing may at to st service calls slice old new Replies how busy sliced.ps sliced.gs sliced.comes sliced.served some roomed same idle
