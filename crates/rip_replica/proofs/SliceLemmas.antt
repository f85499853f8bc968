-- A slice, turn by turn.
use Rattle.std.proofs.Common.{◌≡◌, ℕ, ◌+◌, ◌-◌, ◌<◌, ◌≤◌, ◌==◌, Bool, true, List, [], ◌∷◌, ◌++◌, drop, length, map, None, Some, inl, inr, if◌then◌else◌, refl, ap, sym, subst, ◌∙◌, arith, append-nil, append_assoc}
use Rattle.rip_wire.specs.Answers.{served_of}
use Rattle.rip_wire.specs.Batches.{Contents}
use Rattle.rip_wire.specs.declared.ending.Ending.TheVariants.{Memory}
use Rattle.rip_log.specs.Entries.{recorded_of}
use Rattle.rip_eval_rows.specs.declared.close.Close.{Close}
use Rattle.rip_eval_rows.specs.Evaluation.{Evaluation}
use Rattle.rip_history.specs.Parts.{finishes, serves, Part, Given, ends_at_mismatch, served_count}
use Rattle.rip_history.specs.Parts as parts
use Rattle.rip_history.specs.Services.{Called, Service, called_in}
use Rattle.rip_history.specs.declared.sessions.Made.{Made}
use Rattle.rip_history.specs.declared.sessions.Progress.TheVariants.{Busy, Finished}
use Rattle.rip_history.specs.declared.sessions.Slice.{Slice}
use Rattle.rip_replica.specs.declared.replica.Place.{Place}
use Rattle.rip_replica.specs.declared.replica.Place.TheVariants.{Between, Within}
use Rattle.rip_replica.specs.declared.replica.Turn.TheVariants as turn
use Rattle.rip_replica.specs.Parts.{Doing, items_parts, part_of, stand_at}
use Rattle.rip_replica.specs.Rooms.{HeadsCall, IsMismatch}
use Rattle.rip_replica.specs.Serving.{IsServed, IsUnserved, given_to}
use Rattle.rip_replica.specs.Slices.{AreServed, HasGone, LacksSo, Sliced}
use Rattle.rip_replica.specs.Standing.{Ahead, AreGone, Behind, CostsMore, Further, IsCut, Spot, Stands, StartsItem, Turns, Waits, next_number}
use Rattle.rip_replica.proofs.ServedParts.{served_call, served_quiet}
use Rattle.rip_replica.proofs.TurnLemmas.{items_cost}
use Rattle.rip_replica.proofs.WithinLemmas.{closed_as, if_same}

-- PARTS THAT ARE BEHIND

gone_up : (b n m from s t : ℕ) (ps : List Part) → n ≤ m → s ≤ t → AreGone b n from s ps → AreGone b m from t ps
gone_up b n m from s t [] up on h = tt
gone_up b n m from s t (p ∷ ps) up on h = (h.0, omega (arith, h.1, up), h.2, h.3, omega (arith, h.4, on), gone_up b n m from s t ps up on h.5)

gone_append : (b n from s : ℕ) (ps qs : List Part) → AreGone b n from s ps → AreGone b n from s qs → AreGone b n from s (ps ++ qs)
gone_append b n from s [] qs h g = g
gone_append b n from s (p ∷ ps) qs h g = (h.0, h.1, h.2, h.3, h.4, gone_append b n from s ps qs h.5 g)

spent_append : (b : ℕ) (ps qs : List Part) (base : ℕ) → parts.spent b (ps ++ qs) base ≡ parts.spent b qs (parts.spent b ps base)
spent_append b [] qs base = refl
spent_append b (p ∷ ps) qs base = spent_append b ps qs (if p.batch == b then p.cost else base)

has_on : {S : Type 0} (b n m from base limit s : ℕ) (first middle last : Ahead S) (base1 base2 : ℕ) (ps qs : List Part) (gs hs : List Given)
    → HasGone b n from base limit first middle base1 ps gs → ((bs : List Contents) (more : List Given) → middle.parts bs (hs ++ more) ≡ qs ++ last.parts bs more)
    → ((more : List Given) (k : ℕ) → middle.behind (hs ++ more) k ≡ last.behind more k)
    → AreGone b m from s qs → n ≤ m → s ≤ limit → parts.spent b qs base1 ≡ base2 → HasGone b m from base limit first last base2 (ps ++ qs) (gs ++ hs)
has_on b n m from base limit s first middle last base1 base2 ps qs gs hs has comes behind gone up on based = record {
  goes = λ bs more. ap (λ xs. first.parts bs xs) (append_assoc gs hs more) ∙ has.goes bs (hs ++ more) ∙ ap (λ xs. ps ++ xs) (comes bs more) ∙ sym (append_assoc ps qs (last.parts bs more));
  behind = λ more k. ap (λ xs. first.behind xs k) (append_assoc gs hs more) ∙ has.behind (hs ++ more) k ∙ behind more k;
  gone = gone_append b m from limit ps qs (gone_up b n m from limit limit ps up (omega arith) has.gone) (gone_up b m m from s limit qs (omega arith) on gone);
  based = spent_append b ps qs base ∙ ap (λ u. parts.spent b qs u) has.based ∙ based;
}

has_none : {S : Type 0} (b n m from base limit : ℕ) (first last : Ahead S) (base1 : ℕ) (ps : List Part) (gs : List Given) → n ≤ m → HasGone b n from base limit first last base1 ps gs → HasGone b m from base limit first last base1 ps gs
has_none b n m from base limit first last base1 ps gs up has = record { goes = has.goes; behind = has.behind; gone = gone_up b n m from limit limit ps up (omega arith) has.gone; based = has.based }

has_as : {S : Type 0} (b n from base limit : ℕ) (first middle last : Ahead S) (base1 : ℕ) (ps : List Part) (gs : List Given) → ((bs : List Contents) (more : List Given) → middle.parts bs more ≡ last.parts bs more)
    → ((more : List Given) (k : ℕ) → middle.behind more k ≡ last.behind more k)
    → HasGone b n from base limit first middle base1 ps gs → HasGone b n from base limit first last base1 ps gs
has_as b n from base limit first middle last base1 ps gs same behind has = record { goes = λ bs more. has.goes bs more ∙ ap (λ xs. ps ++ xs) (same bs more); behind = λ more k. has.behind more k ∙ behind more k; gone = has.gone; based = has.based }

-- IN THE MIDDLE OF A SLICE

pub record Went {M A S : Type 0} (e : Evaluation M S) (d : Doing A S) (may : S → Bool) (b : ℕ) (next : Behind S) (from base limit : ℕ) (first : Ahead S) (service : Service) (calls : List Called) (slice : Slice) (old : Made)
    (at : Spot M A S) (left : ℕ) (made : Made) (Replies : List Called → Type 0) : Type 0 where
  pub ps : List Part
  pub gs : List Given
  pub later : Ahead S
  pub new_base : ℕ
  pub spent : ℕ
  pub gone : HasGone b (next_number at.place at.begun) from base limit first later new_base ps gs
  pub stands : Stands e d may b next at from new_base spent later
  pub count : spent + left ≡ limit
  pub served : AreServed service calls slice old made Replies ps gs

pub went_first : {M A S : Type 0} (e : Evaluation M S) (d : Doing A S) (may : S → Bool) (b : ℕ) (next : Behind S) (from base limit n : ℕ) (first : Ahead S) (service : Service) (calls : List Called) (slice : Slice) (made : Made)
    (at : Spot M A S) (Replies : List Called → Type 0) → from + n ≡ limit → Stands e d may b next at from base from first → Replies calls → Went e d may b next from base limit first service calls slice made at n made Replies
went_first e d may b next from base limit n first service calls slice made at Replies all stands replies = record {
  ps = [];
  gs = [];
  later = first;
  new_base = base;
  spent = from;
  gone = record { goes = λ bs more. refl; behind = λ more k. refl; gone = tt; based = refl };
  stands = stands;
  count = all;
  served = record {
    replied = refl;
    replies = subst Replies (sym (append-nil calls)) replies;
    entries = sym (append-nil (map recorded_of made.entries.items));
    served = sym (append-nil (map served_of made.served.items));
    each = refl;
  };
}

pub went_on : {M A S : Type 0} (e : Evaluation M S) (d : Doing A S) (may : S → Bool) (b : ℕ) (next : Behind S) (from base limit : ℕ) (first : Ahead S) (service : Service) (calls : List Called) (slice : Slice) (old made : Made)
    (at to : Spot M A S) (left u : ℕ) (Replies : List Called → Type 0) (went : Went e d may b next from base limit first service calls slice old at left made Replies)
    → Further e d may b next to from went.new_base went.spent left u went.later → next_number at.place at.begun ≤ next_number to.place to.begun
    → Went e d may b next from base limit first service calls slice old to u made Replies
went_on e d may b next from base limit first service calls slice old made at to left u Replies went further up =
    let H : List Given → Type 0 = λ hs. HasGone b (next_number to.place to.begun) from base limit first further.later further.new_base (went.ps ++ further.passed) hs in
    record {
      ps = went.ps ++ further.passed;
      gs = went.gs;
      later = further.later;
      new_base = further.new_base;
      spent = further.units;
      gone = subst H (append-nil went.gs)
          (has_on b (next_number at.place at.begun) (next_number to.place to.begun) from base limit further.units first went.later further.later went.new_base further.new_base went.ps further.passed went.gs []
          went.gone further.comes (λ more k. sym (further.same more k)) further.each up (omega (arith, further.count, went.count)) further.based);
      stands = further.stands;
      count = further.count ∙ went.count;
      served = served_quiet service calls slice old made Replies went.ps further.passed went.gs further.quiet went.served;
    }

-- the session after the call at hand was served and given this
abbrev pub served_spot : {M A S : Type 0} → Doing A S → ℕ → Given → Spot M A S → Spot M A S
served_spot d b g at = record { going = at.going; item_plan = at.item_plan; all = at.all; begun = at.begun; place = Between; world = at.world; page = d.serve b g at.page }

pub went_call : {M A S : Type 0} (e : Evaluation M S) (d : Doing A S) (may : S → Bool) (b : ℕ) (next : Behind S) (from base limit : ℕ) (first : Ahead S) (service : Service) (calls : List Called) (slice : Slice) (old made new : Made)
    (at to : Spot M A S) (left u : ℕ) (Before Replies : List Called → Type 0) (went : Went e d may b next from base limit first service calls slice old at left made Before)
    (waits : Waits e d may b next to from went.new_base went.spent left u went.later) → next_number at.place at.begun ≤ to.begun + 1
    → IsServed slice b waits.number waits.name waits.args (given_to service (calls ++ called_in went.ps) slice.time waits.name waits.args) (calls ++ called_in went.ps) made new Replies
    → Went e d may b next from base limit first service calls slice old (served_spot d b (given_to service (calls ++ called_in went.ps) slice.time waits.name waits.args) to) u new Replies
went_call e d may b next from base limit first service calls slice old made new at to left u Before Replies went waits up served =
    let g : Given = given_to service (calls ++ called_in went.ps) slice.time waits.name waits.args in
    let c : ℕ = went.new_base + 1 in
    let p : Part = part_of b to.begun c (serves waits.number waits.name waits.args) in
    let later : Ahead _ = record {
      parts = λ bs gs. items_parts d b to.all (to.begun + 1) c (drop to.begun to.all) gs to.world (d.serve b g to.page) (next bs);
      behind = λ gs k. went.later.behind (g ∷ gs) k;
    } in
    let above : from < c = omega (arith, waits.from_base) in
    record {
      ps = went.ps ++ p ∷ [];
      gs = went.gs ++ g ∷ [];
      later = later;
      new_base = c;
      spent = c;
      gone = has_on b (next_number at.place at.begun) (to.begun + 1) from base limit c first went.later later went.new_base c went.ps (p ∷ []) went.gs (g ∷ [])
          went.gone (λ bs more. waits.goes bs g more) (λ more k. refl) (refl, omega arith, refl, above, omega arith, tt) up (omega (arith, waits.count, went.count)) (if_same b c went.new_base);
      stands = record {
        keeps = record { run = waits.keeps.run; full = waits.keeps.full; plan = waits.keeps.plan; counts = waits.keeps.counts; shapes = waits.keeps.shapes; still = waits.keeps.still };
        left = (refl, omega arith, waits.few, λ bs gs. refl, λ gs. waits.behind g gs);
        more = λ bs gs. items_cost d b to.all (to.begun + 1) c (drop to.begun to.all) gs to.world (d.serve b g to.page) (next bs) from above;
        follows = λ k a gs before is behind. waits.follows k a (g ∷ gs) before is behind;
      };
      count = waits.count ∙ went.count;
      served = served_call service calls slice old made new Before Replies went.ps went.gs p waits.number waits.name waits.args refl served went.served;
    }

-- THE END OF A SLICE

pub came_busy : {M A S Roomed : Type 0} (e : Evaluation M S) (d : Doing A S) (may : S → Bool) (b : ℕ) (next : Behind S) (from base limit : ℕ) (first : Ahead S) (service : Service) (calls : List Called) (slice : Slice) (old made : Made)
    (at to : Spot M A S) (left : ℕ) (Replies : List Called → Type 0) (went : Went e d may b next from base limit first service calls slice old at left made Replies)
    → Turns e d may b next to from went.new_base went.spent left went.later turn.Busy → to.place ≡ at.place → to.begun ≡ at.begun
    → Sliced Roomed e d may b next to from base limit first service calls slice old made Busy Replies
came_busy e d may b next from base limit first service calls slice old made at to left Replies went busy place begun =
    let U : ℕ → Type 0 = λ u. IsCut e d b next to to.place went.new_base u went.later in
    let P : Place → Type 0 = λ p. HasGone b (next_number p to.begun) from base limit first went.later went.new_base went.ps went.gs in
    let B : ℕ → Type 0 = λ k. HasGone b (next_number at.place k) from base limit first went.later went.new_base went.ps went.gs in
    let T : ℕ → Type 0 = λ u. Stands e d may b next to u went.new_base u went.later in
    record {
      ps = went.ps;
      gs = went.gs;
      comes = record {
        later = went.later;
        new_base = went.new_base;
        gone = subst P (sym place) (subst B (sym begun) went.gone);
        stands = subst T went.count busy.0;
        cut = subst U went.count busy.1;
      };
      served = went.served;
    }

pub came_done : {M A S Roomed : Type 0} (e : Evaluation M S) (d : Doing A S) (may : S → Bool) (b : ℕ) (next : Behind S) (from base limit : ℕ) (first : Ahead S) (service : Service) (calls : List Called) (slice : Slice) (old made : Made)
    (at to : Spot M A S) (left : ℕ) (Replies : List Called → Type 0) (went : Went e d may b next from base limit first service calls slice old at left made Replies)
    → Turns e d may b next to from went.new_base went.spent left went.later turn.Done
    → Sliced Roomed e d may b next to from base limit first service calls slice old made (Finished None) Replies
came_done e d may b next from base limit first service calls slice old made at to left Replies went done =
    let C : List Part → Type 0 = λ ps. CostsMore from ps in
    let above : from < went.new_base = subst C (done.3 [] []) (went.stands.more [] []) in
    record {
      ps = went.ps;
      gs = went.gs;
      comes = record {
        number = next_number at.place at.begun;
        item = done.0;
        cost = went.new_base;
        within = omega (arith, done.1, went.count);
        above = above;
        keeps = done.2;
        new_base = went.new_base;
        gone = has_as b (next_number at.place at.begun) from base limit first went.later (record { parts = λ bs hs. part_of b done.0 went.new_base (finishes None) ∷ next bs hs to.world to.page; behind = λ hs k. first.behind (went.gs ++ hs) k }) went.new_base went.ps went.gs done.3 (λ more k. sym (went.gone.behind more k)) went.gone;
        behind = λ hs. went.gone.behind hs (length to.all) ∙ done.4 hs;
      };
      served = went.served;
    }

-- the parts behind are of items below the one under way
under_way : {S : Type 0} (b from base limit : ℕ) (first later : Ahead S) (new-base : ℕ) (ps : List Part) (gs : List Given) (place : Place) (begun number : ℕ) → place ≡ Within → number ≡ begun
    → HasGone b (next_number place begun) from base limit first later new-base ps gs → HasGone b number from base limit first later new-base ps gs
under_way b from base limit first later new-base ps gs place begun number is same has =
    let P : Place → Type 0 = λ p. HasGone b (next_number p begun) from base limit first later new-base ps gs in
    let N : ℕ → Type 0 = λ n. HasGone b n from base limit first later new-base ps gs in
    subst N (sym same) (subst P is has)

pub came_ends : {M A S Roomed : Type 0} (e : Evaluation M S) (d : Doing A S) (may : S → Bool) (b : ℕ) (next : Behind S) (from base limit : ℕ) (first : Ahead S) (service : Service) (calls : List Called) (slice : Slice) (old made : Made)
    (at to : Spot M A S) (left : ℕ) (Replies : List Called → Type 0) (close : Close) (went : Went e d may b next from base limit first service calls slice old at left made Replies)
    → Turns e d may b next to from went.new_base went.spent left went.later (turn.Ends close)
    → Sliced Roomed e d may b next to from base limit first service calls slice old made (Finished (Some (d.ending to.all close to.page))) Replies
came_ends e d may b next from base limit first service calls slice old made at to left Replies close went ends =
    let C : List Part → Type 0 = λ ps. CostsMore from ps in
    let above : from < ends.0 = subst C (ends.3 [] []) (went.stands.more [] []) in
    record {
      ps = went.ps;
      gs = went.gs;
      comes = inl (record {
        number = next_number at.place at.begun;
        item = to.begun;
        cost = ends.0;
        within = omega (arith, ends.1, went.count);
        above = above;
        new_base = went.new_base;
        gone = has_as b (next_number at.place at.begun) from base limit first went.later (record { parts = λ bs hs. part_of b to.begun ends.0 (finishes (Some (d.ending to.all close to.page))) ∷ []; behind = λ hs k. first.behind (went.gs ++ hs) k }) went.new_base went.ps went.gs ends.3 (λ more k. sym (went.gone.behind more k)) went.gone;
        close = close;
        told = refl;
        closed = closed_as d b to.all to.all to.begun went.new_base ends.0 close went.later.behind (λ hs k. first.behind (went.gs ++ hs) k) to.world to.page refl went.gone.behind ends.5;
      });
      served = went.served;
    }

-- memory is wanting
short : {M A S Roomed : Type 0} (e : Evaluation M S) (d : Doing A S) (may : S → Bool) (b : ℕ) (next : Behind S) (from base limit : ℕ) (first : Ahead S) (service : Service) (calls : List Called) (slice : Slice) (old made : Made)
    (at to : Spot M A S) (left : ℕ) (Replies : List Called → Type 0) (went : Went e d may b next from base limit first service calls slice old at left made Replies)
    → at.place ≡ Within → to.begun ≡ at.begun → went.new_base < limit → ((bs : List Contents) (hs : List Given) → StartsItem b to.begun went.new_base (went.later.parts bs hs))
    → (Roomed → (bs : List Contents) (hs : List Given) → HeadsCall (went.later.parts bs hs))
    → (Roomed → (hs : List Given) → went.later.behind hs (to.begun - 1) ≡ Some (stand_at went.new_base hs to.world to.page))
    → LacksSo Roomed b from base limit first went.ps went.gs (Memory to.begun) to.world to.page
short e d may b next from base limit first service calls slice old made at to left Replies went within same taken starts call stays = record {
  number = to.begun;
  is = refl;
  later = went.later;
  new_base = went.new_base;
  taken = taken;
  gone = under_way b from base limit first went.later went.new_base went.ps went.gs at.place at.begun to.begun within same went.gone;
  starts = starts;
  call = call;
  stays = λ h hs. went.gone.behind hs (to.begun - 1) ∙ stays h hs;
  more = went.stands.more;
}

pub came_lacks : {M A S Roomed : Type 0} (e : Evaluation M S) (d : Doing A S) (may : S → Bool) (b : ℕ) (next : Behind S) (from base limit : ℕ) (first : Ahead S) (service : Service) (calls : List Called) (slice : Slice) (old made : Made)
    (at to : Spot M A S) (left : ℕ) (Replies : List Called → Type 0) (went : Went e d may b next from base limit first service calls slice old at left made Replies)
    → at.place ≡ Within → to.begun ≡ at.begun → Turns e d may b next to from went.new_base went.spent left went.later turn.Lacks → (Roomed → ⊥)
    → Sliced Roomed e d may b next to from base limit first service calls slice old made (Finished (Some (Memory to.begun))) Replies
came_lacks e d may b next from base limit first service calls slice old made at to left Replies went within same lacks never = record {
  ps = went.ps;
  gs = went.gs;
  comes = inr (short e d may b next from base limit first service calls slice old made at to left Replies went within same (omega (arith, lacks.0, went.count)) lacks.1 (λ h. absurd (never h)) (λ h. absurd (never h)));
  served = went.served;
}

pub came_short : {M A S Roomed : Type 0} (e : Evaluation M S) (d : Doing A S) (may : S → Bool) (b : ℕ) (next : Behind S) (from base limit : ℕ) (first : Ahead S) (service : Service) (calls : List Called) (slice : Slice) (old made : Made)
    (at to : Spot M A S) (left : ℕ) (Replies : List Called → Type 0) (close : Close) (went : Went e d may b next from base limit first service calls slice old at left made Replies)
    → at.place ≡ Within → to.begun ≡ at.begun → Turns e d may b next to from went.new_base went.spent left went.later (turn.Ends close)
    → ends_at_mismatch (Some (d.ending to.all close to.page)) ≡ true → IsMismatch close
    → Sliced Roomed e d may b next to from base limit first service calls slice old made (Finished (Some (Memory to.begun))) Replies
came_short e d may b next from base limit first service calls slice old made at to left Replies close went within same ends tells mismatch =
    let start : (bs : List Contents) (hs : List Given) → StartsItem b to.begun went.new_base (went.later.parts bs hs) = λ bs hs.
    (let T : List Part → Type 0 = λ ps. StartsItem b to.begun went.new_base ps in subst T (sym (ends.3 bs hs)) (refl, refl, ends.2)) in
    record {
      ps = went.ps;
      gs = went.gs;
      comes = inr (short e d may b next from base limit first service calls slice old made at to left Replies went within same (omega (arith, ends.1, ends.2, went.count)) start (λ h bs hs. subst HeadsCall (sym (ends.3 bs hs)) tells) (λ h. ends.6 mismatch));
      served = went.served;
    }

pub came_unserved : {M A S Roomed : Type 0} (e : Evaluation M S) (d : Doing A S) (may : S → Bool) (b : ℕ) (next : Behind S) (from base limit : ℕ) (first : Ahead S) (service : Service) (calls : List Called) (slice : Slice) (old made new : Made)
    (at to : Spot M A S) (left u : ℕ) (Before Replies : List Called → Type 0) (went : Went e d may b next from base limit first service calls slice old at left made Before)
    → at.place ≡ Within → to.begun ≡ at.begun → Turns e d may b next to from went.new_base went.spent left went.later (turn.Calls u)
    → IsUnserved (calls ++ called_in went.ps) made new Replies
    → Sliced Roomed e d may b next to from base limit first service calls slice old new (Finished (Some (Memory to.begun))) Replies
came_unserved e d may b next from base limit first service calls slice old made new at to left u Before Replies went within same waits unserved = record {
  ps = went.ps;
  gs = went.gs;
  comes = inr (short e d may b next from base limit first service calls slice old made at to left Before went within same (omega (arith, waits.count, went.count)) waits.starts (λ h. waits.tells) (λ h. waits.stays));
  served = record {
    replied = went.served.replied;
    replies = unserved.replies;
    entries = unserved.entries ∙ went.served.entries;
    served = unserved.served ∙ went.served.served;
    each = went.served.each;
  };
}
