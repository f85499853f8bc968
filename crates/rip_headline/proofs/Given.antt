-- Items as they are played with the replies of a service, and with what comes of them.
use Rattle.std.proofs.Common.{◌≡◌, ℕ, ◌+◌, ◌-◌, min, List, [], ◌∷◌, ◌++◌, refl, sym, ap, subst, ◌∙◌}
use Rattle.rip_heap.specs.World.{World}
use Rattle.rip_eval_rows.specs.declared.close.Close.{Close}
use Rattle.rip_eval_rows.specs.declared.close.Close.TheVariants.{Fine, Refused, Mismatch, Stopped}
use Rattle.rip_eval_rows.specs.Evaluation.{Reached, Passes, Breaks, Pauses}
use Rattle.rip_eval_rows.specs.Plan.{IsPlain, Plan, Over, Takes, Awaits, Runs}
use Rattle.rip_eval_rows.specs.Started.{Started}
use Rattle.rip_replica.specs.Play.{Closes, Holds, after_run, play}
use Rattle.rip_replica.specs.Play.{Played as Outcomes}
use Rattle.rip_wire.specs.Items.{Reported, event, call, reply}
use Rattle.rip_history.specs.Parts.{Fact, passes, serves, Given}
use Rattle.rip_history.specs.Services.{Called, Service}
use Rattle.rip_replica.specs.Parts.{Doing, first_given, whole_item}
use Rattle.rip_client.specs.Wholes.{calls_behind, given_for}
use Rattle.rip_client.specs.declared.actor.Over.{Over as Outcome}
use Rattle.rip_law_replica.specs.Truthful.{IsAny, IsFineOrStopped, IsLegal, IsPlayed, Seat, given_after, given_in_turn}
use Rattle.rip_drive.specs.Driving.{replies_at_once}
use Rattle.rip_headline.specs.Driven.{call_in, replies_of}

-- ---- what waits for nothing comes out alike, whatever is given

closes_with : {S : Type 0} (close c : Close) (x y z : List (S → S)) (f u g v : ℕ) (w o : World) (s r : S)
    → ◌≡◌ {A = Outcomes S} (Closes close x f u w s) (Closes c y g v o r) → ◌≡◌ {A = Outcomes S} (Closes close z f u w s) (Closes c z g v o r)
closes_with close c x y z f u g v w o s r e = cc

holds_not : {S : Type 0} (depth : ℕ) (c : Close) (y : List (S → S)) (g v : ℕ) (w o : World) (s r : S) → ◌≡◌ {A = Outcomes S} (Holds depth w s) (Closes c y g v o r) → ⊥
holds_not depth c y g v w o s r e = cc

run_any : {S : Type 0} (item : ℕ) (reached : Reached S) (gs hs x : List (S → S)) (fuel u : ℕ) (f g : ℕ → ℕ → World → S → Outcomes S) (close : Close) (left units : ℕ) (o : World) (r : S)
    → ((e v : ℕ) (w : World) (s : S) → f e v w s ≡ Closes close x left units o r → g e v w s ≡ Closes close hs left units o r)
    → after_run item reached gs fuel u f ≡ Closes close x left units o r → after_run item reached hs fuel u g ≡ Closes close hs left units o r
run_any item (Passes v w s) gs hs x fuel u f g close left units o r h is = h (fuel - min u fuel + v) (u - min u fuel + v) w s is
run_any item (Breaks stop v w s) gs hs x fuel u f g close left units o r h is =
    closes_with (Stopped item stop) close gs x hs (fuel - min u fuel + v) (u - min u fuel + v) left units w o s r is
run_any item (Pauses depth w s) gs hs x fuel u f g close left units o r h is = absurd (holds_not depth close x left units w o s r is)

pub plain_any : {S : Type 0} (run : Started → World → S → ℕ → ℕ → Reached S) (full : ℕ) (plan : Plan S) (gs hs x : List (S → S)) (fuel u : ℕ) (close : Close) (left units : ℕ) (o : World) (r : S)
    → IsPlain plan → play run full plan gs fuel u ≡ Closes close x left units o r → play run full plan hs fuel u ≡ Closes close hs left units o r
plain_any run full (Over c w s) gs hs x fuel u close left units o r plain is = closes_with c close gs x hs fuel u left units w o s r is
plain_any run full (Takes w s plan) gs hs x fuel u close left units o r plain is = absurd plain
plain_any run full (Awaits w s on) gs hs x fuel u close left units o r plain is = absurd plain
plain_any run full (Runs item start w s on) gs hs x fuel u close left units o r plain is =
    run_any item (run start w s fuel u) gs hs x fuel u (λ e v y q. play run full (on y q) gs e v) (λ e v y q. play run full (on y q) hs e v) close left units o r
    (λ e v y q h. plain_any run full (on y q) gs hs x e v close left units o r (plain y q) h) is

-- ---- what is asked of items

-- what an item comes to
abbrev pub fact_in : Reported → Fact
fact_in (event kind node text place) = passes
fact_in (call number name args) = serves number name args
fact_in (reply number) = passes

-- items come to what they report, by plans of that shape
pub record AreTasks {A S : Type 0} (d : Doing A S) (task : Reported → A) : Type 0 where
  pub facts : (item : Reported) → d.fact (task item) ≡ fact_in item
  pub opening : d.fact d.opening ≡ passes
  pub plain : (item : Reported) (batch n : ℕ) (w : World) (s : S) → fact_in item ≡ passes → IsPlain (d.plan batch (task item) n w s)
  pub opens : IsPlain (d.plan 0 d.opening 1 d.world d.page)

-- ---- an item

passes_after : (close : Close) (gs : List Given) → given_after passes close gs ≡ gs
passes_after Fine gs = refl
passes_after (Refused item kind) gs = refl
passes_after (Mismatch item) gs = refl
passes_after (Stopped item stop) gs = refl

abbrev pub Played : {A S : Type 0} → Doing A S → (Reported → A) → Service → Reported → Seat S → Seat S → List Called → List Called → Outcome → Type 0
Played d task service item a b calls behind over = IsPlayed d task (replies_at_once service) IsAny item a calls over b behind

-- an item that was played with the replies of a service is played with what is given to it and to what comes behind it
abbrev pub Comes : {A S : Type 0} → Doing A S → (Reported → A) → Service → Reported → Seat S → Seat S → List Called → List Called → Outcome → List Called → Type 0
Comes d task service item a b calls behind over rest =
    (l : List Given) × IsPlayed d task given_in_turn IsLegal item a (replies_of service calls (call_in item ++ rest)) over b l × (over.close ≡ Fine → l ≡ replies_of service behind rest)

-- one that reports no call
passes_back : {A S : Type 0} (d : Doing A S) (task : Reported → A) (service : Service) (item : Reported) (a b : Seat S) (calls behind : List Called) (over : Outcome) (gs : List Given)
    → d.fact (task item) ≡ passes → IsPlain (d.plan a.batch (task item) (a.count + 1) a.world a.page) → IsLegal item over.close
    → Played d task service item a b calls behind over → IsPlayed d task given_in_turn IsLegal item a gs over b gs × (behind ≡ calls)
passes_back {A} {S} d task service item a b calls behind over gs fact plain legal t = (
  record {
    is = record {
      gs = d.serve a.batch (first_given gs) ∷ [];
      fuel = t.is.fuel;
      left = t.is.left;
      is = plain_any d.run d.full (d.plan a.batch (task item) (a.count + 1) a.world a.page) (d.serve a.batch (first_given []) ∷ []) (d.serve a.batch (first_given gs) ∷ []) t.is.gs d.full d.full
          over.close t.is.fuel t.is.left b.world b.page plain
          (subst (λ f. whole_item d a.batch (task item) (a.count + 1) a.world a.page (given_for service calls 0 f) ≡ Closes over.close t.is.gs t.is.fuel t.is.left b.world b.page) fact t.is.is);
      took = t.is.took;
    };
    batch = t.batch;
    count = t.count;
    given = sym (passes_after over.close gs) ∙ ap (λ f. given_after f over.close gs) (sym fact);
    legal = legal;
  },
  t.given ∙ ap (λ f. calls_behind f over.close calls) fact,
)

fine_behind : (number : ℕ) (name : List ℕ) (args : _) (close : Close) (calls : List Called) → close ≡ Fine → calls_behind (serves number name args) close calls ≡ calls ++ (name, args) ∷ []
fine_behind number name args close calls e = ap (λ c. calls_behind (serves number name args) c calls) e

-- one that reports a call
call_back : {A S : Type 0} (d : Doing A S) (task : Reported → A) (service : Service) (number : ℕ) (name : List ℕ) (args : _) (a b : Seat S) (calls behind : List Called) (over : Outcome) (rest : List Called)
    → d.fact (task (call number name args)) ≡ serves number name args
    → Played d task service (call number name args) a b calls behind over → Comes d task service (call number name args) a b calls behind over rest
call_back {A} {S} d task service number name args a b calls behind over rest fact t = (
  given_after (serves number name args) over.close gs,
  record {
    is = record {
      gs = t.is.gs;
      fuel = t.is.fuel;
      left = t.is.left;
      is = subst (λ f. whole_item d a.batch (task (call number name args)) (a.count + 1) a.world a.page (given_for service calls 0 f) ≡ Closes over.close t.is.gs t.is.fuel t.is.left b.world b.page) fact t.is.is;
      took = t.is.took;
    };
    batch = t.batch;
    count = t.count;
    given = ap (λ f. given_after f over.close gs) (sym fact);
    legal = tt;
  },
  λ fine. ap (λ c. given_after (serves number name args) c gs) fine ∙ ap (λ cs. replies_of service cs rest) (sym (called ∙ fine_behind number name args over.close calls fine)),
)
  where
    gs : List Given
    gs = replies_of service calls ((name, args) ∷ rest)

    called : behind ≡ calls_behind (serves number name args) over.close calls
    called = t.given ∙ ap (λ f. calls_behind f over.close calls) fact

pub item_back : {A S : Type 0} (d : Doing A S) (task : Reported → A) (service : Service) (item : Reported) (a b : Seat S) (calls behind : List Called) (over : Outcome) (rest : List Called)
    → AreTasks d task → IsFineOrStopped over.close → Played d task service item a b calls behind over → Comes d task service item a b calls behind over rest
item_back d task service (event kind node text place) a b calls behind over rest are legal t =
    let item = event kind node text place in
    let gs = replies_of service calls rest in
    let there = passes_back d task service item a b calls behind over gs (are.facts item) (are.plain item a.batch (a.count + 1) a.world a.page refl) legal t in
    (gs, there.0, λ fine. ap (λ cs. replies_of service cs rest) (sym there.1))
item_back d task service (call number name args) a b calls behind over rest are legal t =
    call_back d task service number name args a b calls behind over rest (are.facts (call number name args)) t
item_back d task service (reply number) a b calls behind over rest are legal t =
    let gs = replies_of service calls rest in
    let there = passes_back d task service (reply number) a b calls behind over gs (are.facts (reply number)) (are.plain (reply number) a.batch (a.count + 1) a.world a.page refl) tt t in
    (gs, there.0, λ fine. ap (λ cs. replies_of service cs rest) (sym there.1))
