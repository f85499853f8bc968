-- How a session of an application goes, as it goes on paper.
use Rattle.std.proofs.Common.{◌≡◌, ℕ, ◌+◌, List, [], ◌∷◌, ◌++◌, length, map, refl, sym, ap, subst, ◌∙◌, arith}
use Rattle.std.specs.Prelude.{Err, IfOk, Ok, Result, Some, slice_get}
use Rattle.std.proofs.lemmas.List.{length-append}
use Rattle.rip_base.specs.declared.memory.NoMemory.{NoMemory}
use Rattle.rip_app.specs.App.{Loaded}
use Rattle.rip_heap.specs.World.{World}
use Rattle.rip_host.specs.Answers.{answers}
use Rattle.rip_host.specs.declared.browser.Browser.{Browser}
use Rattle.rip_machine.specs.Law.{Standing}
use Rattle.rip_machine.specs.Plans.{evaluation}
use Rattle.rip_tree.specs.Program.{Code}
use Rattle.rip_history.specs.Parts.{Fact}
use Rattle.rip_history.specs.Services.{Called, RepliesAs, Service}
use Rattle.rip_replica.specs.Parts.{Doing}
use Rattle.rip_session.specs.Application.{runs_of}
use Rattle.rip_session.specs.Kept.{GoesWith}
use Rattle.rip_wire.specs.Batches.{IsBatch}
use Rattle.rip_wire.specs.declared.item.Item.{Item}
use Rattle.rip_store.specs.declared.store.Store.{Store}
use Rattle.rip_wire.specs.Items.{IsItem, Reported, reported_of}
use Rattle.rip_session.specs.Plans.{work_plan}
use Rattle.rip_session.specs.Serving.{served}
use Rattle.rip_session.specs.Tasks.{Task, fact_of, reports}
use Rattle.rip_session.specs.declared.work.items.PageItems.{PageItems}
use Rattle.rip_client.specs.Wholes.{IsDoing, IsWhole, calls_behind, given_for}
use Rattle.rip_client.specs.declared.whole.play.Over.{Over as Outcome}
use Rattle.rip_law_served.specs.Honest.{next_in}
use Rattle.rip_drive.specs.Actors.{Does, IsBegun, IsOpened, OpensPage, Replicas, Sits, page_session, seat_of}
use Rattle.rip_law_replica.specs.Truthful.{IsAny, IsPlayed}
use Rattle.rip_drive.specs.Driving.{driven, replies_at_once}
use Rattle.rip_drive.specs.declared.page_actor.PageActor.{PageActor}
use Rattle.rip_drive.proofs.Simulation.{Follows}

-- ---- a batch

-- a session that turned to a batch
pub record Turned (n : ℕ) (r q : Replicas) : Type 0 where
  pub plans : work_plan q.runner.planner.items.batches.batch ≡ work_plan n
  pub items : q.runner.planner.batch.items ≡ []
  pub begun : q.runner.planner.begun ≡ 0
  pub number : q.number ≡ n
  pub evaluator : q.runner.evaluator ≡ r.runner.evaluator
  pub full : q.runner.full ≡ r.runner.full
  pub world : q.heap ≡ r.heap
  pub page : q.host ≡ r.host

pub turned_so : (app : Loaded) (n : ℕ) (r q : Replicas) → Turned n r q → (d : Doing Task Browser) → Sits app d r → Sits app d q × (seat_of q ≡ record (seat_of r) { batch = n; count = 0 })
unfolding Does
turned_so app n r q t d sits = (
  record {
    does = record {
      runs = sits.does.runs ∙ ap (λ (m : Standing). (runs_of app).run m) (sym t.evaluator);
      fuel = sits.does.fuel ∙ sym t.full;
      plans_are = sits.does.plans_are;
      facts = sits.does.facts;
      serving = sits.does.serving;
    };
    plans = t.plans ∙ ap work_plan (sym t.number);
    begun = t.begun ∙ sym (ap length t.items);
  },
  λ i. record { world = t.world i; page = t.page i; batch = t.number i; count = t.begun i },
)

-- ---- an item

-- a session whose batch has an item more
pub record Put (item : Task) (r q : Replicas) : Type 0 where
  pub batch : q.runner.planner.batch.items ≡ r.runner.planner.batch.items ++ item ∷ []
  pub items : q.runner.planner.items ≡ r.runner.planner.items
  pub begun : q.runner.planner.begun ≡ r.runner.planner.begun
  pub number : q.number ≡ r.number
  pub evaluator : q.runner.evaluator ≡ r.runner.evaluator
  pub full : q.runner.full ≡ r.runner.full
  pub world : q.heap ≡ r.heap
  pub page : q.host ≡ r.host

-- a session that played the next item
pub record PlayedNext (code : Code) (r : Replicas) (g : Store) (over : Outcome) (q : Replicas) (h : Store) : Type 0 where
  pub batch : q.runner.planner.batch.items ≡ r.runner.planner.batch.items
  pub number : q.number ≡ r.number
  pub begun : q.runner.planner.begun ≡ r.runner.planner.begun + 1
  pub runs : (evaluation answers code).run q.runner.evaluator ≡ (evaluation answers code).run r.runner.evaluator
  pub full : q.runner.full ≡ r.runner.full
  pub plans : work_plan q.runner.planner.items.batches.batch ≡ work_plan r.runner.planner.items.batches.batch
  pub whole : (d : Doing Task Browser) (service : Service) (calls : List Called) (item : Task)
      → IsDoing d ((evaluation answers code).run r.runner.evaluator) r.runner.full work_plan fact_of served
      → work_plan r.runner.planner.items.batches.batch ≡ work_plan r.number
      → slice_get r.runner.planner.batch.items r.runner.planner.begun ≡ Some item
      → RepliesAs g service calls
      → IsWhole d r.number item (r.runner.planner.begun + 1) r.heap r.host (given_for service calls 0 (fact_of item)) over q.heap q.host
      × RepliesAs h service (calls_behind (fact_of item) over.close calls)

-- this is done by it then
does_next : (app : Loaded) (code : Code) (d : Doing Task Browser) (r q : Replicas) (g h : Store) (over : Outcome) → code ≡ app.program → Does app d r → PlayedNext code r g over q h → Does app d q
unfolding Does
does_next app code d r q g h over e does p =
    let runs = subst (λ (c : Code). (evaluation answers c).run q.runner.evaluator ≡ (evaluation answers c).run r.runner.evaluator) e p.runs in
    record {
      runs = does.runs ∙ sym runs;
      fuel = does.fuel ∙ sym p.full;
      plans_are = does.plans_are;
      facts = does.facts;
      serving = does.serving;
    }

-- and before, by the code of the application
does_code : (app : Loaded) (code : Code) (d : Doing Task Browser) (r : Replicas) → code ≡ app.program → Does app d r → IsDoing d ((evaluation answers code).run r.runner.evaluator) r.runner.full work_plan fact_of served
unfolding Does
does_code app code d r e does =
    subst (λ (c : Code). IsDoing d ((evaluation answers c).run r.runner.evaluator) r.runner.full work_plan fact_of served) (sym e) does

-- the item of the opening
pub opened : (app : Loaded) (code : Code) (d : Doing Task Browser) (service : Service) (r q : Replicas) (g h : Store) (over : Outcome) → code ≡ app.program → IsBegun app d r → PlayedNext code r g over q h → RepliesAs g service [] → IsOpened app d over q h service
opened app code d service r q g h over e is p replies =
    let first = ap (λ n. slice_get r.runner.planner.batch.items n) is.begun ∙ ap (λ xs. slice_get xs 0) is.batch in
    let there = p.whole d service [] d.opening (does_code app code d r e is.does) is.plans first replies in
    let given : Fact → _ = λ f. given_for service [] 0 f in
    let number = subst (λ n. IsWhole d n d.opening (r.runner.planner.begun + 1) r.heap r.host (given (fact_of d.opening)) over q.heap q.host) is.number there.0 in
    let begun = subst (λ n. IsWhole d 0 d.opening (n + 1) r.heap r.host (given (fact_of d.opening)) over q.heap q.host) is.begun number in
    let world = subst (λ (w : World). IsWhole d 0 d.opening 1 w r.host (given (fact_of d.opening)) over q.heap q.host) is.world begun in
    let page = subst (λ (s : Browser). IsWhole d 0 d.opening 1 d.world s (given (fact_of d.opening)) over q.heap q.host) is.page world in
    record {
      opens = subst (λ (f : Fact). IsWhole d 0 d.opening 1 d.world d.page (given f) over q.heap q.host) is.opening page;
      sits = record {
        does = does_next app code d r q g h over e is.does p;
        plans = p.plans ∙ is.plans ∙ ap work_plan (sym p.number);
        begun = p.begun ∙ ap (λ n. n + 1) is.begun ∙ sym (ap length (p.batch ∙ is.batch));
      };
      number = p.number ∙ is.number;
      begun = p.begun ∙ ap (λ n. n + 1) is.begun;
      replies = subst (λ (f : Fact). RepliesAs h service (calls_behind f over.close [])) is.opening there.1;
    }

-- however it came out
pub opened_so : (app : Loaded) (code : Code) (r q : Replicas) (g h : Store) (result : Result Outcome NoMemory) → code ≡ app.program
    → q.runner.planner.batch ≡ r.runner.planner.batch → q.number ≡ r.number → q.runner.full ≡ r.runner.full
    → (evaluation answers code).run q.runner.evaluator ≡ (evaluation answers code).run r.runner.evaluator
    → work_plan q.runner.planner.items.batches.batch ≡ work_plan r.runner.planner.items.batches.batch
    → IfOk result (λ _. q.runner.planner.begun ≡ r.runner.planner.begun + 1)
    → ((d : Doing Task Browser) (service : Service) (calls : List Called) (item : Task)
    → IsDoing d ((evaluation answers code).run r.runner.evaluator) r.runner.full work_plan fact_of served
    → work_plan r.runner.planner.items.batches.batch ≡ work_plan r.number
    → slice_get r.runner.planner.batch.items r.runner.planner.begun ≡ Some item
    → RepliesAs g service calls
    → IfOk result (λ over. IsWhole d r.number item (r.runner.planner.begun + 1) r.heap r.host (given_for service calls 0 (fact_of item)) over q.heap q.host
    × RepliesAs h service (calls_behind (fact_of item) over.close calls)))
    → (d : Doing Task Browser) (service : Service) → IsBegun app d r → RepliesAs g service [] → IfOk result (λ over. IsOpened app d over q h service)
opened_so app code r q g h (Ok over) e batch number full runs plans begun whole d service is replies =
    opened app code d service r q g h over e is (record { batch = ap (λ v. v.items) batch; number = number; begun = begun; runs = runs; full = full; plans = plans; whole = whole }) replies
opened_so app code r q g h (Err none) e batch number full runs plans begun whole d service is replies = tt

last_of : {A : Type 0} (xs : List A) (x : A) → slice_get (xs ++ x ∷ []) (length xs) ≡ Some x
last_of [] x = refl
last_of (y ∷ xs) x = last_of xs x

-- an item of a batch
pub played_so : (app : Loaded) (code : Code) (item : Reported) (o r q : Replicas) (g h : Store) (over : Outcome) → code ≡ app.program → Put (reports item) o r → PlayedNext code r g over q h
    → (d : Doing Task Browser) (service : Service) (calls : List Called) → Sits app d o → RepliesAs g service calls
    → (behind : List Called) × IsPlayed d reports (replies_at_once service) IsAny item (seat_of o) calls (record { close = over.close; fuel = over.fuel }) (seat_of q) behind × Sits app d q × RepliesAs h service behind
unfolding Does
played_so app code item o r q g h over e put p d service calls sits replies =
    let does : Does app d r = record {
      runs = sits.does.runs ∙ ap (λ (m : Standing). (runs_of app).run m) (sym put.evaluator);
      fuel = sits.does.fuel ∙ sym put.full;
      plans_are = sits.does.plans_are;
      facts = sits.does.facts;
      serving = sits.does.serving;
    } in
    let plans = ap (λ (i : PageItems). work_plan i.batches.batch) put.items ∙ sits.plans ∙ ap work_plan (sym put.number) in
    let next = ap (λ n. slice_get r.runner.planner.batch.items n) (put.begun ∙ sits.begun) ∙ ap (λ xs. slice_get xs (length o.runner.planner.batch.items)) put.batch ∙ last_of o.runner.planner.batch.items (reports item) in
    let there = p.whole d service calls (reports item) (does_code app code d r e does) plans next replies in
    let given : (Task → Fact) → _ = λ f. given_for service calls 0 (f (reports item)) in
    let number = subst (λ n. IsWhole d n (reports item) (r.runner.planner.begun + 1) r.heap r.host (given fact_of) over q.heap q.host) put.number there.0 in
    let begun = subst (λ n. IsWhole d o.number (reports item) (n + 1) r.heap r.host (given fact_of) over q.heap q.host) put.begun number in
    let world = subst (λ (w : World). IsWhole d o.number (reports item) (o.runner.planner.begun + 1) w r.host (given fact_of) over q.heap q.host) put.world begun in
    let page = subst (λ (s : Browser). IsWhole d o.number (reports item) (o.runner.planner.begun + 1) o.heap s (given fact_of) over q.heap q.host) put.page world in (
      calls_behind (fact_of (reports item)) over.close calls,
      record {
        is = subst (λ (f : Task → Fact). IsWhole d o.number (reports item) (o.runner.planner.begun + 1) o.heap o.host (given f) over q.heap q.host) (sym sits.does.facts) page;
        batch = p.number ∙ put.number;
        count = p.begun ∙ ap (λ n. n + 1) put.begun;
        given = ap (λ (f : Task → Fact). calls_behind (f (reports item)) over.close calls) (sym sits.does.facts);
        legal = tt;
      },
      record {
        does = does_next app code d r q g h over e does p;
        plans = p.plans ∙ plans ∙ ap work_plan (sym p.number);
        begun = p.begun ∙ ap (λ n. n + 1) (put.begun ∙ sits.begun) ∙ sym (ap length (p.batch ∙ put.batch) ∙ length-append o.runner.planner.batch.items (reports item ∷ []));
      },
      there.1,
    )

-- ---- a session

-- it does as a session that is driven
pub follows : (d : Doing Task Browser) (service : Service) → Follows page_session (driven d reports next_in service) (λ (a : PageActor). seat_of a.session.replica)
    (λ (a : PageActor) (g : Store) (calls : List Called). Sits a.app d a.session.replica × RepliesAs g service calls)
unfolding page_session
follows d service = record {
  turns = λ n a b g calls turned stands. let there = turned d stands.0 in (there.1, (there.0, stands.1));
  plays = λ item a g over b h calls played stands. let there = played d service calls stands.0 stands.1 in (there.0, there.1, (there.2, there.3));
  next = λ a. refl;
}

-- ---- a browser and its heap

pub goes_same : (s t : Browser) (w x : World) → GoesWith s w → t ≡ s → x ≡ w → GoesWith t x
goes_same s t w x goes e f = subst (λ (b : Browser). GoesWith b x) (sym e) (subst (λ (h : World). GoesWith s h) (sym f) goes)

-- ---- a batch of one item

pub one_batch : (items : List Item) (item : Item) → items ≡ item ∷ [] → IsItem (reported_of item) → IsBatch (record { number = 1; items = map reported_of items })
one_batch items item e is =
    subst (λ (xs : List Item). IsBatch (record { number = 1; items = map reported_of xs })) (sym e) (record { from_one = omega arith; bounded = omega arith; few = omega arith; items = (is, tt) })

-- ---- its opening

-- it was played so, whatever is done and whatever service replies
pub opened_always : (a b : PageActor) (g h : Store) (r : Result Outcome NoMemory)
    → ((d : Doing Task Browser) (service : Service) → IsBegun a.app d a.session.replica → RepliesAs g service [] → IfOk r (λ over. IsOpened b.app d over b.session.replica h service))
    → IfOk r (λ over. OpensPage a g over b h)
opened_always a b g h (Ok over) is = is
opened_always a b g h (Err why) is = tt
