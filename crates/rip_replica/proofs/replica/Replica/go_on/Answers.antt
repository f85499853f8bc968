use Rattle.std.proofs.Common.{rules, ◌≡◌, ℕ, ◌+◌, List, ◌++◌, Some, refl, ap, sym, subst, ◌∙◌}
use Rattle.rip_heap.specs.Growth.{Grows}
use Rattle.rip_heap.specs.World.{World}
use Rattle.rip_wire.specs.declared.ending.Ending.TheVariants.{Memory}
use Rattle.rip_eval_rows.specs.declared.close.Close.TheVariants.{Mismatch}
use Rattle.rip_history.specs.Parts.{Fact, Given, ends_at_mismatch, serves, serves_call}
use Rattle.rip_history.specs.Services.{Called, called_in}
use Rattle.rip_history.specs.declared.sessions.Progress.TheVariants.{Finished}
use Rattle.rip_replica.specs.Rooms.{IsCallAt}
use Rattle.rip_replica.specs.Serving.{IsServed, given_to}
use Rattle.rip_replica.specs.Standing.{Spot, Waits, spot}
use Rattle.rip_replica.proofs.SliceLemmas.{Went, came_busy, came_done, came_lacks, came_unserved, went_call, went_first, went_on}
use Rattle.rip_replica.proofs.ResumeLemmas.{at_last, ended, memory_at, within_number}
use Rattle.rip_replica.proofs.NumberLemmas.{either_idle, ended_idle}
use Rattle.rip_replica.proofs.RoomLemmas.{call_ended, call_here, ends_lives, lacks_lives, mismatch_told, rooms_served}
use Rattle.rip_replica.proofs.replica.Replica.go_on.Goals as goal

pub loop-units-init : goal.loop-units-init
loop-units-init g c = record {
  fits = c.requires;
  grows = search rules;
  number = refl;
  batch = refl;
  went = λ d next from base ahead service calls agrees stands replies.
      went_first (g.E.Evaluator.evaluation c.args.program.now) d g.I.Works.may_serve c.args.self.now.number next from base (from + c.args.slice.now.units) c.args.slice.now.units ahead service calls c.args.slice.now c.args.made.now
      (spot g.I.Items.item_plan g.I.Items.under_way c.args.self.now) (g.V.Service.replies_as c.args.service.now service) refl stands replies;
  page = λ number keeps serves. refl;
  rooms = λ roomed. roomed.rooms;
}

pub loop-units-preserved-in-On : goal.loop-units-preserved-in-On
loop-units-preserved-in-On g c =
    let e = g.E.Evaluator.evaluation c.args.program.now in
    let at = spot g.I.Items.item_plan g.I.Items.under_way c.loop-units.self in
    let to = spot g.I.Items.item_plan g.I.Items.under_way c.turn.new.self in
    record {
      fits = c.in-On.ensures.fits;
      grows = search (rules, c.loop-units.invariant.grows, c.in-On.ensures.grows);
      number = c.in-On.ensures.number ∙ c.loop-units.invariant.number;
      batch = c.in-On.ensures.batch ∙ c.loop-units.invariant.batch;
      went = λ d next from base ahead service calls agrees stands replies.
          (let went = c.loop-units.invariant.went d next from base ahead service calls agrees stands replies in
          went_on e d g.I.Works.may_serve c.args.self.now.number next from base (from + c.args.slice.now.units) ahead service calls c.args.slice.now c.args.made.now c.loop-units.made
          at to c.loop-units.left c.in-On.units (g.V.Service.replies_as c.loop-units.service service) went
          (c.in-On.ensures.turns d g.I.Works.may_serve c.args.self.now.number next from went.new_base went.spent went.later went.stands)
          c.in-On.ensures.onward.1);
      page = λ number keeps serves. c.in-On.ensures.page number keeps ∙ c.loop-units.invariant.page number keeps serves;
      rooms = λ roomed. (c.in-On.ensures.memory roomed.steps roomed.never (c.loop-units.invariant.rooms roomed)).0;
    }

pub returns-in-Busy-clause-slice : goal.returns-in-Busy-clause-slice
returns-in-Busy-clause-slice g c = λ d next from base ahead service calls agrees stands replies.
    let e = g.E.Evaluator.evaluation c.args.program.now in
    let at = spot g.I.Items.item_plan g.I.Items.under_way c.loop-units.self in
    let to = spot g.I.Items.item_plan g.I.Items.under_way c.turn.new.self in
    let went = c.loop-units.invariant.went d next from base ahead service calls agrees stands replies in
    came_busy e d g.I.Works.may_serve c.args.self.now.number next from base (from + c.args.slice.now.units) ahead service calls c.args.slice.now c.args.made.now c.loop-units.made
    at to c.loop-units.left (g.V.Service.replies_as c.loop-units.service service) went
    (c.in-Busy.ensures.turns d g.I.Works.may_serve c.args.self.now.number next from went.new_base went.spent went.later went.stands)
    c.in-Busy.ensures.onward.0 c.in-Busy.ensures.onward.1

pub returns-in-Done-clause-slice : goal.returns-in-Done-clause-slice
returns-in-Done-clause-slice g c = λ d next from base ahead service calls agrees stands replies.
    let e = g.E.Evaluator.evaluation c.args.program.now in
    let at = spot g.I.Items.item_plan g.I.Items.under_way c.loop-units.self in
    let to = spot g.I.Items.item_plan g.I.Items.under_way c.turn.new.self in
    let went = c.loop-units.invariant.went d next from base ahead service calls agrees stands replies in
    came_done e d g.I.Works.may_serve c.args.self.now.number next from base (from + c.args.slice.now.units) ahead service calls c.args.slice.now c.args.made.now c.loop-units.made
    at to c.loop-units.left (g.V.Service.replies_as c.loop-units.service service) went
    (c.in-Done.ensures.turns d g.I.Works.may_serve c.args.self.now.number next from went.new_base went.spent went.later went.stands)

pub returns-in-Ends-clause-slice : goal.returns-in-Ends-clause-slice
returns-in-Ends-clause-slice g c = λ d next from base ahead service calls agrees stands replies.
    let e = g.E.Evaluator.evaluation c.args.program.now in
    let at = spot g.I.Items.item_plan g.I.Items.under_way c.loop-units.self in
    let to = spot g.I.Items.item_plan g.I.Items.under_way c.turn.new.self in
    let last = spot g.I.Items.item_plan g.I.Items.under_way c.end.new.self in
    let went = c.loop-units.invariant.went d next from base ahead service calls agrees stands replies in
    let ends = c.in-Ends.ensures.turns d g.I.Works.may_serve c.args.self.now.number next from went.new_base went.spent went.later went.stands in
    let R = g.V.Service.replies_as c.loop-units.service service in
    ended e d g.I.Works.may_serve c.args.self.now.number next from base (from + c.args.slice.now.units) ahead service calls c.args.slice.now c.args.made.now c.loop-units.made
    at to last c.loop-units.left R c.in-Ends.close went g.I.Works.ending agrees.endings
    (ap (λ r. r.planner.batch.items) c.end.ensures.kept.0) c.end.ensures.kept.1 c.end.ensures.kept.2
    c.in-Ends.ensures.onward.0 c.in-Ends.ensures.onward.1 ends c.end.result
    (c.end.ensures.memory to.begun) (λ mismatch. mismatch_told d.ending to.all c.in-Ends.close to.page mismatch (λ k. ap (λ f. ends_at_mismatch (Some (f to.all (Mismatch k) to.page))) agrees.endings ∙ g.met.I.Works.differs to.all k to.page)) c.end.ensures.ends

pub returns-in-Lacks-clause-slice : goal.returns-in-Lacks-clause-slice
returns-in-Lacks-clause-slice g c = λ d next from base ahead service calls agrees stands replies.
    let e = g.E.Evaluator.evaluation c.args.program.now in
    let at = spot g.I.Items.item_plan g.I.Items.under_way c.loop-units.self in
    let to = spot g.I.Items.item_plan g.I.Items.under_way c.turn.new.self in
    let last = spot g.I.Items.item_plan g.I.Items.under_way c.lack.new.self in
    let went = c.loop-units.invariant.went d next from base ahead service calls agrees stands replies in
    let R = g.V.Service.replies_as c.loop-units.service service in
    memory_at e d g.I.Works.may_serve c.args.self.now.number next from base (from + c.args.slice.now.units) ahead service calls c.args.slice.now c.args.made.now c.loop-units.made
    to last R c.lack.result (Memory c.turn.new.self.runner.planner.begun)
    (ap (λ r. r.planner.batch.items) c.lack.ensures.kept.0) c.lack.ensures.kept.1 c.lack.ensures.kept.2 c.lack.ensures.lacks
    (came_lacks e d g.I.Works.may_serve c.args.self.now.number next from base (from + c.args.slice.now.units) ahead service calls c.args.slice.now c.args.made.now c.loop-units.made
    at to c.loop-units.left R went c.in-Lacks.ensures.onward.0 c.in-Lacks.ensures.onward.1
    (c.in-Lacks.ensures.turns d g.I.Works.may_serve c.args.self.now.number next from went.new_base went.spent went.later went.stands)
    (λ roomed. (c.in-Lacks.ensures.memory roomed.steps roomed.never (c.loop-units.invariant.rooms roomed)).1))

pub loop-units-preserved : goal.loop-units-preserved
loop-units-preserved g c =
    let e = g.E.Evaluator.evaluation c.args.program.now in
    let ip = g.I.Items.item_plan in
    let under = g.I.Items.under_way in
    let at = spot ip under c.loop-units.self in
    let turned = c.turn.new.self in
    let to = spot ip under turned in
    let last = c.serve.new.self in
    let G : World → Type 0 = λ w. Grows c.args.self.now.heap w in
    record {
      fits = c.in-Ok.ensures.fits;
      grows = subst G (sym c.in-Ok.ensures.kept.1) (search (rules, c.loop-units.invariant.grows, c.in-Calls.ensures.grows));
      number = c.in-Ok.ensures.kept.2 ∙ c.in-Calls.ensures.number ∙ c.loop-units.invariant.number;
      batch = ap (λ r. r.planner.batch) c.in-Ok.ensures.kept.0 ∙ c.in-Calls.ensures.batch ∙ c.loop-units.invariant.batch;
      went = λ d next from base ahead service calls agrees stands replies.
          (let b : ℕ = c.args.self.now.number in
          let limit : ℕ = from + c.args.slice.now.units in
          let went = c.loop-units.invariant.went d next from base ahead service calls agrees stands replies in
          let waits : Waits e d g.I.Works.may_serve b next to from went.new_base went.spent c.loop-units.left c.in-Calls.units went.later =
          c.in-Calls.ensures.turns d g.I.Works.may_serve b next from went.new_base went.spent went.later went.stands in
          let before : List Called = calls ++ called_in went.ps in
          let given : Given = given_to service before c.args.slice.now.time waits.name waits.args in
          let fact : g.I.Works.fact waits.item ≡ serves waits.number waits.name waits.args = sym (ap (λ f. f waits.item) agrees.facts) ∙ waits.fact in
          let number : turned.number ≡ b = c.in-Calls.ensures.number ∙ c.loop-units.invariant.number in
          let R = g.V.Service.replies_as c.serve.new.service service in
          let B : ℕ → Type 0 = λ k. IsServed c.args.slice.now k waits.number waits.name waits.args given before c.loop-units.made c.serve.new.made R in
          let page : last.host ≡ d.serve b given turned.host =
          c.in-Ok.ensures.host service before waits.item waits.number waits.name waits.args waits.is fact waits.may_serve went.served.replies
          ∙ ap (λ k. g.I.Works.served k given turned.host) number
          ∙ ap (λ f. f b given turned.host) (sym agrees.serving) in
          let W : Spot _ _ _ → Type 0 = λ p. Went e d g.I.Works.may_serve b next from base limit ahead service calls c.args.slice.now c.args.made.now p c.in-Calls.units c.serve.new.made R in
          at_last W ip under last.runner turned.runner last.place last.heap turned.heap last.host (d.serve b given turned.host)
          c.in-Ok.ensures.kept.0 c.in-Ok.ensures.place c.in-Ok.ensures.kept.1 page
          (went_call e d g.I.Works.may_serve b next from base limit ahead service calls c.args.slice.now c.args.made.now c.loop-units.made c.serve.new.made
          at to c.loop-units.left c.in-Calls.units (g.V.Service.replies_as c.loop-units.service service) R went waits
          (within_number c.loop-units.self.place c.loop-units.self.runner.planner.begun turned.runner.planner.begun c.in-Calls.ensures.onward.0 c.in-Calls.ensures.onward.2)
          (subst B number (c.in-Ok.ensures.served service before waits.item waits.number waits.name waits.args waits.is fact waits.may_serve went.served.replies))));
      page = λ number keeps serves. c.in-Ok.ensures.page number serves ∙ c.in-Calls.ensures.page number keeps ∙ c.loop-units.invariant.page number keeps serves;
      rooms = λ roomed.
          rooms_served e g.E.Evaluator.has_room (λ p. g.I.Items.room p.items) g.I.Items.need turned.runner last.runner turned.host last.host
          c.in-Ok.ensures.kept.0 (c.in-Ok.ensures.page g.I.Items.need roomed.served)
          (c.in-Calls.ensures.memory roomed.steps roomed.never (c.loop-units.invariant.rooms roomed)).0;
    }

pub returns-in-Err-clause-slice : goal.returns-in-Err-clause-slice
returns-in-Err-clause-slice g c = λ d next from base ahead service calls agrees stands replies.
    let e = g.E.Evaluator.evaluation c.args.program.now in
    let at = spot g.I.Items.item_plan g.I.Items.under_way c.loop-units.self in
    let to = spot g.I.Items.item_plan g.I.Items.under_way c.turn.new.self in
    let last = spot g.I.Items.item_plan g.I.Items.under_way c.lack-in-Err.new.self in
    let limit : ℕ = from + c.args.slice.now.units in
    let went = c.loop-units.invariant.went d next from base ahead service calls agrees stands replies in
    let before : List Called = calls ++ called_in went.ps in
    let R = g.V.Service.replies_as c.serve.new.service service in
    memory_at e d g.I.Works.may_serve c.args.self.now.number next from base limit ahead service calls c.args.slice.now c.args.made.now c.serve.new.made
    to last R c.lack-in-Err.result (Memory c.turn.new.self.runner.planner.begun)
    (ap (λ r. r.planner.batch.items) (c.lack-in-Err.ensures.kept.0 ∙ c.in-Err.ensures.kept.0))
    (c.lack-in-Err.ensures.kept.1 ∙ c.in-Err.ensures.kept.1) (c.lack-in-Err.ensures.kept.2 ∙ c.in-Err.ensures.memory)
    (c.lack-in-Err.ensures.lacks ∙ ap (λ r. Finished (Some (Memory r.planner.begun))) c.in-Err.ensures.kept.0)
    (came_unserved e d g.I.Works.may_serve c.args.self.now.number next from base limit ahead service calls c.args.slice.now c.args.made.now c.loop-units.made c.serve.new.made
    at to c.loop-units.left c.in-Calls.units (g.V.Service.replies_as c.loop-units.service service) R went c.in-Calls.ensures.onward.0 c.in-Calls.ensures.onward.2
    (c.in-Calls.ensures.turns d g.I.Works.may_serve c.args.self.now.number next from went.new_base went.spent went.later went.stands)
    (c.in-Err.ensures.unserved service before went.served.replies))

pub returns-in-Busy-clause-page : goal.returns-in-Busy-clause-page
returns-in-Busy-clause-page g c = λ number keeps serves. c.in-Busy.ensures.page number keeps ∙ c.loop-units.invariant.page number keeps serves

pub returns-in-Done-clause-page : goal.returns-in-Done-clause-page
returns-in-Done-clause-page g c = λ number keeps serves. c.in-Done.ensures.page number keeps ∙ c.loop-units.invariant.page number keeps serves

pub returns-in-Ends-clause-memory : goal.returns-in-Ends-clause-memory
returns-in-Ends-clause-memory g c = λ d next from base ahead service calls agrees stands replies roomed item is.
    let went = c.loop-units.invariant.went d next from base ahead service calls agrees stands replies in
    let ends = c.in-Ends.ensures.turns d g.I.Works.may_serve c.args.self.now.number next from went.new_base went.spent went.later went.stands in
    let mismatch = c.end.ensures.memory item is in
    let F : (_ → Fact) → Type 0 = λ f. IsCallAt f c.turn.new.self.runner.planner.batch.items c.turn.new.self.runner.planner.begun in
    call_ended g.I.Works.fact c.turn.new.self.runner c.end.new.self.runner c.end.result (g.I.Works.ending c.turn.new.self.runner.planner.batch.items c.in-Ends.close c.turn.new.self.host)
    item c.end.ensures.kept.0 c.end.ensures.ends is (mismatch_told g.I.Works.ending c.turn.new.self.runner.planner.batch.items c.in-Ends.close c.turn.new.self.host mismatch
    (λ k. g.met.I.Works.differs c.turn.new.self.runner.planner.batch.items k c.turn.new.self.host))
    (subst F agrees.facts (ends.4 mismatch))

pub returns-in-Lacks-clause-memory : goal.returns-in-Lacks-clause-memory
returns-in-Lacks-clause-memory g c = λ d next from base ahead service calls agrees stands replies roomed item is.
    absurd ((c.in-Lacks.ensures.memory roomed.steps roomed.never (c.loop-units.invariant.rooms roomed)).1)

pub returns-in-Err-clause-memory : goal.returns-in-Err-clause-memory
returns-in-Err-clause-memory g c = λ d next from base ahead service calls agrees stands replies roomed item is.
    let went = c.loop-units.invariant.went d next from base ahead service calls agrees stands replies in
    let waits : Waits _ d g.I.Works.may_serve c.args.self.now.number next _ from went.new_base went.spent c.loop-units.left c.in-Calls.units went.later =
    c.in-Calls.ensures.turns d g.I.Works.may_serve c.args.self.now.number next from went.new_base went.spent went.later went.stands in
    let F : (_ → Fact) → Type 0 = λ f. IsCallAt f c.turn.new.self.runner.planner.batch.items c.turn.new.self.runner.planner.begun in
    call_here g.I.Works.fact c.turn.new.self.runner c.lack-in-Err.new.self.runner c.lack-in-Err.result item (c.lack-in-Err.ensures.kept.0 ∙ c.in-Err.ensures.kept.0)
    (c.lack-in-Err.ensures.lacks ∙ ap (λ r. Finished (Some (Memory r.planner.begun))) c.in-Err.ensures.kept.0) is
    (subst F agrees.facts (waits.one, waits.item, waits.is, ap serves_call waits.fact))

pub returns-in-Busy-clause-rooms : goal.returns-in-Busy-clause-rooms
returns-in-Busy-clause-rooms g c = λ roomed.
    (c.in-Busy.ensures.memory roomed.steps roomed.never (c.loop-units.invariant.rooms roomed)).0

pub returns-in-Done-clause-rooms : goal.returns-in-Done-clause-rooms
returns-in-Done-clause-rooms g c = λ roomed.
    (c.in-Done.ensures.memory roomed.steps roomed.never (c.loop-units.invariant.rooms roomed)).0

pub returns-in-Ends-clause-rooms : goal.returns-in-Ends-clause-rooms
returns-in-Ends-clause-rooms g c = λ roomed. ends_lives _ c.end.result _ _ c.end.ensures.ends

pub returns-in-Lacks-clause-rooms : goal.returns-in-Lacks-clause-rooms
returns-in-Lacks-clause-rooms g c = λ roomed. lacks_lives _ c.lack.result _ c.lack.ensures.lacks

pub returns-in-Err-clause-rooms : goal.returns-in-Err-clause-rooms
returns-in-Err-clause-rooms g c = λ roomed. lacks_lives _ c.lack-in-Err.result _ c.lack-in-Err.ensures.lacks

pub returns-in-Ends-clause-idle : goal.returns-in-Ends-clause-idle
returns-in-Ends-clause-idle g c =
    either_idle c.end.result (g.I.Works.ending c.turn.new.self.runner.planner.batch.items c.in-Ends.close c.turn.new.self.host) (Memory c.turn.new.self.runner.planner.begun) c.end.new.self.place
    c.end.ensures.ends (c.end.ensures.place c.in-Ends.ensures.idle)

pub returns-in-Lacks-clause-idle : goal.returns-in-Lacks-clause-idle
returns-in-Lacks-clause-idle g c = ended_idle c.lack.result (Memory c.turn.new.self.runner.planner.begun) c.lack.new.self.place c.lack.ensures.lacks c.lack.ensures.place

pub returns-in-Err-clause-idle : goal.returns-in-Err-clause-idle
returns-in-Err-clause-idle g c =
    ended_idle c.lack-in-Err.result (Memory c.serve.new.self.runner.planner.begun) c.lack-in-Err.new.self.place c.lack-in-Err.ensures.lacks c.lack-in-Err.ensures.place
