-- Runs whose turns are enough come to their end.
use Rattle.std.proofs.Common.{◌≡◌, ℕ, ◌+◌, ◌*◌, ◌≤◌, ◌<◌, List, length, Option, Some, refl, subst, arith, mul-le-mul_right}
use Rattle.std.proofs.lemmas.Option.{same_Some}
use Rattle.rip_outer.specs.declared.connections.TraceKnock.{TraceKnock}
use Rattle.rip_history.specs.Parts.{IsLawful}
use Rattle.rip_history.specs.Run.{Site, first_state, Coming}
use Rattle.rip_history.specs.Runs.{AreTurns, GoOn, StopsWith, over, spent}
use Rattle.rip_law_server.specs.Ending.{BatchesCost, slices, turns_enough, knocks_in, requests_in}
use Rattle.rip_law_server.proofs.Turns.{runs_come_to_end}
use Rattle.rip_law_server.proofs.Waiting.{bound_opens, opens_bound}
use Rattle.rip_serve.specs.Serving.{AreKnocks, Serves}
use Rattle.rip_serve.specs.declared.serving.Stop.{Stop}
use Rattle.rip_session.specs.Lawful.{app_is_lawful}
use Rattle.rip_serve.specs.Sites.{site_of_app}
use Rattle.rip_headline.specs.Enough.{AreEnough, ApplicationsEndInTime, RunsEndInTime, batch_cost}
use Rattle.rip_headline.proofs.Costs.{applications_cost}
use Rattle.rip_headline.proofs.Knocks.{are_first}

fewer-enough : (most k knocks r requests : ℕ) → k ≤ knocks → r ≤ requests → k + 1 + r * most ≤ knocks + 1 + requests * most
fewer-enough most k knocks r requests le few = omega (arith, le, mul-le-mul_right most few)

-- a run that is not over has made fewer turns than are enough
goes-short : (site : Site) (cost most : ℕ) (ts : List Coming) (knocks : List TraceKnock) (left : Option (List TraceKnock)) → IsLawful site.meaning → BatchesCost site.meaning cost
    → AreKnocks site 1 first_state ts (Some knocks) left → AreEnough cost knocks most → AreTurns site 1 first_state ts → GoOn site 1 first_state ts → length ts < most
goes-short site cost most ts knocks left lawful costs come (requests, asked, enough) are on =
    let first = are_first site 1 first_state ts knocks left come in
    let few : requests_in ts ≤ requests = opens_bound site ts requests are (first.opens 0 requests (bound_opens requests knocks asked)) in
    let short : length ts < turns_enough cost (knocks_in ts) (requests_in ts) = runs_come_to_end site cost ts lawful costs are on in
    let le : turns_enough cost (knocks_in ts) (requests_in ts) ≤ turns_enough cost (length knocks) requests =
    fewer-enough (slices cost) (knocks_in ts) (length knocks) (requests_in ts) requests first.count few in
    omega (arith, short, le, enough)

stops-over : (site : Site) (cost most status : ℕ) (ts : List Coming) (knocks : List TraceKnock) (left : Option (List TraceKnock)) → IsLawful site.meaning → BatchesCost site.meaning cost
    → AreKnocks site 1 first_state ts (Some knocks) left → AreEnough cost knocks most → AreTurns site 1 first_state ts
    → StopsWith site (Some most) ts status → status ≡ 0
stops-over site cost most status ts knocks left lawful costs come enough are (over ends few) = refl
stops-over site cost most status ts knocks left lawful costs come enough are (spent on is) =
    let same : most ≡ length ts = same_Some most (length ts) is in
    absurd (omega (arith, same, goes-short site cost most ts knocks left lawful costs come enough are on))

pub runs_end_in_time : RunsEndInTime
runs_end_in_time site cost most status ts acts knocks left lawful costs come enough run =
    stops-over site cost most status ts knocks left lawful costs come enough run.turns run.stops

pub applications_end_in_time : ApplicationsEndInTime
applications_end_in_time app most how old new knocks there enough serves is =
    let ran = subst (λ (h : Stop). Serves (site_of_app app) most h old new) is serves.serves in
    let run = ran.0 in
    let come : AreKnocks (site_of_app app) 1 first_state run.turns (Some knocks) new.seen.telling.left =
    subst (λ (o : Option (List TraceKnock)). AreKnocks (site_of_app app) 1 first_state run.turns o new.seen.telling.left) there (let t = run.tells in t.knocks) in
    let zero : 3 ≡ 0 =
    runs_end_in_time (site_of_app app) (batch_cost app.manifest.limits.fuel) most 3 run.turns run.acts knocks new.seen.telling.left
    (app_is_lawful app) (applications_cost app) come enough run.run in
    omega (arith, zero)
