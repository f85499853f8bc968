-- Items that report calls, by what they are.
use Rattle.std.proofs.Common.{◌≡◌, ℕ, true, false, List, None, Some, refl, ap, ◌∙◌}
use Rattle.std.proofs.lemmas.Option.{none-some, same_Some}
use Rattle.rip_calls.specs.Calls.{number_at}
use Rattle.rip_heap.specs.World.{World}
use Rattle.rip_wire.specs.Batches.{Contents}
use Rattle.rip_wire.specs.Calls.{call_text}
use Rattle.rip_wire.specs.Items.{event, call, reply}
use Rattle.rip_eval_rows.specs.Plan.{Plan}
use Rattle.rip_replica.specs.Items.{call_plan}
use Rattle.rip_history.specs.Parts.{Fact, Given, serves_call}
use Rattle.rip_host.specs.declared.browser.Browser.{Browser}
use Rattle.rip_browser.specs.Positions.{tells}
use Rattle.rip_browser.specs.Visits.{browser_rules}
use Rattle.rip_replica.specs.Parts.{Doing}
use Rattle.rip_law_replica.specs.Prefix.{ReportsBy, ServesPrefix}
use Rattle.rip_law_replica.proofs.PrefixLemmas.{served_are_made}
use Rattle.rip_session.specs.Plans.{work_plan}
use Rattle.rip_session.specs.Tasks.{Task, opens, reports, fact_of}
use Rattle.rip_law_served.specs.Served.{call_of}

none_served : (a : Task) → call_of a ≡ None → serves_call (fact_of a) ≡ false
none_served (opens start) e = refl
none_served (reports (event kind node text place)) e = refl
none_served (reports (call number name args)) e = absurd (let f : Some (number_at number, call_text name args) ≡ None = e in cc)
none_served (reports (reply number)) e = refl

call_served : (a : Task) (c : ℕ × List ℕ) → call_of a ≡ Some c → serves_call (fact_of a) ≡ true
call_served (opens start) c e = absurd (none-some c e)
call_served (reports (event kind node text place)) c e = absurd (none-some c e)
call_served (reports (call number name args)) c e = refl
call_served (reports (reply number)) c e = absurd (none-some c e)

call_planned : (a : Task) (c : ℕ × List ℕ) → call_of a ≡ Some c → (batch n : ℕ) (w : World) (s : Browser) → work_plan batch a n w s ≡ call_plan n (browser_rules.position s c.0 c.1) w s
call_planned (opens start) c e batch n w s = absurd (none-some c e)
call_planned (reports (event kind node text place)) c e batch n w s = absurd (none-some c e)
call_planned (reports (call number name args)) c e batch n w s =
    ap (λ (x : ℕ × List ℕ). call_plan n (browser_rules.position s x.0 x.1) w s) (same_Some (number_at number, call_text name args) c e)
call_planned (reports (reply number)) c e batch n w s = absurd (none-some c e)

pub reports_by : (d : Doing Task Browser) → d.plan ≡ work_plan → d.fact ≡ fact_of → ReportsBy browser_rules d call_of
reports_by d plan fact = record {
  none = λ a e. ap (λ (f : Task → Fact). serves_call (f a)) fact ∙ none_served a e;
  some = λ a c e. ap (λ (f : Task → Fact). serves_call (f a)) fact ∙ call_served a c e;
  plan = λ a c e batch n w s. ap (λ (p : ℕ → Task → ℕ → World → Browser → Plan Browser). p batch a n w s) plan ∙ call_planned a c e batch n w s;
}

pub sessions_serve : (d : Doing Task Browser) → d.plan ≡ work_plan → d.fact ≡ fact_of → (bs : List Contents) (gs : List Given) → ServesPrefix browser_rules d call_of bs gs
sessions_serve d plan fact bs gs = served_are_made browser_rules d call_of tells (reports_by d plan fact) bs gs
