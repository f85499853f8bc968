-- The browser counts the served calls.
use Rattle.std.proofs.Common.{◌≡◌, ℕ, List, [], ◌∷◌, Some, None, refl, sym, ap, subst, ◌∙◌}
use Rattle.rip_calls.specs.Calls.{Calls, number_at}
use Rattle.rip_heap.specs.World.{World}
use Rattle.rip_wire.specs.Batches.{Contents}
use Rattle.rip_wire.specs.Calls.{call_text}
use Rattle.rip_wire.specs.Items.{event, call, reply}
use Rattle.rip_eval_rows.specs.Evaluation.{Reached}
use Rattle.rip_eval_rows.specs.Plan.{Plan}
use Rattle.rip_eval_rows.specs.Started.{Started}
use Rattle.rip_replica.specs.Play.{Played, Closes, Holds, play}
use Rattle.rip_tree.specs.Program.{Code}
use Rattle.rip_machine.specs.Law.{Standing, loaded}
use Rattle.rip_machine.specs.Plans.{evaluation}
use Rattle.rip_machine.specs.Starting.{begun_by}
use Rattle.rip_eval_language.specs.Table.{table}
use Rattle.rip_history.specs.Parts.{Given}
use Rattle.rip_host.specs.Answers.{answers}
use Rattle.rip_host.specs.declared.browser.Browser.{Browser}
use Rattle.rip_host.specs.declared.replies.WaitingReply.{WaitingReply}
use Rattle.rip_browser.specs.Positions.{tells}
use Rattle.rip_browser.specs.Visits.{browser_rules}
use Rattle.rip_replica.specs.Parts.{Doing, first_given}
use Rattle.rip_law_replica.specs.Prefix.{AreCounted, AreNumbered, CountsServed, Placed, after, handled, items_of, left_by, opened, played}
use Rattle.rip_law_replica.specs.Prefix as prefix
use Rattle.rip_law_replica.proofs.PrefixLemmas.{served_are_counted, served_are_first}
use Rattle.rip_session.specs.Plans.{work_plan}
use Rattle.rip_session.specs.Tasks.{Task, opens, reports}
use Rattle.rip_law_served.specs.Served.{IsOverBrowser, call_of}
use Rattle.rip_law_browser.proofs.KeepsAnswers.{answers_keep}
use Rattle.rip_law_served.proofs.KeepsPlans.{Shows, HasPlan, HasPlayed, event_has, opening_has, play_has, reply_has}
use Rattle.rip_law_browser.proofs.KeepsRuns.{HasReached, begun_has}
use Rattle.rip_law_served.proofs.ServedLemmas.{reports_by}

-- the page counts so many
abbrev Counted : ℕ → Calls → List WaitingReply → Type 0
Counted k calls waiting = calls.taken ≡ k

abbrev Counts : ℕ → Browser → Type 0
Counts k = Shows (Counted k)

runs_keep : (k : ℕ) (code : Code) (m : Standing) (start : Started) (w : World) (s : Browser) (fuel u : ℕ) → Counts k s → HasReached (Counts k) (let e = evaluation answers code in e.run m start w s fuel u)
runs_keep k code m start w s fuel u h =
    begun_has (Counts k) answers (λ t x r p. answers_keep t x r ∙ p) (table (loaded code m)) m.depth (begun_by (loaded code m) m.depth start w) w s fuel u h

works_keep : (k batch n : ℕ) (a : Task) (w : World) (s : Browser) → call_of a ≡ None → Counts k s → HasPlan (Counts k) (work_plan batch a n w s)
works_keep k batch n (opens start) w s none h = opening_has (Counted k) n start w s h
works_keep k batch n (reports (event kind node text place)) w s none h = event_has (Counted k) s w (record { kind = kind; node = node; text = text; place = place }) n h
works_keep k batch n (reports (call number name args)) w s none h = absurd (let f : Some (number_at number, call_text name args) ≡ None = none in cc)
works_keep k batch n (reports (reply number)) w s none h = reply_has (Counted k) n s w batch number h h

left_keeps : (k : ℕ) (d : Doing Task Browser) (a : Task) (gs : List Given) (p : Played Browser) → HasPlayed (Counts k) p → Counts k (let x = left_by d a gs p in x.page)
left_keeps k d a gs (Closes close hs fuel u w s) h = h
left_keeps k d a gs (Holds depth w s) h = h

others_keep : (d : Doing Task Browser) → IsOverBrowser d → (at : prefix.Reached Browser) (p : Placed Task) → call_of p.item ≡ None
    → browser_rules.taken (let x = after d at p in x.page) ≡ browser_rules.taken at.page
others_keep d over at p none =
    let k : ℕ = browser_rules.taken at.page in
    let gs : List (Browser → Browser) = d.serve p.batch (first_given at.given) ∷ [] in
    let R : (Started → World → Browser → ℕ → ℕ → Reached Browser) → Type 0 = λ run. HasPlayed (Counts k) (play run d.full (d.plan p.batch p.item p.number at.world at.page) gs d.full d.full) in
    let Q : (ℕ → Task → ℕ → World → Browser → Plan Browser) → Type 0 = λ plan. HasPlan (Counts k) (plan p.batch p.item p.number at.world at.page) in
    let e = evaluation answers over.code in
    left_keeps k d p.item at.given (played d at p)
    (subst R (sym over.run) (play_has (Counts k) (e.run over.machine) (λ start w s fuel u h. runs_keep k over.code over.machine start w s fuel u h) d.full
    (d.plan p.batch p.item p.number at.world at.page) gs d.full d.full (subst Q (sym over.plan) (works_keep k p.batch p.number p.item at.world at.page none refl))))

counts_served : (d : Doing Task Browser) → IsOverBrowser d → CountsServed browser_rules d call_of
counts_served d over = record {
  none = over.none;
  one = λ batch g s. ap (λ (f : ℕ → Given → Browser → Browser). browser_rules.taken (f batch g s)) over.serve;
  others = others_keep d over;
}

pub sessions_first : (d : Doing Task Browser) → IsOverBrowser d → (bs : List Contents) (gs : List Given) → AreNumbered call_of 1 (handled d (opened d gs) (items_of d bs))
sessions_first d over bs gs = served_are_first browser_rules d call_of tells (reports_by d over.plan over.fact) (counts_served d over) bs gs

pub sessions_count : (d : Doing Task Browser) → IsOverBrowser d → (bs : List Contents) (gs : List Given) → AreCounted browser_rules d call_of (opened d gs) 1 (items_of d bs)
sessions_count d over bs gs = served_are_counted browser_rules d call_of tells (reports_by d over.plan over.fact) (counts_served d over) bs gs
