-- Items as the program keeps them.
use Rattle.std.proofs.Common.{◌≡◌, ℕ, zero, suc, ◌-◌, ◌<◌, ◌^◌, List, [], ◌∷◌, Some, map, min, refl, sym, ap, ◌∙◌, subst, arith}
use Rattle.std.specs.Prelude.{slice_get}
use Rattle.std.proofs.lemmas.Option.{same_Some}
use Rattle.rip_wire.specs.declared.item.Item.{Item as Wire}
use Rattle.std.specs.List.{AllByRecursion}
use Rattle.rip_calls.specs.Calls.{number_at}
use Rattle.rip_data.specs.Datum.{Tree, trees_in}
use Rattle.rip_wire.specs.Calls.{call_text}
use Rattle.rip_wire.specs.Items.{AreArgs, IsItem, Reported, event, call, reply, reported_of}
use Rattle.rip_replica.specs.declared.items.session.Item.{Item}
use Rattle.rip_replica.specs.declared.items.session.Item.TheVariants as item
use Rattle.rip_replica.specs.declared.works.Call.{Call}
use Rattle.rip_browser.specs.declared.opening.Start.{Start}
use Rattle.rip_session.specs.declared.work.work.Kind.{Kind}
use Rattle.rip_session.specs.declared.work.work.Kind.TheVariants.{Opens, Handles, Calls}
use Rattle.rip_session.specs.Copies.{IsCall, IsCopy, IsNoCall}
use Rattle.rip_session.specs.Tasks.{IsItemOf, Task, opens, reports, fact_of, item_of, reported_by}
use Rattle.rip_session.specs.Works.{IsCallKind, IsKind, report_of, task_of}

-- a call by its parts
pub call-kind : (number : ℕ) (name : List ℕ) (args : List Tree) (text : List ℕ) (c : Call)
    → number < 2 ^ 64 → AreArgs args → text ≡ call_text name args → IsCopy number name args c → IsCallKind number name args (Calls (item.Call number text) c)
call-kind number name args text c few in_range told copy =
    let fits : min number (2 ^ 64 - 1) ≡ number = omega arith in
    let number_is : number ≡ number_at c.number = sym (ap number_at copy.number_is ∙ fits) in
    let text_is : text ≡ call_text c.name (trees_in c.args) = told ∙ (λ i. call_text (sym copy.name_is i) (sym copy.args_are i)) in (
      λ i. reports (call (copy.number_is i) (copy.name_is i) (copy.args_are i)),
      ((λ i. item.Call (number_is i) (text_is i)), subst AreArgs (sym copy.args_are) in_range),
    )

handles-item : (i : Item) → IsKind (Handles i) → IsItemOf i (task_of (Handles i))
handles-item (item.Event report) h = (event report.kind report.node report.text report.place, (refl, refl))
handles-item (item.Call number text) h = absurd h
handles-item (item.Reply number) h = (reply number, (refl, refl))

-- an event or a reply is the item that it keeps
pub handles-told : (t : Task) (k : Kind) (i : Item) → k ≡ Handles i → task_of k ≡ t → IsKind k → IsItemOf i t
handles-told t k i e view inside = subst (IsItemOf i) (ap task_of (sym e) ∙ view) (handles-item i (subst IsKind e inside))

-- and a call too
pub calls-told : (t : Task) (k : Kind) (i : Item) (c : Call) → k ≡ Calls i c → task_of k ≡ t → IsKind k → IsItemOf i t
calls-told t k i c e view inside =
    let kept : (i ≡ item_of (report_of c)) × AreArgs (trees_in c.args) = subst IsKind e inside in
    (report_of c, (sym view ∙ ap task_of e, kept.0))

pub opens-told : (t : Task) (k : Kind) (s : Start) → k ≡ Opens s → task_of k ≡ t → t ≡ opens s
opens-told t k s e view = sym view ∙ ap task_of e

-- a call is told by its parts
pub calls-call : (t : Task) (k : Kind) (i : Item) (c : Call) → k ≡ Calls i c → task_of k ≡ t → IsKind k → IsCall (fact_of t) c
calls-call t k i c e view inside =
    let kept : (i ≡ item_of (report_of c)) × AreArgs (trees_in c.args) = subst IsKind e inside in
    record { is = ap fact_of (sym view ∙ ap task_of e); args = kept.1 }

opens-none : (s : Start) → IsNoCall (fact_of (opens s))
opens-none s = tt

handles-none : (i : Item) → IsKind (Handles i) → IsNoCall (fact_of (task_of (Handles i)))
handles-none (item.Event report) h = tt
handles-none (item.Call number text) h = absurd h
handles-none (item.Reply number) h = tt

pub opens-no-call : (t : Task) (k : Kind) (s : Start) → k ≡ Opens s → task_of k ≡ t → IsNoCall (fact_of t)
opens-no-call t k s e view = subst (λ x. IsNoCall (fact_of x)) (ap task_of (sym e) ∙ view) (opens-none s)

pub handles-no-call : (t : Task) (k : Kind) (i : Item) → k ≡ Handles i → task_of k ≡ t → IsKind k → IsNoCall (fact_of t)
handles-no-call t k i e view inside = subst (λ x. IsNoCall (fact_of x)) (ap task_of (sym e) ∙ view) (handles-none i (subst IsKind e inside))

-- what an item reports, by the item
reported-by : (r : Reported) (number : ℕ) (text : List ℕ) → item_of r ≡ item.Call number text → ◌≡◌ {A = ℕ × List ℕ} (number, text) (reported_by (reports r))
reported-by (event kind node told place) number text e = absurd (cc)
reported-by (call k name args) number text e =
    let a : number ≡ number_at k = cc in
    let b : text ≡ call_text name args = cc in
    λ i. (a i, b i)
reported-by (reply k) number text e = absurd (cc)

pub reported-call : (i : Item) (t : Task) (number : ℕ) (text : List ℕ) → i ≡ item.Call number text → IsItemOf i t → ◌≡◌ {A = ℕ × List ℕ} (number, text) (reported_by t)
reported-call i t number text e is = reported-by is.0 number text (sym is.1.1 ∙ e) ∙ ap reported_by (sym is.1.0)

no-event : (r : Reported) (report : _) → item_of r ≡ item.Event report → ◌≡◌ {A = ℕ × List ℕ} (0, []) (reported_by (reports r))
no-event (event kind node told place) report e = refl
no-event (call k name args) report e = absurd (cc)
no-event (reply k) report e = refl

no-reply : (r : Reported) (number : ℕ) → item_of r ≡ item.Reply number → ◌≡◌ {A = ℕ × List ℕ} (0, []) (reported_by (reports r))
no-reply (event kind node told place) number e = refl
no-reply (call k name args) number e = absurd (cc)
no-reply (reply k) number e = refl

pub reported-event : (i : Item) (t : Task) (report : _) → i ≡ item.Event report → IsItemOf i t → ◌≡◌ {A = ℕ × List ℕ} (0, []) (reported_by t)
reported-event i t report e is = no-event is.0 report (sym is.1.1 ∙ e) ∙ ap reported_by (sym is.1.0)

pub reported-reply : (i : Item) (t : Task) (number : ℕ) → i ≡ item.Reply number → IsItemOf i t → ◌≡◌ {A = ℕ × List ℕ} (0, []) (reported_by t)
reported-reply i t number e is = no-reply is.0 number (sym is.1.1 ∙ e) ∙ ap reported_by (sym is.1.0)

-- each item of a batch in range is in range
pub item-in-range : (xs : List Wire) (i : ℕ) (x : Wire) → AllByRecursion IsItem (map reported_of xs) → slice_get xs i ≡ Some x → IsItem (reported_of x)
item-in-range [] i x h e = absurd (cc)
item-in-range (y ∷ ys) zero x h e = subst (λ z. IsItem (reported_of z)) (same_Some y x e) h.0
item-in-range (y ∷ ys) (suc i) x h e = item-in-range ys i x h.1 e
