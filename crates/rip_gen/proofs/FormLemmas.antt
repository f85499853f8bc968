-- Sessions of the application of generated work go in code as on paper.
use Rattle.std.proofs.Common.{◌≡◌, ◌∙◌, ℕ, ◌+◌, ◌*◌, List, [], refl, sym, ap, subst}
use Rattle.std.specs.Prelude.{Err, IfOk, Ok, Result}
use Rattle.rip_base.specs.declared.memory.NoMemory.{NoMemory}
use Rattle.rip_app.specs.App.{Loaded}
use Rattle.rip_app.proofs.Answering.{has_one_app}
use Rattle.rip_history.specs.Services.{Called, RepliesAs, Service, service_of}
use Rattle.rip_host.specs.declared.browser.Browser.{Browser}
use Rattle.rip_manifest.specs.declared.function.Function.{Function}
use Rattle.rip_replica.specs.Parts.{Doing}
use Rattle.rip_session.specs.Application.{doing_of}
use Rattle.rip_store.specs.Held.{functions_of, stored_of}
use Rattle.rip_store.specs.Kept.{IsKept}
use Rattle.rip_session.specs.Tasks.{Task}
use Rattle.rip_client.specs.declared.whole.play.Over.{Over}
use Rattle.rip_store.specs.declared.store.Store.{Store}
use Rattle.rip_gen.specs.Plans.{Plan}
use Rattle.rip_drive.specs.Actors.{IsBegun, IsOpened, Sits, page_session, seat_of}
use Rattle.rip_drive.specs.declared.page_actor.PageActor.{PageActor}
use Rattle.rip_drive.proofs.Played.{follows}
use Rattle.rip_gen.specs.Form.{IsForm}
use Rattle.rip_gen.specs.Forms.{GivesForm, IsTraceOfForm, OpensForm}
use Rattle.rip_gen.specs.Trace.{doing_at, sessions_of}
use Rattle.rip_gen.specs.Work.{AreLinesOf}
use Rattle.rip_gen.specs.Working.{sessions_by}
use Rattle.rip_gen.proofs.Carried.{FollowEach, lines_carried}

-- there is one such application
same_form : (a b : Loaded) → IsForm a → IsForm b → a ≡ b
unfolding IsForm
same_form a b one two = has_one_app _ _ a b one two

-- ---- code

-- a store that was made for the application
pub gives_so : (app : Loaded) (functions : List Function) (result : Result Store NoMemory) → IsForm app → functions ≡ app.manifest.functions → IfOk result (λ s. functions_of s ≡ functions)
    → IfOk result (λ s. stored_of s ≡ []) → IfOk result (λ s. IsKept (stored_of s)) → IfOk result GivesForm
unfolding GivesForm
gives_so app functions (Ok g) form are made stored kept = λ other is_form. record {
  replies = ap (λ (a : Loaded). service_of a.manifest.functions) (same_form other app is_form form) ∙ ap service_of (sym (made ∙ are));
  stored = stored;
  kept = kept;
}
gives_so app functions (Err none) form are made stored kept = made

begun_at : (app fresh : Loaded) (place : ℕ) (actor : PageActor) → fresh ≡ app → actor.app ≡ fresh → IsBegun fresh (doing_of fresh (3 * (place + 1)) 0) actor.session.replica
    → IsBegun actor.app (doing_at app place) actor.session.replica
begun_at app fresh place actor same holds begun =
    subst (λ (x : Loaded). IsBegun actor.app (doing_of x (3 * (place + 1)) 0) actor.session.replica) same
    (subst (λ (x : Loaded). IsBegun x (doing_of fresh (3 * (place + 1)) 0) actor.session.replica) (sym holds) begun)

-- a session that was opened
pub opens_so : (fresh : Loaded) (place : ℕ) (before after : PageActor) (g h : Store) (over : Over) → IsForm fresh → before.app ≡ fresh
    → IsBegun fresh (doing_of fresh (3 * (place + 1)) 0) before.session.replica
    → ((d : Doing Task Browser) (service : Service) → IsBegun before.app d before.session.replica → RepliesAs g service [] → IsOpened after.app d over after.session.replica h service)
    → OpensForm place g over.close after h
unfolding OpensForm
opens_so fresh place before after g h over fresh_form holds begun opens = λ app form replies. record {
  over = over;
  closes = refl;
  opened = opens (doing_at app place) (service_of app.manifest.functions) (begun_at app fresh place before (same_form fresh app fresh_form form) holds begun) replies;
}

-- ---- paper

pub form_follows : (app : Loaded) → IsForm app → FollowEach (sessions_by page_session OpensForm GivesForm) (sessions_of app) (λ (a : PageActor). seat_of a.session.replica)
    (λ (place : ℕ) (a : PageActor). Sits a.app (doing_at app place) a.session.replica) (λ (g : Store) (calls : List Called). RepliesAs g (service_of app.manifest.functions) calls)
unfolding OpensForm GivesForm
form_follows app form =
    let service = service_of app.manifest.functions in
    record {
      goes = λ place. follows (doing_at app place) service;
      opens = λ place g close a h calls opens replies none.
          let o = opens app form (subst (λ (cs : List Called). RepliesAs g service cs) none replies) in (
            (record { over = o.over; closes = o.closes; opens = o.opened.opens; batch = o.opened.number; count = o.opened.begun }, refl),
            o.opened.sits,
            subst (λ (cs : List Called). RepliesAs h service cs) (sym none) o.opened.replies,
          );
      gives = λ g gives. ([], refl, gives app form);
    }

pub trace_so : (plan : Plan) (text : List ℕ) → AreLinesOf (sessions_by page_session OpensForm GivesForm) plan text → IsTraceOfForm plan text
trace_so plan text are = record { is = λ app form. lines_carried _ (sessions_of app) (λ (a : PageActor). seat_of a.session.replica) _ _ (form_follows app form) plan text are }
