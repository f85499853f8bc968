-- The site of an application, and what is put of it.
use Rattle.std.proofs.Common.{◌≡◌, ◌<◌, ◌^◌, ℕ, List, ap, ◌∙◌, subst}
use Rattle.rip_app.specs.App.{Loaded}
use Rattle.rip_history.specs.Parts.{Meaning}
use Rattle.rip_history.specs.Services.{Service, service_of}
use Rattle.rip_server.specs.Turning.{Outer, site_of}
use Rattle.rip_serve.specs.Serving.{Serves}
use Rattle.rip_session.specs.Lawful.{app_is_lawful}
use Rattle.rip_serve.proofs.RangeLemmas.{puts_in_range}
use Rattle.rip_law_served.proofs.PartLemmas.{applications_in_range}
use Rattle.rip_law_history.proofs.ServiceLemmas.{functions_reply_in_range}
use Rattle.rip_serve.specs.declared.serving.Stop.{Stop}
use Rattle.rip_session.specs.Application.{meaning_of_app}
use Rattle.rip_serve.specs.Sites.{ServesApp, site_of_app}

site_same : (app : Loaded) (m : Meaning) (meant : Service) (limit : ℕ) (page : List ℕ) → m ≡ meaning_of_app app → meant ≡ service_of app.manifest.functions
    → limit ≡ app.manifest.limits.sessions → page ≡ app.bytes → site_of m meant limit page ≡ site_of_app app
site_same app m meant limit page one two three four =
    ap (λ x. site_of x meant limit page) one ∙ ap (λ x. site_of (meaning_of_app app) x limit page) two
    ∙ ap (λ x. site_of (meaning_of_app app) (service_of app.manifest.functions) x page) three
    ∙ ap (λ x. site_of (meaning_of_app app) (service_of app.manifest.functions) app.manifest.limits.sessions x) four

pub serves_app : (app : Loaded) (m : Meaning) (meant : Service) (limit : ℕ) (page : List ℕ) (most : ℕ) (how : Stop) (old new : Outer) → m ≡ meaning_of_app app
    → meant ≡ service_of app.manifest.functions → limit ≡ app.manifest.limits.sessions → page ≡ app.bytes
    → most < 2 ^ 64 → Serves (site_of m meant limit page) most how old new → ServesApp app most how old new
serves_app app m meant limit page most how old new one two three four few serves =
    let served : Serves (site_of_app app) most how old new = subst (λ s. Serves s most how old new) (site_same app m meant limit page one two three four) serves in
    record {
      serves = served;
      in_range = puts_in_range (site_of_app app) most (app_is_lawful app) few (applications_in_range app) (functions_reply_in_range app.manifest.functions) how old new served;
    }
