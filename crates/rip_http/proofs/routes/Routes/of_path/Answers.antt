use Rattle.std.proofs.Common.{◌∙◌, ◌<◌, ap, option_map, All, arith}
use Rattle.std.proofs.lemmas.List.Elements.{All-from_get_or}
use Rattle.matchit.specs.Router.{RouteOf}
use Rattle.matchit.specs.Seek.{first}
use Rattle.rip_http.specs.declared.request.Route.{Route}
use Rattle.rip_http.proofs.routes.Routes.of_path.Goals as goal

pub returns-in-Ok : goal.returns-in-Ok
returns-in-Ok c =
    let small : All (λ b. b < 256) c.args.path.now = All-from_get_or (λ b. b < 256) c.args.path.now 0 (λ i within. omega (arith, c.type_inv.path i)) in
    c.value_at.ensures
    ∙ ap (λ text. option_map (λ (r : RouteOf Route). r.value) (first c.self.inside.router text)) c.in-Ok.ensures.cases.0
    ∙ c.self.invariant c.args.path.now small

pub returns-in-Err : goal.returns-in-Err
returns-in-Err c = absurd (c.in-Err.ensures.cases.0 c.requires)
