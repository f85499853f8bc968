-- What a router answers: private to this crate.
use Rattle.std.specs.Prelude.{◌≡◌, ℕ, ◌<◌, List, All}
use Rattle.std.specs.Option.{option_map}
use Rattle.matchit.specs.Rows.{RowsOf}
use Rattle.matchit.specs.Router.{RouteOf}
use Rattle.matchit.specs.Seek.{first}
use Rattle.rip_http.specs.Routes.{route_of}
use Rattle.rip_http.specs.declared.request.Route.{Route}

-- each path has its route
abbrev pub RoutesByPath : RowsOf (RouteOf Route) → Type 0
RoutesByPath rows =
    (path : List ℕ) → All (λ b. b < 256) path
    → option_map (λ r. r.value) (first rows path) ≡ route_of path
