use Rattle.std.proofs.Common.{subst, sym}
use Rattle.std.specs.Str.{IsUtf8}
use Rattle.rip_http.proofs.TargetLemmas.{front_text}
use Rattle.rip_http.proofs.routes.Routes.route_of.Goals as goal

pub front_of-requires : goal.front_of-requires
front_of-requires c = subst IsUtf8 (sym c.path_of.ensures) (front_text c.args.target.now c.requires)
