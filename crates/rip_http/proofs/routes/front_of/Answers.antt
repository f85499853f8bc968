use Rattle.std.proofs.Common.{◌≡◌, ◌∙◌, ◌-◌, ◌<◌, ◌==◌, length, take, drop, get_or, sym, ap, arith}
use Rattle.std.specs.List.{list_any}
use Rattle.std.proofs.lemmas.Bool.Decides.{nat_tests}
use Rattle.std.proofs.lemmas.List.{take_all, length-drop}
use Rattle.std.proofs.lemmas.Str.{IsUtf8-take, IsCharBoundary-before_ascii}
use Rattle.rip_http.proofs.RouteLemmas.{front_route}
use Rattle.rip_http.proofs.routes.front_of.Goals as goal

pub returns-then-not-contains-clause-text : goal.returns-then-not-contains-clause-text
returns-then-not-contains-clause-text c =
    let path = c.args.path.now in
    let within : 4 < length path = c.if-path-gt4.true in
    let low : get_or path 4 0 < 128 = grind (arith, nat_tests, c.is_ascii.ensures, c.if-is_ascii.true) in
    IsUtf8-take path 4 c.requires (IsCharBoundary-before_ascii path 4 within low)

pub returns-then-not-contains-clause-route : goal.returns-then-not-contains-clause-route
returns-then-not-contains-clause-route c =
    let path = c.args.path.now in
    let whole : take (length path - 3) (drop 3 path) ≡ drop 3 path = take_all (length path - 3) (drop 3 path) (omega (arith, length-drop 3 path)) in
    front_route path c.if-path-gt4.true (ap (list_any (λ b. b == 47)) (sym whole) ∙ sym c.contains.ensures.value ∙ c.if-not-contains.true)
