use Rattle.std.proofs.Common.{◌<◌, ◌≤◌, ◌++◌, ap, ◌∙◌, sym, filter_map, get_or, length, arith}
use Rattle.std.specs.Prelude.{option_and_then, option_to_list}
use Rattle.std.proofs.lemmas.List.{take_all}
use Rattle.rip_early.specs.Around.{in_text}
use Rattle.rip_early.specs.Names.{place_in, var_name_in}
use Rattle.rip_early.specs.Indexed.{names_of}
use Rattle.rip_early.proofs.Gathering.{place-more}
use Rattle.rip_early.proofs.declared.declared_places.Goals as goal

pub loop-id-preserved : goal.loop-id-preserved
loop-id-preserved c =
    let t = c.args.tree.now in
    let names = names_of c.args.names.now in
    let f = var_name_in t 0 in
    let i = c.loop-id.id-index in
    let within : i < length (in_text t) = omega (arith, ap length c.requires.listed) in
    c.in_ok-push_place.ensures
    ∙ ap (λ o. c.loop-id.places.items ++ option_to_list (option_and_then (place_in names) o)) (c.var_name_in-name.ensures ∙ ap (λ ids. f (get_or ids i 0)) c.requires.listed)
    ∙ ap (λ places. places ++ option_to_list (option_and_then (place_in names) (f (get_or (in_text t) i 0)))) c.loop-id.invariant
    ∙ sym (place-more f names (in_text t) i 0 within)

pub returns : goal.returns
returns c =
    let t = c.args.tree.now in
    let all : length (in_text t) ≤ c.loop-id.id-index = omega (arith, ap length c.requires.listed) in
    c.loop-id.invariant ∙ ap (λ ns. filter_map (place_in (names_of c.args.names.now)) (filter_map (var_name_in t 0) ns)) (take_all c.loop-id.id-index (in_text t) all)
