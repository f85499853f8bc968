use Rattle.std.proofs.Common.{◌≡◌, ◌<◌, ◌≤◌, ap, ◌∙◌, sym, fold, filter_map, get_or, length, arith}
use Rattle.std.proofs.lemmas.List.{take_all}
use Rattle.rip_early.specs.Around.{in_text}
use Rattle.rip_early.specs.Names.{var_name_in, with_name}
use Rattle.rip_early.specs.Indexed.{names_of, with_any}
use Rattle.rip_early.proofs.Gathering.{node-more}
use Rattle.rip_early.proofs.declared.add_vars.Goals as goal

pub loop-id-preserved : goal.loop-id-preserved
loop-id-preserved c =
    let t = c.args.tree.now in
    let f = var_name_in t c.args.home in
    let i = c.loop-id.id-index in
    let within : i < length (in_text t) = omega (arith, ap length c.requires.listed) in
    let next : get_or c.args.order.now i 0 ≡ get_or (in_text t) i 0 = ap (λ ids. get_or ids i 0) c.requires.listed in
    record {
      kept = c.in_ok-add_any.ensures.kept;
      added = c.in_ok-add_any.ensures.added
          ∙ ap (with_any (names_of c.loop-id.names)) c.var_name_in.ensures
          ∙ ap (λ n. with_any (names_of c.loop-id.names) (f n)) next
          ∙ ap (λ ns. with_any ns (f (get_or (in_text t) i 0))) c.loop-id.invariant.added
          ∙ sym (node-more f (names_of c.args.names.now) (in_text t) i 0 within);
    }

pub returns-clause-added : goal.returns-clause-added
returns-clause-added c =
    let t = c.args.tree.now in
    let all : length (in_text t) ≤ c.loop-id.id-index = omega (arith, ap length c.requires.listed) in
    c.loop-id.invariant.added ∙ ap (λ ns. fold with_name (names_of c.args.names.now) (filter_map (var_name_in t c.args.home) ns)) (take_all c.loop-id.id-index (in_text t) all)
