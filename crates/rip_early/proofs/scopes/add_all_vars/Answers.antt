use Rattle.std.proofs.Common.{◌≡◌, ◌<◌, ◌≤◌, get_or, length, option_map, ap, ◌∙◌, arith}
use Rattle.std.proofs.lemmas.List.Elements.{All-get_or}
use Rattle.rip_tree.specs.Branches.{units_at}
use Rattle.rip_early.specs.Around.{in_text}
use Rattle.rip_early.specs.Names.{var_piece}
use Rattle.rip_early.specs.declared.context.Context.{Context}
use Rattle.rip_early.proofs.Gathering.{gathered-more, gathered-all}
use Rattle.rip_early.proofs.scopes.add_all_vars.Goals as goal

pub loop-id-preserved : goal.loop-id-preserved
loop-id-preserved c =
    let t = c.args.tree.now in
    let i = c.loop-id.id-index in
    let within : i < length (in_text t) = omega (arith, ap length c.requires.listed) in
    let next : get_or c.args.order.now i 0 ≡ get_or (in_text t) i 0 = ap (λ ids. get_or ids i 0) c.requires.listed in
    let there : get_or c.args.order.now i 0 < length t.branches = All-get_or (λ id. id < length t.branches) c.args.order.now i 0 (omega arith) c.requires.within in
    record {
      many = c.add_var.ensures.many ∙ c.loop-id.invariant.many;
      kept = λ id d h. c.in_ok-add_var.ensures.kept id d (omega (arith, h, c.loop-id.invariant.many));
      named = λ id d h. gathered-more t i (get_or c.args.order.now i 0) id _ _ _ _ within next
          (c.in_ok-add_var.ensures.added id d (omega (arith, h, c.loop-id.invariant.many)))
          (ap (λ (x : Context). x.home) (c.requires.contexts.each (get_or c.args.order.now i 0) _ there))
          (c.name_of-name.ensures ∙ ap (option_map (units_at t.units)) (c.var_piece.ensures ∙ ap var_piece c.form_of.ensures))
          (c.loop-id.invariant.named id d h);
    }

pub returns : goal.returns
returns c =
    let all : length (in_text c.args.tree.now) ≤ c.loop-id.id-index = omega (arith, ap length c.requires.listed) in
    record {
      many = c.loop-id.invariant.many;
      kept = c.loop-id.invariant.kept;
      named = λ id d h. c.loop-id.invariant.named id d h ∙ gathered-all c.args.tree.now c.loop-id.id-index id all;
    }
