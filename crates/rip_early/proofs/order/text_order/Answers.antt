use Rattle.std.proofs.Common.{◌≡◌, ◌++◌, ◌<◌, ◌∙◌, ap, length, sym, subst}
use Rattle.std.specs.List.{All}
use Rattle.rip_early.specs.Around.{in_text, in_text_within}
use Rattle.rip_early.proofs.Listing.{in_text-within}
use Rattle.rip_early.proofs.order.text_order.Goals as goal

pub returns-clause-within : goal.returns-clause-within
returns-clause-within c =
    let t = c.args.tree.now in
    let listed : c.list.new.order.items ≡ in_text t =
    c.in_ok-list.ensures ∙ ap (λ ns. ns ++ in_text_within c.count.result t 0) c.new-order.ensures.items ∙ ap (λ n. in_text_within n t 0) c.count.ensures.count in
    subst (All (λ id. id < length t.branches)) (sym listed) (in_text-within t c.count.ensures.follow)
