use Rattle.std.proofs.Common.{◌<◌, ◌^◌, rules}
use Rattle.rip_dom.proofs.DomLemmas.{document-none}
use Rattle.rip_dom.proofs.dom.Dom.empty.Goals as goal

pub invariant_of-result : goal.invariant_of-result
invariant_of-result c =
    let small : c.args.limit < 2 ^ 32 = search rules in
    document-none c.args.limit _ _ c.in_ok-with_capacity.field-0.items c.in_ok-make.field-0 c.in_ok-make-2.field-0 c.in_ok-with_capacity-2.field-0.items small
    c.in_ok-with_capacity.ensures.items c.in_ok-make.ensures c.in_ok-make-2.ensures c.in_ok-with_capacity-2.ensures.items c.in_ok-with_capacity.ensures.exact c.in_ok-with_capacity-2.ensures.exact
