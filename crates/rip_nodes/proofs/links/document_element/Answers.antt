use Rattle.std.proofs.Common.{◌≡◌, ◌∙◌, ap, sym, Bool, true, false}
use Rattle.rip_dom.specs.Tree.{is_element, node_at}
use Rattle.rip_nodes.specs.Answers.{node_or_null}
use Rattle.rip_nodes.proofs.ChildLemmas.{way-start, way-on, way-found, way-end, way-shorter}
use Rattle.rip_nodes.proofs.LinkLemmas.{child-below}
use Rattle.rip_nodes.proofs.links.document_element.Goals as goal

pub loop-at-init : goal.loop-at-init
loop-at-init c = way-start c.args.dom.now (λ n. is_element (node_at c.args.dom.now n).kind) c.first_child-at.result c.first_child-at.ensures

pub loop-at-preserved : goal.loop-at-preserved
loop-at-preserved c =
    way-on c.args.dom.now (λ n. is_element (node_at c.args.dom.now n).kind) c.in-Some.n c.loop-at.at c.next-at.result c.parents_and_children_agree.ensures c.loop-at.invariant c.in-Some.is
    (ap is_element (sym c.kind.ensures) ∙ sym c.is_element.ensures ∙ c.if-is_element.false) c.next-at.ensures

pub loop-at-smaller : goal.loop-at-smaller
loop-at-smaller c =
    way-shorter c.args.dom.now (λ n. is_element (node_at c.args.dom.now n).kind) c.in-Some.n c.loop-at.at c.next-at.result c.parents_and_children_agree.ensures c.loop-at.invariant c.in-Some.is c.next-at.ensures

pub node_value-requires : goal.node_value-requires
node_value-requires c =
    child-below c.args.dom.now 0 c.in-Some.n c.parents_and_children_agree.ensures c.made-made.ensures.within c.requires (c.loop-at.invariant.known c.in-Some.n c.in-Some.is)

pub returns-then-is_element-clause-value : goal.returns-then-is_element-clause-value
returns-then-is_element-clause-value c =
    c.node_value.ensures.value
    ∙ ap node_or_null (sym (way-found c.args.dom.now (λ n. is_element (node_at c.args.dom.now n).kind) c.in-Some.n c.loop-at.at c.parents_and_children_agree.ensures c.loop-at.invariant c.in-Some.is
    (ap is_element (sym c.kind.ensures) ∙ sym c.is_element.ensures ∙ c.if-is_element.true)))
