use Rattle.std.proofs.Common.{None, Some}
use Rattle.rip_base.specs.declared.page.NodeKind.TheVariants.{Text}
use Rattle.rip_nodes.proofs.LinkLemmas.{made-below}
use Rattle.rip_nodes.proofs.calls.create_text.Goals as goal

pub node_value-requires : goal.node_value-requires
node_value-requires c = made-below c.args.dom.now c.create_text.new.self Text None (Some c.in-Ok.text) c.in-Ok-create_text.n c.in-Ok-create_text.ensures c.made-made.ensures.within c.requires
