use Rattle.std.proofs.Common.{◌<◌, ◌^◌, length, arith, ◌∙◌, ap}
use Rattle.rip_html.specs.Scripts.{script_numbers}
use Rattle.rip_html.proofs.Paging.{is_page}
use Rattle.rip_html.proofs.reader.page_of.Goals as goal

pub new-requires : goal.new-requires
new-requires c =
    let small : length c.in_ok-nodes.nodes < 2 ^ 32 = omega (arith, ap length c.in_ok-nodes.ensures, c.requires) in
    is_page c.args.tokens c.in_ok-nodes.nodes c.in_ok-scripts.scripts c.in_ok-nodes.ensures (c.in_ok-scripts.ensures ∙ ap (script_numbers 0) c.as_slice.ensures) small
