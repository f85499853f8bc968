use Rattle.std.proofs.Common.{◌≡◌, ap, sym, ◌∙◌, rules}
use Rattle.rip_ops.specs.Keys.{key_of}
use Rattle.rip_eval_rows.specs.declared.completion.Completion.TheVariants.{Normal}
use Rattle.rip_eval_language.specs.Rows.Expressions.{abruptly}
use Rattle.rip_eval_language.specs.Rows.Members.{member_for, subscript_end}
use Rattle.rip_eval_language.proofs.Abruptly.{does_with_host, keying_abruptly, keying_wants_none}
use Rattle.rip_eval_expressions.proofs.members.after_subscript.Goals as goal

pub returns-in-Err-clause-row : goal.returns-in-Err-clause-row
returns-in-Err-clause-row g c =
    let at = c.args.at.now in
    let base = c.args.base.now in
    let w = c.args.heap.now in
    let x = c.key_of.new.heap in
    let subscript : c.args.c.now ≡ Normal c.in-Some.subscript = search rules in
    let row = keying_abruptly (key_of w base c.in-Some.subscript) w x c.in-Err.cause (λ key y. member_for at.role base key y) c.in-Err.ensures.keys in
    does_with_host g.H.Host.answers c.args.p.now at c.abrupt.result c.abrupt.new.heap c.args.host.now (abruptly c.in-Err.cause x) (subscript_end at base c.args.c.now w) c.abrupt.ensures.row
    (row ∙ ap (λ d. subscript_end at base d w) (sym subscript))

pub abrupt-requires : goal.abrupt-requires
abrupt-requires g c = keying_wants_none (key_of c.args.heap.now c.args.base.now c.in-Some.subscript) c.args.heap.now c.key_of.new.heap c.in-Err.cause c.in-Err.ensures.keys
