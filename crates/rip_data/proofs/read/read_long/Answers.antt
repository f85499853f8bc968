use Rattle.std.proofs.Common.{◌≡◌, ◌<◌, ◌≤◌, Some, sym, ap, ◌∙◌, arith}
use Rattle.rip_data.specs.Datum.{tree_of, data_of, nesting}
use Rattle.rip_data.specs.Reading.{value_of}
use Rattle.rip_data.proofs.ReadLemmas.{answer_long-accepted, answer_long-deep}
use Rattle.rip_data.proofs.read.read_long.Goals as goal

pub returns-then-datum_size-gt-MAX_DEPTH-clause-err : goal.returns-then-datum_size-gt-MAX_DEPTH-clause-err
returns-then-datum_size-gt-MAX_DEPTH-clause-err c = λ _.
    let t = tree_of c.in_ok-datum.datum in
    let is : value_of c.args.text.now ≡ Some (data_of t) = c.in_ok-value.ensures.ok ∙ ap Some (sym c.in_ok-datum.ensures.data) in
    let deep : 8 < nesting t = omega (arith, c.datum_size.ensures.depth) in
    answer_long-deep c.args.text.now t is c.in_ok-datum.ensures.made deep

pub returns-clause-ok : goal.returns-clause-ok
returns-clause-ok c =
    let t = tree_of c.in_ok-datum.datum in
    let is : value_of c.args.text.now ≡ Some (data_of t) = c.in_ok-value.ensures.ok ∙ ap Some (sym c.in_ok-datum.ensures.data) in
    let low : nesting t ≤ 8 = omega (arith, c.datum_size.ensures.depth) in
    answer_long-accepted c.args.text.now t is c.in_ok-datum.ensures.made low
