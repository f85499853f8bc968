use Rattle.std.proofs.Common.{◌≡◌, ◌∙◌, arith}
use Rattle.rip_lexer.proofs.Longest.{long_mark_is_longest, double_mark_is_longest, single_mark_is_longest}
use Rattle.rip_lexer.proofs.punctuator.longest_mark.Goals as goal

pub returns-then-long-gt0-clause-count : goal.returns-then-long-gt0-clause-count
returns-then-long-gt0-clause-count c =
    let long = c.long_mark-long in
    (long_mark_is_longest c.args.units.now long.result.0 long.result.1 (long.ensures.count, long.ensures.word) c.if-long-gt0.true).0

pub returns-then-long-gt0-clause-word : goal.returns-then-long-gt0-clause-word
returns-then-long-gt0-clause-word c =
    let long = c.long_mark-long in
    (long_mark_is_longest c.args.units.now long.result.0 long.result.1 (long.ensures.count, long.ensures.word) c.if-long-gt0.true).1

pub returns-then-double-gt0-clause-count : goal.returns-then-double-gt0-clause-count
returns-then-double-gt0-clause-count c =
    let none : 0 ≡ c.long_mark-long.result.0 = grind (arith, c.if-long-gt0.false) in
    let double = c.double_mark-double in
    (double_mark_is_longest c.args.units.now double.result.0 double.result.1 (none ∙ c.long_mark-long.ensures.count) (double.ensures.count, double.ensures.word) c.if-double-gt0.true).0

pub returns-then-double-gt0-clause-word : goal.returns-then-double-gt0-clause-word
returns-then-double-gt0-clause-word c =
    let none : 0 ≡ c.long_mark-long.result.0 = grind (arith, c.if-long-gt0.false) in
    let double = c.double_mark-double in
    (double_mark_is_longest c.args.units.now double.result.0 double.result.1 (none ∙ c.long_mark-long.ensures.count) (double.ensures.count, double.ensures.word) c.if-double-gt0.true).1

pub returns-clause-count : goal.returns-clause-count
returns-clause-count c =
    let none : 0 ≡ c.long_mark-long.result.0 = grind (arith, c.if-long-gt0.false) in
    let none_either : 0 ≡ c.double_mark-double.result.0 = grind (arith, c.if-double-gt0.false) in
    let single = c.single_mark in
    (single_mark_is_longest c.args.units.now single.result.0 single.result.1 (none ∙ c.long_mark-long.ensures.count) (none_either ∙ c.double_mark-double.ensures.count) (single.ensures.count, single.ensures.word)).0

pub returns-clause-word : goal.returns-clause-word
returns-clause-word c =
    let none : 0 ≡ c.long_mark-long.result.0 = grind (arith, c.if-long-gt0.false) in
    let none_either : 0 ≡ c.double_mark-double.result.0 = grind (arith, c.if-double-gt0.false) in
    let single = c.single_mark in
    (single_mark_is_longest c.args.units.now single.result.0 single.result.1 (none ∙ c.long_mark-long.ensures.count) (none_either ∙ c.double_mark-double.ensures.count) (single.ensures.count, single.ensures.word)).1
