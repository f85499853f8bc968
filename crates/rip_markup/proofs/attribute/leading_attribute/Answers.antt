use Rattle.std.proofs.Common.{◌∙◌}
use Rattle.rip_markup.proofs.Parts.{cuts, no_cuts, along, fits, shows, shows_long}
use Rattle.rip_markup.proofs.attribute.leading_attribute.Goals as goal

pub returns-in-None-clause-shows : goal.returns-in-None-clause-shows
returns-in-None-clause-shows c = no_cuts c.args.text.now c.in-None.ensures

pub split_at-requires : goal.split_at-requires
split_at-requires c = (cuts c.args.text.now c.in-Some.span c.in-Some.ensures).space.within

pub split_at-requires-in-Some : goal.split_at-requires-in-Some
split_at-requires-in-Some c =
    let k = cuts c.args.text.now c.in-Some.span c.in-Some.ensures in
    fits c.in-Some.span.name _ _ _ c.split_at.result.1.now k.name (c.split_at.ensures.back ∙ k.space.back-is)

pub split_at-requires-in-Some-2 : goal.split_at-requires-in-Some-2
split_at-requires-in-Some-2 c =
    let k = cuts c.args.text.now c.in-Some.span c.in-Some.ensures in
    let one = c.split_at.ensures.back ∙ k.space.back-is in
    let two = along c.in-Some.span.name _ _ _ c.split_at.result.1.now c.split_at-in-Some.result.1.now k.name one c.split_at-in-Some.ensures.back in
    fits c.in-Some.span.value.before _ _ _ c.split_at-in-Some.result.1.now k.sign two

pub split_at-requires-in-Some-3 : goal.split_at-requires-in-Some-3
split_at-requires-in-Some-3 c =
    let k = cuts c.args.text.now c.in-Some.span c.in-Some.ensures in
    let one = c.split_at.ensures.back ∙ k.space.back-is in
    let two = along c.in-Some.span.name _ _ _ c.split_at.result.1.now c.split_at-in-Some.result.1.now k.name one c.split_at-in-Some.ensures.back in
    let three = along c.in-Some.span.value.before _ _ _ c.split_at-in-Some.result.1.now c.split_at-in-Some-2.result.1.now k.sign two c.split_at-in-Some-2.ensures.back in
    fits c.in-Some.span.value.count _ _ _ c.split_at-in-Some-2.result.1.now k.value three

pub split_at-requires-in-Some-4 : goal.split_at-requires-in-Some-4
split_at-requires-in-Some-4 c =
    let k = cuts c.args.text.now c.in-Some.span c.in-Some.ensures in
    let one = c.split_at.ensures.back ∙ k.space.back-is in
    let two = along c.in-Some.span.name _ _ _ c.split_at.result.1.now c.split_at-in-Some.result.1.now k.name one c.split_at-in-Some.ensures.back in
    let three = along c.in-Some.span.value.before _ _ _ c.split_at-in-Some.result.1.now c.split_at-in-Some-2.result.1.now k.sign two c.split_at-in-Some-2.ensures.back in
    let four = along c.in-Some.span.value.count _ _ _ c.split_at-in-Some-2.result.1.now c.split_at-in-Some-3.result.1.now k.value three c.split_at-in-Some-3.ensures.back in
    fits c.in-Some.span.value.after _ _ _ c.split_at-in-Some-3.result.1.now k.close four

pub returns-in-Some-clause-shows : goal.returns-in-Some-clause-shows
returns-in-Some-clause-shows c =
    let k = cuts c.args.text.now c.in-Some.span c.in-Some.ensures in
    let one = c.split_at.ensures.back ∙ k.space.back-is in
    let two = along c.in-Some.span.name _ _ _ c.split_at.result.1.now c.split_at-in-Some.result.1.now k.name one c.split_at-in-Some.ensures.back in
    let three = along c.in-Some.span.value.before _ _ _ c.split_at-in-Some.result.1.now c.split_at-in-Some-2.result.1.now k.sign two c.split_at-in-Some-2.ensures.back in
    let four = along c.in-Some.span.value.count _ _ _ c.split_at-in-Some-2.result.1.now c.split_at-in-Some-3.result.1.now k.value three c.split_at-in-Some-3.ensures.back in
    let five = along c.in-Some.span.value.after _ _ _ c.split_at-in-Some-3.result.1.now c.split_at-in-Some-4.result.1.now k.close four c.split_at-in-Some-4.ensures.back in
    shows c.args.text.now c.in-Some.span k c.split_at.result.1.now c.split_at-in-Some.result.0.now c.split_at-in-Some.result.1.now c.split_at-in-Some-2.result.1.now c.split_at-in-Some-3.result.0.now c.split_at-in-Some-3.result.1.now c.split_at-in-Some-4.result.1.now one c.split_at-in-Some.ensures.front three c.split_at-in-Some-3.ensures.front five

pub returns-in-Some-clause-bound : goal.returns-in-Some-clause-bound
returns-in-Some-clause-bound c =
    let k = cuts c.args.text.now c.in-Some.span c.in-Some.ensures in
    let one = c.split_at.ensures.back ∙ k.space.back-is in
    let two = along c.in-Some.span.name _ _ _ c.split_at.result.1.now c.split_at-in-Some.result.1.now k.name one c.split_at-in-Some.ensures.back in
    let three = along c.in-Some.span.value.before _ _ _ c.split_at-in-Some.result.1.now c.split_at-in-Some-2.result.1.now k.sign two c.split_at-in-Some-2.ensures.back in
    let four = along c.in-Some.span.value.count _ _ _ c.split_at-in-Some-2.result.1.now c.split_at-in-Some-3.result.1.now k.value three c.split_at-in-Some-3.ensures.back in
    let five = along c.in-Some.span.value.after _ _ _ c.split_at-in-Some-3.result.1.now c.split_at-in-Some-4.result.1.now k.close four c.split_at-in-Some-4.ensures.back in
    shows_long c.args.text.now _ _ _ _ _ (shows c.args.text.now c.in-Some.span k c.split_at.result.1.now c.split_at-in-Some.result.0.now c.split_at-in-Some.result.1.now c.split_at-in-Some-2.result.1.now c.split_at-in-Some-3.result.0.now c.split_at-in-Some-3.result.1.now c.split_at-in-Some-4.result.1.now one c.split_at-in-Some.ensures.front three c.split_at-in-Some-3.ensures.front five)
