use Rattle.std.proofs.Common.{◌≡◌, ◌+◌, ◌∷◌, [], ◌++◌, length, drop, ap, ◌∙◌, arith, length-append}
use Rattle.std.proofs.lemmas.List.{drop_all}
use Rattle.json.specs.Print.{escape}
use Rattle.rip_data.specs.Datum.{utf8_of}
use Rattle.rip_data.specs.Written.{escaped_length}
use Rattle.rip_data.proofs.SizeLemmas.{escaped_length-nil}
use Rattle.rip_data.proofs.size.quoted_length.Goals as goal

pub returns : goal.returns
returns c =
    let us = c.args.units.now in
    let none : drop c.loop-at.at us ≡ [] = drop_all c.loop-at.at us (omega arith) in
    let left : escaped_length (drop c.loop-at.at us) ≡ 0 = ap escaped_length none ∙ escaped_length-nil in
    let quotes : length (34 ∷ (escape (utf8_of us) ++ 34 ∷ [])) ≡ 2 + escaped_length us = omega (arith, length-append (escape (utf8_of us)) (34 ∷ [])) in
    omega (arith, c.loop-at.invariant.1, left, quotes)
