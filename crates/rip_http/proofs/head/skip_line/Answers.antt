use Rattle.std.proofs.Common.{◌≡◌, ◌-◌, Some, take, drop, length, sym, ap, ◌∙◌, arith}
use Rattle.std.proofs.lemmas.List.{take_all, length-drop}
use Rattle.rip_http.specs.declared.head.Scan.TheVariants.{Inside}
use Rattle.rip_http.proofs.HeadLemmas.{after_rest}
use Rattle.rip_http.proofs.head.skip_line.Goals as goal

pub returns-in-Inside-clause-looked : goal.returns-in-Inside-clause-looked
returns-in-Inside-clause-looked c =
    let xs = c.args.bytes.now in
    let i = c.args.from in
    let scan : c.args.scan ≡ Inside = c.in-Inside.is in
    let same : take (length xs - i) (drop i xs) ≡ drop i xs = take_all (length xs - i) (drop i xs) (omega (arith, length-drop i xs)) in
    after_rest xs (take (length xs - i) (drop i xs)) i c.line_length.result same c.requires.within c.line_length.ensures.within c.line_length.ensures.inside (c.requires.looked ∙ ap Some scan) ∙ ap Some (sym scan)
