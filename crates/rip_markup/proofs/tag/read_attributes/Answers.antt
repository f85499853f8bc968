use Rattle.std.proofs.Common.{◌+◌, ◌≤◌, ◌∙◌, IfSome, option_map, ◌||◌, ◌++◌, ◌∷◌, [], length, sym, ap, subst, arith}
use Rattle.rip_markup.specs.Tags.{AreRead}
use Rattle.rip_markup.specs.Fault.{shifted, option_or}
use Rattle.rip_base.specs.declared.page.Attribute.{Attribute}
use Rattle.rip_markup.specs.declared.fault.Fault.{Fault}
use Rattle.rip_markup.proofs.Turns.{read_more, read_all, names_of, names-append}
use Rattle.rip_markup.specs.Words.{is_among}
use Rattle.rip_markup.specs.Known.{Knows}
use Rattle.rip_markup.proofs.tag.read_attributes.Goals as goal

pub first_fault-fault-requires : goal.first_fault-fault-requires
first_fault-fault-requires c = λ found is.
    let most = length c.in-Some.parts.name.now + c.in-Some.parts.before + length c.in-Some.parts.value.now in
    let within : found.offset ≤ most = subst (λ o. IfSome o (λ (f : Fault). f.offset ≤ most)) is (c.attribute_fault.ensures.bound most c.in_ok-read.ensures.bound) in
    omega (arith, within, c.in-Some.ensures.bound.0, c.loop-parts.invariant.bound, c.requires)

pub loop-parts-preserved : goal.loop-parts-preserved
loop-parts-preserved c =
    let was = c.loop-parts.invariant in
    let parts = c.in-Some.parts in
    let name = c.as_slice.ensures in
    let known = c.in_ok-double.ensures (names_of c.loop-parts.pairs.items) was.seen in
    let pushed = c.in_ok-push.ensures.items ∙ ap (λ (p : Attribute). c.loop-parts.pairs.items ++ p ∷ []) c.pair.ensures in
    record {
      seen = subst (λ ps. Knows c.add_name.new.seen (names_of ps)) (sym pushed) (subst (λ ns. Knows c.add_name.new.seen ns) (sym (names-append c.loop-parts.pairs.items _)) (subst (λ n. Knows c.add_name.new.seen (names_of c.loop-parts.pairs.items ++ n ∷ [])) name known.1));
      bound = omega (arith, was.bound, c.in-Some.ensures.bound.1);
      reads = read_more c.args.tag.now c.args.start c.args.text.now c.loop-parts.place c.loop-parts.rest.now c.loop-parts.pairs.items c.loop-parts.fault c.loop-parts.against parts.space parts.name.now parts.before parts.value.now parts.rest.now c.in_ok-read.read c.in_ok-double.double c.first_fault-fault.result c.or-against.result c.push.new.self.items _
          was.reads c.in-Some.ensures.shows c.in_ok-read.ensures.read
          (known.0 ∙ ap (λ n. is_among (names_of c.loop-parts.pairs.items) n) name)
          (c.first_fault-fault.ensures ∙ ap (λ f. option_or c.loop-parts.fault (option_map (shifted (c.loop-parts.place + parts.space)) f)) c.attribute_fault.ensures.value)
          (c.or-against.ensures ∙ ap (λ b. c.loop-parts.against || b) c.is_against.ensures)
          pushed
          (omega (arith, c.in-Some.ensures.bound.1));
    }

pub returns-clause-read : goal.returns-clause-read
returns-clause-read c =
    let none = c.in_default.ensures.shows in (
      c.loop-parts.rest.now,
      subst (λ ps. AreRead c.args.tag.now c.args.start c.args.text.now c.loop-parts.rest.now ps c.loop-parts.fault c.loop-parts.against c.loop-parts.place) (sym c.from_vec.ensures)
          (read_all c.args.tag.now c.args.start c.args.text.now c.loop-parts.place c.loop-parts.rest.now c.loop-parts.pairs.items c.loop-parts.fault c.loop-parts.against c.loop-parts.invariant.reads none),
    )

pub returns-clause-bound : goal.returns-clause-bound
returns-clause-bound c =
    let none = c.in_default.ensures.shows in
    let all = read_all c.args.tag.now c.args.start c.args.text.now c.loop-parts.place c.loop-parts.rest.now c.loop-parts.pairs.items c.loop-parts.fault c.loop-parts.against c.loop-parts.invariant.reads none in
    (omega (arith, all.place-is), omega (arith, c.loop-parts.invariant.bound))
