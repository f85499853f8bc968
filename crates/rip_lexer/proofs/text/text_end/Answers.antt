use Rattle.std.proofs.Common.{◌≡◌, drop, sym, ap, ◌∙◌, arith, rules, slice_index_or}
use Rattle.rip_lexer.proofs.Texts.{text_goes_on, head_class, closed_end, open_end}
use Rattle.rip_lexer.specs.Text.{width}
use Rattle.rip_lexer.proofs.text.text_end.Goals as goal

pub loop-character-preserved : goal.loop-character-preserved
loop-character-preserved c =
    let was = c.loop-character.invariant in
    let tail : c.split_at-in-Some.result.1.now ≡ drop (width c.in-Some.character) c.loop-character.rest.now = c.split_at-in-Some.ensures.back ∙ ap (λ n. drop n c.loop-character.rest.now) c.width.ensures in
    record {
      bound = omega (arith, c.split_at-in-Some.ensures.back_len, c.width.ensures, c.width-count.ensures);
      reads = text_goes_on c.args.units.now c.loop-character.rest.now c.split_at-in-Some.result.1.now (slice_index_or c.args.units.now 0 0) c.loop-character.count c.width-count.result c.loop-character.fault c.first_fault-fault.result c.in-Some.character c.in-Some.ensures.value was.reads tail c.width-count.ensures c.first_fault-fault.ensures.value;
      fault = search rules;
    }

pub returns-then-begins_with-clause-reads : goal.returns-then-begins_with-clause-reads
returns-then-begins_with-clause-reads c =
    let was = c.loop-character.invariant in
    let quote = slice_index_or c.args.units.now 0 0 in
    closed_end c.args.units.now c.loop-character.rest.now quote c.loop-character.count c.loop-character.fault (head_class c.args.units.now c.requires) was.bound was.reads (sym c.in_default.ensures.value) (sym c.begins_with.ensures ∙ c.if-begins_with.true)

pub returns-else-begins_with-clause-reads : goal.returns-else-begins_with-clause-reads
returns-else-begins_with-clause-reads c =
    let was = c.loop-character.invariant in
    let quote = slice_index_or c.args.units.now 0 0 in
    open_end c.args.units.now c.loop-character.rest.now quote c.loop-character.count c.loop-character.fault (head_class c.args.units.now c.requires) was.bound was.reads (sym c.in_default.ensures.value) (sym c.begins_with.ensures ∙ c.if-begins_with.false)
