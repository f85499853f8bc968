use Rattle.std.proofs.Common.{◌∙◌, ◌++◌, [], sym, ap, subst, append_assoc, append-nil, option_to_list, slice_index_or}
use Rattle.rip_lexer.proofs.Values.{Remains, remains_all, remains_none, value_turn}
use Rattle.rip_lexer.proofs.text.push_value.Goals as goal

pub loop-character-init : goal.loop-character-init
loop-character-init c = record {
  kept = ([], sym (append-nil c.args.out.now.items));
  remains = subst (λ u. Remains c.args.spelling.now (slice_index_or c.args.spelling.now 0 0) u c.args.out.now.items c.args.out.now.items) (sym c.split_at.ensures.back) (remains_all c.args.spelling.now c.requires.0 c.args.out.now.items c.requires.1);
}

pub loop-character-preserved : goal.loop-character-preserved
loop-character-preserved c =
    let was = c.loop-character.invariant in
    let pushed = c.in_ok-push_unit.ensures.ok in
    record {
      kept = (was.kept.0 ++ option_to_list c.value.result, pushed ∙ ap (λ u. u ++ option_to_list c.value.result) was.kept.1 ∙ append_assoc c.args.out.now.items was.kept.0 (option_to_list c.value.result));
      remains = value_turn c.args.spelling.now (slice_index_or c.args.spelling.now 0 0) c.loop-character.rest.now c.split_at-in-Some.result.1.now c.args.out.now.items c.loop-character.out.items c.push_unit.new.out.items c.in-Some.character c.value.result c.width.result was.remains c.in-Some.ensures.value c.split_at-in-Some.ensures.back c.width.ensures c.value.ensures pushed;
    }

pub returns-clause-ok : goal.returns-clause-ok
returns-clause-ok c = λ units stands. remains_none c.args.spelling.now (slice_index_or c.args.spelling.now 0 0) c.loop-character.rest.now c.args.out.now.items c.loop-character.out.items c.loop-character.invariant.remains (sym c.in_default.ensures.value) units stands
