use Rattle.std.proofs.Common.{true, false, sym, ◌∙◌}
use Rattle.rip_lexer.proofs.Constructs.{word_token}
use Rattle.rip_lexer.proofs.construct.word.Goals as goal

pub returns-then-is_name-clause-construct : goal.returns-then-is_name-clause-construct
returns-then-is_name-clause-construct c =
    word_token c.args.units.now _ c.name_unit_count.result c.name_word-word.result true c.split_at.ensures.front c.name_unit_count.ensures.value c.requires c.name_word-word.ensures (sym c.if-is_name.true ∙ c.is_name.ensures)

pub returns-else-is_name-clause-construct : goal.returns-else-is_name-clause-construct
returns-else-is_name-clause-construct c =
    word_token c.args.units.now _ c.name_unit_count.result c.name_word-word.result false c.split_at.ensures.front c.name_unit_count.ensures.value c.requires c.name_word-word.ensures (sym c.if-is_name.false ∙ c.is_name.ensures)
