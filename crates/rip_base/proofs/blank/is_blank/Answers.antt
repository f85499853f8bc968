use Rattle.std.proofs.Common.{◌≡◌, Bool, true, false, ◌||◌}
use Rattle.rip_base.specs.Blank.{is_blank}
use Rattle.rip_base.proofs.blank.is_blank.Goals as goal

or_first : (r a b : Bool) → r ≡ a → r ≡ true → r ≡ (a || b)
or_first r true b e t = t
or_first r false b e t = cc

or_second : (r s a b : Bool) → r ≡ a → r ≡ false → s ≡ b → s ≡ (a || b)
or_second r s true b e f h = cc
or_second r s false b e f h = h

pub returns-then-is_white_space : goal.returns-then-is_white_space
unfolding is_blank
returns-then-is_white_space c = or_first _ _ _ c.is_white_space.ensures c.if-is_white_space.true

pub returns-else-is_white_space : goal.returns-else-is_white_space
unfolding is_blank
returns-else-is_white_space c = or_second _ _ _ _ c.is_white_space.ensures c.if-is_white_space.false c.is_line_end.ensures
