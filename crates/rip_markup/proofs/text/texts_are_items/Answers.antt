use Rattle.rip_markup.proofs.Items.{items_stand, each_has}
use Rattle.rip_markup.proofs.text.texts_are_items.Goals as goal

pub returns-clause-stands : goal.returns-clause-stands
returns-clause-stands c = λ text items bad read. items_stand text items bad read

pub returns-clause-has : goal.returns-clause-has
returns-clause-has c = λ text. each_has text
