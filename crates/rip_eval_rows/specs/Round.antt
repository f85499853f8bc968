-- Lists of statements and loops: what they do behind one of their parts keeps no value.
use Rattle.std.specs.Prelude.{◌≡◌, []}
use Rattle.rip_heap.specs.World.{World}
use Rattle.rip_eval_rows.specs.declared.completion.Completion.{Completion}
use Rattle.rip_eval_rows.specs.declared.frame.OwnWait.{OwnWait}
use Rattle.rip_eval_rows.specs.declared.frame.OwnWait.TheVariants.{Statement as OwnStatement, DoBody as OwnDoBody, DoTest as OwnDoTest, WhileTest as OwnWhileTest, WhileBody as OwnWhileBody, ForTest as OwnForTest, ForUpdate as OwnForUpdate, ForBody as OwnForBody}
use Rattle.rip_eval_rows.specs.declared.frame.Wait.TheVariants.{Own}
use Rattle.rip_eval_rows.specs.declared.next.Next.{Next}
use Rattle.rip_eval_rows.specs.declared.next.Next.TheVariants.{Ask, End, Turn}
use Rattle.rip_eval_rows.specs.declared.part.Inner.{Inner}
use Rattle.rip_eval_rows.specs.declared.part.Part.{Part as OpenPart}
use Rattle.rip_eval_rows.specs.declared.round.Round.{Round}
use Rattle.rip_eval_rows.specs.declared.round.Round.TheVariants.{End as RoundEnd, Part}
use Rattle.rip_eval_rows.specs.declared.round.RoundWait.{RoundWait}
use Rattle.rip_eval_rows.specs.declared.round.RoundWait.TheVariants.{Statement, DoBody, DoTest, WhileTest, WhileBody, ForTest, ForUpdate, ForBody}
use Rattle.rip_eval_rows.specs.Frame.{inner, waiting}
use Rattle.rip_eval_rows.specs.Row.{Row, Table}
use Rattle.rip_eval_rows.specs.Stack.{framed}

-- the place among those of all parts
abbrev pub own_wait : RoundWait → OwnWait
own_wait (Statement place ending) = OwnStatement place ending
own_wait DoBody = OwnDoBody
own_wait DoTest = OwnDoTest
own_wait WhileTest = OwnWhileTest
own_wait WhileBody = OwnWhileBody
own_wait ForTest = OwnForTest
own_wait ForUpdate = OwnForUpdate
own_wait ForBody = OwnForBody

-- the open part waits there for this part: a list for a statement, a loop for a part of its turn
abbrev pub asked_at : RoundWait → Inner → Next
asked_at (Statement place ending) part = Ask part (Own (OwnStatement place ending))
asked_at DoBody part = Turn part (Own OwnDoBody)
asked_at DoTest part = Turn part (Own OwnDoTest)
asked_at WhileTest part = Turn part (Own OwnWhileTest)
asked_at WhileBody part = Turn part (Own OwnWhileBody)
asked_at ForTest part = Turn part (Own OwnForTest)
asked_at ForUpdate part = Turn part (Own OwnForUpdate)
asked_at ForBody part = Turn part (Own OwnForBody)

-- what the open part does next
abbrev pub round_next : OpenPart → Round → Next
round_next at (Part node wait) = asked_at wait (inner at node)
round_next at (RoundEnd c) = End c

-- what is left of the row of an open part that waits there, with no values beside its frame
abbrev pub rest_at : Table → OpenPart → RoundWait → Completion → World → Row
rest_at t at wait c w = t.rest (framed (waiting at (Own (own_wait wait))) []) c w
