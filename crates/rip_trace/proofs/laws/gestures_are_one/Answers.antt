use Rattle.rip_trace.proofs.GestureTexts.{gestures_one}
use Rattle.rip_trace.proofs.laws.gestures_are_one.Goals as goal

pub returns : goal.returns
returns c = gestures_one
