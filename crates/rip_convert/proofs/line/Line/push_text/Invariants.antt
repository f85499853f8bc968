use Rattle.std.proofs.Common.{◌≡◌, ◌≤◌, ◌-◌, ◌∷◌, ◌++◌, [], length, drop}
use Rattle.json.specs.Print.{escape}
use Rattle.rip_data.specs.Datum.{utf8_of}
use Rattle.rip_convert.specs.Written.{added}
use Rattle.rip_convert.proofs.line.Line.push_text.Given as goal

-- what is there and what is left make up the whole
abbrev pub invariant-loop-at : goal.invariant-loop-at
invariant-loop-at l = (l.at ≤ length l.units)
    × (added l.self (escape (utf8_of (drop l.at l.units)) ++ 34 ∷ []) ≡ added l.initial.self (escape (utf8_of l.units) ++ 34 ∷ []))

abbrev pub decreases-loop-at : goal.decreases-loop-at
decreases-loop-at l = length l.units - l.at
