-- Tokens and their faults stand within the text.
use Rattle.std.specs.Prelude.{ℕ, ◌+◌, ◌≤◌, List, length, Option, IfSome}
use Rattle.std.specs.List.{AllByRecursion}
use Rattle.rip_markup.specs.Tokens.{IsTokens}
use Rattle.rip_markup.specs.declared.fault.Fault.{Fault}
use Rattle.rip_markup.specs.declared.token.Token.{Token}
use Rattle.rip_markup.specs.declared.token.Token.TheVariants as T
use Rattle.rip_markup.specs.declared.token.Placed.{Placed}

-- a fault, if there is one, stands at most so many units behind the first
abbrev pub FaultWithin : Option Fault → ℕ → Type 0
FaultWithin o n = IfSome o (λ f. f.offset ≤ n)

-- the fault of a token, and the first unit of a text that isn't space, stand at most so many units behind its first
abbrev pub TokenWithin : ℕ → Token → Type 0
TokenWithin n (T.Text run) = (run.space ≤ n) × FaultWithin run.fault n
TokenWithin n (T.StartTag tag) = FaultWithin tag.fault n
TokenWithin n _ = Unit {0}

-- a token and its fault stand at this place or before it
abbrev pub PlacedWithin : ℕ → Placed → Type 0
PlacedWithin end t = (n : ℕ) × (t.place + n ≤ end) × TokenWithin n t.token

-- the tokens of a text and their faults stand within it
abbrev pub AreWithin : Type 0
AreWithin = (text : List ℕ) (tokens : List Placed) → IsTokens text tokens → AllByRecursion (PlacedWithin (length text)) tokens
