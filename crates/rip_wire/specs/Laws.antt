-- Laws of texts and bodies.
use Rattle.std.specs.Prelude.{◌≡◌, ℕ, List}
use Rattle.rip_data.specs.Reading.{value_of}
use Rattle.rip_wire.specs.Batches.{Contents, batch_text, IsBatch, Spells}
use Rattle.rip_wire.specs.Answers.{Said, answer_text, IsAnswer}

-- no two batches in range have one text
abbrev pub TextTellsBatch : Type 0
TextTellsBatch = (b c : Contents) → IsBatch b → IsBatch c → batch_text b ≡ batch_text c → b ≡ c

-- each batch in range is spelled by its text
abbrev pub TextSpellsBatch : Type 0
TextSpellsBatch = (b : Contents) → IsBatch b → Spells (batch_text b) b

-- a body spells one batch at most
abbrev pub BodyTellsBatch : Type 0
BodyTellsBatch = (body : List ℕ) (b c : Contents) → Spells body b → Spells body c → b ≡ c

-- the bodies of one batch are one value: they differ in white space, in the order of members and in escapes, and no more
abbrev pub BodiesAreOneValue : Type 0
BodiesAreOneValue = (one other : List ℕ) (b : Contents) → Spells one b → Spells other b → value_of one ≡ value_of other

-- no two answers have one body
abbrev pub BodyTellsAnswer : Type 0
BodyTellsAnswer = (a b : Said) → IsAnswer a → IsAnswer b → answer_text a ≡ answer_text b → a ≡ b
