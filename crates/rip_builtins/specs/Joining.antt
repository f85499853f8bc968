-- `join` (ECMA-262 15.4.4.5).
use Rattle.std.specs.Prelude.{ℕ, List, [], ◌∷◌, ◌++◌, Result, Ok, Err, map, codes, ◌+◌, length, nat_le, if◌then◌else◌}
use Rattle.std.specs.List.{flat_map}
use Rattle.std.specs.Fmt.{signed_decimal}
use Rattle.rip_base.specs.declared.value.Span.{Span}
use Rattle.rip_base.specs.declared.value.Value.{Value}
use Rattle.rip_base.specs.declared.value.Value.TheVariants.{Undefined, Null, Bool as Boolean, Num, NaN, Text, Object}
use Rattle.rip_values.specs.Pool.{Texts}
use Rattle.rip_base.specs.declared.value.Fault.TheVariants.{ObjectToPrimitive, TextTooLong}
use Rattle.rip_base.specs.declared.value.Limit.TheVariants.{Units}
use Rattle.rip_heap.specs.declared.outcome.Halt.{Halt}
use Rattle.rip_heap.specs.declared.outcome.Halt.TheVariants.{Fault as HaltFault, Limit as HaltLimit}
use Rattle.rip_heap.specs.Arrays.{elements_at}
use Rattle.rip_heap.specs.Conversions.{text_of_value, text_in}
use Rattle.rip_heap.specs.Outcome.{Outcome, halting, judged}
use Rattle.rip_heap.specs.World.{World}
use Rattle.rip_builtins.specs.Arguments.{argument}

-- THE CONVERSIONS

abbrev pub next_from : Result Span Halt → World → (World → Result World Halt) → Result World Halt
next_from (Ok span) w further = further w
next_from (Err halt) w further = Err halt

-- what follows a conversion, or how it halts
abbrev pub next : Result Span Halt × World → (World → Result World Halt) → Result World Halt
next made further = next_from made.0 made.1 further

-- the world in which all the values were made texts, in their order, or how the first halts that has no text
abbrev pub converted : World → List Value → Result World Halt
converted w [] = Ok w
converted w (v ∷ rest) = next (text_of_value w v) (λ u. converted u rest)

-- THE CHARGES

-- the units that are charged behind a numeral of so many, which is judged before its charge
abbrev pub numeral_charged : Texts → ℕ → ℕ → Result ℕ Halt
numeral_charged pool used count =
    if nat_le count pool.text_limit then
    (if nat_le (used + count) pool.limit then Ok (used + count) else Err (HaltLimit Units))
    else Err (HaltFault TextTooLong)

-- the same behind a conversion, of which so many were charged before it
abbrev pub charged : Texts → ℕ → Value → Result ℕ Halt
charged pool used Undefined = Ok used
charged pool used Null = Ok used
charged pool used (Boolean b) = Ok used
charged pool used (Num z) = numeral_charged pool used (length (signed_decimal z))
charged pool used NaN = Ok used
charged pool used (Text span) = Ok used
charged pool used (Object n) = Err (HaltFault ObjectToPrimitive)

abbrev pub then_charged : Result ℕ Halt → (ℕ → Result ℕ Halt) → Result ℕ Halt
then_charged (Ok used) further = further used
then_charged (Err halt) further = Err halt

-- the same behind all conversions
abbrev pub all_charged : Texts → ℕ → List Value → Result ℕ Halt
all_charged pool used [] = Ok used
all_charged pool used (v ∷ rest) = then_charged (charged pool used v) (λ more. all_charged pool more rest)

-- THE TEXT

-- the numeral of a number; other values have none
abbrev pub numeral_of : Value → List ℕ
numeral_of Undefined = []
numeral_of Null = []
numeral_of (Boolean b) = []
numeral_of (Num z) = signed_decimal z
numeral_of NaN = []
numeral_of (Text span) = []
numeral_of (Object n) = []

-- the text of an element, of which null and undefined are empty (steps 8 and 10)
abbrev pub element_in : World → Value → List ℕ
element_in w Undefined = []
element_in w Null = []
element_in w v = text_in w v

-- the separator, which is a comma where none is given (steps 4 and 5)
abbrev pub separator_in : World → Value → List ℕ
separator_in w Undefined = codes ","
separator_in w v = text_in w v

-- the texts joined: the first, and each other behind the separator
abbrev pub joined_by : List ℕ → List (List ℕ) → List ℕ
joined_by separator [] = []
joined_by separator (text ∷ rest) = text ++ flat_map (λ other. separator ++ other) rest

-- THE CALL

abbrev pub after_all : Result World Halt → (World → Outcome) → Outcome
after_all (Ok w) further = further w
after_all (Err halt) further = halting halt

-- all values to texts, the separator first, and then the texts of the elements joined to a new one
abbrev pub join_items : World → Value → List Value → Outcome
join_items w separator items =
    after_all (converted w (separator ∷ items)) (λ u. judged u (joined_by (separator_in w separator) (map (element_in w) items)))

-- `join`
abbrev pub join : World → ℕ → List Value → Outcome
join w n args = join_items w (argument args 0) (elements_at w n)
