-- Values made of numbers.
use Rattle.rip_base.specs.declared.value.Numeral.{Numeral}
use Rattle.rip_base.specs.declared.value.Numeral.TheVariants as numeral
use Rattle.rip_base.specs.declared.value.Value.{Value}
use Rattle.rip_base.specs.declared.value.Value.TheVariants.{Num, NaN}

-- a number as a value
abbrev pub value_of_number : Numeral → Value
value_of_number (numeral.Num z) = Num z
value_of_number numeral.NaN = NaN
