use Rattle.std.specs.Prelude.{ℤ, pos, negsuc, ◌≤ℤ◌}

-- a whole number of the script language: of absolute value at most 2^53 - 1
abbrev pub IsWhole : ℤ → Type 0
IsWhole z = (negsuc 9007199254740990 ≤ℤ z) × (z ≤ℤ pos 9007199254740991)
