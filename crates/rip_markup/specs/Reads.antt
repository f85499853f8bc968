-- What is read of an attribute's parts, as a function. `Tags.read_of` says the same of the attribute as it is written.
use Rattle.std.specs.Prelude.{ℕ, ◌+◌, List, length, option_map}
use Rattle.rip_base.specs.Units.{small_text}
use Rattle.rip_markup.specs.Steps.{decoded, bad_reference}
use Rattle.rip_markup.specs.declared.attribute.ReadAttribute.{ReadAttribute}

-- an attribute with this name and value as they are spelled, and so many units between them
abbrev pub read_parts : List ℕ → ℕ → List ℕ → ReadAttribute
read_parts name before value = record {
  name = small_text name;
  value = decoded 0 value;
  bad = option_map (λ place. length name + before + place) (bad_reference 0 0 value);
}
