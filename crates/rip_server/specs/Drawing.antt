-- The identifier that is drawn: private to this crate.
use Rattle.std.specs.Prelude.{ℕ, List, ◌++◌}
use Rattle.std.specs.Int.{to_be_bytes, w64}
use Rattle.uuid.specs.Parts.{with_version, with_variant}
use Rattle.uuid.specs.declared.Version.TheVariants.{Random}
use Rattle.uuid.specs.declared.Variant.TheVariants.{RFC4122}

-- the 16 bytes of two words, with version and variant set
abbrev pub identifier : ℕ → ℕ → List ℕ
identifier first second = with_version (with_variant (to_be_bytes w64 first ++ to_be_bytes w64 second) RFC4122) Random
