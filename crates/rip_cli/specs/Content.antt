use Rattle.std.specs.Prelude.{ℕ, Bool, true, false, List, []}
use Rattle.rip_cli.specs.declared.input.Content.{Content}
use Rattle.rip_cli.specs.declared.input.Content.TheVariants.{Bytes, TooLong}

-- the bytes of a content, or none where there are too many
abbrev pub content_bytes : Content → List ℕ
content_bytes (Bytes content) = content
content_bytes TooLong = []

-- there are too many
abbrev pub is_long : Content → Bool
is_long (Bytes content) = false
is_long TooLong = true
