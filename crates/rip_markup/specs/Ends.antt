-- What the end of a tag shows.
use Rattle.std.specs.Prelude.{ℕ, Bool, false}
use Rattle.rip_markup.specs.declared.tag.TagEnd.{TagEnd}
use Rattle.rip_markup.specs.declared.tag.TagEnd.TheVariants.{Closed, NoAttribute}

-- it is `/>`
abbrev pub has_solidus : TagEnd → Bool
has_solidus (Closed solidus count) = solidus
has_solidus _ = false

-- how many units a tag has from its attributes on
abbrev pub end_count : TagEnd → ℕ
end_count (Closed solidus count) = count
end_count _ = 0

-- how much space stands where an attribute should
abbrev pub end_space : TagEnd → ℕ
end_space (NoAttribute space) = space
end_space _ = 0
