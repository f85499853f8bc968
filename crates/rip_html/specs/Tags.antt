-- Names of elements by where they may stand (HTML 4.1.1, 4.2.1, 4.12.1, 13.1.2).
use Rattle.std.specs.Prelude.{ℕ, Bool, ◌||◌, List, [], ◌∷◌, codes}
use Rattle.std.specs.Str.{bytes_eq}
use Rattle.rip_markup.specs.Words.{is_among, void_names, refused_names}

-- elements that hold the parts of a page, and stand nowhere else
unfoldable pub part_names : List (List ℕ)
part_names = codes "html" ∷ codes "head" ∷ codes "body" ∷ []

-- elements that may stand in the head
unfoldable pub head_names : List (List ℕ)
head_names = codes "title" ∷ codes "style" ∷ codes "meta" ∷ codes "link" ∷ codes "base" ∷ []

-- the name of a script
abbrev pub is_script : List ℕ → Bool
is_script name = bytes_eq name (codes "script")

-- the name of an element with no content and no end tag
abbrev pub is_void : List ℕ → Bool
is_void name = is_among void_names name

-- the name of an element that no content has
abbrev pub is_outside : List ℕ → Bool
is_outside name = is_among refused_names name || is_among part_names name
