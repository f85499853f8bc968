-- Names of elements and attributes, and values, that the page subset names.
use Rattle.std.specs.Prelude.{ℕ, Bool, true, false, ◌&&◌, ◌==◌, List, [], ◌∷◌, codes}
use Rattle.std.specs.Str.{bytes_eq}
use Rattle.std.specs.List.{list_any}

-- this word is in the list
abbrev pub is_among : List (List ℕ) → List ℕ → Bool
is_among words word = list_any (bytes_eq word) words

-- elements with no content and no end tag (HTML 13.1.2)
unfoldable pub void_names : List (List ℕ)
void_names =
    codes "area" ∷ codes "base" ∷ codes "br" ∷ codes "col" ∷ codes "hr" ∷ codes "img"
    ∷ codes "input" ∷ codes "link" ∷ codes "meta" ∷ codes "source" ∷ codes "track" ∷ codes "wbr" ∷ []

-- elements that no page of the subset has
unfoldable pub refused_names : List (List ℕ)
refused_names =
    codes "applet" ∷ codes "embed" ∷ codes "frame" ∷ codes "frameset" ∷ codes "iframe" ∷ codes "math" ∷ codes "noembed"
    ∷ codes "noframes" ∷ codes "noscript" ∷ codes "object" ∷ codes "plaintext" ∷ codes "svg" ∷ codes "template" ∷ codes "xmp" ∷ []

-- values of a script's `type`, in small letters: absent or empty, or a name of the language
unfoldable pub script_types : List (List ℕ)
script_types = [] ∷ codes "text/javascript" ∷ codes "application/javascript" ∷ []

-- the word begins with this one
abbrev pub begins_with : List ℕ → List ℕ → Bool
begins_with [] word = true
begins_with (c ∷ front) [] = false
begins_with (c ∷ front) (d ∷ word) = (d == c) && begins_with front word
