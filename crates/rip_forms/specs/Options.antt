-- The options of a select (HTML 4.01 17.6), and which of them is chosen.
use Rattle.std.specs.Prelude.{ℕ, ℤ, pos, negsuc, ◌+◌, Bool, true, false, is_some, if◌then◌else◌, Option, None, Some, List, [], ◌∷◌, codes, option_and_then, option_map, slice_get, unwrap_or}
use Rattle.std.specs.List.{filter}
use Rattle.rip_values.specs.Pool.{Texts}
use Rattle.rip_dom.specs.Order.{in_order}
use Rattle.rip_dom.specs.Tree.{Tree}
use Rattle.rip_forms.specs.Controls.{has_attribute, is_choice, part_of}
use Rattle.rip_forms.specs.States.{States, state_at}

-- the node is an option
abbrev pub is_option : Texts → Tree → ℕ → Bool
is_option pool t n = is_choice (part_of pool t n)

-- the options of a select: those below it, in document order
abbrev pub options_of : Texts → Tree → ℕ → List ℕ
options_of pool t n = filter (is_option pool t) (in_order t n)

-- the node has the attribute `selected`
abbrev pub is_selected : Texts → Tree → ℕ → Bool
is_selected pool t n = has_attribute pool t n (codes "selected")

-- behind an item comes the place that was found among the rest; else it is that of the item, where it passes the test
abbrev pub place_behind : Bool → Option ℕ → Option ℕ
place_behind here (Some k) = Some (k + 1)
place_behind here None = if here then Some 0 else None

-- the place of the last item that passes the test
abbrev pub last_place : (ℕ → Bool) → List ℕ → Option ℕ
last_place f [] = None
last_place f (x ∷ xs) = place_behind (f x) (last_place f xs)

-- where `selectedIndex` begins: at the last option with `selected`, else at the first (HTML 4.01 17.6.1)
abbrev pub first_choice : Texts → Tree → ℕ → ℕ
first_choice pool t n = unwrap_or (last_place (is_selected pool t) (options_of pool t n)) 0

-- the place that was set last, or else the one at which it begins
abbrev pub place_set : Texts → Tree → States → ℕ → ℤ
place_set pool t f n = unwrap_or (state_at f n).selected (pos (first_choice pool t n))

-- the option at this place
abbrev pub option_at : Texts → Tree → ℕ → ℤ → Option ℕ
option_at pool t n (pos k) = slice_get (options_of pool t n) k
option_at pool t n (negsuc k) = None

-- the option that is chosen, or none where none has the place that was set
abbrev pub chosen_of : Texts → Tree → States → ℕ → Option ℕ
chosen_of pool t f n = option_at pool t n (place_set pool t f n)

-- `selectedIndex` of a select: the place that was set last, or at which it begins; -1 where no option has that place
-- (DOM Level 2 HTML, HTMLSelectElement)
abbrev pub selected_of : Texts → Tree → States → ℕ → ℤ
selected_of pool t f n = if is_some (chosen_of pool t f n) then place_set pool t f n else negsuc 0
