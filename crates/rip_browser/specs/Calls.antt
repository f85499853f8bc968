-- How a reported call stands to the calls that the script made.
use Rattle.std.specs.Prelude.{ℕ, ◌+◌, ◌==◌, ◌&&◌, Bool, false, not, is_some, nat_eq, if◌then◌else◌, Option, None, Some, List, map, option_and_then, slice_get}
use Rattle.std.specs.Cmp.Lexicographic.{pointwise}
use Rattle.rip_calls.specs.Calls.{Calls, front_callback, front_text}
use Rattle.rip_replica.specs.declared.items.page_host.Position.{Position}
use Rattle.rip_replica.specs.declared.items.page_host.Position.TheVariants as position
use Rattle.rip_host.specs.declared.browser.Browser.{Browser}
use Rattle.rip_host.specs.Waiting.{Waiting, is_full}

-- the texts of all calls that the script made
abbrev pub made_texts : Calls → List (List ℕ)
made_texts c = map (λ m. m.text) c.made

-- the call at this position has a callback
abbrev pub has_callback : Calls → ℕ → Bool
has_callback c k = is_some (option_and_then (λ m. m.callback) (slice_get c.made k))

-- there is a text, and it is this one
abbrev pub is_text : Option (List ℕ) → List ℕ → Bool
is_text None text = false
is_text (Some made) text = pointwise nat_eq made text

-- a call that is the one at hand is served, but where it has a callback and no reply more may be undelivered
abbrev pub at_hand : Calls → Waiting → Position
at_hand c undelivered =
    if is_some (front_callback c) && is_full undelivered then position.TooMany else position.Served

-- a reported call of this number and text: its number is to be the next, and its text that of the call at hand
abbrev pub position_in : Calls → Waiting → ℕ → List ℕ → Position
position_in c undelivered number text =
    if not (number == c.taken + 1) then position.NotNext
    else if is_text (front_text c) text then at_hand c undelivered
    else position.Other

abbrev pub position_of : Browser → ℕ → List ℕ → Position
position_of s number text = position_in s.calls s.undelivered number text
