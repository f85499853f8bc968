-- When a reported call may be served, and the browser after it.
use Rattle.std.specs.Prelude.{ℕ, ℤ, pos, ◌+◌, ◌^◌, ◌&&◌, ◌||◌, Bool, is_none, length, min, nat_lt, not}
use Rattle.rip_calls.specs.Calls.{front_callback}
use Rattle.rip_history.specs.Parts.{Given}
use Rattle.rip_host.specs.declared.browser.Browser.{Browser}
use Rattle.rip_host.specs.Replies.{call_served}
use Rattle.rip_host.specs.Waiting.{is_full}

-- the call that is next has no callback, or its reply may wait
abbrev pub has_room : Browser → Bool
has_room s = is_none (front_callback s.calls) || not (is_full s.undelivered)

-- a call waits, its number fits 64 bits, and there is room for its reply
abbrev pub may_serve : Browser → Bool
may_serve s = nat_lt (s.calls.taken + 1) (2 ^ 64) && nat_lt s.calls.taken (length s.calls.made) && has_room s

-- the moment of so many milliseconds; the last moment stands for those past it
abbrev pub moment_of : ℕ → ℤ
moment_of time = pos (min time 9007199254740991)

-- the browser after the call that is next was served in this batch and given this
abbrev pub served : ℕ → Given → Browser → Browser
served batch g s = call_served s batch (moment_of g.time) g.reply
