-- The served calls whose replies are not delivered.
use Rattle.std.specs.Prelude.{ℕ, ℤ, ◌+◌, ◌==◌, ◌&&◌, nat_lt, Bool, if◌then◌else◌, Option, None, Some, List, [], ◌∷◌, ◌++◌, find}
use Rattle.rip_data.specs.Datum.{Tree}
use Rattle.rip_calls.specs.Calls.{front_callback, without_front}
use Rattle.rip_host.specs.declared.browser.Browser.{Browser}
use Rattle.rip_host.specs.declared.replies.WaitingReply.{WaitingReply}
use Rattle.rip_host.specs.Waiting.{Waiting}

-- the reply is to the call of this number, which was served in a batch before this one
abbrev pub is_due : ℕ → ℕ → WaitingReply → Bool
is_due number batch r = (r.number == number) && nat_lt r.batch batch

-- the reply that is due to a call in a batch, if there is one
abbrev pub due : ℕ → ℕ → List WaitingReply → Option WaitingReply
due number batch rs = find (is_due number batch) rs

-- the replies without that one
abbrev pub without_due : ℕ → ℕ → List WaitingReply → List WaitingReply
without_due number batch [] = []
without_due number batch (r ∷ rs) = if is_due number batch r then rs else (r ∷ without_due number batch rs)

-- what waits without that one
abbrev pub without_reply_to : ℕ → ℕ → Waiting → Waiting
without_reply_to number batch u = record u { replies = without_due number batch u.replies }

-- the replies, and behind them that to a call with this callback; a call without one has no reply to deliver
abbrev pub with_reply : Option ℕ → ℕ → ℕ → ℤ → Tree → List WaitingReply → List WaitingReply
with_reply None number batch time reply rs = rs
with_reply (Some f) number batch time reply rs =
    rs ++ record { number = number; batch = batch; callback = f; time = time; reply = reply } ∷ []

-- the call that is next is served in this batch at this moment: it is taken, and its reply waits if it has a callback
abbrev pub call_served : Browser → ℕ → ℤ → Tree → Browser
call_served s batch time reply = record s {
  calls = without_front s.calls;
  undelivered = record s.undelivered {
    replies = with_reply (front_callback s.calls) (s.calls.taken + 1) batch time reply s.undelivered.replies;
  };
}
