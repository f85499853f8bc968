-- The replies that wait to be delivered, and how many may.
use Rattle.std.specs.Prelude.{ℕ, Bool, List, [], length, nat_le}
use Rattle.rip_host.specs.declared.replies.WaitingReply.{WaitingReply}

-- the replies that are not delivered, in the order of their calls, and the most that there may be
pub record Waiting : Type 0 where
  pub most : ℕ
  pub replies : List WaitingReply

-- no reply yet, and so many may wait
abbrev pub none_waits : ℕ → Waiting
none_waits most = record { most = most; replies = [] }

-- no reply more may wait
abbrev pub is_full : Waiting → Bool
is_full u = nat_le u.most (length u.replies)
