-- How listeners are kept: those of one node hang together, each with the number of the next.
use Rattle.std.specs.Prelude.{◌≡◌, ℕ, suc, Bool, ◌-◌, ◌^◌, ◌<◌, ◌≤◌, ◌==◌, Option, None, Some, List, length, slice_index_or, slice_set}
use Rattle.rip_events.specs.declared.listener.Listener.{Listener}
use Rattle.rip_events.specs.declared.listeners.Ends.{Ends}
use Rattle.rip_events.specs.Listed.{listener_at, first_number}

-- the ends of the chain of a node without listeners
abbrev pub no_ends : Ends
no_ends = record { first = None; last = None }

-- the ends of the chain of a node
abbrev pub ends_at : List Ends → ℕ → Ends
ends_at ends p = slice_index_or ends p no_ends

-- the number that is behind this one in its chain
abbrev pub link_at : List (Option ℕ) → ℕ → Option ℕ
link_at links n = slice_index_or links n None

-- the listener of this number is on this node
abbrev pub is_on : List Listener → ℕ → ℕ → Bool
is_on all p n = (listener_at all n).node == p

-- the first listener of a node from this number on
abbrev pub first_on : List Listener → ℕ → ℕ → Option ℕ
first_on all p from = first_number (length all - from) from (is_on all p)

-- these ends with one number more, behind the others
abbrev pub or_this : Option ℕ → ℕ → Option ℕ
or_this None n = Some n
or_this (Some m) n = Some m

-- the ends of a chain with this number behind the others
abbrev pub ends_with : Ends → ℕ → Ends
ends_with e n = record { first = or_this e.first n; last = Some n }

-- the link of the last one leads to this number
abbrev pub with_link : List (Option ℕ) → Option ℕ → ℕ → List (Option ℕ)
with_link links None n = links
with_link links (Some l) n = slice_set links l (Some n)

-- each node has the ends that it had
abbrev pub AreSameEnds : List Ends → List Ends → Type 0
AreSameEnds old new = (p : ℕ) → ends_at new p ≡ ends_at old p

-- each link leads to the next listener of the same node, and all that may still be registered has room
pub record IsChained (limit : ℕ) (all : List Listener) (standing : List Bool) (links : List (Option ℕ)) (ends : List Ends) : Type 0 where
  pub standing_count : length standing ≡ length all
  pub link_count : length links ≡ length all
  pub few : length all ≤ limit
  pub small : limit < 2 ^ 32
  pub first : (p : ℕ) → (ends_at ends p).first ≡ first_on all p 0
  pub next : (n : ℕ) → n < length all → link_at links n ≡ first_on all (listener_at all n).node (suc n)
  pub last : (p l : ℕ) → (ends_at ends p).last ≡ Some l → (l < length all) × ((listener_at all l).node ≡ p) × (link_at links l ≡ None)
  pub empty : (p : ℕ) → (ends_at ends p).last ≡ None → first_on all p 0 ≡ None

-- the rooms are as large as the maker was told
pub record HasRooms (limit nodes all standing links ends : ℕ) : Type 0 where
  pub all_reserved : limit ≤ all
  pub standing_reserved : limit ≤ standing
  pub links_reserved : limit ≤ links
  pub ends_reserved : nodes ≤ ends
