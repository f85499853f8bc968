-- Lists of knocks as a door may give them.
use Rattle.std.specs.Prelude.{◌≡◌, ◌≤◌, ◌<◌, ◌↔◌, ◌&&◌, ℕ, Bool, true, false, not, nat_lt, nat_le, ◌==◌, List, [], ◌∷◌, ◌++◌, length, map, get_or, set, count_by, Contains}
use Rattle.rip_outer.specs.declared.connections.TraceKnock.{TraceKnock}
use Rattle.rip_outer.specs.declared.connections.TraceKnock.TheVariants.{Opened, Bytes, Gone, Quiet}
use Rattle.rip_outer.specs.Connections.{Told, knocked, is_opening, IsAllowedAfter}

-- a piece has 1 to 4,096 bytes
abbrev pub FitsPiece : TraceKnock → Type 0
FitsPiece (Opened c) = Unit {0}
FitsPiece (Bytes c bytes) = (1 ≤ length bytes) × (length bytes ≤ 4096)
FitsPiece (Gone c) = Unit {0}
FitsPiece Quiet = Unit {0}

-- a knock that may come next, where these things were told and nothing was shut
pub record MayFollow (told : List Told) (k : TraceKnock) : Type 0 where
  pub fits : FitsPiece k
  pub allowed : IsAllowedAfter told [] k

-- each of the knocks may follow those before it, and the first of them what was told
abbrev pub EachFollows : List Told → List TraceKnock → Type 0
EachFollows told [] = Unit {0}
EachFollows told (k ∷ ks) = MayFollow told k × EachFollows (told ++ knocked k ∷ []) ks

-- a list of knocks that a door may give: each may follow those before it
pub record AreKnocks (ks : List TraceKnock) : Type 0 where
  pub each : EachFollows [] ks

-- what a list of knocks keeps: its knocks may each follow those before it, and of each connection that they opened, in
-- the order of the numbers, whether they told that it is gone
pub record IsKnockList (ks : List TraceKnock) (gone : List Bool) : Type 0 where
  pub knocks : AreKnocks ks
  pub numbered : length gone ≡ count_by is_opening (map knocked ks)
  pub opened : (c : ℕ) → Contains (map knocked ks) (knocked (Opened c)) ↔ (c < length gone)
  pub gone_ones : (c : ℕ) → Contains (map knocked ks) (knocked (Gone c)) ↔ (get_or gone c false ≡ true)

-- a connection was opened and isn't gone, by these marks
abbrev pub is_here : List Bool → ℕ → Bool
is_here gone c = nat_lt c (length gone) && not (get_or gone c false)

-- a going is of a connection that has a mark
abbrev pub HasMark : List Bool → TraceKnock → Type 0
HasMark gone (Opened c) = Unit {0}
HasMark gone (Bytes c bytes) = Unit {0}
HasMark gone (Gone c) = c < length gone
HasMark gone Quiet = Unit {0}

-- the marks after a knock
abbrev pub marked : List Bool → TraceKnock → List Bool
marked gone (Opened c) = gone ++ false ∷ []
marked gone (Bytes c bytes) = gone
marked gone (Gone c) = set gone c true
marked gone Quiet = gone

-- a knock may follow, by these marks
abbrev pub allows : List Bool → TraceKnock → Bool
allows gone (Opened c) = c == length gone
allows gone (Bytes c bytes) = (is_here gone c && nat_le 1 (length bytes)) && nat_le (length bytes) 4096
allows gone (Gone c) = is_here gone c
allows gone Quiet = true
