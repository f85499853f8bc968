-- How a flow is kept: its stations, and how many of them were reached, of which the last is at hand.
use Rattle.std.specs.Prelude.{◌≡◌, ℕ, suc, ◌-◌, nat_le, if◌then◌else◌, Option, None, Some, List, drop, slice_get}
use Rattle.rip_base.specs.declared.value.Span.{Span}
use Rattle.rip_values.specs.Pool.{Texts}
use Rattle.rip_events.specs.declared.station.Station.{Station}
use Rattle.rip_events.specs.Listed.{Listed}
use Rattle.rip_events.specs.Flow.{Arrival, next_arrival}

-- the last of the stations that were reached
abbrev pub last_of : List Station → ℕ → Option Station
last_of stations reached = if nat_le reached 0 then None else slice_get stations (reached - 1)

-- the arrival of the listener of this number at the station of this place
abbrev pub arrival_at : List Station → ℕ → Station → ℕ → Arrival
arrival_at stations i s n = record { station = s; listener = n; behind = drop (suc i) stations }

-- what is found is the next arrival at a station from this place on, with its place
abbrev pub IsArrival : Texts → Span → Listed → List Station → ℕ → Option (ℕ × Station × ℕ) → Type 0
IsArrival pool kind l stations from None = next_arrival pool kind l (drop from stations) ≡ None
IsArrival pool kind l stations from (Some r) =
    (next_arrival pool kind l (drop from stations) ≡ Some (arrival_at stations r.0 r.1 r.2)) × (slice_get stations r.0 ≡ Some r.1)
