-- Laws of what is looked for along prototypes: no bound on how many are looked at stands in them.
use Rattle.std.specs.Prelude.{◌≡◌, ℕ}
use Rattle.rip_heap.specs.World.{World, object_at, proto_of}
use Rattle.rip_ops.specs.Instances.{met, is_above}

-- an object is above another where it is its prototype or is above its prototype (ECMA-262 15.3.5.3)
abbrev pub FollowsPrototypes : World → Type 0
FollowsPrototypes w = (n p : ℕ) → is_above w n p ≡ met (proto_of (object_at w n)) p (λ up. is_above w up p)
