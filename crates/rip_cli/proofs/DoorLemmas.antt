-- How the knocks of a trace come at their door.
use Rattle.std.proofs.Common.{◌≡◌, ◌+◌, ◌<◌, ◌≤◌, ℕ, zero, suc, Bool, true, false, cond, List, [], ◌∷◌, ◌++◌, map, length, get_or, count_by, refl, ap, ◌∙◌, subst, arith}
use Rattle.std.specs.Prelude.{if◌then◌else◌, replicate}
use Rattle.std.specs.List.{AllByRecursion}
use Rattle.rip_outer.specs.Connections.{Told, knocked, is_opening}
use Rattle.rip_outer.specs.KnockLists.{FitsPiece, EachFollows, AreKnocks}
use Rattle.rip_outer.specs.MemoryDoor.{hushed_by}
use Rattle.rip_outer.specs.declared.connections.TraceKnock.{TraceKnock}
use Rattle.rip_outer.specs.declared.connections.TraceKnock.TheVariants.{Opened, Bytes, Gone, Quiet}
use Rattle.rip_outer.proofs.Telling.{openings_push}
use Rattle.rip_cli.specs.TraceDoor.{IsWithin}

one_within : (told : List Told) (k : TraceKnock) (ks : List TraceKnock) (n : ℕ) → EachFollows told (k ∷ ks) → count_by is_opening told + length (k ∷ ks) ≤ n → IsWithin n k
one_within told (Opened c) ks n h low = omega (arith, h.0.allowed, low)
one_within told (Bytes c bytes) ks n h low = h.0.fits
one_within told (Gone c) ks n h low = tt
one_within told Quiet ks n h low = tt

cond_small : (b : Bool) → cond b 1 0 ≤ 1
cond_small true = omega arith
cond_small false = omega arith

-- connections that may follow one another are numbered below the count of the knocks
within : (told : List Told) (ks : List TraceKnock) (n : ℕ) → EachFollows told ks → count_by is_opening told + length ks ≤ n → AllByRecursion (IsWithin n) ks
within told [] n h low = tt
within told (k ∷ ks) n h low =
    let more = openings_push told (knocked k) in
    let small = cond_small (is_opening (knocked k)) in
    (one_within told k ks n h low, within (told ++ knocked k ∷ []) ks n h.1 (omega (arith, more, small, low)))

pub all_within : (ks : List TraceKnock) (n : ℕ) → AreKnocks ks → length ks ≤ n → AllByRecursion (IsWithin n) ks
all_within ks n are few = within [] ks n are.each (omega (arith, few))

pub fits : (n : ℕ) (shut : List Bool) (k : TraceKnock) → IsWithin n k → FitsPiece (hushed_by shut k)
fits n shut (Opened c) h = tt
fits n shut (Bytes c bytes) h = by (get_or shut c false)
  where
    by : (b : Bool) → FitsPiece (if b then Quiet else Bytes c bytes)
    by true = tt
    by false = h
fits n shut (Gone c) h = by (get_or shut c false)
  where
    by : (b : Bool) → FitsPiece (if b then Quiet else Gone c)
    by true = tt
    by false = tt
fits n shut Quiet h = tt

-- a connection that is told as opened was opened so
pub opened_so : (n d : ℕ) (shut : List Bool) (k : TraceKnock) → IsWithin n k → hushed_by shut k ≡ Opened d → d < n
opened_so n d shut (Opened c) h e = let same : c ≡ d = cc in subst (λ x. x < n) same h
opened_so n d shut (Bytes c bytes) h e = by (get_or shut c false) e
  where
    by : (b : Bool) → (if b then Quiet else Bytes c bytes) ≡ Opened d → d < n
    by true e = cc
    by false e = cc
opened_so n d shut (Gone c) h e = by (get_or shut c false) e
  where
    by : (b : Bool) → (if b then Quiet else Gone c) ≡ Opened d → d < n
    by true e = cc
    by false e = cc
opened_so n d shut Quiet h e = cc

-- where no connection was shut, the knocks come as they were given
unhushed : (shut : List Bool) → ((c : ℕ) → get_or shut c false ≡ false) → (k : TraceKnock) → hushed_by shut k ≡ k
unhushed shut none (Opened c) = refl
unhushed shut none (Bytes c bytes) = ap (λ b. if b then Quiet else Bytes c bytes) (none c)
unhushed shut none (Gone c) = ap (λ b. if b then Quiet else Gone c) (none c)
unhushed shut none Quiet = refl

all_unhushed : (shut : List Bool) → ((c : ℕ) → get_or shut c false ≡ false) → (ks : List TraceKnock) → map (hushed_by shut) ks ≡ ks
all_unhushed shut none [] = refl
all_unhushed shut none (k ∷ ks) = cc (unhushed shut none k, all_unhushed shut none ks)

none_shut : (n c : ℕ) → get_or (replicate n false) c false ≡ false
none_shut zero c = refl
none_shut (suc n) zero = refl
none_shut (suc n) (suc c) = none_shut n c

pub as_given : (shut : List Bool) (n : ℕ) (ks : List TraceKnock) → shut ≡ replicate n false → map (hushed_by shut) ks ≡ ks
as_given shut n ks is = ap (λ s. map (hushed_by s) ks) is ∙ all_unhushed (replicate n false) (none_shut n) ks
