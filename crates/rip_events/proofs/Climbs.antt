-- The way up from a node, one station after the other.
use Rattle.std.proofs.Common.{◌≡◌, ℕ, zero, suc, ◌+◌, ◌-◌, ◌<◌, ◌≤◌, List, [], ◌∷◌, ◌++◌, Option, None, Some, refl, sym, ap, ap₂, ◌∙◌, arith}
use Rattle.std.proofs.lemmas.List.{append_assoc, append-nil}
use Rattle.rip_dom.specs.Tree.{Tree, way_up, parent_of}
use Rattle.rip_events.specs.declared.station.Phase.{Phase}
use Rattle.rip_events.specs.declared.station.Station.{Station}
use Rattle.rip_events.specs.Flow.{in_phase}

one-left : (e i : ℕ) → i < e → e - i ≡ suc (e - (i + 1))
one-left e i h = omega (arith, h)

pub climbs : (t : Tree) (phase : Phase) (S S' : List Station) (e i n : ℕ) (at at' : Option ℕ) → i < e → at ≡ Some n → S' ≡ S ++ record { node = n; phase = phase } ∷ [] → at' ≡ parent_of t n
    → S' ++ in_phase phase (way_up (e - (i + 1)) t at') ≡ S ++ in_phase phase (way_up (e - i) t at)
climbs t phase S S' e i n at at' h s p q =
    ap₂ (λ S a. S ++ in_phase phase (way_up (e - (i + 1)) t a)) p q
    ∙ append_assoc S (record { node = n; phase = phase } ∷ []) (in_phase phase (way_up (e - (i + 1)) t (parent_of t n)))
    ∙ sym (ap₂ (λ k a. S ++ in_phase phase (way_up k t a)) (one-left e i h) s)

none-at : (t : Tree) (phase : Phase) (k : ℕ) → in_phase phase (way_up k t None) ≡ []
none-at t phase zero = refl
none-at t phase (suc k) = refl

pub climbed : (t : Tree) (phase : Phase) (S : List Station) (k : ℕ) (at : Option ℕ) → at ≡ None → S ++ in_phase phase (way_up k t at) ≡ S
climbed t phase S k at s = ap (λ l. S ++ l) (ap (λ a. in_phase phase (way_up k t a)) s ∙ none-at t phase k) ∙ append-nil S

pub climbed-all : (t : Tree) (phase : Phase) (S : List Station) (e i : ℕ) (at : Option ℕ) → e ≤ i → S ++ in_phase phase (way_up (e - i) t at) ≡ S
climbed-all t phase S e i at h = let z : e - i ≡ 0 = omega (arith, h) in ap (λ k. S ++ in_phase phase (way_up k t at)) z ∙ append-nil S

pub sums : (a i : ℕ) → a + i + 1 ≡ a + (i + 1)
sums a i = omega arith
