-- A flow has few steps when it begins.
use Rattle.std.proofs.Common.{◌≡◌, ℕ, zero, suc, ◌+◌, ◌*◌, ◌^◌, ◌<◌, ◌≤◌, Bool, true, false, Option, None, Some, List, [], ◌∷◌, ◌++◌, length, refl, sym, ap, ◌∙◌, subst, arith}
use Rattle.std.specs.Prelude.{map, reverse}
use Rattle.std.proofs.lemmas.List.{length-append, length-map, length-reverse}
use Rattle.rip_base.specs.declared.value.Span.{Span}
use Rattle.rip_dom.specs.Tree.{Tree, parent_of, way_up}
use Rattle.rip_events.specs.declared.station.Phase.{Phase}
use Rattle.rip_events.specs.declared.station.Phase.TheVariants.{Capturing, Bubbling, AtTarget}
use Rattle.rip_events.specs.declared.station.Station.{Station}
use Rattle.rip_events.specs.Flow.{Course, above, begun, bubbling, in_phase, stations}
use Rattle.rip_host.specs.Flow.{flow_steps, room_of}
use Rattle.rip_browser.specs.Events.{most_steps}

few-up : (k : ℕ) (t : Tree) (x : Option ℕ) → length (way_up k t x) ≤ k
few-up zero t x = omega arith
few-up (suc k) t None = omega arith
few-up (suc k) t (Some n) = let h = few-up k t (parent_of t n) in omega (arith, h)

few-in : (phase : Phase) (t : Tree) (n : ℕ) → length (in_phase phase (above t n)) ≤ length t.nodes
few-in phase t n =
    let e : length (in_phase phase (above t n)) ≡ length (above t n) = length-map (above t n) (λ m. record { node = m; phase = phase }) in
    let h = few-up (length t.nodes) t (parent_of t n) in
    omega (arith, e, h)

few-bubbling : (b : Bool) (t : Tree) (n : ℕ) → length (bubbling b t n) ≤ length t.nodes
few-bubbling true t n = few-in Bubbling t n
few-bubbling false t n = omega arith

few-stations : (t : Tree) (n : ℕ) (b : Bool) → length (stations t n b) ≤ length t.nodes + length t.nodes + 1
few-stations t n b =
    let down = in_phase Capturing (above t n) in
    let here : List Station = record { node = n; phase = AtTarget } ∷ [] in
    let x : length (stations t n b) ≡ length (reverse down ++ here) + length (bubbling b t n) = length-append (reverse down ++ here) (bubbling b t n) in
    let y : length (reverse down ++ here) ≡ length (reverse down) + 1 = length-append (reverse down) here in
    let z : length (reverse down) ≡ length down = length-reverse down in
    let u = few-in Capturing t n in
    let v = few-bubbling b t n in
    omega (arith, x, y, z, u, v)

few-calls : (xs : List Station) → room_of (2 ^ 64) xs ≤ 18446744073709551616 * length xs
few-calls [] = omega arith
few-calls (x ∷ xs) = let h = few-calls xs in omega (arith, h)

pub few-begun : (t : Tree) (kind : Span) (target : ℕ) (b : Bool) (c d : Course) → length t.nodes < 2 ^ 32 → d ≡ begun t kind target b c → flow_steps d + 1 ≤ most_steps
few-begun t kind target b c d h e =
    let P : Course → Type 0 = λ x. flow_steps x + 1 ≤ most_steps in
    let k = few-calls (stations t target b) in
    let l = few-stations t target b in
    let m : flow_steps (begun t kind target b c) + 1 ≤ most_steps = omega (arith, h, k, l) in
    subst P (sym e) m
