-- The judging of values, one part behind the other.
use Rattle.std.proofs.Common.{◌≡◌, ℕ, ℤ, zero, suc, ◌+◌, ◌-◌, ◌<◌, ◌≤◌, ◌&&◌, true, cond, Result, Ok, Err, List, drop, length, get_or, sym, ap, ap₂, ◌∙◌, arith}
use Rattle.std.specs.Char.Utf16.{has_unpaired_surrogate}
use Rattle.std.proofs.lemmas.Bool.{le-leb}
use Rattle.std.proofs.lemmas.List.{at_drop_more}
use Rattle.rip_base.specs.declared.value.Span.{Span}
use Rattle.rip_base.specs.declared.value.Value.{Value}
use Rattle.rip_base.specs.declared.value.Value.TheVariants.{Undefined, Num, Text, Object}
use Rattle.rip_base.specs.declared.value.Fault.{Fault}
use Rattle.rip_base.specs.declared.value.Fault.TheVariants.{BadArgument, LoneSurrogate}
use Rattle.rip_values.specs.Pool.{text_at}
use Rattle.rip_base.specs.Whole.{IsWhole}
use Rattle.rip_heap_region.specs.declared.pages.property.Property.{Property}
use Rattle.rip_heap.specs.Holders.{holder_of}
use Rattle.rip_heap.specs.World.{World, object_at}
use Rattle.rip_convert.specs.Arguments.{are_units}
use Rattle.rip_convert.specs.Written.{then_left, spelled_left, whole_left, elements_left, parts_left, piece_left, left_after}
use Rattle.rip_convert.proofs.Telling.{is_whole_of}

abbrev pub named : Property → Span × Value
named p = (p.name, p.value)

pub element_here : (judge : Value → ℕ → Result ℕ Fault) (vs : List Value) (i : ℕ) (v : Value) (left : ℕ) → i < length vs → v ≡ get_or vs i Undefined
    → elements_left judge (drop i vs) left ≡ then_left (judge v left) (elements_left judge (drop (i + 1) vs))
element_here judge vs i v left below is =
    at_drop_more (λ l. elements_left judge l left) vs i Undefined below ∙ ap (λ x. then_left (judge x left) (elements_left judge (drop (i + 1) vs))) (sym is)

-- an object where a level is left
pub left_object : (levels : ℕ) (w : World) (n left : ℕ) → 0 < levels → 0 < left
    → left_after levels w (Object n) left ≡ parts_left (holder_of (object_at w n)) (left_after (levels - 1) w) w n (left - 1)
left_object zero w n left h some = absurd (omega arith)
left_object (suc levels) w n left h some =
    let e : suc levels - 1 ≡ levels = omega arith in
    ap (λ b. cond b (parts_left (holder_of (object_at w n)) (left_after levels w) w n (left - 1)) (Err BadArgument)) (le-leb 1 left some)
    ∙ ap (λ k. parts_left (holder_of (object_at w n)) (left_after k w) w n (left - 1)) (sym e)

-- a text
pub left_text : (levels : ℕ) (w : World) (span : Span) (left : ℕ) → 0 < left → left_after levels w (Text span) left ≡ spelled_left (text_at w.pool span) (left - 1)
left_text zero w span left some = ap (λ b. cond b (spelled_left (text_at w.pool span) (left - 1)) (Err BadArgument)) (le-leb 1 left some)
left_text (suc levels) w span left some = ap (λ b. cond b (spelled_left (text_at w.pool span) (left - 1)) (Err BadArgument)) (le-leb 1 left some)

-- a number
pub left_number : (levels : ℕ) (w : World) (z : ℤ) (left : ℕ) → IsWhole z → 0 < left → left_after levels w (Num z) left ≡ Ok (left - 1)
left_number levels w z left whole some = by levels
  where
    here : piece_left left (whole_left z) ≡ Ok (left - 1)
    here = ap (λ b. cond b (whole_left z (left - 1)) (Err BadArgument)) (le-leb 1 left some) ∙ ap (λ b. cond b (Ok (left - 1)) (Err BadArgument)) (is_whole_of z whole)

    by : (levels : ℕ) → left_after levels w (Num z) left ≡ Ok (left - 1)
    by zero = here
    by (suc levels) = here

-- units that fit
pub left_units : (units : List ℕ) (left : ℕ) → length units ≤ left → are_units units ≡ true → spelled_left units left ≡ cond (has_unpaired_surrogate units) (Err LoneSurrogate) (Ok (left - length units))
left_units units left fits are =
    ap (λ b. cond b (cond (has_unpaired_surrogate units) (Err LoneSurrogate) (Ok (left - length units))) (Err BadArgument))
    (ap₂ (λ x y. x && y) (le-leb (length units) left fits) are)
