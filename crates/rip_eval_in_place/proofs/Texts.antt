-- Texts that a try adds: one try behind another adds the texts of both, a world with more texts is a later one, and what was
-- added can be taken back.
use Rattle.std.proofs.Common.{rules, ◌≡◌, ℕ, ◌+◌, ◌-◌, ◌≤◌, Bool, true, false, List, [], ◌++◌, length, take, drop, Result, Ok, Err, None, Some, refl, sym, ap, ◌∙◌, subst, arith, append_assoc, append-nil, length-append}
use Rattle.std.proofs.lemmas.List.{take-append-le, drop-append-le, length-drop}
use Rattle.std.specs.Prelude.{nat_le, if◌then◌else◌, ◌||◌}
use Rattle.std.specs.Fmt.{signed_decimal}
use Rattle.std.proofs.Math.Seq.{take-append_seam}
use Rattle.rip_values.specs.FixedTexts.{fixed_units}
use Rattle.rip_base.specs.declared.value.Fault.{Fault}
use Rattle.rip_base.specs.declared.value.Fault.TheVariants.{ObjectToPrimitive, TextTooLong}
use Rattle.rip_base.specs.declared.value.Numeral.{Numeral}
use Rattle.rip_base.specs.declared.value.Span.{Span}
use Rattle.rip_base.specs.declared.value.Value.{Value}
use Rattle.rip_base.specs.declared.value.Value.TheVariants.{Undefined, Null, Bool as Boolean, Num, NaN, Text, Object}
use Rattle.rip_values.specs.Pool.{KeepsTexts, span_behind, with_text}
use Rattle.rip_heap.specs.declared.outcome.Abrupt.{Abrupt}
use Rattle.rip_heap.specs.declared.outcome.Abrupt.TheVariants.{TypeError, Fault as AtFault, Limit as AtLimit, Memory}
use Rattle.rip_heap.specs.declared.outcome.Halt.{Halt}
use Rattle.rip_heap.specs.declared.outcome.Halt.TheVariants.{Fault as HaltFault, Limit as HaltLimit}
use Rattle.rip_heap.specs.Conversions.{text_in, text_made, text_of_value}
use Rattle.rip_heap.specs.Outcome.{Answers, Outcome, Gives, Throws, Faults, Exceeds, after_span, after_text, halting, judged, number_or_fault, text_or_limit}
use Rattle.rip_heap.specs.Texts.{new_text}
use Rattle.rip_ops.specs.Addition.{added, added_primitives, joining}
use Rattle.rip_ops.specs.Arithmetic.{sum}
use Rattle.rip_ops.specs.Numbers.{of_numbers}
use Rattle.rip_ops.specs.Order.{is_object}
use Rattle.rip_heap.specs.Growth.{Grows}
use Rattle.rip_heap.specs.Marks.{CanBeCut, cut_world, mark_of}
use Rattle.rip_heap.specs.World.{World}
use Rattle.rip_eval_in_place.specs.AddedTexts.{AddsTexts}

-- the world with a text more
abbrev with_more : World → List ℕ → World
with_more w more = record w { pool = with_text w.pool more (length more) }

-- no text
pub adds_none : (w : World) → AddsTexts w w
adds_none w = record {
  more = [];
  is = ap (λ units. record w { pool = record w.pool { units = units } }) (sym (append-nil w.pool.units))
      ∙ ap (λ used. record w { pool = record w.pool { units = w.pool.units ++ []; used = used } }) (omega arith);
}

-- the world as it was
pub adds_same : (w x : World) → x ≡ w → AddsTexts w x
adds_same w x is = subst (AddsTexts w) (sym is) (adds_none w)

two_behind : (w : World) (a b : List ℕ) → with_more (with_more w a) b ≡ with_more w (a ++ b)
two_behind w a b =
    ap (λ units. record w { pool = record w.pool { units = units; used = w.pool.used + length a + length b } }) (append_assoc w.pool.units a b)
    ∙ ap (λ used. record w { pool = record w.pool { units = w.pool.units ++ (a ++ b); used = used } }) (omega (arith, length-append a b))

-- one behind the other
pub adds_on : (w y x : World) → AddsTexts w y → AddsTexts y x → AddsTexts w x
adds_on w y x first second = record {
  more = first.more ++ second.more;
  is = second.is ∙ ap (λ v. with_more v second.more) first.is ∙ two_behind w first.more second.more;
}

pub adds_three : (w y z x : World) → AddsTexts w y → AddsTexts y z → AddsTexts z x → AddsTexts w x
adds_three w y z x first second third = adds_on w y x first (adds_on y z x second third)

-- what was added can be taken back
pub cut_off : (w x : World) → AddsTexts w x → cut_world (mark_of w) x ≡ w
cut_off w x adds =
    ap (λ v. cut_world (mark_of w) v) adds.is
    ∙ ap (λ units. record w { pool = record w.pool { units = units } }) (take-append_seam w.pool.units adds.more)

pub can_cut : (w x : World) → length fixed_units ≤ length w.pool.units → AddsTexts w x → CanBeCut (mark_of w) x
can_cut w x fixed adds =
    let units : length x.pool.units ≡ length w.pool.units + length adds.more = ap (λ (v : World). length v.pool.units) adds.is ∙ length-append w.pool.units adds.more in
    let used : x.pool.used ≡ w.pool.used + length adds.more = ap (λ (v : World). v.pool.used) adds.is in
    record { fixed = fixed; units = omega (arith, units); used = omega (arith, used); charged = omega (arith, units, used) }

-- a text that lay in the pool is what it was
text_stands : (w : World) (more : List ℕ) → KeepsTexts w.pool (with_text w.pool more (length more))
text_stands w more span within =
    let rest : length (drop span.start w.pool.units) ≡ length w.pool.units - span.start = length-drop span.start w.pool.units in
    ap (take (span.start + span.count - span.start)) (drop-append-le span.start w.pool.units more (omega (arith, within)))
    ∙ take-append-le (span.start + span.count - span.start) (drop span.start w.pool.units) more (omega (arith, within, rest))

-- a world with texts more is a later one
pub texts_grow : (w x : World) → AddsTexts w x → Grows w x
texts_grow w x adds =
    let units : length (w.pool.units ++ adds.more) ≡ length w.pool.units + length adds.more = length-append w.pool.units adds.more in
    subst (Grows w) (sym adds.is) (record {
      limit = refl;
      unit_limit = refl;
      text_limit = refl;
      cells = omega arith;
      units = omega arith;
      texts = text_stands w adds.more;
      spans = omega (arith, units);
      made = omega arith;
      objects = λ i d lt. (refl, refl, refl);
      opened = omega arith;
      scopes = λ i d lt. (refl, refl);
    })

-- one behind the other
pub grows_on : (w y x : World) → Grows w y → Grows y x → Grows w x
grows_on w y x first second = search rules

-- WHAT A SUM ADDS

-- an outcome that is a value comes in the world with texts more
abbrev OutcomeAdds : World → Outcome → Type 0
OutcomeAdds w (Gives v x) = AddsTexts w x
OutcomeAdds w Throws = Unit {0}
OutcomeAdds w (Faults fault) = Unit {0}
OutcomeAdds w (Exceeds limit) = Unit {0}

if_adds : (w : World) (b : Bool) (o q : Outcome) → OutcomeAdds w o → OutcomeAdds w q → OutcomeAdds w (if b then o else q)
if_adds w true o q first second = first
if_adds w false o q first second = second

number_adds : (w : World) (n : Result Numeral Fault) → OutcomeAdds w (number_or_fault w n)
number_adds w (Ok n) = adds_none w
number_adds w (Err fault) = tt

halt_adds : (w : World) (halt : Halt) → OutcomeAdds w (halting halt)
halt_adds w (HaltFault fault) = tt
halt_adds w (HaltLimit limit) = tt

-- a new text, or none
made_adds : (w u : World) (text : List ℕ) (b : Bool) → AddsTexts w u
    → OutcomeAdds w (text_or_limit (if b then Some (span_behind u.pool text, with_more u text) else None))
made_adds w u text true adds = adds_on w u (with_more u text) adds (record { more = text; is = refl })
made_adds w u text false adds = tt

judged_adds : (w u : World) (text : List ℕ) → AddsTexts w u → OutcomeAdds w (judged u text)
judged_adds w u text adds =
    if_adds w (nat_le (length text) u.pool.text_limit) (text_or_limit (new_text u text)) (Faults TextTooLong)
    (made_adds w u text (nat_le (u.pool.used + length text) u.pool.limit) adds) tt

numeral_made_adds : (w : World) (text : List ℕ) (b : Bool) → AddsTexts w (text_made w (if b then Some (span_behind w.pool text, with_more w text) else None)).1
numeral_made_adds w text true = record { more = text; is = refl }
numeral_made_adds w text false = adds_none w

numeral_judged_adds : (w : World) (text : List ℕ) (b : Bool)
    → AddsTexts w (if b then text_made w (new_text w text) else (Err (HaltFault TextTooLong), w)).1
numeral_judged_adds w text true = numeral_made_adds w text (nat_le (w.pool.used + length text) w.pool.limit)
numeral_judged_adds w text false = adds_none w

-- a conversion to text
text_adds : (w : World) (v : Value) → AddsTexts w (text_of_value w v).1
text_adds w Undefined = adds_none w
text_adds w Null = adds_none w
text_adds w (Boolean false) = adds_none w
text_adds w (Boolean true) = adds_none w
text_adds w (Num z) = numeral_judged_adds w (signed_decimal z) (nat_le (length (signed_decimal z)) w.pool.text_limit)
text_adds w NaN = adds_none w
text_adds w (Text span) = adds_none w
text_adds w (Object n) = adds_none w

after_adds : (w u : World) (span : Result Span Halt) (further : Span → World → Outcome) → AddsTexts w u
    → ((s : Span) → OutcomeAdds w (further s u)) → OutcomeAdds w (after_span span u further)
after_adds w u (Ok span) further adds more = more span
after_adds w u (Err halt) further adds more = halt_adds w halt

joining_adds : (w : World) (a b : Value) → OutcomeAdds w (joining w a b)
joining_adds w a b =
    let first = text_of_value w a in
    let second = text_of_value first.1 b in
    let adds = adds_on w first.1 second.1 (text_adds w a) (text_adds first.1 b) in
    after_adds w first.1 first.0 (λ x v. after_text (text_of_value v b) (λ y u. judged u (text_in w a ++ text_in w b))) (text_adds w a)
    (λ x. after_adds w second.1 second.0 (λ y u. judged u (text_in w a ++ text_in w b)) adds
    (λ y. judged_adds w second.1 (text_in w a ++ text_in w b) adds))

primitives_add : (w : World) (a b : Value) → OutcomeAdds w (added_primitives w a b)
primitives_add w (Text x) b = joining_adds w (Text x) b
primitives_add w Undefined (Text y) = joining_adds w Undefined (Text y)
primitives_add w Null (Text y) = joining_adds w Null (Text y)
primitives_add w (Boolean c) (Text y) = joining_adds w (Boolean c) (Text y)
primitives_add w (Num z) (Text y) = joining_adds w (Num z) (Text y)
primitives_add w NaN (Text y) = joining_adds w NaN (Text y)
primitives_add w (Object n) (Text y) = joining_adds w (Object n) (Text y)
primitives_add w a b = number_adds w (of_numbers w.pool sum a b)

-- a sum that has a value adds texts alone
pub sum_adds : (w x : World) (a b v : Value) → added w a b ≡ Gives v x → AddsTexts w x
sum_adds w x a b v is = subst (OutcomeAdds w) is (if_adds w (is_object a || is_object b) (Faults ObjectToPrimitive) (added_primitives w a b) tt (primitives_add w a b))

-- a sum that has none leaves the world
pub sum_fails : (w x : World) (o : Outcome) (cause : Abrupt) → Answers o w (Err cause) x → AddsTexts w x
sum_fails w x o TypeError is = adds_same w x is.1
sum_fails w x o (AtFault fault) is = adds_same w x is.1
sum_fails w x o (AtLimit limit) is = adds_same w x is.1
sum_fails w x o Memory is = absurd is
