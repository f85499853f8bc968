-- A text and a numeral joined: what a span stands for stays when a text is added.
use Rattle.std.proofs.Common.{◌≡◌, ℕ, ℤ, ◌+◌, ◌-◌, Bool, true, false, cond, List, ◌++◌, length, take, None, Some, Result, Ok, Err, refl, sym, ap, ◌∙◌, arith, nat_le}
use Rattle.std.proofs.lemmas.List.{length-append}
use Rattle.std.proofs.Math.Seq.{drop-append_seam, take-length}
use Rattle.std.specs.Fmt.{signed_decimal}
use Rattle.rip_base.specs.declared.value.Span.{Span}
use Rattle.rip_base.specs.declared.value.Value.TheVariants.{Num, Text}
use Rattle.rip_base.specs.declared.value.Fault.TheVariants.{TextTooLong}
use Rattle.rip_base.specs.declared.value.Limit.TheVariants.{Units}
use Rattle.rip_values.specs.Pool.{Texts, text_at, span_behind, with_text, joined}
use Rattle.rip_heap.specs.declared.outcome.Halt.{Halt}
use Rattle.rip_heap.specs.declared.outcome.Halt.TheVariants.{Fault as HaltFault, Limit as HaltLimit}
use Rattle.rip_heap.specs.Conversions.{text_of_value, text_made}
use Rattle.rip_heap.specs.Texts.{new_text, concat}
use Rattle.rip_heap.specs.World.{World}
use Rattle.rip_ops.specs.Addition.{joining, room_for, room_behind}
use Rattle.rip_heap.specs.Outcome.{Gives, Faults, after_text, judged, text_or_limit}

counted : (i c : ℕ) → (i + c) - i ≡ c
counted i c = omega arith

pub behind-stands : (pool : Texts) (t : List ℕ) (charge : ℕ) → text_at (with_text pool t charge) (span_behind pool t) ≡ t
behind-stands pool t charge =
    (λ i. take (counted (length pool.units) (length t) i) (drop-append_seam pool.units t i)) ∙ take-length t

-- the text is judged and made
made : (w : World) (text : List ℕ) (span : Span) (u : World) → nat_le (length text) w.pool.text_limit ≡ true → new_text w text ≡ Some (span, u) → judged w text ≡ Gives (Text span) u
made w text span u t n = ap (λ b. cond b (text_or_limit (new_text w text)) (Faults TextTooLong)) t ∙ ap text_or_limit n

abbrev fine : Result (Unit {0}) Halt
fine = Ok tt

first-of : (p q : Result Span Halt × World) → p ≡ q → p.0 ≡ q.0
first-of p q e = ap (λ x. x.0) e

second-of : (p q : Result Span Halt × World) → p ≡ q → p.1 ≡ q.1
second-of p q e = ap (λ x. x.1) e

abbrev span : Span → Result Span Halt
span s = Ok s

spans-same : (s t : Span) → span s ≡ span t → s ≡ t
spans-same s t e = cc

module _ (w : World) (z : ℤ) where
  abbrev digits : List ℕ
  digits = signed_decimal z

  abbrev grown : World
  grown = record w { pool = with_text w.pool digits (length digits) }

  abbrev behind : Span
  behind = span_behind w.pool digits

  abbrev made-numeral : Bool → Bool → Result Span Halt × World
  made-numeral n a = cond n (text_made w (cond a (Some (behind, grown)) None)) (Err (HaltFault TextTooLong), w)

  pub text_and_numeral-joined : (x h numeral span : Span) (v u : World) → h.count ≡ length (text_at w.pool x) → text_at v.pool h ≡ text_at w.pool x
      → fine ≡ room_for w (length digits) h.count → (Ok numeral, v) ≡ text_of_value w (Num z) → concat v h numeral ≡ Some (span, u)
      → joining w (Text x) (Num z) ≡ Gives (Text span) u
  text_and_numeral-joined x h numeral span v u c s = by (nat_le (length digits) w.pool.text_limit) (nat_le (w.pool.used + length digits) w.pool.limit) (nat_le (h.count + length digits) w.pool.text_limit) refl
    where
      joined-room : Bool → Result (Unit {0}) Halt
      joined-room q = cond q (cond (nat_le (w.pool.used + length digits + (h.count + length digits)) w.pool.limit) fine (Err (HaltLimit Units))) (Err (HaltFault TextTooLong))

      by : (n a b : Bool) → nat_le (h.count + length digits) w.pool.text_limit ≡ b
          → fine ≡ room_behind w (length digits) (h.count + length digits) (cond n (cond a fine (Err (HaltLimit Units))) (Err (HaltFault TextTooLong)))
          → (Ok numeral, v) ≡ made-numeral n a → concat v h numeral ≡ Some (span, u)
          → after_text (made-numeral n a) (λ y g. judged g (text_at w.pool x ++ digits)) ≡ Gives (Text span) u
      by false a b f r e j = cc
      by true false b f r e j = cc
      by true true false f r e j = let long = r ∙ ap joined-room f in cc
      by true true true f r e j =
          let numeral_is : numeral ≡ behind = spans-same numeral behind (first-of (Ok numeral, v) (Ok behind, grown) e) in
          let world_is : v ≡ grown = second-of (Ok numeral, v) (Ok behind, grown) e in
          let held-is : text_at grown.pool h ≡ text_at w.pool x = ap (λ p. text_at p.pool h) (sym world_is) ∙ s in
          let text_is : joined grown.pool h behind ≡ text_at w.pool x ++ digits = (λ i. held-is i ++ behind-stands w.pool digits (length digits) i) in
          let long : length (text_at w.pool x ++ digits) ≡ h.count + length digits = length-append (text_at w.pool x) digits ∙ ap (λ n. n + length digits) (sym c) in
          made grown (text_at w.pool x ++ digits) span u
          (ap (λ n. nat_le n w.pool.text_limit) long ∙ f)
          (ap (new_text grown) (sym text_is) ∙ sym (λ i. concat (world_is i) h (numeral_is i)) ∙ j)

  pub numeral_and_text-joined : (y h numeral span : Span) (v u : World) → h.count ≡ length (text_at w.pool y) → text_at v.pool h ≡ text_at w.pool y
      → fine ≡ room_for w (length digits) h.count → (Ok numeral, v) ≡ text_of_value w (Num z) → concat v numeral h ≡ Some (span, u)
      → joining w (Num z) (Text y) ≡ Gives (Text span) u
  numeral_and_text-joined y h numeral span v u c s = by (nat_le (length digits) w.pool.text_limit) (nat_le (w.pool.used + length digits) w.pool.limit) (nat_le (h.count + length digits) w.pool.text_limit) refl
    where
      joined-room : Bool → Result (Unit {0}) Halt
      joined-room q = cond q (cond (nat_le (w.pool.used + length digits + (h.count + length digits)) w.pool.limit) fine (Err (HaltLimit Units))) (Err (HaltFault TextTooLong))

      by : (n a b : Bool) → nat_le (h.count + length digits) w.pool.text_limit ≡ b
          → fine ≡ room_behind w (length digits) (h.count + length digits) (cond n (cond a fine (Err (HaltLimit Units))) (Err (HaltFault TextTooLong)))
          → (Ok numeral, v) ≡ made-numeral n a → concat v numeral h ≡ Some (span, u)
          → after_text (made-numeral n a) (λ x g. after_text (text_of_value g (Text y)) (λ s2 g2. judged g2 (digits ++ text_at w.pool y))) ≡ Gives (Text span) u
      by false a b f r e j = cc
      by true false b f r e j = cc
      by true true false f r e j = let long = r ∙ ap joined-room f in cc
      by true true true f r e j =
          let numeral_is : numeral ≡ behind = spans-same numeral behind (first-of (Ok numeral, v) (Ok behind, grown) e) in
          let world_is : v ≡ grown = second-of (Ok numeral, v) (Ok behind, grown) e in
          let held-is : text_at grown.pool h ≡ text_at w.pool y = ap (λ p. text_at p.pool h) (sym world_is) ∙ s in
          let text_is : joined grown.pool behind h ≡ digits ++ text_at w.pool y = (λ i. behind-stands w.pool digits (length digits) i ++ held-is i) in
          let long : length (digits ++ text_at w.pool y) ≡ h.count + length digits = length-append digits (text_at w.pool y) ∙ omega (arith, c) in
          made grown (digits ++ text_at w.pool y) span u
          (ap (λ n. nat_le n w.pool.text_limit) long ∙ f)
          (ap (new_text grown) (sym text_is) ∙ sym (λ i. concat (world_is i) (numeral_is i) h) ∙ j)
