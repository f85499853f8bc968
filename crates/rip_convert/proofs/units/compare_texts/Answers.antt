-- The first characters that differ decide.
use Rattle.std.proofs.Common.{◌++◌, ◌<◌, ◌+◌, length, drop, sym, ap, ap₂, ◌∙◌, arith, length-drop}
use Rattle.std.specs.Cmp.Lexicographic.{slice_cmp}
use Rattle.std.specs.Ordering.{nat_cmp}
use lib.Utf8.{encode}
use Rattle.rip_data.specs.Datum.{utf8_of}
use Rattle.rip_convert.proofs.Chars.{by_first, by_rest, utf8_step, utf8_end, longer, shorter}
use Rattle.rip_convert.proofs.units.compare_texts.Goals as goal
use Rattle.rip_convert.proofs.units.compare_texts.Goals.{then-loop-i-test+else-j-b, else-loop-i-test}

pub returns-then-x-y : goal.returns-then-x-y
returns-then-x-y c =
    let a = c.args.a.now in
    let b = c.args.b.now in
    let ra = utf8_of (drop (c.loop-i.i + c.char_at-x.result.1) a) in
    let rb = utf8_of (drop (c.loop-i.j + c.char_at-y.result.1) b) in
    let first = utf8_step (drop c.loop-i.i a) _ c.char_at-x.result.0 c.char_at-x.ensures.char ∙ ap (λ k. encode k ++ ra) (sym c.unwrap_or-x.ensures) in
    let second = utf8_step (drop c.loop-i.j b) _ c.char_at-y.result.0 c.char_at-y.ensures.char ∙ ap (λ k. encode k ++ rb) (sym c.unwrap_or-y.ensures) in
    c.cmp.ensures ∙ sym (by_first _ _ ra rb c.unwrap_or-x.result c.unwrap_or-y.result first second c.if-x-y.true) ∙ c.loop-i.invariant.2

pub loop-i-preserved : goal.loop-i-preserved
loop-i-preserved c =
    let a = c.args.a.now in
    let b = c.args.b.now in
    let ra = utf8_of (drop (c.loop-i.i + c.char_at-x.result.1) a) in
    let rb = utf8_of (drop (c.loop-i.j + c.char_at-y.result.1) b) in
    let first = utf8_step (drop c.loop-i.i a) _ c.char_at-x.result.0 c.char_at-x.ensures.char ∙ ap (λ k. encode k ++ ra) (sym c.unwrap_or-x.ensures) in
    let second = utf8_step (drop c.loop-i.j b) _ c.char_at-y.result.0 c.char_at-y.ensures.char ∙ ap (λ k. encode k ++ rb) (sym c.unwrap_or-y.ensures) in (
      omega (arith, c.char_at-x.ensures.within),
      omega (arith, c.char_at-y.ensures.within),
      sym (by_rest _ _ ra rb c.unwrap_or-x.result c.unwrap_or-y.result first second c.if-x-y.false) ∙ c.loop-i.invariant.2,
    )

pub returns-then-i-a : goal.returns-then-i-a
returns-then-i-a c =
    let a = c.args.a.now in
    let b = c.args.b.now in
    let left : 0 < length (drop c.loop-i.i a) = omega (arith, c.if-i-a.true, length-drop c.loop-i.i a) in
    elim c.loop-i-test.branch [
      | then-loop-i-test+else-j-b w ↦
          sym (longer (drop c.loop-i.i a) left) ∙ ap (λ l. slice_cmp nat_cmp (utf8_of (drop c.loop-i.i a)) l) (sym (utf8_end b c.loop-i.j (omega (arith, w.if-j-b)))) ∙ c.loop-i.invariant.2
      | else-loop-i-test w ↦ absurd (omega (arith, c.if-i-a.true, w.loop-i-test))
    ]

pub returns-then-j-b-2 : goal.returns-then-j-b-2
returns-then-j-b-2 c =
    let a = c.args.a.now in
    let b = c.args.b.now in
    let left : 0 < length (drop c.loop-i.j b) = omega (arith, c.if-j-b-2.true, length-drop c.loop-i.j b) in
    sym (shorter (drop c.loop-i.j b) left) ∙ ap (λ l. slice_cmp nat_cmp l (utf8_of (drop c.loop-i.j b))) (sym (utf8_end a c.loop-i.i (omega (arith, c.if-i-a.false)))) ∙ c.loop-i.invariant.2

pub returns-else-j-b-2 : goal.returns-else-j-b-2
returns-else-j-b-2 c =
    let a = c.args.a.now in
    let b = c.args.b.now in
    sym (ap₂ (λ k l. slice_cmp nat_cmp k l) (utf8_end a c.loop-i.i (omega (arith, c.if-i-a.false))) (utf8_end b c.loop-i.j (omega (arith, c.if-j-b-2.false)))) ∙ c.loop-i.invariant.2
