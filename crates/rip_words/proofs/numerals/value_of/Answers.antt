use Rattle.std.proofs.Common.{◌≡◌, ◌≤◌, length, get_or, sym, ◌∙◌, arith}
use Rattle.rip_words.proofs.NumeralsLemmas.{no_zero_first, refused_no_digits, parsed_value, parsed_none, text_same}
use Rattle.rip_words.proofs.numerals.value_of.Goals as goal
use Rattle.rip_words.proofs.numerals.value_of.Goals.{else-digits-gt1-via-then-digits-gt1+else-digits-eq48, else-digits-gt1-via-else-digits-gt1}

pub returns-then-digits-eq48-clause-none : goal.returns-then-digits-eq48-clause-none
returns-then-digits-eq48-clause-none c =
    λ _ n h e. no_zero_first c.args.digits.now n h e c.if-digits-gt1.true c.if-digits-eq48.true

pub returns-in_err-ok-clause-none : goal.returns-in_err-ok-clause-none
returns-in_err-ok-clause-none c =
    λ _ n h e. refused_no_digits _ _ c.args.digits.now c.from_utf8.result c.requires c.from_utf8.ensures.cases (sym c.ok.ensures.value ∙ c.in_err-ok.was)

pub returns-clause-value : goal.returns-clause-value
returns-clause-value c =
    let short : get_or c.args.digits.now 0 0 ≡ 48 → length c.args.digits.now ≤ 1 = λ z. elim c.else-digits-gt1.branch [ else-digits-gt1-via-then-digits-gt1+else-digits-eq48 w ↦ omega arith | else-digits-gt1-via-else-digits-gt1 w ↦ omega arith ] in
    let same = text_same _ _ c.args.digits.now c.from_utf8.result c.in_ok-ok.field-0 c.from_utf8.ensures.cases (sym c.ok.ensures.value ∙ c.in_ok-ok.was) in
    let parses = rw same at c.parse.ensures.value.0 in
    rw c.ok-2.ensures.value (parsed_value c.args.digits.now c.parse.result c.requires short parses)

pub returns-clause-none : goal.returns-clause-none
returns-clause-none c =
    let same = text_same _ _ c.args.digits.now c.from_utf8.result c.in_ok-ok.field-0 c.from_utf8.ensures.cases (sym c.ok.ensures.value ∙ c.in_ok-ok.was) in
    let parses = rw same at c.parse.ensures.value.0 in
    rw c.ok-2.ensures.value (parsed_none c.args.digits.now c.parse.result parses)
