-- The characters of a text: which one comes first, that there is one way to read a text, and the loop over them.
use Rattle.std.proofs.Common.{◌≡◌, ◌≢◌, get_or, ℕ, zero, suc, ◌+◌, Bool, true, false, not, ◌||◌, ◌&&◌, ◌==◌, cond, List, [], ◌∷◌, length, drop, Option, Some, None, refl, sym, ap, ◌∙◌, subst, ⊎_elim, arith, eqb-true}
use Rattle.std.proofs.lemmas.Bool.{and_parts, and_left, or_parts, or_from, or_cases, not-true, cond-true, cond-false, cond_both, false≢true}
use Rattle.std.proofs.lemmas.Option.{none-some, same_Some}
use Rattle.rip_base.specs.Units.{is_hex_digit, begins}
use Rattle.rip_lexer.specs.Units.{class_of, is_quote, is_digit, is_digit_class, is_line_end, is_line_end_class}
use Rattle.rip_lexer.specs.Text.{spell, begins_hex, is_refused, IsCharacter, width, fault_at, option_or, refused_in, spell_all, AreCharacters, ends_text}
use Rattle.rip_lexer.specs.Fault.{fault}
use Rattle.rip_lexer.specs.declared.refusal.LexKind.TheVariants.{OpenText}
use Rattle.rip_lexer.specs.View.{ReadsEnd, hex_escape, unicode_escape, null_escape, continuation, escape_of, first_character}
use Rattle.rip_lexer.specs.declared.units.UnitClass.TheVariants.{NameStart, Digit, LineEnd, Quote, Other}
use Rattle.rip_lexer.specs.declared.refusal.Fault.{Fault}
use Rattle.rip_lexer.specs.declared.character.Character.{Character}
use Rattle.rip_lexer.specs.declared.character.Character.TheVariants.{Plain, Escaped, Null, Hexadecimal, Unicode, Continuation, ContinuationPair, Refused}
use Rattle.rip_lexer.proofs.Choice.{chosen, not_first}
use Rattle.rip_lexer.proofs.Classes.{class_from_quote, class_from_line_end, backslash_class, zero_class, small_x_class, small_u_class, return_class, differs, backslash_not_hex, quote_not_hex}

-- the units are a character and a rest
pub record Spells (quote : ℕ) (units : List ℕ) (character : Character) : Type 0 where
  pub rest : List ℕ
  pub splits : units ≡ spell character rest
  pub fits : IsCharacter quote character rest
  pub rest-is : rest ≡ drop (width character) units

null_stands : (quote : ℕ) (rest : List ℕ) → Spells quote (92 ∷ 48 ∷ rest) (null_escape rest)
null_stands quote rest =
    cond_both (begins is_digit rest) (Refused 48) Null (λ (x : Character). Spells quote (92 ∷ 48 ∷ rest) x)
    (λ digit. record { rest = rest; splits = refl; fits = digit; rest-is = refl })
    (λ other. record { rest = rest; splits = refl; fits = other; rest-is = refl })

hex_stands : (quote : ℕ) (rest : List ℕ) → Spells quote (92 ∷ 120 ∷ rest) (hex_escape rest)
hex_stands quote [] = record { rest = []; splits = refl; fits = refl; rest-is = refl }
hex_stands quote (a ∷ []) = record { rest = a ∷ []; splits = refl; fits = ap not (hex_short a); rest-is = refl }
  where
    hex_short : (a : ℕ) → (is_hex_digit a && false) ≡ false
    hex_short a = elim (is_hex_digit a) as (λ b. (b && false) ≡ false) [ true ↦ refl | false ↦ refl ]
hex_stands quote (a ∷ b ∷ rest) =
    cond_both (begins_hex 2 (a ∷ b ∷ [])) (Hexadecimal a b) (Refused 120) (λ (x : Character). Spells quote (92 ∷ 120 ∷ a ∷ b ∷ rest) x)
    (λ hex. record { rest = rest; splits = refl; fits = hex; rest-is = refl })
    (λ other. record { rest = a ∷ b ∷ rest; splits = refl; fits = ap not other; rest-is = refl })

and_false : (x : Bool) → (x && false) ≡ false
and_false true = refl
and_false false = refl

unicode_stands : (quote : ℕ) (rest : List ℕ) → Spells quote (92 ∷ 117 ∷ rest) (unicode_escape rest)
unicode_stands quote [] = record { rest = []; splits = refl; fits = refl; rest-is = refl }
unicode_stands quote (a ∷ []) = record { rest = a ∷ []; splits = refl; fits = ap not (and_false (is_hex_digit a)); rest-is = refl }
unicode_stands quote (a ∷ b ∷ []) = record { rest = a ∷ b ∷ []; splits = refl; fits = ap not (ap (λ x. is_hex_digit a && x) (and_false (is_hex_digit b)) ∙ and_false (is_hex_digit a)); rest-is = refl }
unicode_stands quote (a ∷ b ∷ c ∷ []) = record { rest = a ∷ b ∷ c ∷ []; splits = refl; fits = ap not (ap (λ x. is_hex_digit a && (is_hex_digit b && x)) (and_false (is_hex_digit c)) ∙ ap (λ x. is_hex_digit a && x) (and_false (is_hex_digit b)) ∙ and_false (is_hex_digit a)); rest-is = refl }
unicode_stands quote (a ∷ b ∷ c ∷ d ∷ rest) =
    cond_both (begins_hex 4 (a ∷ b ∷ c ∷ d ∷ [])) (Unicode a b c d) (Refused 117) (λ (x : Character). Spells quote (92 ∷ 117 ∷ a ∷ b ∷ c ∷ d ∷ rest) x)
    (λ hex. record { rest = rest; splits = refl; fits = hex; rest-is = refl })
    (λ other. record { rest = a ∷ b ∷ c ∷ d ∷ rest; splits = refl; fits = ap not other; rest-is = refl })

line_feed_is : (c : ℕ) (rest : List ℕ) → ((c == 13) && begins (λ d. d == 10) rest) ≡ true → (c ≡ 13) × (tail : List ℕ) × (rest ≡ 10 ∷ tail)
line_feed_is c [] test = absurd (let p = and_parts (c == 13) false test in cc)
line_feed_is c (d ∷ rest) test =
    let p = and_parts (c == 13) (d == 10) test in
    let e = eqb-true d 10 p.1 in
    (eqb-true c 13 p.0, rest, ap (λ x. x ∷ rest) e)

continuation_stands : (quote c : ℕ) (rest : List ℕ) → is_line_end c ≡ true → Spells quote (92 ∷ c ∷ rest) (continuation c rest)
continuation_stands quote c rest line =
    cond_both ((c == 13) && begins (λ d. d == 10) rest) ContinuationPair (Continuation c) (λ (x : Character). Spells quote (92 ∷ c ∷ rest) x)
    (λ pair.
    let p = line_feed_is c rest pair in
    let first = p.0 in
    let second = p.2 in
    record { rest = p.1; splits = (λ i. 92 ∷ first i ∷ second i); fits = tt; rest-is = sym (ap (λ u. drop 1 u) second) })
    (λ other. record { rest = rest; splits = refl; fits = (line, other); rest-is = refl })

escape_stands : (quote c : ℕ) (rest : List ℕ) → Spells quote (92 ∷ c ∷ rest) (escape_of c rest)
escape_stands quote c rest =
    let P : Character → Type 0 = λ (x : Character). Spells quote (92 ∷ c ∷ rest) x in
    cond_both (c == 48) _ _ P
    (λ zero-is. subst (λ d. Spells quote (92 ∷ d ∷ rest) (null_escape rest)) (sym (eqb-true c 48 zero-is)) (null_stands quote rest))
    (λ not-zero.
    cond_both (c == 120) _ _ P
    (λ x-is. subst (λ d. Spells quote (92 ∷ d ∷ rest) (hex_escape rest)) (sym (eqb-true c 120 x-is)) (hex_stands quote rest))
    (λ not-x.
    cond_both (c == 117) _ _ P
    (λ u-is. subst (λ d. Spells quote (92 ∷ d ∷ rest) (unicode_escape rest)) (sym (eqb-true c 117 u-is)) (unicode_stands quote rest))
    (λ not-u.
    cond_both (is_digit c) _ _ P
    (λ digit. record { rest = rest; splits = refl; fits = cond-false _ _ _ not-zero ∙ (cond-false _ _ _ not-x ∙ (cond-false _ _ _ not-u ∙ digit)); rest-is = refl })
    (λ not-digit.
    cond_both (is_line_end c) _ _ P
    (λ line. continuation_stands quote c rest line)
    (λ not-line. record { rest = rest; splits = refl; fits = (not-line, not-digit, not-x, not-u); rest-is = refl })))))

-- what is found first stands there
pub character_stands : (quote : ℕ) (units : List ℕ) (character : Character) → first_character quote units ≡ Some character → Spells quote units character
character_stands quote [] character e = absurd (none-some character e)
character_stands quote (c ∷ []) character e =
    let a = not_first _ _ _ _ e (λ x. none-some character x) in
    let b = not_first _ _ _ _ a.1 (λ x. none-some character x) in
    let parts = or_parts (c == quote) (is_line_end c) a.0 in
    subst (λ (x : Character). Spells quote (c ∷ []) x) (same_Some (Plain c) character b.1) (record { rest = []; splits = refl; fits = (parts.0, b.0, parts.1); rest-is = refl })
character_stands quote (c ∷ d ∷ rest) character e =
    let a = not_first _ _ _ _ e (λ x. none-some character x) in
    let parts = or_parts (c == quote) (is_line_end c) a.0 in
    ⊎_elim
    (λ back.
    let escape = subst (λ (x : Character). Spells quote (92 ∷ d ∷ rest) x) (same_Some (escape_of d rest) character back.1) (escape_stands quote d rest) in
    subst (λ b. Spells quote (b ∷ d ∷ rest) character) (sym (eqb-true c 92 back.0)) escape)
    (λ plain. subst (λ (x : Character). Spells quote (c ∷ d ∷ rest) x) (same_Some (Plain c) character plain.1) (record { rest = d ∷ rest; splits = refl; fits = (parts.0, plain.0, parts.1); rest-is = refl }))
    (chosen _ _ _ _ a.1)

module _ (quote : ℕ) (is_quote : class_of quote ≡ Quote) where
  backslash_goes_on : ((92 == quote) || is_line_end 92) ≡ false
  backslash_goes_on = or_from _ _ (differs 92 quote (λ same. let bad : Other ≡ Quote = sym backslash_class ∙ same ∙ is_quote in cc)) (ap is_line_end_class backslash_class)

  at_backslash : (c : ℕ) (rest : List ℕ) → first_character quote (92 ∷ c ∷ rest) ≡ Some (escape_of c rest)
  at_backslash c rest = cond-false _ _ _ backslash_goes_on

  at_plain : (c : ℕ) (rest : List ℕ) → c == quote ≡ false → c == 92 ≡ false → is_line_end c ≡ false → first_character quote (c ∷ rest) ≡ Some (Plain c)
  at_plain c [] not-quote not-back not-line = cond-false _ _ _ (or_from _ _ not-quote not-line) ∙ cond-false _ _ _ not-back
  at_plain c (d ∷ rest) not-quote not-back not-line = cond-false _ _ _ (or_from _ _ not-quote not-line) ∙ cond-false _ _ _ not-back

  sees_hex : (a b : ℕ) (rest : List ℕ) → begins_hex 2 (a ∷ b ∷ []) ≡ true → first_character quote (92 ∷ 120 ∷ a ∷ b ∷ rest) ≡ Some (Hexadecimal a b)
  sees_hex a b rest hex = at_backslash 120 (a ∷ b ∷ rest) ∙ ap (λ (x : Character). Some x) (cond-true _ _ _ hex)

  sees_unicode : (a b c d : ℕ) (rest : List ℕ) → begins_hex 4 (a ∷ b ∷ c ∷ d ∷ []) ≡ true → first_character quote (92 ∷ 117 ∷ a ∷ b ∷ c ∷ d ∷ rest) ≡ Some (Unicode a b c d)
  sees_unicode a b c d rest hex = at_backslash 117 (a ∷ b ∷ c ∷ d ∷ rest) ∙ ap (λ (x : Character). Some x) (cond-true _ _ _ hex)

not_line : (c d : ℕ) → is_line_end c ≡ true → class_of d ≢ LineEnd → (c == d) ≡ false
not_line c d line other = differs c d (λ same. other (sym same ∙ class_from_line_end _ line))

line_not_digit : (c : ℕ) → is_line_end c ≡ true → is_digit c ≡ false
line_not_digit c line = ap is_digit_class (class_from_line_end _ line)

continuation_seen : (c : ℕ) (rest : List ℕ) → is_line_end c ≡ true → ((c == 13) && begins (λ d. d == 10) rest) ≡ false → escape_of c rest ≡ Continuation c
continuation_seen c rest line alone =
    cond-false _ _ _ (not_line c 48 line (λ e. let bad : Digit ≡ LineEnd = sym zero_class ∙ e in cc))
    ∙ cond-false _ _ _ (not_line c 120 line (λ e. let bad : NameStart ≡ LineEnd = sym small_x_class ∙ e in cc))
    ∙ cond-false _ _ _ (not_line c 117 line (λ e. let bad : NameStart ≡ LineEnd = sym small_u_class ∙ e in cc))
    ∙ cond-false _ _ _ (line_not_digit c line)
    ∙ cond-true _ _ _ line
    ∙ cond-false _ _ _ alone

escaped_seen : (c : ℕ) (rest : List ℕ) → is_line_end c ≡ false → is_digit c ≡ false → c == 120 ≡ false → c == 117 ≡ false → escape_of c rest ≡ Escaped c
escaped_seen c rest not-line not-digit not-x not-u =
    cond-false _ _ _ (differs c 48 (λ same. let bad : false ≡ true = sym not-digit ∙ ap is_digit_class (same ∙ zero_class) in false≢true bad))
    ∙ cond-false _ _ _ not-x
    ∙ cond-false _ _ _ not-u
    ∙ cond-false _ _ _ not-digit
    ∙ cond-false _ _ _ not-line

pair_seen : (rest : List ℕ) → escape_of 13 (10 ∷ rest) ≡ ContinuationPair
pair_seen rest =
    cond-false _ _ _ (ap is_digit_class return_class)
    ∙ cond-true _ _ _ (ap is_line_end_class return_class)

hex_refused : (rest : List ℕ) → begins_hex 2 rest ≡ false → hex_escape rest ≡ Refused 120
hex_refused [] short = refl
hex_refused (a ∷ []) short = refl
hex_refused (a ∷ b ∷ rest) short = cond-false _ _ _ short

unicode_refused : (rest : List ℕ) → begins_hex 4 rest ≡ false → unicode_escape rest ≡ Refused 117
unicode_refused [] short = refl
unicode_refused (a ∷ []) short = refl
unicode_refused (a ∷ b ∷ []) short = refl
unicode_refused (a ∷ b ∷ c ∷ []) short = refl
unicode_refused (a ∷ b ∷ c ∷ d ∷ rest) short = cond-false _ _ _ short

refused_seen : (c : ℕ) (rest : List ℕ) → is_refused c rest ≡ true → escape_of c rest ≡ Refused c
refused_seen c rest refused =
    ⊎_elim
    (λ zero-is.
    let e = eqb-true c 48 zero-is.0 in
    cond-true _ _ _ zero-is.0 ∙ cond-true _ _ _ zero-is.1 ∙ ap (λ x. Refused x) (sym e))
    (λ not-zero.
    cond-false _ _ _ not-zero.0
    ∙ ⊎_elim
    (λ x-is. cond-true _ _ _ x-is.0 ∙ hex_refused rest (not-true _ x-is.1) ∙ ap (λ x. Refused x) (sym (eqb-true c 120 x-is.0)))
    (λ not-x.
    cond-false _ _ _ not-x.0
    ∙ ⊎_elim
    (λ u-is. cond-true _ _ _ u-is.0 ∙ unicode_refused rest (not-true _ u-is.1) ∙ ap (λ x. Refused x) (sym (eqb-true c 117 u-is.0)))
    (λ digit. cond-false _ _ _ digit.0 ∙ cond-true _ _ _ digit.1)
    (chosen _ _ _ _ not-x.1))
    (chosen _ _ _ _ not-zero.1))
    (chosen _ _ _ _ refused)

pub spell_cancels : (character : Character) (rest more : List ℕ) → spell character rest ≡ spell character more → rest ≡ more
spell_cancels (Plain c) rest more e = cc
spell_cancels (Escaped c) rest more e = cc
spell_cancels Null rest more e = cc
spell_cancels (Hexadecimal a b) rest more e = cc
spell_cancels (Unicode a b c d) rest more e = cc
spell_cancels (Continuation c) rest more e = cc
spell_cancels ContinuationPair rest more e = cc
spell_cancels (Refused c) rest more e = cc

or_stop : (a b c : Bool) → (a || b) ≡ true → (a || b || c) ≡ true
or_stop true b c e = refl
or_stop false true c e = refl
or_stop false false c e = absurd (false≢true e)

or_back : (a b c : Bool) → c ≡ true → (a || b || c) ≡ true
or_back true b c e = refl
or_back false true c e = refl
or_back false false c e = e

module _ (quote : ℕ) (is_quote : class_of quote ≡ Quote) where
  -- what stands there is found first
  pub sees_character : (character : Character) (rest : List ℕ) → IsCharacter quote character rest → first_character quote (spell character rest) ≡ Some character
  sees_character (Plain c) rest fits = at_plain quote is_quote c rest fits.0 fits.1 fits.2
  sees_character (Escaped c) rest fits = at_backslash quote is_quote c rest ∙ ap (λ (x : Character). Some x) (escaped_seen c rest fits.0 fits.1 fits.2 fits.3)
  sees_character Null rest fits = at_backslash quote is_quote 48 rest ∙ ap (λ (x : Character). Some x) (cond-false _ _ _ fits)
  sees_character (Hexadecimal a b) rest fits = sees_hex quote is_quote a b rest fits
  sees_character (Unicode a b c d) rest fits = sees_unicode quote is_quote a b c d rest fits
  sees_character (Continuation c) rest fits = at_backslash quote is_quote c rest ∙ ap (λ (x : Character). Some x) (continuation_seen c rest fits.0 fits.1)
  sees_character ContinuationPair rest fits = at_backslash quote is_quote 13 (10 ∷ rest) ∙ ap (λ (x : Character). Some x) (pair_seen rest)
  sees_character (Refused c) rest fits = at_backslash quote is_quote c rest ∙ ap (λ (x : Character). Some x) (refused_seen c rest fits)

  -- where a text ends no character begins, and the other way round
  pub ends_none : (units : List ℕ) → ends_text quote units ≡ true → first_character quote units ≡ None
  ends_none [] ends = refl
  ends_none (c ∷ []) ends =
      ⊎_elim (λ stop. cond-true _ _ _ stop) (λ back. ends_by ((c == quote) || is_line_end c) back) (or_cases ((c == quote) || is_line_end c) (c == 92) ends)
    where
      ends_by : (b : Bool) → (c == 92) ≡ true → cond b None (cond (c == 92) None (Some (Plain c))) ≡ None
      ends_by true back = refl
      ends_by false back = cond-true _ _ _ back
  ends_none (c ∷ d ∷ rest) ends = cond-true _ _ _ ends

  pub none_ends : (units : List ℕ) → first_character quote units ≡ None → ends_text quote units ≡ true
  none_ends [] none = refl
  none_ends (c ∷ []) none =
      let stop = (c == quote) || is_line_end c in
      ⊎_elim (λ here. or_stop (c == quote) (is_line_end c) (c == 92) here.0) (λ other. ⊎_elim (λ back. or_back (c == quote) (is_line_end c) (c == 92) back.0) (λ plain. absurd (none-some (Plain c) (sym plain.1))) (chosen (c == 92) None (Some (Plain c)) None other.1)) (chosen stop None (cond (c == 92) None (Some (Plain c))) None none)
  none_ends (c ∷ d ∷ rest) none =
      ⊎_elim (λ stop. stop.0) (λ other. ⊎_elim (λ back. absurd (none-some (escape_of d rest) (sym back.1))) (λ plain. absurd (none-some (Plain c) (sym plain.1))) (chosen (c == 92) (Some (escape_of d rest)) (Some (Plain c)) None other.1)) (chosen ((c == quote) || is_line_end c) None (cond (c == 92) (Some (escape_of d rest)) (Some (Plain c))) None none)

  -- there is one way to read characters up to where a text ends
  pub one_text : (cs ds : List Character) (rest more : List ℕ) → spell_all cs rest ≡ spell_all ds more → AreCharacters quote cs rest → AreCharacters quote ds more → first_character quote rest ≡ None → first_character quote more ≡ None → (cs ≡ ds) × (rest ≡ more)
  one_text [] [] rest more e a b none none' = (refl, e)
  one_text [] (d ∷ ds) rest more e a b none none' = absurd (let found = sym none ∙ ap (first_character quote) e ∙ sees_character d (spell_all ds more) b.0 in cc)
  one_text (c ∷ cs) [] rest more e a b none none' = absurd (let found = sym (sees_character c (spell_all cs rest) a.0) ∙ ap (first_character quote) e ∙ none' in cc)
  one_text (c ∷ cs) (d ∷ ds) rest more e a b none none' =
      let found = sym (sees_character c (spell_all cs rest) a.0) ∙ ap (first_character quote) e ∙ sees_character d (spell_all ds more) b.0 in
      let same : c ≡ d = same_Some c d found in
      let tails : spell_all cs rest ≡ spell_all ds more = spell_cancels c _ _ (e ∙ ap (λ (x : Character). spell x (spell_all ds more)) (sym same)) in
      let below = one_text cs ds rest more tails a.1 b.1 none none' in
      let heads = below.0 in
      ((λ i. same i ∷ heads i), below.1)

-- what comes first doesn't depend on what stands behind a quote
module _ (quote : ℕ) (is_quote : class_of quote ≡ Quote) (rest more : List ℕ) where
  same_first : (p : ℕ → Bool) (cs : List Character) → begins p (spell_all cs (quote ∷ rest)) ≡ begins p (spell_all cs (quote ∷ more))
  same_first p [] = refl
  same_first p (Plain c ∷ cs) = refl
  same_first p (Escaped c ∷ cs) = refl
  same_first p (Null ∷ cs) = refl
  same_first p (Hexadecimal a b ∷ cs) = refl
  same_first p (Unicode a b c d ∷ cs) = refl
  same_first p (Continuation c ∷ cs) = refl
  same_first p (ContinuationPair ∷ cs) = refl
  same_first p (Refused c ∷ cs) = refl

  stops : (c : ℕ) (x y : Bool) → is_hex_digit c ≡ false → (is_hex_digit c && x) ≡ (is_hex_digit c && y)
  stops c x y not-hex = and_left _ x not-hex ∙ sym (and_left _ y not-hex)

  same_hex : (n : ℕ) (cs : List Character) → begins_hex n (spell_all cs (quote ∷ rest)) ≡ begins_hex n (spell_all cs (quote ∷ more))
  same_hex zero cs = refl
  same_hex (suc n) [] = stops quote _ _ (quote_not_hex quote is_quote)
  same_hex (suc n) (Plain c ∷ cs) = ap (λ b. is_hex_digit c && b) (same_hex n cs)
  same_hex (suc n) (Escaped c ∷ cs) = stops 92 _ _ backslash_not_hex
  same_hex (suc n) (Null ∷ cs) = stops 92 _ _ backslash_not_hex
  same_hex (suc n) (Hexadecimal a b ∷ cs) = stops 92 _ _ backslash_not_hex
  same_hex (suc n) (Unicode a b c d ∷ cs) = stops 92 _ _ backslash_not_hex
  same_hex (suc n) (Continuation c ∷ cs) = stops 92 _ _ backslash_not_hex
  same_hex (suc n) (ContinuationPair ∷ cs) = stops 92 _ _ backslash_not_hex
  same_hex (suc n) (Refused c ∷ cs) = stops 92 _ _ backslash_not_hex

  same_refused : (c : ℕ) (cs : List Character) → is_refused c (spell_all cs (quote ∷ rest)) ≡ is_refused c (spell_all cs (quote ∷ more))
  same_refused c cs =
      let digit = same_first is_digit cs in
      let two = same_hex 2 cs in
      let four = same_hex 4 cs in
      (λ i. cond (c == 48) (digit i) (cond (c == 120) (not (two i)) (cond (c == 117) (not (four i)) (is_digit c))))

  fits_still : (character : Character) (cs : List Character) → IsCharacter quote character (spell_all cs (quote ∷ rest)) → IsCharacter quote character (spell_all cs (quote ∷ more))
  fits_still (Plain c) cs fits = fits
  fits_still (Escaped c) cs fits = fits
  fits_still Null cs fits = sym (same_first is_digit cs) ∙ fits
  fits_still (Hexadecimal a b) cs fits = fits
  fits_still (Unicode a b c d) cs fits = fits
  fits_still (Continuation c) cs fits = (fits.0, ap (λ b. (c == 13) && b) (sym (same_first (λ d. d == 10) cs)) ∙ fits.1)
  fits_still ContinuationPair cs fits = tt
  fits_still (Refused c) cs fits = sym (same_refused c cs) ∙ fits

  -- characters before a quote are so whatever follows it
  pub any_rest : (cs : List Character) → AreCharacters quote cs (quote ∷ rest) → AreCharacters quote cs (quote ∷ more)
  any_rest [] each = tt
  any_rest (c ∷ cs) each = (fits_still c cs each.0, any_rest cs each.1)

option_or_assoc : (a b c : Option Fault) → option_or (option_or a b) c ≡ option_or a (option_or b c)
option_or_assoc None b c = refl
option_or_assoc (Some x) b c = refl

pub option_or_none : (a : Option Fault) → option_or a None ≡ a
option_or_none None = refl
option_or_none (Some x) = refl

-- whatever characters the rest has, the units have them behind those that were read
abbrev pub Reads : List ℕ → ℕ → List ℕ → ℕ → Option Fault → Type 0
Reads units quote rest count found =
    (characters : List Character) (end : List ℕ) → rest ≡ spell_all characters end → AreCharacters quote characters end →
    (all : List Character) × (units ≡ quote ∷ spell_all all end) × AreCharacters quote all end × (refused_in 1 all ≡ option_or found (refused_in count characters))

-- a turn of the loop over characters
pub text_turn : (units rest : List ℕ) (quote count : ℕ) (found : Option Fault) (character : Character) → Some character ≡ first_character quote rest → Reads units quote rest count found → Reads units quote (drop (width character) rest) (count + width character) (option_or found (fault_at count character))
text_turn units rest quote count found character first before characters end splits each =
    let stands = character_stands quote rest character (sym first) in
    let tail : stands.rest ≡ spell_all characters end = stands.rest-is ∙ splits in
    let all = before (character ∷ characters) end (stands.splits ∙ ap (λ u. spell character u) tail) (subst (λ u. IsCharacter quote character u) tail stands.fits, each) in
    (all.0, all.1, all.2, all.3 ∙ sym (option_or_assoc found (fault_at count character) (refused_in (count + width character) characters)))

pub text_goes_on : (units rest after : List ℕ) (quote count step : ℕ) (found now : Option Fault) (character : Character) → Some character ≡ first_character quote rest → Reads units quote rest count found → after ≡ drop (width character) rest → step ≡ width character → now ≡ option_or found (fault_at count character) → Reads units quote after (count + step) now
text_goes_on units rest after quote count step found now character first before after-is step-is now-is =
    let turn = text_turn units rest quote count found character first before in
    subst (λ u. Reads units quote u (count + step) now) (sym after-is)
    (subst (λ n. Reads units quote (drop (width character) rest) (count + n) now) (sym step-is)
    (subst (λ f. Reads units quote (drop (width character) rest) (count + width character) f) (sym now-is) turn))

-- the loop's end at a closing quote
pub closed_end : (units rest : List ℕ) (quote count : ℕ) (found : Option Fault) → class_of quote ≡ Quote → count + length rest ≡ length units → Reads units quote rest count found → first_character quote rest ≡ None → begins (λ c. c == quote) rest ≡ true → ReadsEnd units (record { count = count + 1; fault = found })
closed_end units rest quote count found is_quote bound reads none closes =
    let all = reads [] rest refl tt in
    let fault-is : refused_in 1 all.0 ≡ found = all.3 ∙ option_or_none found in
    record {
      quote = quote;
      characters = all.0;
      rest = rest;
      reads = record { is_quote = is_quote; spelled = all.1; each = all.2; ends = none_ends quote is_quote rest none };
      count-is = omega arith;
      fault-is = sym (cond-true _ _ _ closes ∙ fault-is);
    }

-- the loop's end at a line end, or where nothing follows
pub open_end : (units rest : List ℕ) (quote count : ℕ) (found : Option Fault) → class_of quote ≡ Quote → count + length rest ≡ length units → Reads units quote rest count found → first_character quote rest ≡ None → begins (λ c. c == quote) rest ≡ false → ReadsEnd units (record { count = count + 1; fault = Some (fault 0 OpenText) })
open_end units rest quote count found is_quote bound reads none opens =
    let all = reads [] rest refl tt in
    record {
      quote = quote;
      characters = all.0;
      rest = rest;
      reads = record { is_quote = is_quote; spelled = all.1; each = all.2; ends = none_ends quote is_quote rest none };
      count-is = omega arith;
      fault-is = sym (cond-false _ _ _ opens);
    }

-- the class of the first unit
pub head_class : (units : List ℕ) → begins is_quote units ≡ true → class_of (get_or units 0 0) ≡ Quote
head_class [] starts = absurd (false≢true starts)
head_class (c ∷ rest) starts = class_from_quote (class_of c) starts
