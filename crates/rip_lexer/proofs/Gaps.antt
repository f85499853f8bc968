-- The parts of a gap: which one comes first, that there is one way to read a gap, and the loop over its parts.
use Rattle.std.proofs.Common.{◌≡◌, ℕ, suc, ◌+◌, Bool, true, false, not, ◌||◌, ◌&&◌, ◌==◌, List, [], ◌∷◌, ◌++◌, length, drop, take_while, Some, None, option_map, refl, sym, ap, ◌∙◌, subst, ⊎_elim, arith, take-append-drop, eqb-true, length-append}
use Rattle.std.specs.List.{prefix_len}
use Rattle.std.proofs.lemmas.Bool.{and_parts, or_parts, or_from, cond-true, cond-false}
use Rattle.std.proofs.lemmas.List.{append_cancel_left}
use Rattle.std.proofs.lemmas.Option.{none-some, same_Some}
use Rattle.rip_base.specs.Units.{begins}
use Rattle.rip_lexer.specs.Units.{class_of, is_line_end, is_blank}
use Rattle.rip_lexer.specs.Gap.{Part, Blank, LineComment, BlockComment, holds_close, part_text, IsPart, line_in, gap_text, IsGap}
use Rattle.rip_lexer.specs.View.{before_close, comment_of, first_part, part_count, shown, ReadsGap}
use Rattle.rip_lexer.specs.declared.gap.Gap.{Gap}
use Rattle.rip_lexer.proofs.Choice.{chosen, mapped, or_assoc}
use Rattle.rip_lexer.proofs.Runs.{run_all, length_run, line_is, line_ends}

-- the units are a body, `*/` and a rest
pub record Closes (units body : List ℕ) : Type 0 where
  pub rest : List ℕ
  pub splits : units ≡ body ++ (42 ∷ 47 ∷ rest)
  pub inside : holds_close body ≡ false
  pub rest-is : rest ≡ drop (length body + 2) units

drop_two : (n c d : ℕ) (rest : List ℕ) → drop (n + 2) (c ∷ d ∷ rest) ≡ drop n rest
drop_two n c d rest = let e : n + 2 ≡ suc (suc n) = omega arith in rw e refl

drop_suc : (n c : ℕ) (rest : List ℕ) → drop (suc n + 2) (c ∷ rest) ≡ drop (n + 2) rest
drop_suc n c rest = let e : suc n + 2 ≡ suc (n + 2) = omega arith in rw e refl

-- a `*/` at the front
close_here : (c : ℕ) (rest : List ℕ) → ((c == 42) && begins (λ d. d == 47) rest) ≡ true → Closes (c ∷ rest) []
close_here c [] test = absurd (let p = and_parts (c == 42) false test in cc)
close_here c (d ∷ rest) test =
    let p = and_parts (c == 42) (d == 47) test in
    let first : c ≡ 42 = eqb-true c 42 p.0 in
    let second : d ≡ 47 = eqb-true d 47 p.1 in
    record { rest = rest; splits = cc; inside = refl; rest-is = refl }

-- no `*/` at the front of units that go on as a body and a `*/`
none_here : (c : ℕ) (body rest : List ℕ) → ((c == 42) && begins (λ d. d == 47) (body ++ (42 ∷ 47 ∷ rest))) ≡ ((c == 42) && begins (λ d. d == 47) body)
none_here c [] rest = refl
none_here c (x ∷ body) rest = refl

pub closes : (units body : List ℕ) → before_close units ≡ Some body → Closes units body
closes [] body e = absurd (cc)
closes (c ∷ units) body e =
    ⊎_elim
    (λ here. subst (λ b. Closes (c ∷ units) b) (same_Some _ _ here.1) (close_here c units here.0))
    (λ later.
    let m = mapped (λ b. c ∷ b) (before_close units) body later.1 in
    let below = closes units m.0 m.1 in
    subst (λ b. Closes (c ∷ units) b) (sym m.2) (record {
      rest = below.rest;
      splits = ap (λ u. c ∷ u) below.splits;
      inside = or_from ((c == 42) && begins (λ d. d == 47) m.0) _ (sym (none_here c m.0 below.rest) ∙ ap (λ u. (c == 42) && begins (λ d. d == 47) u) (sym below.splits) ∙ later.0) below.inside;
      rest-is = below.rest-is ∙ sym (drop_suc (length m.0) c units);
    }))
    (chosen _ _ _ _ e)

-- the first `*/` behind a body that holds none is the one behind it
pub close_is : (body rest : List ℕ) → holds_close body ≡ false → before_close (body ++ (42 ∷ 47 ∷ rest)) ≡ Some body
close_is [] rest inside = refl
close_is (c ∷ body) rest inside =
    let parts = or_parts ((c == 42) && begins (λ d. d == 47) body) (holds_close body) inside in
    cond-false _ _ _ (none_here c body rest ∙ parts.0) ∙ ap (λ o. option_map (λ b. c ∷ b) o) (close_is body rest parts.1)

-- the units are a part of a gap and a rest
pub record Stands (units : List ℕ) (part : Part) : Type 0 where
  pub rest : List ℕ
  pub splits : units ≡ part_text part rest
  pub fits : IsPart part rest
  pub rest-is : rest ≡ drop (part_count part) units

line_stands : (rest : List ℕ) → Stands (47 ∷ 47 ∷ rest) (LineComment (take_while (λ c. not (is_line_end c)) rest))
line_stands rest =
    let p : ℕ → Bool = λ c. not (is_line_end c) in
    record {
      rest = drop (prefix_len p rest) rest;
      splits = ap (λ u. 47 ∷ 47 ∷ u) (sym (take-append-drop (prefix_len p rest) rest));
      fits = (run_all p rest, line_ends rest);
      rest-is = sym (drop_two (length (take_while p rest)) 47 47 rest ∙ ap (λ n. drop n rest) (length_run p rest));
    }

block_stands : (rest body : List ℕ) → Closes rest body → Stands (47 ∷ 42 ∷ rest) (BlockComment body)
block_stands rest body closed = record {
  rest = closed.rest;
  splits = ap (λ u. 47 ∷ 42 ∷ u) closed.splits;
  fits = closed.inside;
  rest-is = closed.rest-is ∙ sym (let e : length body + 4 ≡ (length body + 2) + 2 = omega arith in ap (λ n. drop n (47 ∷ 42 ∷ rest)) e ∙ drop_two (length body + 2) 47 42 rest);
}

comment_stands : (rest : List ℕ) (part : Part) → comment_of rest ≡ Some part → Stands (47 ∷ rest) part
comment_stands [] part e = absurd (cc)
comment_stands (d ∷ rest) part e =
    ⊎_elim
    (λ line.
    let slash : d ≡ 47 = eqb-true d 47 line.0 in
    subst (λ x. Stands (47 ∷ x ∷ rest) part) (sym slash) (subst (λ q. Stands (47 ∷ 47 ∷ rest) q) (same_Some _ _ line.1) (line_stands rest)))
    (λ other.
    ⊎_elim
    (λ block.
    let star : d ≡ 42 = eqb-true d 42 block.0 in
    let m = mapped (λ b. BlockComment b) (before_close rest) part block.1 in
    subst (λ x. Stands (47 ∷ x ∷ rest) part) (sym star) (subst (λ q. Stands (47 ∷ 42 ∷ rest) q) (sym m.2) (block_stands rest m.0 (closes rest m.0 m.1))))
    (λ none. absurd (none-some part none.1))
    (chosen _ _ _ _ other.1))
    (chosen _ _ _ _ e)

-- what is found first stands there
pub part_stands : (units : List ℕ) (part : Part) → first_part units ≡ Some part → Stands units part
part_stands [] part e = absurd (cc)
part_stands (c ∷ rest) part e =
    ⊎_elim
    (λ blank. subst (λ q. Stands (c ∷ rest) q) (same_Some _ _ blank.1) (record { rest = rest; splits = refl; fits = blank.0; rest-is = refl }))
    (λ other.
    ⊎_elim
    (λ comment.
    let slash : c ≡ 47 = eqb-true c 47 comment.0 in
    subst (λ x. Stands (x ∷ rest) part) (sym slash) (comment_stands rest part comment.1))
    (λ none. absurd (none-some part none.1))
    (chosen _ _ _ _ other.1))
    (chosen _ _ _ _ e)

pub slash_not_blank : is_blank 47 ≡ false
unfolding class_of
slash_not_blank = refl

-- what stands there is found first
pub sees_part : (part : Part) (rest : List ℕ) → IsPart part rest → first_part (part_text part rest) ≡ Some part
sees_part (Blank c) rest fits = cond-true (is_blank c) _ _ fits
sees_part (LineComment body) rest fits = cond-false (is_blank 47) _ _ slash_not_blank ∙ ap (λ b. Some (LineComment b)) (line_is body rest fits.0 fits.1)
sees_part (BlockComment body) rest fits = cond-false (is_blank 47) _ _ slash_not_blank ∙ ap (λ o. option_map (λ b. BlockComment b) o) (close_is body rest fits)

part_cancels : (part : Part) (rest more : List ℕ) → part_text part rest ≡ part_text part more → rest ≡ more
part_cancels (Blank c) rest more e = cc
part_cancels (LineComment body) rest more e = append_cancel_left body rest more (cc)
part_cancels (BlockComment body) rest more e = let both : body ++ (42 ∷ 47 ∷ rest) ≡ body ++ (42 ∷ 47 ∷ more) = cc in let tails = append_cancel_left body _ _ both in cc

-- there is one way to read a gap up to where none begins
pub one_gap : (gap other : List Part) (rest more : List ℕ) → gap_text gap rest ≡ gap_text other more → IsGap gap rest → IsGap other more → first_part rest ≡ None → first_part more ≡ None → (gap ≡ other) × (rest ≡ more)
one_gap [] [] rest more e a b none none' = (refl, e)
one_gap [] (q ∷ other) rest more e a b none none' = absurd (let found = sym none ∙ ap first_part e ∙ sees_part q (gap_text other more) b.0 in cc)
one_gap (p ∷ gap) [] rest more e a b none none' = absurd (let found = sym (sees_part p (gap_text gap rest) a.0) ∙ ap first_part e ∙ none' in cc)
one_gap (p ∷ gap) (q ∷ other) rest more e a b none none' =
    let found : Some p ≡ Some q = sym (sees_part p (gap_text gap rest) a.0) ∙ ap first_part e ∙ sees_part q (gap_text other more) b.0 in
    let same : p ≡ q = cc in
    let tails : gap_text gap rest ≡ gap_text other more = part_cancels p _ _ (e ∙ ap (λ x. part_text x (gap_text other more)) (sym same)) in
    let below = one_gap gap other rest more tails a.1 b.1 none none' in
    let heads = below.0 in
    ((λ i. same i ∷ heads i), below.1)

pub length_part : (part : Part) (rest : List ℕ) → length (part_text part rest) ≡ part_count part + length rest
length_part (Blank c) rest = omega arith
length_part (LineComment body) rest = omega (arith, length-append body rest)
length_part (BlockComment body) rest = omega (arith, length-append body (42 ∷ 47 ∷ rest))

pub no_gap : (rest : List ℕ) → ReadsGap rest 0 false rest
no_gap rest = record { gap = []; splits = refl; is_gap = tt; count-is = refl; line-is = refl }

pub more_gap : (units : List ℕ) (part : Part) (count : ℕ) (line : Bool) (end : List ℕ) → Stands units part → ReadsGap (drop (part_count part) units) count line end → ReadsGap units (part_count part + count) (line_in part || line) end
more_gap units part count line end stands below =
    let rest-is : stands.rest ≡ gap_text below.gap end = stands.rest-is ∙ below.splits in
    record {
      gap = part ∷ below.gap;
      splits = stands.splits ∙ ap (λ u. part_text part u) rest-is;
      is_gap = (subst (λ u. IsPart part u) rest-is stands.fits, below.is_gap);
      count-is = ap (λ n. part_count part + n) below.count-is ∙ sym (length_part part (gap_text below.gap []));
      line-is = ap (λ b. line_in part || b) below.line-is;
    }

-- a turn of the loop over the parts of a gap
pub gap_turn : (units rest : List ℕ) (was : ℕ) (held : Bool) (part : Gap) → Some part ≡ option_map shown (first_part rest) → ((count : ℕ) (line : Bool) (end : List ℕ) → ReadsGap rest count line end → ReadsGap units (was + count) (held || line) end) → (count : ℕ) (line : Bool) (end : List ℕ) → ReadsGap (drop part.count rest) count line end → ReadsGap units (was + part.count + count) ((held || part.holds_line_end) || line) end
gap_turn units rest was held part found before count line end below =
    let m = mapped shown (first_part rest) part (sym found) in
    let counts : part.count ≡ part_count m.0 = ap (λ (g : Gap). g.count) m.2 in
    let lines : part.holds_line_end ≡ line_in m.0 = ap (λ (g : Gap). g.holds_line_end) m.2 in
    let one = more_gap rest m.0 count line end (part_stands rest m.0 m.1) (subst (λ n. ReadsGap (drop n rest) count line end) counts below) in
    let all = before (part_count m.0 + count) (line_in m.0 || line) end one in
    subst (λ n. ReadsGap units n ((held || part.holds_line_end) || line) end) (let e : was + (part_count m.0 + count) ≡ was + part.count + count = omega arith in e)
    (subst (λ b. ReadsGap units (was + (part_count m.0 + count)) b end) (sym (or_assoc held (line_in m.0) line) ∙ ap (λ b. (held || b) || line) (sym lines)) all)
