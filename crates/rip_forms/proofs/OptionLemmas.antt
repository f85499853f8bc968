-- Walks over the options of a select.
use Rattle.std.proofs.Common.{◌≡◌, ℕ, zero, suc, ◌+◌, ◌-◌, ◌<◌, ◌≤◌, Bool, true, false, cond, List, [], ◌∷◌, length, Option, None, Some, is_some, refl, sym, ap, ap₂, ◌∙◌, arith, ◌⊎◌, inl, inr, ◌&&◌, ◌==◌}
use Rattle.std.specs.Prelude.{option_map, slice_get, unwrap_or}
use Rattle.std.specs.List.{filter}
use Rattle.std.proofs.lemmas.Bool.{both_ways, cases_Bool, cond-true, cond-false, ne_eqb}
use Rattle.std.proofs.lemmas.Option.{same_Some, none-some}
use Rattle.rip_values.specs.Pool.{Texts}
use Rattle.rip_dom.specs.declared.order.Step.{Step}
use Rattle.rip_dom.specs.declared.order.Step.TheVariants.{Enter, Leave, End}
use Rattle.rip_dom.specs.Order.{in_order}
use Rattle.rip_dom.specs.Tree.{Tree}
use Rattle.rip_dom.specs.Way.{StepsGoInOrder, found_at, is_end, step, way_on}
use Rattle.rip_forms.specs.Options.{is_option, is_selected, last_place, place_behind, options_of, first_choice}
use Rattle.rip_forms.specs.OptionSteps.{fewer, more, found_behind, is_sought, is_wanted}
use Rattle.rip_forms.specs.Choices.{first_place, has_value}

-- the options that are entered from this step on, in so many steps
abbrev pub options_on : Texts → Tree → ℕ → ℕ → Step → List ℕ
options_on pool t r k s = filter (is_option pool t) (way_on t r k s)

-- the option that a step enters, before those that are entered behind it
abbrev pub with_option : Option ℕ → List ℕ → List ℕ
with_option None rest = rest
with_option (Some n) rest = n ∷ rest

at-end : (t : Tree) (r k : ℕ) → way_on t r k End ≡ []
at-end t r zero = refl
at-end t r (suc k) = refl

options-step : (pool : Texts) (t : Tree) (r k : ℕ) (s : Step) → options_on pool t r (suc k) s ≡ with_option (found_at (is_option pool t) s) (options_on pool t r k (step t r s))
options-step pool t r k (Enter m) =
    elim (cases_Bool (is_option pool t m)) [
      | inl b ↦
          cond-true (is_option pool t m) (m ∷ options_on pool t r k (step t r (Enter m))) (options_on pool t r k (step t r (Enter m))) b
          ∙ sym (ap (λ o. with_option o (options_on pool t r k (step t r (Enter m)))) (cond-true (is_option pool t m) (Some m) None b))
      | inr b ↦
          cond-false (is_option pool t m) (m ∷ options_on pool t r k (step t r (Enter m))) (options_on pool t r k (step t r (Enter m))) b
          ∙ sym (ap (λ o. with_option o (options_on pool t r k (step t r (Enter m)))) (cond-false (is_option pool t m) (Some m) None b))
    ]
options-step pool t r k (Leave m) = refl
options-step pool t r k End = sym (ap (filter (is_option pool t)) (at-end t r k))

-- one step more
options-more : (pool : Texts) (t : Tree) (r e i : ℕ) (s next : Step) (here : Option ℕ) → i < e → here ≡ found_at (is_option pool t) s → next ≡ step t r s
    → options_on pool t r (e - i) s ≡ with_option here (options_on pool t r (e - (i + 1)) next)
options-more pool t r e i s next here h f n =
    let z : e - i ≡ suc (e - (i + 1)) = omega (arith, h) in
    ap (λ k. options_on pool t r k s) z ∙ options-step pool t r (e - (i + 1)) s
    ∙ sym (ap₂ (λ o x. with_option o (options_on pool t r (e - (i + 1)) x)) f n)

way-at-end : (t : Tree) (r k : ℕ) (s : Step) → is_end s ≡ true → way_on t r k s ≡ []
way-at-end t r k (Enter n) e = absurd (both_ways false refl e)
way-at-end t r k (Leave n) e = absurd (both_ways false refl e)
way-at-end t r k End e = at-end t r k

options-end : (pool : Texts) (t : Tree) (r k : ℕ) (s : Step) → is_end s ≡ true → options_on pool t r k s ≡ []
options-end pool t r k s e = ap (filter (is_option pool t)) (way-at-end t r k s e)

options-over : (pool : Texts) (t : Tree) (r e i : ℕ) (s : Step) → e ≤ i → options_on pool t r (e - i) s ≡ []
options-over pool t r e i s h = let z : e - i ≡ 0 = omega (arith, h) in ap (λ k. options_on pool t r k s) z

options-first : (pool : Texts) (t : Tree) (n e : ℕ) → StepsGoInOrder t → e ≡ length t.nodes + length t.nodes → options_on pool t n (e - 0) (Enter n) ≡ options_of pool t n
options-first pool t n e g f =
    let z : e - 0 ≡ length t.nodes + length t.nodes = omega (arith, f) in
    ap (λ k. options_on pool t n k (Enter n)) z ∙ ap (filter (is_option pool t)) (g n)

-- THE OPTION AT A PLACE

-- the option that is looked for is the one at this place of those that are left
pub record Seeks (pool : Texts) (t : Tree) (r k : ℕ) (at : Step) (left place : ℕ) : Type 0 where
  pub same : slice_get (options_on pool t r k at) left ≡ slice_get (options_of pool t r) place

pub seeks-first : (pool : Texts) (t : Tree) (n e place : ℕ) → StepsGoInOrder t → e ≡ length t.nodes + length t.nodes → Seeks pool t n (e - 0) (Enter n) place place
seeks-first pool t n e place g f = record { same = ap (λ os. slice_get os place) (options-first pool t n e g f) }

get-with : (here : Option ℕ) (rest : List ℕ) (left : ℕ) → is_sought left here ≡ false → slice_get (with_option here rest) left ≡ slice_get rest (fewer left here)
get-with None rest left h = refl
get-with (Some n) rest zero h = absurd (both_ways true h refl)
get-with (Some n) rest (suc k) h = let z : suc k - 1 ≡ k = omega arith in ap (slice_get rest) (sym z)

pub seeks-more : (pool : Texts) (t : Tree) (r e i left place : ℕ) (at next : Step) (here : Option ℕ) → Seeks pool t r (e - i) at left place → i < e → here ≡ found_at (is_option pool t) at → is_sought left here ≡ false
    → next ≡ step t r at → Seeks pool t r (e - (i + 1)) next (fewer left here) place
seeks-more pool t r e i left place at next here s h f l n = record {
  same =
      sym (get-with here (options_on pool t r (e - (i + 1)) next) left l)
      ∙ ap (λ os. slice_get os left) (sym (options-more pool t r e i at next here h f n)) ∙ s.same;
}

get-here : (here : Option ℕ) (rest : List ℕ) (left : ℕ) → is_sought left here ≡ true → here ≡ slice_get (with_option here rest) left
get-here None rest left h = absurd (both_ways false refl h)
get-here (Some n) rest zero h = refl
get-here (Some n) rest (suc k) h = absurd (both_ways (suc k == 0) (ne_eqb (suc k) 0 (λ e. absurd (omega (arith, e)))) h)

pub seeks-found : (pool : Texts) (t : Tree) (r e i left place : ℕ) (at : Step) (here : Option ℕ) → Seeks pool t r (e - i) at left place → i < e → here ≡ found_at (is_option pool t) at → is_sought left here ≡ true
    → here ≡ slice_get (options_of pool t r) place
seeks-found pool t r e i left place at here s h f o =
    get-here here (options_on pool t r (e - (i + 1)) (step t r at)) left o
    ∙ ap (λ os. slice_get os left) (sym (options-more pool t r e i at (step t r at) here h f refl)) ∙ s.same

pub seeks-end : (pool : Texts) (t : Tree) (r k left place : ℕ) (at : Step) → Seeks pool t r k at left place → is_end at ≡ true → None ≡ slice_get (options_of pool t r) place
seeks-end pool t r k left place at s e = sym (ap (λ os. slice_get os left) (options-end pool t r k at e)) ∙ s.same

pub seeks-over : (pool : Texts) (t : Tree) (r e i left place : ℕ) (at : Step) → Seeks pool t r (e - i) at left place → e ≤ i → None ≡ slice_get (options_of pool t r) place
seeks-over pool t r e i left place at s h = sym (ap (λ os. slice_get os left) (options-over pool t r e i at h)) ∙ s.same

-- THE LAST SELECTED OPTION

-- the place of the last one with `selected`, of which so many options stand in front
abbrev pub last_of : Option ℕ → ℕ → ℕ → ℕ
last_of None count found = found
last_of (Some k) count found = count + k

-- the choice is found, or among the options that are left
pub record Chooses (pool : Texts) (t : Tree) (r k : ℕ) (at : Step) (count found i : ℕ) : Type 0 where
  pub same : last_of (last_place (is_selected pool t) (options_on pool t r k at)) count found ≡ first_choice pool t r
  pub counted : count ≤ i
  pub below : found ≤ count

begins : (o : Option ℕ) → last_of o 0 0 ≡ unwrap_or o 0
begins None = refl
begins (Some k) = omega arith

pub chooses-first : (pool : Texts) (t : Tree) (n e : ℕ) → StepsGoInOrder t → e ≡ length t.nodes + length t.nodes → Chooses pool t n (e - 0) (Enter n) 0 0 0
chooses-first pool t n e g f = record {
  same =
      begins (last_place (is_selected pool t) (options_on pool t n (e - 0) (Enter n)))
      ∙ ap (λ os. unwrap_or (last_place (is_selected pool t) os) 0) (options-first pool t n e g f);
  counted = omega arith;
  below = omega arith;
}

behind-one : (b : Bool) (o : Option ℕ) (count found : ℕ) → last_of (place_behind b o) count found ≡ last_of o (count + 1) (cond b count found)
behind-one b (Some k) count found = omega arith
behind-one true None count found = omega arith
behind-one false None count found = refl

last-with : (pool : Texts) (t : Tree) (here : Option ℕ) (rest : List ℕ) (count found : ℕ)
    → last_of (last_place (is_selected pool t) (with_option here rest)) count found ≡ last_of (last_place (is_selected pool t) rest) (count + more here) (found_behind pool t here count found)
last-with pool t None rest count found = let z : count ≡ count + 0 = omega arith in ap (λ k. last_of (last_place (is_selected pool t) rest) k found) z
last-with pool t (Some n) rest count found = behind-one (is_selected pool t n) (last_place (is_selected pool t) rest) count found

more-few : (here : Option ℕ) → more here ≤ 1
more-few None = omega arith
more-few (Some n) = omega arith

cond-below : (b : Bool) (count found : ℕ) → found ≤ count → cond b count found ≤ count + 1
cond-below true count found h = omega (arith, h)
cond-below false count found h = omega (arith, h)

found-below : (pool : Texts) (t : Tree) (here : Option ℕ) (count found : ℕ) → found ≤ count → found_behind pool t here count found ≤ count + more here
found-below pool t None count found h = omega (arith, h)
found-below pool t (Some n) count found h = cond-below (is_selected pool t n) count found h

pub chooses-more : (pool : Texts) (t : Tree) (r e i count found : ℕ) (at next : Step) (here : Option ℕ) → Chooses pool t r (e - i) at count found i → i < e → here ≡ found_at (is_option pool t) at → next ≡ step t r at
    → Chooses pool t r (e - (i + 1)) next (count + more here) (found_behind pool t here count found) (i + 1)
chooses-more pool t r e i count found at next here c h f n = record {
  same =
      sym (last-with pool t here (options_on pool t r (e - (i + 1)) next) count found)
      ∙ ap (λ os. last_of (last_place (is_selected pool t) os) count found) (sym (options-more pool t r e i at next here h f n)) ∙ c.same;
  counted = omega (arith, c.counted, more-few here);
  below = found-below pool t here count found c.below;
}

none-left : (pool : Texts) (t : Tree) (r k i count found : ℕ) (at : Step) → Chooses pool t r k at count found i → options_on pool t r k at ≡ [] → found ≡ first_choice pool t r
none-left pool t r k i count found at c e = sym (ap (λ os. last_of (last_place (is_selected pool t) os) count found) e) ∙ c.same

pub chooses-end : (pool : Texts) (t : Tree) (r k i count found : ℕ) (at : Step) → Chooses pool t r k at count found i → is_end at ≡ true → found ≡ first_choice pool t r
chooses-end pool t r k i count found at c e = none-left pool t r k i count found at c (options-end pool t r k at e)

pub chooses-over : (pool : Texts) (t : Tree) (r e i count found : ℕ) (at : Step) → Chooses pool t r (e - i) at count found i → e ≤ i → found ≡ first_choice pool t r
chooses-over pool t r e i count found at c h = none-left pool t r (e - i) i count found at c (options-over pool t r e i at h)

-- THE FIRST OPTION WITH A VALUE

-- a place, behind so many
abbrev pub place_after : ℕ → Option ℕ → Option ℕ
place_after count o = option_map (λ k. count + k) o

-- the option is found, or among those that are left
pub record Finds (pool : Texts) (t : Tree) (text : List ℕ) (r k : ℕ) (at : Step) (count i : ℕ) : Type 0 where
  pub same : place_after count (first_place (has_value pool t text) (options_on pool t r k at)) ≡ first_place (has_value pool t text) (options_of pool t r)
  pub counted : count ≤ i

after-none : (o : Option ℕ) → place_after 0 o ≡ o
after-none None = refl
after-none (Some k) = let z : 0 + k ≡ k = omega arith in ap (λ j. Some j) z

pub finds-first : (pool : Texts) (t : Tree) (text : List ℕ) (n e : ℕ) → StepsGoInOrder t → e ≡ length t.nodes + length t.nodes → Finds pool t text n (e - 0) (Enter n) 0 0
finds-first pool t text n e g f = record {
  same =
      after-none (first_place (has_value pool t text) (options_on pool t n (e - 0) (Enter n)))
      ∙ ap (first_place (has_value pool t text)) (options-first pool t n e g f);
  counted = omega arith;
}

after-one : (o : Option ℕ) (count : ℕ) → place_after count (option_map (λ k. k + 1) o) ≡ place_after (count + 1) o
after-one None count = refl
after-one (Some k) count = let z : count + (k + 1) ≡ count + 1 + k = omega arith in ap (λ j. Some j) z

first-other : (pool : Texts) (t : Tree) (text : List ℕ) (here : Option ℕ) (rest : List ℕ) (count : ℕ) → is_wanted pool t text here ≡ false
    → place_after count (first_place (has_value pool t text) (with_option here rest)) ≡ place_after (count + more here) (first_place (has_value pool t text) rest)
first-other pool t text None rest count h = let z : count ≡ count + 0 = omega arith in ap (λ k. place_after k (first_place (has_value pool t text) rest)) z
first-other pool t text (Some n) rest count h =
    ap (place_after count) (cond-false (has_value pool t text n) (Some 0) (option_map (λ k. k + 1) (first_place (has_value pool t text) rest)) h)
    ∙ after-one (first_place (has_value pool t text) rest) count

pub finds-more : (pool : Texts) (t : Tree) (text : List ℕ) (r e i count : ℕ) (at next : Step) (here : Option ℕ) → Finds pool t text r (e - i) at count i → i < e → here ≡ found_at (is_option pool t) at → is_wanted pool t text here ≡ false → next ≡ step t r at
    → Finds pool t text r (e - (i + 1)) next (count + more here) (i + 1)
finds-more pool t text r e i count at next here c h f w n = record {
  same =
      sym (first-other pool t text here (options_on pool t r (e - (i + 1)) next) count w)
      ∙ ap (λ os. place_after count (first_place (has_value pool t text) os)) (sym (options-more pool t r e i at next here h f n)) ∙ c.same;
  counted = omega (arith, c.counted, more-few here);
}

first-here : (pool : Texts) (t : Tree) (text : List ℕ) (here : Option ℕ) (rest : List ℕ) (count : ℕ) → is_wanted pool t text here ≡ true → Some count ≡ place_after count (first_place (has_value pool t text) (with_option here rest))
first-here pool t text None rest count h = absurd (both_ways false refl h)
first-here pool t text (Some n) rest count h =
    let z : count ≡ count + 0 = omega arith in
    ap (λ j. Some j) z
    ∙ sym (ap (place_after count) (cond-true (has_value pool t text n) (Some 0) (option_map (λ k. k + 1) (first_place (has_value pool t text) rest)) h))

pub finds-found : (pool : Texts) (t : Tree) (text : List ℕ) (r e i count : ℕ) (at : Step) (here : Option ℕ) → Finds pool t text r (e - i) at count i → i < e → here ≡ found_at (is_option pool t) at → is_wanted pool t text here ≡ true
    → Some count ≡ first_place (has_value pool t text) (options_of pool t r)
finds-found pool t text r e i count at here c h f w =
    first-here pool t text here (options_on pool t r (e - (i + 1)) (step t r at)) count w
    ∙ ap (λ os. place_after count (first_place (has_value pool t text) os)) (sym (options-more pool t r e i at (step t r at) here h f refl)) ∙ c.same

pub finds-end : (pool : Texts) (t : Tree) (text : List ℕ) (r k i count : ℕ) (at : Step) → Finds pool t text r k at count i → is_end at ≡ true → None ≡ first_place (has_value pool t text) (options_of pool t r)
finds-end pool t text r k i count at c e = sym (ap (λ os. place_after count (first_place (has_value pool t text) os)) (options-end pool t r k at e)) ∙ c.same

pub finds-over : (pool : Texts) (t : Tree) (text : List ℕ) (r e i count : ℕ) (at : Step) → Finds pool t text r (e - i) at count i → e ≤ i → None ≡ first_place (has_value pool t text) (options_of pool t r)
finds-over pool t text r e i count at c h = sym (ap (λ os. place_after count (first_place (has_value pool t text) os)) (options-over pool t r e i at h)) ∙ c.same
