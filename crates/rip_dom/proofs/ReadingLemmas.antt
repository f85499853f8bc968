-- Texts that are joined on the way through a document.
use Rattle.std.proofs.Common.{◌≡◌, ℕ, zero, suc, ◌+◌, ◌-◌, ◌<◌, ◌≤◌, Bool, true, false, ◌&&◌, ◌==◌, List, [], ◌∷◌, ◌++◌, length, flat_map, take, drop, inl, inr, refl, sym, ap, ap₂, ◌∙◌, arith}
use Rattle.std.specs.Prelude.{nat_eq}
use Rattle.std.specs.Cmp.Lexicographic.{pointwise}
use Rattle.std.proofs.lemmas.Bool.{both_ways, cases_Bool, and_parts, ne_eqb}
use Rattle.std.proofs.lemmas.List.{append_assoc, append-nil, length-append}
use Rattle.rip_base.specs.declared.value.Span.{Span}
use Rattle.rip_values.specs.Pool.{Texts, text_at, with_text, span_behind}
use Rattle.rip_dom.specs.declared.order.Step.{Step}
use Rattle.rip_dom.specs.declared.order.Step.TheVariants.{Enter, Leave, End}
use Rattle.rip_dom.specs.Document.{no_span}
use Rattle.rip_dom.specs.Reading.{own_span, text_below}
use Rattle.rip_dom.specs.Tree.{Tree, node_at}
use Rattle.rip_dom.specs.Way.{Grows, is_end, span_at, step, way_on}
use Rattle.rip_dom.proofs.CreationLemmas.{same-texts, stands-still, take-none}
use Rattle.rip_dom.proofs.OrderLemmas.{at-end, one-left, way-at-end, way-from}

-- the texts of the nodes that are entered from this step on, in so many steps
abbrev pub texts_on : Texts → Tree → ℕ → ℕ → Step → List ℕ
texts_on pool t r k s = flat_map (λ m. text_at pool (own_span (node_at t m))) (way_on t r k s)

pub no-text : (pool : Texts) → text_at pool no_span ≡ []
no-text pool = take-none pool.units

-- a step adds its own text to those of the steps that follow
texts-step : (pool : Texts) (t : Tree) (r k : ℕ) (s : Step) → texts_on pool t r (suc k) s ≡ text_at pool (span_at t s) ++ texts_on pool t r k (step t r s)
texts-step pool t r k (Enter n) = refl
texts-step pool t r k (Leave n) = sym (ap (λ us. us ++ texts_on pool t r k (step t r (Leave n))) (no-text pool))
texts-step pool t r k End =
    sym (ap (λ us. us ++ texts_on pool t r k End) (no-text pool) ∙ ap (flat_map (λ m. text_at pool (own_span (node_at t m)))) (at-end t r k))

pub texts-more : (pool : Texts) (t : Tree) (r e i : ℕ) (s : Step) → i < e → texts_on pool t r (e - i) s ≡ text_at pool (span_at t s) ++ texts_on pool t r (e - (i + 1)) (step t r s)
texts-more pool t r e i s h = ap (λ k. texts_on pool t r k s) (one-left e i h) ∙ texts-step pool t r (e - (i + 1)) s

pub texts-end : (pool : Texts) (t : Tree) (r k : ℕ) (s : Step) → is_end s ≡ true → texts_on pool t r k s ≡ []
texts-end pool t r k s e = ap (flat_map (λ m. text_at pool (own_span (node_at t m)))) (way-at-end t r k s e)

pub texts-over : (pool : Texts) (t : Tree) (r e i : ℕ) (s : Step) → e ≤ i → texts_on pool t r (e - i) s ≡ []
texts-over pool t r e i s h = let z : e - i ≡ 0 = omega (arith, h) in ap (λ k. texts_on pool t r k s) z

pub texts-first : (pool : Texts) (t : Tree) (n e : ℕ) → Grows t → e ≡ length t.nodes + length t.nodes → texts_on pool t n (e - 0) (Enter n) ≡ text_below pool t n
texts-first pool t n e g f =
    let z : e - 0 ≡ length t.nodes + length t.nodes = omega (arith, f) in
    ap (λ k. texts_on pool t n k (Enter n)) z ∙ ap (flat_map (λ m. text_at pool (own_span (node_at t m)))) (way-from t n g)

-- the texts while those below a node are put behind all others: these are there, and those are left
pub record Joins (t : Tree) (old now : Texts) (r k : ℕ) (at : Step) (text : List ℕ) : Type 0 where
  pub done : List ℕ
  pub units : now.units ≡ old.units ++ done
  pub left : done ++ texts_on old t r k at ≡ text
  pub used : now.used ≡ old.used + length done
  pub limit : now.limit ≡ old.limit
  pub text_limit : now.text_limit ≡ old.text_limit

pub joins-none : (t : Tree) (old now : Texts) (n e : ℕ) → Grows t → e ≡ length t.nodes + length t.nodes → now ≡ with_text old [] 0 → Joins t old now n (e - 0) (Enter n) (text_below old t n)
joins-none t old now n e g f w = record {
  done = [];
  units = ap (λ (p : Texts). p.units) w;
  left = texts-first old t n e g f;
  used = ap (λ (p : Texts). p.used) w;
  limit = ap (λ (p : Texts). p.limit) w;
  text_limit = ap (λ (p : Texts). p.text_limit) w;
}

-- the next text is the one that the step adds
pub joins-text : (t : Tree) (old now : Texts) (r k : ℕ) (at : Step) (text : List ℕ) (part : Span) → Joins t old now r k at text
    → part.start + part.count ≤ length old.units → text_at old part ≡ text_at old (span_at t at) → text_at now part ≡ text_at old (span_at t at)
joins-text t old now r k at text part j lies e = stands-still old now j.done part j.units lies ∙ e

pub joins-room : (t : Tree) (old now : Texts) (r e i : ℕ) (at : Step) (text : List ℕ) (part : Span) → Joins t old now r (e - i) at text → i < e → old.used + length text ≤ old.limit
    → text_at now part ≡ text_at old (span_at t at) → now.used + length (text_at now part) ≤ now.limit
joins-room t old now r e i at text part j h room s =
    let a : length (text_at now part) ≡ length (text_at old (span_at t at)) = ap length s in
    let b : length (j.done ++ (text_at old (span_at t at) ++ texts_on old t r (e - (i + 1)) (step t r at))) ≡ length text =
    ap length (ap (λ us. j.done ++ us) (sym (texts-more old t r e i at h)) ∙ j.left) in
    let c = length-append j.done (text_at old (span_at t at) ++ texts_on old t r (e - (i + 1)) (step t r at)) in
    let d = length-append (text_at old (span_at t at)) (texts_on old t r (e - (i + 1)) (step t r at)) in
    omega (arith, a, b, c, d, room, j.used, j.limit)

pub joins-more : (t : Tree) (old now new : Texts) (r e i : ℕ) (at next : Step) (text : List ℕ) (part : Span) → Joins t old now r (e - i) at text → i < e
    → text_at now part ≡ text_at old (span_at t at) → new ≡ with_text now (text_at now part) (length (text_at now part)) → next ≡ step t r at → Joins t old new r (e - (i + 1)) next text
joins-more t old now new r e i at next text part j h s w f = record {
  done = j.done ++ text_at old (span_at t at);
  units =
      ap (λ (p : Texts). p.units) w ∙ ap₂ (λ us vs. us ++ vs) j.units s
      ∙ append_assoc old.units j.done (text_at old (span_at t at));
  left =
      append_assoc j.done (text_at old (span_at t at)) (texts_on old t r (e - (i + 1)) next)
      ∙ ap (λ us. j.done ++ us) (ap (λ x. text_at old (span_at t at) ++ texts_on old t r (e - (i + 1)) x) f ∙ sym (texts-more old t r e i at h))
      ∙ j.left;
  used =
      let a : length (text_at now part) ≡ length (text_at old (span_at t at)) = ap length s in
      let b = length-append j.done (text_at old (span_at t at)) in
      let c : new.used ≡ now.used + length (text_at now part) = ap (λ (p : Texts). p.used) w in
      omega (arith, a, b, c, j.used);
  limit = ap (λ (p : Texts). p.limit) w ∙ j.limit;
  text_limit = ap (λ (p : Texts). p.text_limit) w ∙ j.text_limit;
}

-- where no text is left, all are there
pub joins-all : (t : Tree) (old now : Texts) (r k count : ℕ) (at : Step) (text : List ℕ) → Joins t old now r k at text → texts_on old t r k at ≡ [] → count ≡ length text → now ≡ with_text old text count
joins-all t old now r k count at text j e c =
    let all : j.done ≡ text = sym (append-nil j.done) ∙ ap (λ us. j.done ++ us) (sym e) ∙ j.left in
    same-texts now (old.units ++ text) (old.used + count) old.limit old.text_limit
    (j.units ∙ ap (λ us. old.units ++ us) all) (j.used ∙ ap (λ n. old.used + n) (ap length all ∙ sym c)) j.limit j.text_limit

abbrev span_of : ℕ → ℕ → Span
span_of start count = record { start = start; count = count }

pub joined-span : (old : Texts) (text : List ℕ) (empty : Span) (count : ℕ) → empty ≡ span_behind old [] → count ≡ length text → span_of empty.start count ≡ span_behind old text
joined-span old text empty count e c = ap₂ span_of (ap (λ (s : Span). s.start) e) c

-- what is counted so far, and what is left
pub record Counts (pool : Texts) (t : Tree) (r k : ℕ) (at : Step) (left : ℕ) (text : List ℕ) : Type 0 where
  pub within : left ≤ pool.text_limit
  pub sum : pool.text_limit - left + length (texts_on pool t r k at) ≡ length text

pub counts-none : (pool : Texts) (t : Tree) (n e left : ℕ) → Grows t → e ≡ length t.nodes + length t.nodes → left ≡ pool.text_limit → Counts pool t n (e - 0) (Enter n) left (text_below pool t n)
counts-none pool t n e left g f l = record {
  within = omega (arith, l);
  sum = let a = ap length (texts-first pool t n e g f) in omega (arith, a, l);
}

pub counts-long : (pool : Texts) (t : Tree) (r e i left : ℕ) (at : Step) (text more : List ℕ) → Counts pool t r (e - i) at left text → i < e → more ≡ text_at pool (span_at t at) → left < length more → pool.text_limit < length text
counts-long pool t r e i left at text more c h m l =
    let a = ap length (texts-more pool t r e i at h) in
    let b = length-append (text_at pool (span_at t at)) (texts_on pool t r (e - (i + 1)) (step t r at)) in
    let d : length more ≡ length (text_at pool (span_at t at)) = ap length m in
    omega (arith, a, b, d, l, c.within, c.sum)

pub counts-more : (pool : Texts) (t : Tree) (r e i left : ℕ) (at next : Step) (text more : List ℕ) → Counts pool t r (e - i) at left text → i < e → more ≡ text_at pool (span_at t at) → length more ≤ left → next ≡ step t r at
    → Counts pool t r (e - (i + 1)) next (left - length more) text
counts-more pool t r e i left at next text more c h m l f = record {
  within = omega (arith, c.within);
  sum =
      let a = ap length (texts-more pool t r e i at h) in
      let b = length-append (text_at pool (span_at t at)) (texts_on pool t r (e - (i + 1)) (step t r at)) in
      let d : length more ≡ length (text_at pool (span_at t at)) = ap length m in
      let g : length (texts_on pool t r (e - (i + 1)) next) ≡ length (texts_on pool t r (e - (i + 1)) (step t r at)) = ap (λ x. length (texts_on pool t r (e - (i + 1)) x)) f in
      omega (arith, a, b, d, g, l, c.within, c.sum);
}

pub counts-all : (pool : Texts) (t : Tree) (r k left : ℕ) (at : Step) (text : List ℕ) → Counts pool t r k at left text → texts_on pool t r k at ≡ [] → pool.text_limit - left ≡ length text
counts-all pool t r k left at text c e = let a : length (texts_on pool t r k at) ≡ 0 = ap length e in omega (arith, a, c.sum)

-- WHAT A TEXT BEGINS WITH

take-nothing : (xs : List ℕ) → true ≡ pointwise nat_eq (take 0 xs) []
take-nothing [] = refl
take-nothing (x ∷ xs) = refl

drop-nothing : (xs : List ℕ) → drop 0 xs ≡ xs
drop-nothing [] = refl
drop-nothing (x ∷ xs) = refl

-- a text that begins so is another one where what is behind is what is behind there
begins-so : (own more rest : List ℕ) → pointwise nat_eq (take (length own) rest) own ≡ true → pointwise nat_eq rest (own ++ more) ≡ pointwise nat_eq (drop (length own) rest) more
begins-so [] more rest h = sym (ap (λ us. pointwise nat_eq us more) (drop-nothing rest))
begins-so (o ∷ own) more [] h = absurd (both_ways false refl h)
begins-so (o ∷ own) more (r ∷ rest) h =
    let p = and_parts (nat_eq r o) (pointwise nat_eq (take (length own) rest) own) h in
    ap (λ b. b && pointwise nat_eq rest (own ++ more)) p.0 ∙ begins-so own more rest p.1

-- one that does not begin so is not
begins-other : (own more rest : List ℕ) → pointwise nat_eq (take (length own) rest) own ≡ false → pointwise nat_eq rest (own ++ more) ≡ false
begins-other [] more rest h = absurd (both_ways (pointwise nat_eq (take 0 rest) []) h (sym (take-nothing rest)))
begins-other (o ∷ own) more [] h = refl
begins-other (o ∷ own) more (r ∷ rest) h =
    elim (cases_Bool (nat_eq r o)) [
      | inl b ↦
          ap (λ b. b && pointwise nat_eq rest (own ++ more)) b
          ∙ begins-other own more rest (sym (ap (λ b. b && pointwise nat_eq (take (length own) rest) own) b) ∙ h)
      | inr b ↦ ap (λ b. b && pointwise nat_eq rest (own ++ more)) b
    ]

-- what is left of a text is to be the texts that are left
pub record Compares (pool : Texts) (t : Tree) (r k : ℕ) (at : Step) (rest text : List ℕ) : Type 0 where
  pub same : pointwise nat_eq rest (texts_on pool t r k at) ≡ pointwise nat_eq text (text_below pool t r)

pub compares-first : (pool : Texts) (t : Tree) (n e : ℕ) (text : List ℕ) → Grows t → e ≡ length t.nodes + length t.nodes → Compares pool t n (e - 0) (Enter n) text text
compares-first pool t n e text g f = record { same = ap (pointwise nat_eq text) (texts-first pool t n e g f) }

pub compares-more : (pool : Texts) (t : Tree) (r e i : ℕ) (at next : Step) (rest behind text own : List ℕ) → Compares pool t r (e - i) at rest text → i < e → own ≡ text_at pool (span_at t at) → pointwise nat_eq (take (length own) rest) own ≡ true
    → behind ≡ drop (length own) rest → next ≡ step t r at → Compares pool t r (e - (i + 1)) next behind text
compares-more pool t r e i at next rest behind text own c h o p b f = record {
  same =
      ap₂ (λ us s. pointwise nat_eq us (texts_on pool t r (e - (i + 1)) s)) b f
      ∙ sym (begins-so own (texts_on pool t r (e - (i + 1)) (step t r at)) rest p)
      ∙ ap (λ us. pointwise nat_eq rest (us ++ texts_on pool t r (e - (i + 1)) (step t r at))) o
      ∙ ap (pointwise nat_eq rest) (sym (texts-more pool t r e i at h))
      ∙ c.same;
}

pub compares-other : (pool : Texts) (t : Tree) (r e i : ℕ) (at : Step) (rest text own : List ℕ) → Compares pool t r (e - i) at rest text → i < e → own ≡ text_at pool (span_at t at) → pointwise nat_eq (take (length own) rest) own ≡ false
    → false ≡ pointwise nat_eq text (text_below pool t r)
compares-other pool t r e i at rest text own c h o p =
    sym (begins-other own (texts_on pool t r (e - (i + 1)) (step t r at)) rest p)
    ∙ ap (λ us. pointwise nat_eq rest (us ++ texts_on pool t r (e - (i + 1)) (step t r at))) o
    ∙ ap (pointwise nat_eq rest) (sym (texts-more pool t r e i at h))
    ∙ c.same

pub empty-text : (rest : List ℕ) (b : Bool) → b ≡ (length rest == 0) → b ≡ pointwise nat_eq rest []
empty-text [] b h = h
empty-text (x ∷ rest) b h = h ∙ ne_eqb (suc (length rest)) 0 (λ e. absurd (omega (arith, e)))

pub compares-all : (pool : Texts) (t : Tree) (r k : ℕ) (at : Step) (rest text : List ℕ) (b : Bool) → Compares pool t r k at rest text → texts_on pool t r k at ≡ [] → b ≡ pointwise nat_eq rest [] → b ≡ pointwise nat_eq text (text_below pool t r)
compares-all pool t r k at rest text b c e f = f ∙ ap (pointwise nat_eq rest) (sym e) ∙ c.same
