-- The parts that have come, by units and by turns.
use Rattle.std.proofs.Common.{◌≡◌, ◌⊎◌, inl, inr, ℕ, ◌+◌, ◌-◌, ◌*◌, ◌≤◌, ◌<◌, Bool, true, false, cond, ◌&&◌, ◌||◌, eqb, ltb, leb, List, [], ◌∷◌, ◌++◌, length, drop, Option, Some, None, refl, sym, ap, ◌∙◌, subst, arith, append-nil, append_assoc}
use Rattle.std.specs.Prelude.{slice_get}
use Rattle.std.specs.List.{AllByRecursion, list_any}
use Rattle.std.proofs.lemmas.Bool.{false≢true, eqb-true, eqb-false, ltb-true, ltb-false, leb-true, leb-false, lt-ltb, le-leb, and_parts, or_parts, or_from, or_left}
use Rattle.std.proofs.lemmas.Option.{slice_get_past}
use Rattle.rip_history.specs.Parts.{Part, ends_batch, Lacking, is_before, before, behind, lacking_part, with_lack, MayLack}
use Rattle.rip_history.specs.Sessions.{admission, comes_by, come_by}
use Rattle.rip_history.specs.Stages.{has_come, come, finishes_batch}
use Rattle.rip_history.specs.Turns.{turn_at}

-- ---- a list and what was left of it

-- the parts behind those that have come
abbrev pub left : ℕ → ℕ → List Part → List Part
left last units [] = []
left last units (p ∷ ps) = cond (has_come last units p) (left last units ps) (p ∷ ps)

splits-step : (p : Part) (ps cs ls : List Part) (b : Bool) → ps ≡ cs ++ ls → p ∷ ps ≡ cond b (p ∷ cs) [] ++ cond b ls (p ∷ ps)
splits-step p ps cs ls true e = ap (λ t. p ∷ t) e
splits-step p ps cs ls false e = refl

pub come_splits : (last units : ℕ) (ps : List Part) → ps ≡ come last units ps ++ left last units ps
come_splits last units [] = refl
come_splits last units (p ∷ ps) = splits-step p ps (come last units ps) (left last units ps) (has_come last units p) (come_splits last units ps)

-- each that has come
abbrev pub HasCome : ℕ → ℕ → Part → Type 0
HasCome last units p = has_come last units p ≡ true

come-all-step : (last units : ℕ) (p : Part) (cs : List Part) (b : Bool) → has_come last units p ≡ b → AllByRecursion (HasCome last units) cs
    → AllByRecursion (HasCome last units) (cond b (p ∷ cs) [])
come-all-step last units p cs true e h = (e, h)
come-all-step last units p cs false e h = tt

pub come_all : (last units : ℕ) (ps : List Part) → AllByRecursion (HasCome last units) (come last units ps)
come_all last units [] = tt
come_all last units (p ∷ ps) = come-all-step last units p (come last units ps) (has_come last units p) refl (come_all last units ps)

-- all come where each has
pub come_whole : (last units : ℕ) (ps qs : List Part) → AllByRecursion (HasCome last units) ps → come last units (ps ++ qs) ≡ ps ++ come last units qs
come_whole last units [] qs h = refl
come_whole last units (p ∷ ps) qs h =
    ap (λ (b : Bool). cond b (p ∷ come last units (ps ++ qs)) []) h.0 ∙ ap (λ t. p ∷ t) (come_whole last units ps qs h.1)

-- the first of the others has not
abbrev pub IsStopped : (Part → Bool) → List Part → Type 0
IsStopped test [] = Unit {0}
IsStopped test (p ∷ ps) = test p ≡ false

left-stopped-step : (last units : ℕ) (p : Part) (ps ls : List Part) (b : Bool) → has_come last units p ≡ b → IsStopped (has_come last units) ls
    → IsStopped (has_come last units) (cond b ls (p ∷ ps))
left-stopped-step last units p ps ls true e h = h
left-stopped-step last units p ps ls false e h = e

left_stopped : (last units : ℕ) (ps : List Part) → IsStopped (has_come last units) (left last units ps)
left_stopped last units [] = tt
left_stopped last units (p ∷ ps) = left-stopped-step last units p ps (left last units ps) (has_come last units p) refl (left_stopped last units ps)

-- ---- by turns

-- the part comes by the turn u
abbrev pub ComesBy : ℕ → List ℕ → Part → Type 0
ComesBy u turns p = comes_by u p.cost (admission turns p) ≡ true

pub come_by_whole : (u : ℕ) (turns : List ℕ) (ps qs : List Part) → AllByRecursion (ComesBy u turns) ps → come_by u turns (ps ++ qs) ≡ ps ++ come_by u turns qs
come_by_whole u turns [] qs h = refl
come_by_whole u turns (p ∷ ps) qs h =
    ap (λ (b : Bool). cond b (p ∷ come_by u turns (ps ++ qs)) []) h.0 ∙ ap (λ t. p ∷ t) (come_by_whole u turns ps qs h.1)

come_by_none : (u : ℕ) (turns : List ℕ) (ps : List Part) → IsStopped (λ (p : Part). comes_by u p.cost (admission turns p)) ps → come_by u turns ps ≡ []
come_by_none u turns [] h = refl
come_by_none u turns (p ∷ ps) h = ap (λ (b : Bool). cond b (p ∷ come_by u turns ps) []) h

-- a later turn
later : (u cost : ℕ) (o : Option ℕ) → comes_by u cost o ≡ true → comes_by (u + 1) cost o ≡ true
later u cost None h = h
later u cost (Some t) h = le-leb (turn_at t cost) (u + 1) (omega (arith, leb-true (turn_at t cost) u h))

pub come_later : (u : ℕ) (turns : List ℕ) (ps : List Part) → AllByRecursion (ComesBy u turns) ps → AllByRecursion (ComesBy (u + 1) turns) ps
come_later u turns [] h = tt
come_later u turns (p ∷ ps) h = (later u p.cost (admission turns p) h.0, come_later u turns ps h.1)

-- a batch that was admitted in turn a got 1,000 units in each turn up to u
pub record Spends (u : ℕ) (turns : List ℕ) (last units : ℕ) : Type 0 where
  pub a : ℕ
  pub admitted : slice_get turns last ≡ Some a
  pub from : a ≤ u + 1
  pub spent : units ≡ 1000 * (u + 1 - a)

comes-at : (u cost : ℕ) (a : ℕ) (o : Option ℕ) → o ≡ Some a → turn_at a cost ≤ u → comes_by u cost o ≡ true
comes-at u cost a o e le = ap (comes_by u cost) e ∙ le-leb (turn_at a cost) u le

comes-not : (u cost : ℕ) (a : ℕ) (o : Option ℕ) → o ≡ Some a → u < turn_at a cost → comes_by u cost o ≡ false
comes-not u cost a o e lt = ap (comes_by u cost) e ∙ not-le (turn_at a cost) u lt
  where
    not-le : (x y : ℕ) → y < x → leb x y ≡ false
    not-le x y lt = by (leb x y) refl
      where
        by : (b : Bool) → leb x y ≡ b → leb x y ≡ false
        by true h = absurd (omega (arith, lt, leb-true x y h))
        by false h = h

-- of a later batch nothing comes
beyond : (u : ℕ) (turns : List ℕ) (last : ℕ) (p : Part) → length turns ≡ last + 1 → last ≤ p.batch → (p.batch ≡ last → ⊥)
    → comes_by u p.cost (admission turns p) ≡ false
beyond u turns last p long le ne = ap (comes_by u p.cost) (slice_get_past turns p.batch (omega (arith, long, le, ne)))

-- what has not come by the units does not come by the turn
not-yet : (u : ℕ) (turns : List ℕ) (last units : ℕ) (p : Part) → length turns ≡ last + 1 → Spends u turns last units
    → has_come last units p ≡ false → comes_by u p.cost (admission turns p) ≡ false
not-yet u turns last units p long s h =
    let parts = or_parts (ltb p.batch last) (eqb p.batch last && leb p.cost units) h in
    by (eqb p.batch last) refl (ltb-false p.batch last parts.0) parts.1
  where
    dear : p.batch ≡ last → leb p.cost units ≡ false → comes_by u p.cost (admission turns p) ≡ false
    dear same h =
        comes-not u p.cost s.a (admission turns p) (ap (slice_get turns) same ∙ s.admitted)
        (omega (arith, leb-false p.cost units h, s.spent, s.from))

    by : (b : Bool) → eqb p.batch last ≡ b → last ≤ p.batch → (b && leb p.cost units) ≡ false → comes_by u p.cost (admission turns p) ≡ false
    by true e le h = dear (eqb-true p.batch last e) h
    by false e le h = beyond u turns last p long le (eqb-false p.batch last e)

-- the first that has not come by the units has not come by the turn
stopped-by : (u : ℕ) (turns : List ℕ) (last units : ℕ) (ps : List Part) → length turns ≡ last + 1 → Spends u turns last units
    → IsStopped (has_come last units) ps → IsStopped (λ (p : Part). comes_by u p.cost (admission turns p)) ps
stopped-by u turns last units [] long s h = tt
stopped-by u turns last units (p ∷ ps) long s h = not-yet u turns last units p long s h

-- while a batch goes on, what has come by the turn is what has come by the units
pub come_by_busy : (u : ℕ) (turns : List ℕ) (last units : ℕ) (ps : List Part) → length turns ≡ last + 1 → Spends u turns last units
    → AllByRecursion (ComesBy u turns) (come last units ps) → come_by u turns ps ≡ come last units ps
come_by_busy u turns last units ps long s h =
    let cs = come last units ps in
    let ls = left last units ps in
    ap (come_by u turns) (come_splits last units ps) ∙ come_by_whole u turns cs ls h
    ∙ ap (λ (t : List Part). cs ++ t) (come_by_none u turns ls (stopped-by u turns last units ls long s (left_stopped last units ps)))
    ∙ append-nil cs

-- and where nothing is left
pub come_by_idle : (u : ℕ) (turns : List ℕ) (last units : ℕ) (ps : List Part) → left last units ps ≡ []
    → AllByRecursion (ComesBy u turns) (come last units ps) → come_by u turns ps ≡ come last units ps
come_by_idle u turns last units ps none h =
    let cs = come last units ps in
    ap (come_by u turns) (come_splits last units ps ∙ ap (λ (t : List Part). cs ++ t) none) ∙ come_by_whole u turns cs [] h ∙ append-nil cs

-- ---- a batch that is done

-- a part of this batch in which it is done
abbrev pub is_end : ℕ → Part → Bool
is_end last p = eqb p.batch last && ends_batch p.fact

-- the first part that passes a test, with those before and behind it
pub record Found (test : Part → Bool) (ps : List Part) : Type 0 where
  pub xs : List Part
  pub p : Part
  pub ys : List Part
  pub is : ps ≡ xs ++ p ∷ ys
  pub passes : test p ≡ true

found-more : (test : Part → Bool) (p : Part) (ps : List Part) → Found test ps → Found test (p ∷ ps)
found-more test p ps f = record { xs = p ∷ f.xs; p = f.p; ys = f.ys; is = ap (λ t. p ∷ t) f.is; passes = f.passes }

found-step : (test : Part → Bool) (p : Part) (ps : List Part) (b : Bool) → test p ≡ b → (b || list_any test ps) ≡ true
    → (list_any test ps ≡ true → Found test ps) → Found test (p ∷ ps)
found-step test p ps true e h more = record { xs = []; p = p; ys = ps; is = refl; passes = e }
found-step test p ps false e h more = found-more test p ps (more h)

pub found : (test : Part → Bool) (ps : List Part) → list_any test ps ≡ true → Found test ps
found test [] h = absurd (false≢true h)
found test (p ∷ ps) h = found-step test p ps (test p) refl h (found test ps)

-- nothing comes behind the end of the batch
abbrev pub EndIsLast : ℕ → List Part → Type 0
EndIsLast last ps = (xs : List Part) (p : Part) (ys : List Part) → ps ≡ xs ++ p ∷ ys → p.batch ≡ last → ends_batch p.fact ≡ true → ys ≡ []

no-cons : (x : Part) (xs : List Part) → x ∷ xs ≡ [] → ⊥
no-cons x xs e = subst IsCons e tt
  where
    IsCons : List Part → Type 0
    IsCons [] = ⊥
    IsCons (y ∷ ys) = Unit {0}

-- one of a list with one more is the last, or one of the list
at-end : (bs : List Part) (x : Part) (xs : List Part) (p : Part) (ys : List Part) → bs ++ x ∷ [] ≡ xs ++ p ∷ ys
    → (ys ≡ []) ⊎ ((zs : List Part) × (bs ≡ xs ++ p ∷ zs))
at-end [] x [] p ys e = inl (ap (λ (t : List Part). drop 1 t) (sym e))
at-end [] x (z ∷ xs) p ys e = absurd (nil-join xs (ap (λ (t : List Part). drop 1 t) (sym e)))
  where
    nil-join : (xs : List Part) → xs ++ p ∷ ys ≡ [] → ⊥
    nil-join [] e = no-cons p ys e
    nil-join (z ∷ xs) e = no-cons z (xs ++ p ∷ ys) e
at-end (b ∷ bs) x [] p ys e =
    inr (bs, λ i. first (e i) ∷ bs)
  where
    first : List Part → Part
    first [] = b
    first (y ∷ ys) = y
at-end (b ∷ bs) x (z ∷ xs) p ys e = by (at-end bs x xs p ys (ap (λ (t : List Part). drop 1 t) e))
  where
    first : List Part → Part
    first [] = b
    first (y ∷ ys) = y

    by : (ys ≡ []) ⊎ ((zs : List Part) × (bs ≡ xs ++ p ∷ zs)) → (ys ≡ []) ⊎ ((zs : List Part) × (b ∷ bs ≡ z ∷ xs ++ p ∷ zs))
    by (inl h) = inl h
    by (inr (zs, h)) = inr (zs, λ i. first (e i) ∷ h i)

pub before_behind : (l : Lacking) (ps : List Part) → ps ≡ before l ps ++ behind l ps
before_behind l [] = refl
before_behind l (p ∷ ps) = splits-step p ps (before l ps) (behind l ps) (is_before l p) (before_behind l ps)

-- so it is where memory is wanting
pub end_is_last : (last : ℕ) (lacking : Option Lacking) (ps : List Part) → EndIsLast last ps → MayLack lacking ps → EndIsLast last (with_lack lacking ps)
end_is_last last None ps h may xs p ys e same ends = h xs p ys e same ends
end_is_last last (Some l) ps h may xs p ys e same ends = by (at-end (before l ps) (lacking_part l) xs p ys e)
  where
    by : (ys ≡ []) ⊎ ((zs : List Part) × (before l ps ≡ xs ++ p ∷ zs)) → ys ≡ []
    by (inl none) = none
    by (inr (zs, is)) =
        absurd (nil-end zs (h xs p (zs ++ may.part ∷ may.others)
        (before_behind l ps ∙ (λ i. is i ++ may.comes i) ∙ append_assoc xs (p ∷ zs) (may.part ∷ may.others)) same ends))
      where
        nil-end : (zs : List Part) → zs ++ may.part ∷ may.others ≡ [] → ⊥
        nil-end [] e = no-cons may.part may.others e
        nil-end (z ∷ zs) e = no-cons z (zs ++ may.part ∷ may.others) e

-- where the last batch is done nothing is left
pub done_leaves_none : (last units : ℕ) (ps : List Part) → EndIsLast last ps → finishes_batch last (come last units ps) ≡ true → left last units ps ≡ []
done_leaves_none last units ps h done =
    let f = found (is_end last) (come last units ps) done in
    let ls = left last units ps in
    let both = and_parts (eqb (let q = f.p in q.batch) last) (ends_batch (let q = f.p in q.fact)) f.passes in
    nil-right f.ys ls (h f.xs f.p (f.ys ++ ls)
    (come_splits last units ps ∙ ap (λ (t : List Part). t ++ ls) f.is ∙ append_assoc f.xs (f.p ∷ f.ys) ls)
    (eqb-true (let q = f.p in q.batch) last both.0) both.1)
  where
    nil-right : (ys ls : List Part) → ys ++ ls ≡ [] → ls ≡ []
    nil-right [] ls e = e
    nil-right (y ∷ ys) ls e = absurd (no-cons y (ys ++ ls) e)

-- ---- nothing comes without a unit

pub none_come : (last : ℕ) (ps : List Part) → AllByRecursion (λ p. 1 ≤ p.cost) ps → AllByRecursion (λ p. last ≤ p.batch) ps → come last 0 ps ≡ []
none_come last [] costs behind = refl
none_come last (p ∷ ps) costs behind = ap (λ (b : Bool). cond b (p ∷ come last 0 ps) []) (or_from (ltb p.batch last) (eqb p.batch last && leb p.cost 0) early dear)
  where
    early : ltb p.batch last ≡ false
    early = by (ltb p.batch last) refl
      where
        by : (b : Bool) → ltb p.batch last ≡ b → ltb p.batch last ≡ false
        by true e = absurd (omega (arith, ltb-true p.batch last e, behind.0))
        by false e = e

    dear : (eqb p.batch last && leb p.cost 0) ≡ false
    dear = by (eqb p.batch last) (leb p.cost 0) refl
      where
        by : (b c : Bool) → leb p.cost 0 ≡ c → (b && c) ≡ false
        by true true e = absurd (omega (arith, leb-true p.cost 0 e, costs.0))
        by true false e = refl
        by false c e = refl

pub all_right : {A : Type 0} (P : A → Type 0) (xs ys : List A) → AllByRecursion P (xs ++ ys) → AllByRecursion P ys
all_right P [] ys h = h
all_right P (x ∷ xs) ys h = all_right P xs ys h.1

pub come_bounds : (last units : ℕ) (p : Part) → has_come last units p ≡ true → p.batch ≤ last
come_bounds last units p h = by (ltb p.batch last) (eqb p.batch last) refl refl h
  where
    by : (b c : Bool) → ltb p.batch last ≡ b → eqb p.batch last ≡ c → (b || (c && leb p.cost units)) ≡ true → p.batch ≤ last
    by true c e f h = omega (arith, ltb-true p.batch last e)
    by false true e f h = omega (arith, eqb-true p.batch last f)
    by false false e f h = absurd (false≢true h)

pub come_earlier : (last units more : ℕ) (p : Part) → p.batch ≤ last → has_come (last + 1) more p ≡ true
come_earlier last units more p le =
    or_left (ltb p.batch (last + 1)) (eqb p.batch (last + 1) && leb p.cost more) (lt-ltb p.batch (last + 1) (omega (arith, le)))
