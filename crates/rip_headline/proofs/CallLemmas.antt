-- The served calls among the deeds of parts, and where memory was wanting among them.
use Rattle.std.proofs.Common.{◌≡◌, ℕ, ◌≤◌, Bool, true, false, cond, eqb, ltb, ◌&&◌, ◌||◌, List, [], ◌∷◌, ◌++◌, slice_get, Option, None, Some, refl, sym, ap, subst, ◌∙◌, arith}
use Rattle.std.specs.Prelude.{unwrap_or}
use Rattle.std.specs.List.{AllByRecursion, list_any}
use Rattle.std.proofs.lemmas.Bool.{true≢false, false≢true, and_from, and_right, eq-eqb, eqb-true, le-leb, leb-true, ltb-true, or_from, or_left, or_right}
use Rattle.rip_wire.specs.declared.ending.Ending.TheVariants as ending
use Rattle.rip_history.specs.Parts.{Fact, passes, serves, finishes, Lacking, MayLack, Part, before, behind, is_before, lacking_part, serves_call, tells_call, with_lack}
use Rattle.rip_history.specs.Sessions.{Deed, admission, come_by, comes_by, deed_of, deeds_by, deeds_of, is_deed, is_want}
use Rattle.rip_history.specs.Turns.{turn_at}
use Rattle.rip_headline.specs.PrefixHistories.{calls_among, comes, is_want_of, wants_at}

-- ---- parts before the place at which memory is wanting

abbrev pub kept : Option Lacking → List Part → List Part
kept None ps = ps
kept (Some l) ps = before l ps

abbrev pub early : Option Lacking → Part → Bool
early None p = true
early (Some l) p = is_before l p

kept_more : (o : Option Lacking) (p : Part) (ps : List Part) → kept o (p ∷ ps) ≡ cond (early o p) (p ∷ kept o ps) []
kept_more None p ps = refl
kept_more (Some l) p ps = refl

-- ---- the calls of parts

abbrev pub calls_of : List ℕ → List Part → List Deed
calls_of turns ps = calls_among (deeds_of turns ps)

abbrev pub served_by : ℕ → List ℕ → Option Lacking → List Part → List Deed
served_by last turns o ps = calls_of turns (come_by last turns (kept o ps))

call_more : (turn batch : ℕ) (f : Fact) (ds : List Deed)
    → calls_among (cond (is_deed f) (record { turn = turn; batch = batch; fact = f } ∷ ds) ds) ≡ cond (serves_call f) (record { turn = turn; batch = batch; fact = f } ∷ calls_among ds) (calls_among ds)
call_more turn batch passes ds = refl
call_more turn batch (serves k name args) ds = refl
call_more turn batch (finishes how) ds = refl

calls_more : (turns : List ℕ) (p : Part) (ps : List Part) → calls_of turns (p ∷ ps) ≡ cond (serves_call p.fact) (deed_of turns p ∷ calls_of turns ps) (calls_of turns ps)
calls_more turns p ps = call_more (turn_at (unwrap_or (admission turns p) 0) p.cost) p.batch p.fact (deeds_of turns ps)

pub served_none : (last : ℕ) (turns : List ℕ) (o : Option Lacking) → served_by last turns o [] ≡ []
served_none last turns None = refl
served_none last turns (Some l) = refl

served_is : (last : ℕ) (turns : List ℕ) (o : Option Lacking) (p : Part) (ps : List Part)
    → served_by last turns o (p ∷ ps) ≡ cond (early o p) (cond (comes last turns p) (calls_of turns (p ∷ come_by last turns (kept o ps))) []) []
served_is last turns o p ps =
    ap (λ (qs : List Part). calls_of turns (come_by last turns qs)) (kept_more o p ps) ∙ first (early o p) ∙ second (early o p) (comes last turns p)
  where
    first : (a : Bool) → calls_of turns (come_by last turns (cond a (p ∷ kept o ps) [])) ≡ calls_of turns (cond a (cond (comes last turns p) (p ∷ come_by last turns (kept o ps)) []) [])
    first true = refl
    first false = refl

    second : (a b : Bool) → calls_of turns (cond a (cond b (p ∷ come_by last turns (kept o ps)) []) []) ≡ cond a (cond b (calls_of turns (p ∷ come_by last turns (kept o ps))) []) []
    second true true = refl
    second true false = refl
    second false b = refl

-- behind the place at which memory is wanting, and from the first part that comes later, none is served
pub served_not_early : (last : ℕ) (turns : List ℕ) (o : Option Lacking) (p : Part) (ps : List Part) → early o p ≡ false → served_by last turns o (p ∷ ps) ≡ []
served_not_early last turns o p ps e =
    served_is last turns o p ps ∙ ap (λ (b : Bool). cond b (cond (comes last turns p) (calls_of turns (p ∷ come_by last turns (kept o ps))) []) []) e

pub served_late : (last : ℕ) (turns : List ℕ) (o : Option Lacking) (p : Part) (ps : List Part) → comes last turns p ≡ false → served_by last turns o (p ∷ ps) ≡ []
served_late last turns o p ps e =
    served_is last turns o p ps ∙ ap (λ (b : Bool). cond (early o p) (cond b (calls_of turns (p ∷ come_by last turns (kept o ps))) []) []) e ∙ none (early o p)
  where
    none : (a : Bool) → ◌≡◌ {A = List Deed} (cond a [] []) []
    none true = refl
    none false = refl

pub served_more : (last : ℕ) (turns : List ℕ) (o : Option Lacking) (p : Part) (ps : List Part) (b : Bool) → early o p ≡ true → comes last turns p ≡ true → serves_call p.fact ≡ b
    → served_by last turns o (p ∷ ps) ≡ cond b (deed_of turns p ∷ served_by last turns o ps) (served_by last turns o ps)
served_more last turns o p ps b e c f =
    served_is last turns o p ps
    ∙ ap (λ (x : Bool). cond x (cond (comes last turns p) (calls_of turns (p ∷ come_by last turns (kept o ps))) []) []) e
    ∙ ap (λ (x : Bool). cond x (calls_of turns (p ∷ come_by last turns (kept o ps))) []) c
    ∙ calls_more turns p (come_by last turns (kept o ps))
    ∙ ap (λ (x : Bool). cond x (deed_of turns p ∷ served_by last turns o ps) (served_by last turns o ps)) f

-- nor is any of a last part that serves no call
pub served_last : (last : ℕ) (turns : List ℕ) (o : Option Lacking) (p : Part) → serves_call p.fact ≡ false → served_by last turns o (p ∷ []) ≡ []
served_last last turns o p f = by (early o p) refl (comes last turns p) refl
  where
    by : (a : Bool) → early o p ≡ a → (b : Bool) → comes last turns p ≡ b → served_by last turns o (p ∷ []) ≡ []
    by true e true c = served_more last turns o p [] false e c f ∙ served_none last turns o
    by true e false c = served_late last turns o p [] c
    by false e b c = served_not_early last turns o p [] e

-- want of memory serves none
push_none : (last : ℕ) (turns : List ℕ) (l : Lacking) (ps : List Part) → calls_of turns (come_by last turns (ps ++ lacking_part l ∷ [])) ≡ calls_of turns (come_by last turns ps)
push_none last turns l [] = by (comes last turns (lacking_part l))
  where
    by : (b : Bool) → ◌≡◌ {A = List Deed} (calls_of turns (cond b (lacking_part l ∷ []) [])) []
    by true = refl
    by false = refl
push_none last turns l (p ∷ ps) = by (comes last turns p) (push_none last turns l ps)
  where
    by : (b : Bool) → calls_of turns (come_by last turns (ps ++ lacking_part l ∷ [])) ≡ calls_of turns (come_by last turns ps)
        → calls_of turns (cond b (p ∷ come_by last turns (ps ++ lacking_part l ∷ [])) []) ≡ calls_of turns (cond b (p ∷ come_by last turns ps) [])
    by true same =
        calls_more turns p (come_by last turns (ps ++ lacking_part l ∷ []))
        ∙ ap (λ (ds : List Deed). cond (serves_call p.fact) (deed_of turns p ∷ ds) ds) same
        ∙ sym (calls_more turns p (come_by last turns ps))
    by false same = refl

pub lack_serves_none : (last : ℕ) (turns : List ℕ) (o : Option Lacking) (ps : List Part) → calls_among (deeds_by last turns (with_lack o ps)) ≡ served_by last turns o ps
lack_serves_none last turns None ps = refl
lack_serves_none last turns (Some l) ps = push_none last turns l (before l ps)

-- ---- the place at which memory is wanting is ahead

pub record Lack (l : Lacking) (ps : List Part) : Type 0 where
  pub part : Part
  pub others : List Part
  pub is : behind l ps ≡ part ∷ others
  pub batch : part.batch ≡ l.batch
  pub item : part.item ≡ l.item
  pub call : tells_call part.fact ≡ true
  pub within : l.cost ≤ part.cost

abbrev pub Lacks : Option Lacking → List Part → Type 0
Lacks None ps = Unit {0}
Lacks (Some l) ps = Lack l ps

pub lacks_first : (o : Option Lacking) (ps : List Part) → MayLack o ps → Lacks o ps
lacks_first None ps may = tt
lacks_first (Some l) ps may = record { part = may.part; others = may.others; is = may.comes; batch = may.batch; item = may.item; call = may.call; within = may.within }

lacks_behind : (o : Option Lacking) (p : Part) (ps : List Part) → early o p ≡ true → Lacks o (p ∷ ps) → Lacks o ps
lacks_behind None p ps e k = tt
lacks_behind (Some l) p ps e k = record {
  part = k.part;
  others = k.others;
  is = sym (ap (λ (b : Bool). cond b (behind l ps) (p ∷ ps)) e) ∙ k.is;
  batch = k.batch;
  item = k.item;
  call = k.call;
  within = k.within;
}

head_or : Part → List Part → Part
head_or p [] = p
head_or p (q ∷ qs) = q

pub lacks_here : (l : Lacking) (p : Part) (ps : List Part) → is_before l p ≡ false → (k : Lack l (p ∷ ps)) → p ≡ k.part
unfolding head_or
lacks_here l p ps e k = ap (head_or p) (sym (ap (λ (b : Bool). cond b (behind l ps) (p ∷ ps)) e) ∙ k.is)

-- ---- what a session did

abbrev pub did_by : ℕ → List ℕ → Option Lacking → List Part → List Deed
did_by last turns o ps = deeds_by last turns (with_lack o ps)

lack_more : (o : Option Lacking) (p : Part) (ps : List Part) → early o p ≡ true → with_lack o (p ∷ ps) ≡ p ∷ with_lack o ps
lack_more None p ps e = refl
lack_more (Some l) p ps e = ap (λ (b : Bool). cond b (p ∷ before l ps) [] ++ lacking_part l ∷ []) e

did_more : (last : ℕ) (turns : List ℕ) (o : Option Lacking) (p : Part) (ps : List Part) → early o p ≡ true → comes last turns p ≡ true
    → did_by last turns o (p ∷ ps) ≡ cond (is_deed p.fact) (deed_of turns p ∷ did_by last turns o ps) (did_by last turns o ps)
did_more last turns o p ps e c =
    ap (λ (qs : List Part). deeds_by last turns qs) (lack_more o p ps e)
    ∙ ap (λ (b : Bool). deeds_of turns (cond b (p ∷ come_by last turns (with_lack o ps)) [])) c

any_more : (test : Deed → Bool) (b : Bool) (d : Deed) (ds : List Deed) → list_any test ds ≡ true → list_any test (cond b (d ∷ ds) ds) ≡ true
any_more test true d ds h = or_right (test d) (list_any test ds) h
any_more test false d ds h = h

-- these parts are ahead of a session that did this: the place at which memory is wanting is, and what they come to is among it
pub record Ahead (last : ℕ) (turns : List ℕ) (did : List Deed) (o : Option Lacking) (ps : List Part) : Type 0 where
  pub lacks : Lacks o ps
  pub told : (test : Deed → Bool) → list_any test (did_by last turns o ps) ≡ true → list_any test did ≡ true

pub ahead_behind : (last : ℕ) (turns : List ℕ) (did : List Deed) (o : Option Lacking) (p : Part) (ps : List Part) → early o p ≡ true → comes last turns p ≡ true
    → Ahead last turns did o (p ∷ ps) → Ahead last turns did o ps
ahead_behind last turns did o p ps e c a = record {
  lacks = lacks_behind o p ps e a.lacks;
  told = λ test h.
      a.told test (ap (list_any test) (did_more last turns o p ps e c) ∙ any_more test (is_deed p.fact) (deed_of turns p) (did_by last turns o ps) h);
}

-- the want is among it, where it comes by the last turn
want_here : (last : ℕ) (turns : List ℕ) (l : Lacking) (p : Part) (ps : List Part) (test : Deed → Bool) → is_before l p ≡ false → comes last turns (lacking_part l) ≡ true
    → test (deed_of turns (lacking_part l)) ≡ true → list_any test (did_by last turns (Some l) (p ∷ ps)) ≡ true
want_here last turns l p ps test e c t =
    ap (λ (b : Bool). list_any test (deeds_by last turns (cond b (p ∷ before l ps) [] ++ lacking_part l ∷ []))) e
    ∙ ap (λ (b : Bool). list_any test (deeds_of turns (cond b (lacking_part l ∷ []) []))) c
    ∙ or_left (test (deed_of turns (lacking_part l))) false t

sooner : (last low high : ℕ) (o : Option ℕ) → low ≤ high → comes_by last high o ≡ true → comes_by last low o ≡ true
sooner last low high None le c = c
sooner last low high (Some t) le c = le-leb (turn_at t low) last (omega (arith, le, leb-true (turn_at t high) last c))

pub wanted_here : (last : ℕ) (turns : List ℕ) (did : List Deed) (l : Lacking) (p : Part) (ps : List Part) → is_before l p ≡ false → comes last turns p ≡ true
    → Ahead last turns did (Some l) (p ∷ ps) → wants_at p.batch p.item did ≡ true
wanted_here last turns did l p ps e c a =
    let k : Lack l (p ∷ ps) = a.lacks in
    let here : p ≡ k.part = lacks_here l p ps e k in
    let batch : p.batch ≡ l.batch = ap (λ (q : Part). q.batch) here ∙ k.batch in
    let item : p.item ≡ l.item = ap (λ (q : Part). q.item) here ∙ k.item in
    let cost : l.cost ≤ p.cost = subst (λ (q : Part). l.cost ≤ q.cost) (sym here) k.within in
    let came : comes_by last l.cost (slice_get turns l.batch) ≡ true =
    ap (λ (b : ℕ). comes_by last l.cost (slice_get turns b)) (sym batch) ∙ sooner last l.cost p.cost (slice_get turns p.batch) cost c in
    let test : Deed → Bool = λ d. eqb d.batch p.batch && is_want_of p.item d.fact in
    a.told test (want_here last turns l p ps test e came (and_from (eqb l.batch p.batch) (eqb l.item p.item) (eq-eqb l.batch p.batch (sym batch)) (eq-eqb l.item p.item (sym item))))

-- ---- no other want

-- the part is not of a batch that ends for want of memory at that item
abbrev IsOther : ℕ → ℕ → Part → Type 0
IsOther batch number p = (eqb p.batch batch && is_want_of number p.fact) ≡ false

want_none : (number : ℕ) (f : Fact) → is_want f ≡ false → is_want_of number f ≡ false
want_none number passes h = refl
want_none number (serves k name args) h = refl
want_none number (finishes None) h = refl
want_none number (finishes (Some (ending.Mismatch item k reported made))) h = refl
want_none number (finishes (Some (ending.BadReport item kind))) h = refl
want_none number (finishes (Some (ending.Limit item limit))) h = refl
want_none number (finishes (Some (ending.Fault item fault))) h = refl
want_none number (finishes (Some (ending.Memory item))) h = absurd (true≢false h)
want_none number (finishes (Some ending.Closed)) h = refl

-- the ending of no part is that for want of memory
abbrev pub AreCalm : List Part → Type 0
AreCalm ps = AllByRecursion (λ (p : Part). is_want p.fact ≡ false) ps

others_calm : (batch number : ℕ) (ps : List Part) → AreCalm ps → AllByRecursion (IsOther batch number) ps
others_calm batch number [] h = tt
others_calm batch number (p ∷ ps) h = (and_right (eqb p.batch batch) (is_want_of number p.fact) (want_none number p.fact h.0), others_calm batch number ps h.1)

before_all : (P : Part → Type 0) (l : Lacking) (ps : List Part) → AllByRecursion P ps → AllByRecursion P (before l ps)
before_all P l [] h = tt
before_all P l (p ∷ ps) h = by (is_before l p) (before_all P l ps h.1)
  where
    by : (b : Bool) → AllByRecursion P (before l ps) → AllByRecursion P (cond b (p ∷ before l ps) [])
    by true rest = (h.0, rest)
    by false rest = tt

push_all : (P : Part → Type 0) (ps : List Part) (q : Part) → AllByRecursion P ps → P q → AllByRecursion P (ps ++ q ∷ [])
push_all P [] q h one = (one, tt)
push_all P (p ∷ ps) q h one = (h.0, push_all P ps q h.1 one)

-- a part before the place is at another
elsewhere : (l : Lacking) (q : Part) → is_before l q ≡ true → (eqb l.batch q.batch && eqb l.item q.item) ≡ false
elsewhere l q h = by (eqb l.batch q.batch) refl (eqb l.item q.item) refl
  where
    same : l.batch ≡ q.batch → l.item ≡ q.item → (b c d : Bool) → ltb q.batch l.batch ≡ b → eqb q.batch l.batch ≡ c → ltb q.item l.item ≡ d → (b || (c && d)) ≡ true → ⊥
    same e f true c d x y z is = omega (arith, e, ltb-true q.batch l.batch x)
    same e f false true true x y z is = omega (arith, f, ltb-true q.item l.item z)
    same e f false true false x y z is = false≢true is
    same e f false false d x y z is = false≢true is

    by : (a : Bool) → eqb l.batch q.batch ≡ a → (b : Bool) → eqb l.item q.item ≡ b → (a && b) ≡ false
    by true e true f = absurd (same (eqb-true l.batch q.batch e) (eqb-true l.item q.item f) (ltb q.batch l.batch) (eqb q.batch l.batch) (ltb q.item l.item) refl refl refl h)
    by true e false f = refl
    by false e b f = refl

others_lack : (o : Option Lacking) (ps : List Part) (q : Part) → AreCalm ps → early o q ≡ true → AllByRecursion (IsOther q.batch q.item) (with_lack o ps)
others_lack None ps q h e = others_calm q.batch q.item ps h
others_lack (Some l) ps q h e =
    push_all (IsOther q.batch q.item) (before l ps) (lacking_part l) (before_all (IsOther q.batch q.item) l ps (others_calm q.batch q.item ps h)) (elsewhere l q e)

no_want : (last : ℕ) (turns : List ℕ) (batch number : ℕ) (ps : List Part) → AllByRecursion (IsOther batch number) ps → wants_at batch number (deeds_by last turns ps) ≡ false
no_want last turns batch number [] h = refl
no_want last turns batch number (p ∷ ps) h = by (comes last turns p) (no_want last turns batch number ps h.1)
  where
    more : (b : Bool) → wants_at batch number (deeds_by last turns ps) ≡ false → wants_at batch number (cond b (deed_of turns p ∷ deeds_by last turns ps) (deeds_by last turns ps)) ≡ false
    more true rest = or_from (eqb p.batch batch && is_want_of number p.fact) (wants_at batch number (deeds_by last turns ps)) h.0 rest
    more false rest = rest

    by : (b : Bool) → wants_at batch number (deeds_by last turns ps) ≡ false → wants_at batch number (deeds_of turns (cond b (p ∷ come_by last turns ps) [])) ≡ false
    by true rest = more (is_deed p.fact) rest
    by false rest = refl

-- so none is told at a part before the place
pub clear_before : (last : ℕ) (turns : List ℕ) (o : Option Lacking) (ps : List Part) (q : Part) → AreCalm ps → early o q ≡ true
    → wants_at q.batch q.item (did_by last turns o ps) ≡ false
clear_before last turns o ps q calm e = no_want last turns q.batch q.item (with_lack o ps) (others_lack o ps q calm e)
