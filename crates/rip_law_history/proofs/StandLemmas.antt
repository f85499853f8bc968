-- How a session stands in a run: its stage, and what the history has of it.
use Rattle.std.proofs.Common.{◌≡◌, inl, inr, ℕ, zero, suc, ◌+◌, ◌-◌, ◌*◌, ◌≤◌, ◌<◌, Bool, true, false, cond, not, ◌&&◌, ◌||◌, eqb, ltb, leb, List, [], ◌∷◌, ◌++◌, length, Option, Some, None, refl, sym, ap, ◌∙◌, subst, arith, append-nil, length-append}
use Rattle.std.specs.Prelude.{slice_get, unwrap_or, option_map, is_some}
use Rattle.std.specs.List.{AllByRecursion}
use Rattle.std.proofs.lemmas.Bool.{true≢false, false≢true, ltb-true, leb-true, le-leb, eq-eqb, ne_eqb, and_from, and_left, and_right, or_parts, or_from, or_left, or_right}
use Rattle.std.proofs.lemmas.List.Folds.{list_any-append}
use Rattle.rip_wire.specs.Reasons.{reason_of}
use Rattle.rip_wire.specs.declared.ending.Ending.{Ending}
use Rattle.rip_wire.specs.declared.ending.Reason.{Reason}
use Rattle.rip_history.specs.Parts.{Fact, passes, serves, finishes, Part, ends_batch, ends_session, has_finished, has_ended, Lacking, with_lack, MayLack}
use Rattle.rip_history.specs.Sessions.{Deed, admission, comes_by, come_by, is_deed, deeds_of, deeds_by}
use Rattle.rip_history.specs.Stages.{has_come, come, finishes_batch, GoesLacking, IsProgress}
use Rattle.rip_history.specs.Standings.{when_opened, when_admitted, when_done, when_closed, has_done, is_busy}
use Rattle.rip_history.specs.Turns.{turn_at}
use Rattle.rip_history.specs.declared.sessions.Progress.{Progress}
use Rattle.rip_history.specs.declared.sessions.Progress.TheVariants.{Busy, Finished}
use Rattle.rip_history.specs.declared.standing.Standing.{Standing}
use Rattle.rip_history.proofs.SessionLemmas.{deeds_join}
use Rattle.rip_history.proofs.ComeLemmas.{none_come, all_right, come_bounds, come_earlier, come_splits, HasCome, come_all, come_whole, ComesBy, come_later, Spends, come_by_busy, come_by_idle, EndIsLast, end_is_last, done_leaves_none}
use Rattle.rip_law_history.proofs.WholeMadeLemmas.{all-join, all-maps}

-- the parts that have come
abbrev pub at : List Part → Option Lacking → ℕ → ℕ → List Part
at whole lacking units last = come last units (with_lack lacking whole)

-- after turn u a session stands so: of its parts, where memory is wanting so, those of its last batch have come that so many
-- units cover; its batches were admitted in these turns; and the history has these deeds of it, and this standing
pub record Stands (u : ℕ) (whole : List Part) (lacking : Option Lacking) (units last : ℕ) (turns : List ℕ) (did : List Deed) (s : Standing) : Type 0 where
  pub long : length turns ≡ last + 1
  pub number : s.last ≡ last
  pub deeds : did ≡ deeds_of turns (at whole lacking units last)
  pub comes : AllByRecursion (ComesBy u turns) (at whole lacking units last)
  pub may : MayLack lacking whole
  pub lack : (l : Lacking) → lacking ≡ Some l → has_ended (at whole lacking units last) ≡ true
  pub lives : s.ended ≡ None → has_ended (at whole lacking units last) ≡ false
  pub alive : is_busy s ≡ true → has_ended (at whole lacking units last) ≡ false
  pub busy : is_busy s ≡ not (finishes_batch last (at whole lacking units last))
  pub spends : is_busy s ≡ true → Spends u turns last units

not-back : (b : Bool) → not b ≡ false → b ≡ true
not-back true e = refl
not-back false e = absurd (true≢false e)

-- then the deeds are those of the turn
pub deeds_stand : (u : ℕ) (whole : List Part) (lacking : Option Lacking) (units last : ℕ) (turns : List ℕ) (did : List Deed) (s : Standing)
    → Stands u whole lacking units last turns did s → EndIsLast last whole → did ≡ deeds_by u turns (with_lack lacking whole)
deeds_stand u whole lacking units last turns did s st ends = st.deeds ∙ ap (deeds_of turns) (sym (by (is_busy s) refl))
  where
    by : (b : Bool) → is_busy s ≡ b → come_by u turns (with_lack lacking whole) ≡ at whole lacking units last
    by true e = come_by_busy u turns last units (with_lack lacking whole) st.long (st.spends e) st.comes
    by false e =
        come_by_idle u turns last units (with_lack lacking whole)
        (done_leaves_none last units (with_lack lacking whole) (end_is_last last lacking whole ends st.may)
        (not-back (finishes_batch last (at whole lacking units last)) (sym st.busy ∙ e)))
        st.comes

-- an idle one stands so a turn later
pub stays_idle : (u : ℕ) (whole : List Part) (lacking : Option Lacking) (units last : ℕ) (turns : List ℕ) (did : List Deed) (s : Standing)
    → Stands u whole lacking units last turns did s → is_busy s ≡ false → Stands (u + 1) whole lacking units last turns did s
stays_idle u whole lacking units last turns did s st idle = record {
  long = st.long;
  number = st.number;
  deeds = st.deeds;
  comes = come_later u turns (at whole lacking units last) st.comes;
  may = st.may;
  lack = st.lack;
  lives = st.lives;
  alive = st.alive;
  busy = st.busy;
  spends = λ e. absurd (true≢false (sym e ∙ idle));
}

-- ---- an opening

pub opened_stands : (u : ℕ) (whole : List Part) → AllByRecursion (λ p. 1 ≤ p.cost) whole → Stands u whole None 0 0 ((u + 1) ∷ []) [] when_opened
opened_stands u whole costs =
    let none : come 0 0 whole ≡ [] = none_come 0 whole costs (zeros whole) in
    record {
      long = refl;
      number = refl;
      deeds = ap (deeds_of ((u + 1) ∷ [])) (sym none);
      comes = subst (λ (ps : List Part). AllByRecursion (ComesBy u ((u + 1) ∷ [])) ps) (sym none) tt;
      may = tt;
      lack = λ l e. absurd (no-some l e);
      lives = λ e. ap has_ended none;
      alive = λ e. ap has_ended none;
      busy = ap (λ (ps : List Part). not (finishes_batch 0 ps)) (sym none);
      spends = λ e. record { a = u + 1; admitted = refl; from = omega arith; spent = omega arith };
    }
  where
    zeros : (ps : List Part) → AllByRecursion (λ p. 0 ≤ p.batch) ps
    zeros [] = tt
    zeros (p ∷ ps) = (omega arith, zeros ps)

    no-some : (l : Lacking) → None ≡ Some l → ⊥
    no-some l e = true≢false (sym (ap (λ (o : Option Lacking). is_some o) e))

-- ---- an end by its client

pub closed_stands : (u : ℕ) (whole : List Part) (lacking : Option Lacking) (units last : ℕ) (turns : List ℕ) (did : List Deed) (s : Standing)
    → Stands u whole lacking units last turns did s → Stands u whole lacking units last turns did (when_closed s)
closed_stands u whole lacking units last turns did s st = record {
  long = st.long;
  number = st.number;
  deeds = st.deeds;
  comes = st.comes;
  may = st.may;
  lack = st.lack;
  lives = λ e. absurd (false≢true (ap (λ (o : Option Reason). is_some o) (sym e)));
  alive = st.alive;
  busy = st.busy;
  spends = st.spends;
}

-- ---- one more batch

get-front : (xs ys : List ℕ) (i : ℕ) → i < length xs → slice_get (xs ++ ys) i ≡ slice_get xs i
get-front [] ys i lt = absurd (omega (arith, lt))
get-front (x ∷ xs) ys zero lt = refl
get-front (x ∷ xs) ys (suc i) lt = get-front xs ys i (omega (arith, lt))

get-last : (xs : List ℕ) (x i : ℕ) → length xs ≡ i → slice_get (xs ++ x ∷ []) i ≡ Some x
get-last [] x zero e = refl
get-last [] x (suc i) e = absurd (omega (arith, e))
get-last (y ∷ xs) x zero e = absurd (omega (arith, e))
get-last (y ∷ xs) x (suc i) e = get-last xs x i (omega (arith, e))

-- the batches of parts, below a count
abbrev AreBelow : ℕ → List Part → Type 0
AreBelow n ps = AllByRecursion (λ (p : Part). p.batch < n) ps

deeds-front : (turns more : List ℕ) (ps : List Part) → AreBelow (length turns) ps → deeds_of (turns ++ more) ps ≡ deeds_of turns ps
deeds-front turns more [] h = refl
deeds-front turns more (p ∷ ps) h =
    (λ i. cond (is_deed p.fact)
    (record { turn = turn_at (unwrap_or (get-front turns more p.batch h.0 i) 0) p.cost; batch = p.batch; fact = p.fact } ∷ deeds-front turns more ps h.1 i)
    (deeds-front turns more ps h.1 i))

comes-front : (u : ℕ) (turns more : List ℕ) (ps : List Part) → AreBelow (length turns) ps → AllByRecursion (ComesBy u turns) ps
    → AllByRecursion (ComesBy u (turns ++ more)) ps
comes-front u turns more [] b h = tt
comes-front u turns more (p ∷ ps) b h =
    (ap (comes_by u p.cost) (get-front turns more p.batch b.0) ∙ h.0, comes-front u turns more ps b.1 h.1)

ends-none : (n : ℕ) (ps : List Part) → AreBelow n ps → finishes_batch n ps ≡ false
ends-none n [] h = refl
ends-none n (p ∷ ps) h =
    or_from (eqb p.batch n && ends_batch p.fact) (finishes_batch n ps)
    (and_left (eqb p.batch n) (ends_batch p.fact) (ne_eqb p.batch n (λ e. omega (arith, h.0, e)))) (ends-none n ps h.1)

-- where the last batch is done and the session lives, one more batch is admitted in the next turn
pub admitted_stands : (u : ℕ) (whole more next : List Part) (lacking : Option Lacking) (units last number : ℕ) (turns : List ℕ) (did : List Deed) (s : Standing)
    → Stands u whole lacking units last turns did s → EndIsLast last whole
    → next ≡ whole ++ more → AllByRecursion (λ (p : Part). p.batch ≡ last + 1) more → AllByRecursion (λ (p : Part). 1 ≤ p.cost) next
    → s.ended ≡ None → s.done ≡ Some s.last → number ≡ s.last + 1
    → Stands u next lacking 0 (last + 1) (turns ++ (u + 1) ∷ []) did (when_admitted number s)
admitted_stands u whole more next (Some l) units last number turns did s st ends is own costs lives done numbered =
    absurd (false≢true (sym (st.lives lives) ∙ st.lack l refl))
admitted_stands u whole more next None units last number turns did s st ends is own costs lives done numbered = record {
  long = length-append turns ((u + 1) ∷ []) ∙ ap (λ (n : ℕ). n + 1) st.long;
  number = numbered ∙ ap (λ (n : ℕ). n + 1) st.number;
  deeds = st.deeds ∙ sym (deeds-front turns ((u + 1) ∷ []) before below) ∙ ap (deeds_of (turns ++ (u + 1) ∷ [])) (sym same);
  comes = subst (λ (ps : List Part). AllByRecursion (ComesBy u (turns ++ (u + 1) ∷ [])) ps) (sym same) (comes-front u turns ((u + 1) ∷ []) before below st.comes);
  may = tt;
  lack = λ l e. absurd (false≢true (ap (λ (o : Option Lacking). is_some o) e));
  lives = λ e. ap has_ended same ∙ st.lives lives;
  alive = λ e. ap has_ended same ∙ st.lives lives;
  busy = is-busy ∙ ap not (sym none-done);
  spends = λ e. record { a = u + 1; admitted = get-last turns (u + 1) (last + 1) st.long; from = omega arith; spent = omega arith };
}
  where
    before : List Part
    before = come last units whole

    idle : is_busy s ≡ false
    idle = ap (λ (o : Option ℕ). not (has_done o s.last)) done ∙ ap not (eq-eqb s.last s.last refl)

    all : whole ≡ before
    all =
        come_splits last units whole
        ∙ ap (λ (t : List Part). before ++ t) (done_leaves_none last units whole ends (not-back (finishes_batch last before) (sym st.busy ∙ idle)))
        ∙ append-nil before

    within : AllByRecursion (λ (p : Part). p.batch ≤ last) before
    within = all-maps (HasCome last units) (λ (p : Part). p.batch ≤ last) (come_bounds last units) before (come_all last units whole)

    below : AreBelow (length turns) before
    below = all-maps (λ (p : Part). p.batch ≤ last) (λ (p : Part). p.batch < length turns) (λ p le. omega (arith, le, st.long)) before within

    came : AllByRecursion (HasCome (last + 1) 0) whole
    came =
        subst (λ (ps : List Part). AllByRecursion (HasCome (last + 1) 0) ps) (sym all)
        (all-maps (λ (p : Part). p.batch ≤ last) (HasCome (last + 1) 0) (λ p le. come_earlier last units 0 p le) before within)

    dear : AllByRecursion (λ (p : Part). 1 ≤ p.cost) more
    dear =
        all_right (λ (p : Part). 1 ≤ p.cost) whole more (subst (λ (ps : List Part). AllByRecursion (λ (p : Part). 1 ≤ p.cost) ps) is costs)

    same : at next None 0 (last + 1) ≡ before
    same =
        ap (come (last + 1) 0) is ∙ come_whole (last + 1) 0 whole more came
        ∙ ap (λ (t : List Part). whole ++ t)
        (none_come (last + 1) more dear (all-maps (λ (p : Part). p.batch ≡ last + 1) (λ (p : Part). last + 1 ≤ p.batch) (λ p e. omega (arith, e)) more own))
        ∙ append-nil whole ∙ all

    is-busy : is_busy (when_admitted number s) ≡ true
    is-busy = ap (λ (o : Option ℕ). not (has_done o number)) done ∙ ap not (ne_eqb s.last number (λ e. omega (arith, e, numbered)))

    none-done : finishes_batch (last + 1) (at next None 0 (last + 1)) ≡ false
    none-done =
        ap (finishes_batch (last + 1)) same
        ∙ ends-none (last + 1) before (all-maps (λ (p : Part). p.batch ≤ last) (λ (p : Part). p.batch < last + 1) (λ p le. omega (arith, le)) before within)

-- ---- a busy session goes on

-- the standing after a batch went on
abbrev pub after_progress : ℕ → Progress → Standing → Standing
after_progress last Busy s = s
after_progress last (Finished how) s = when_done last (option_map reason_of how) s

-- the part comes now: of the last batch, and dearer than was spent before
abbrev pub IsNow : ℕ → ℕ → Part → Type 0
IsNow last units p = (p.batch ≡ last) × (units < p.cost)

now-bounds : (last units : ℕ) (p : Part) → has_come last units p ≡ true → p.batch ≡ last → p.cost ≤ units
now-bounds last units p h same = by (ltb p.batch last) (leb p.cost units) refl refl h
  where
    by : (b c : Bool) → ltb p.batch last ≡ b → leb p.cost units ≡ c → (b || (eqb p.batch last && c)) ≡ true → p.cost ≤ units
    by true c e f h = absurd (omega (arith, ltb-true p.batch last e, same))
    by false true e f h = leb-true p.cost units f
    by false false e f h = absurd (false≢true (sym (and_right (eqb p.batch last) false refl) ∙ h))

-- it comes in that turn
pub record InTurn (u : ℕ) (turns : List ℕ) (last : ℕ) (p : Part) : Type 0 where
  pub batch : p.batch ≡ last
  pub comes : ComesBy (u + 1) turns p
  pub turn : turn_at (unwrap_or (admission turns p) 0) p.cost ≡ u + 1

in-turn : (u : ℕ) (turns : List ℕ) (last units : ℕ) (p : Part) → Spends u turns last units → IsNow last units p → has_come last (units + 1000) p ≡ true
    → InTurn u turns last p
in-turn u turns last units p s now h =
    let cheap = now-bounds last (units + 1000) p h now.0 in
    let admitted : admission turns p ≡ Some s.a = ap (slice_get turns) now.0 ∙ s.admitted in
    record {
      batch = now.0;
      comes = ap (comes_by (u + 1) p.cost) admitted ∙ le-leb (turn_at s.a p.cost) (u + 1) (omega (arith, cheap, s.spent, s.from));
      turn = ap (λ (o : Option ℕ). turn_at (unwrap_or o 0) p.cost) admitted ∙ exact s.a p.cost (omega (arith, now.1, s.spent, s.from)) (omega (arith, cheap, s.spent, s.from)) s.from;
    }
  where
    exact : (a cost : ℕ) → 1000 * (u + 1 - a) < cost → cost ≤ 1000 * (u + 1 - a) + 1000 → a ≤ u + 1 → turn_at a cost ≡ u + 1
    exact a cost dear cheap from = omega (arith, dear, cheap, from)

all-in-turn : (u : ℕ) (turns : List ℕ) (last units : ℕ) (ps : List Part) → Spends u turns last units → AllByRecursion (IsNow last units) ps
    → AllByRecursion (HasCome last (units + 1000)) ps → AllByRecursion (InTurn u turns last) ps
all-in-turn u turns last units [] s now h = tt
all-in-turn u turns last units (p ∷ ps) s now h = (in-turn u turns last units p s now.0 h.0, all-in-turn u turns last units ps s now.1 h.1)

-- the parts that come by 1,000 units more come in the next turn
pub parts_in_turn : (u : ℕ) (whole next : List Part) (lacking new : Option Lacking) (units last : ℕ) (turns : List ℕ) (parts : List Part)
    → Spends u turns last units → at next new (units + 1000) last ≡ at whole lacking units last ++ parts
    → AllByRecursion (IsNow last units) parts → AllByRecursion (InTurn u turns last) parts
parts_in_turn u whole next lacking new units last turns parts s is now =
    all-in-turn u turns last units parts s now
    (all_right (HasCome last (units + 1000)) (at whole lacking units last) parts
    (subst (λ (ps : List Part). AllByRecursion (HasCome last (units + 1000)) ps) is (come_all last (units + 1000) (with_lack new next))))

-- parts in which no batch is done end no session, and no batch
fact-ends : (f : Fact) → ends_batch f ≡ false → ends_session f ≡ false
fact-ends passes e = refl
fact-ends (serves number name args) e = refl
fact-ends (finishes how) e = absurd (true≢false e)

unfinished-lives : (ps : List Part) → has_finished ps ≡ false → has_ended ps ≡ false
unfinished-lives [] h = refl
unfinished-lives (p ∷ ps) h =
    let both = or_parts (ends_batch p.fact) (has_finished ps) h in
    or_from (ends_session p.fact) (has_ended ps) (fact-ends p.fact both.0) (unfinished-lives ps both.1)

unfinished-busy : (last : ℕ) (ps : List Part) → has_finished ps ≡ false → finishes_batch last ps ≡ false
unfinished-busy last [] h = refl
unfinished-busy last (p ∷ ps) h =
    let both = or_parts (ends_batch p.fact) (has_finished ps) h in
    or_from (eqb p.batch last && ends_batch p.fact) (finishes_batch last ps) (and_right (eqb p.batch last) (ends_batch p.fact) both.0) (unfinished-busy last ps both.1)

none-of-none : (how : Option Ending) → option_map reason_of how ≡ None → is_some how ≡ false
none-of-none None e = refl
none-of-none (Some ending) e = absurd (true≢false (ap (λ (o : Option Reason). is_some o) e))

no-lack : (lacking : Option Lacking) → (b : Bool) → ((l : Lacking) → lacking ≡ Some l → b ≡ true) → b ≡ false → lacking ≡ None
no-lack None b h e = refl
no-lack (Some l) b h e = absurd (true≢false (sym (h l refl) ∙ e))

not-busy : (b : Bool) → true ≡ not b → b ≡ false
not-busy true e = absurd (true≢false e)
not-busy false e = refl

-- a busy session stands so a turn later, with the parts of 1,000 units more
pub advanced_stands : (u : ℕ) (whole next : List Part) (lacking new : Option Lacking) (units last : ℕ) (turns : List ℕ) (did : List Deed) (s : Standing)
    (parts : List Part) (progress : Progress)
    → Stands u whole lacking units last turns did s → is_busy s ≡ true
    → at next new (units + 1000) last ≡ at whole lacking units last ++ parts
    → AllByRecursion (IsNow last units) parts → GoesLacking next parts lacking new → IsProgress progress parts
    → Stands (u + 1) next new (units + 1000) last turns (did ++ deeds_of turns parts) (after_progress last progress s)
advanced_stands u whole next lacking new units last turns did s parts progress st working is now lacks done = by progress done
  where
    before : List Part
    before = at whole lacking units last

    after : List Part
    after = at next new (units + 1000) last

    none : lacking ≡ None
    none = no-lack lacking (has_ended before) st.lack (st.alive working)

    turned : AllByRecursion (InTurn u turns last) parts
    turned = parts_in_turn u whole next lacking new units last turns parts (st.spends working) is now

    deeds : did ++ deeds_of turns parts ≡ deeds_of turns after
    deeds = ap (λ (ds : List Deed). ds ++ deeds_of turns parts) st.deeds ∙ sym (deeds_join turns before parts) ∙ ap (deeds_of turns) (sym is)

    comes : AllByRecursion (ComesBy (u + 1) turns) after
    comes =
        subst (λ (ps : List Part). AllByRecursion (ComesBy (u + 1) turns) ps) (sym is)
        (all-join (ComesBy (u + 1) turns) before parts (come_later u turns before st.comes)
        (all-maps (InTurn u turns last) (ComesBy (u + 1) turns) (λ p t. t.comes) parts turned))

    may : MayLack new next
    may = may-by lacks
      where
        may-by : GoesLacking next parts lacking new → MayLack new next
        may-by (inl e) = subst (λ (o : Option Lacking). MayLack o next) (sym (e ∙ none)) tt
        may-by (inr k) = subst (λ (o : Option Lacking). MayLack o next) (sym k.some) k.may

    ended : has_ended after ≡ has_ended parts
    ended =
        ap has_ended is ∙ list_any-append (λ (p : Part). ends_session p.fact) before parts
        ∙ ap (λ (b : Bool). b || has_ended parts) (st.alive working)

    lack : (l : Lacking) → new ≡ Some l → has_ended after ≡ true
    lack l e = ended ∙ lack-by lacks
      where
        lack-by : GoesLacking next parts lacking new → has_ended parts ≡ true
        lack-by (inl f) = absurd (false≢true (ap (λ (o : Option Lacking). is_some o) (sym none ∙ sym f ∙ e)))
        lack-by (inr k) = k.ends

    finished : finishes_batch last after ≡ finishes_batch last parts
    finished =
        ap (finishes_batch last) is ∙ list_any-append (λ (p : Part). eqb p.batch last && ends_batch p.fact) before parts
        ∙ ap (λ (b : Bool). b || finishes_batch last parts) (not-busy (finishes_batch last before) (sym working ∙ st.busy))

    spends : Spends (u + 1) turns last (units + 1000)
    spends =
        let k = st.spends working in
        record { a = k.a; admitted = k.admitted; from = omega (arith, k.from); spent = omega (arith, k.from, k.spent) }

    by : (progress : Progress) → IsProgress progress parts → Stands (u + 1) next new (units + 1000) last turns (did ++ deeds_of turns parts) (after_progress last progress s)
    by Busy unfinished = record {
      long = st.long;
      number = st.number;
      deeds = deeds;
      comes = comes;
      may = may;
      lack = lack;
      lives = λ e. ended ∙ unfinished-lives parts unfinished;
      alive = λ e. ended ∙ unfinished-lives parts unfinished;
      busy = working ∙ ap not (sym (finished ∙ unfinished-busy last parts unfinished));
      spends = λ e. spends;
    }
    by (Finished how) f = record {
      long = st.long;
      number = st.number;
      deeds = deeds;
      comes = comes;
      may = may;
      lack = lack;
      lives = λ e. ended ∙ ends-so (none-of-none how e);
      alive = λ e. absurd (false≢true (sym idle ∙ e));
      busy = idle ∙ ap not (sym (finished ∙ is-finished));
      spends = λ e. absurd (false≢true (sym idle ∙ e));
    }
      where
        idle : not (eqb last s.last) ≡ false
        idle = ap not (eq-eqb last s.last (sym st.number))

        own : (let p = f.last in p.batch) ≡ last
        own = (all_right (IsNow last units) f.others (f.last ∷ []) (subst (λ (ps : List Part). AllByRecursion (IsNow last units) ps) f.are now)).0.0

        is-finished : finishes_batch last parts ≡ true
        is-finished =
            ap (finishes_batch last) f.are
            ∙ list_any-append (λ (p : Part). eqb p.batch last && ends_batch p.fact) f.others (f.last ∷ [])
            ∙ or_right (finishes_batch last f.others) (finishes_batch last (f.last ∷ []))
            (or_left ((eqb (let p = f.last in p.batch) last) && ends_batch (let p = f.last in p.fact)) false
            (and_from (eqb (let p = f.last in p.batch) last) (ends_batch (let p = f.last in p.fact)) (eq-eqb (let p = f.last in p.batch) last own) (ap ends_batch f.fact)))

        ends-so : is_some how ≡ false → has_ended parts ≡ false
        ends-so lives =
            ap has_ended f.are ∙ list_any-append (λ (p : Part). ends_session p.fact) f.others (f.last ∷ [])
            ∙ or_from (has_ended f.others) (has_ended (f.last ∷ [])) (unfinished-lives f.others f.busy)
            (or_from (ends_session (let p = f.last in p.fact)) false (ap ends_session f.fact ∙ lives) refl)
