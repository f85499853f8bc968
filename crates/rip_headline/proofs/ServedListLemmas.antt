-- The served calls of a session by two whole lists.
use Rattle.std.proofs.Common.{◌≡◌, ℕ, zero, suc, ◌+◌, ◌-◌, Bool, true, false, List, [], ◌∷◌, ◌++◌, length, slice_get, Option, None, Some, refl, ap, sym, subst, ◌∙◌, arith, append-nil, append_assoc}
use Rattle.std.specs.Prelude.{IfSome}
use Rattle.rip_app.specs.App.{Loaded}
use Rattle.rip_log.specs.Entries.{Recorded}
use Rattle.rip_history.specs.Sessions.{Deed, opening_in}
use Rattle.rip_host.specs.declared.browser.Browser.{Browser}
use Rattle.rip_browser.specs.Visits.{browser_rules}
use Rattle.rip_replica.specs.Parts.{Doing}
use Rattle.rip_replica.specs.Rules.{HasNoRoom}
use Rattle.rip_replica.specs.Served.{IsServed, ReportedCall, reported_behind, reported_calls, with_report}
use Rattle.rip_replica.proofs.ServedLaws.{none_more, stepwise}
use Rattle.rip_law_replica.specs.Prefix.{IsMade, Placed, Reached, after, closes_fine, played}
use Rattle.rip_session.specs.Tasks.{Task}
use Rattle.rip_law_served.specs.Served.{call_of}
use Rattle.rip_headline.specs.PrefixHistories.{MayBeServedAt, Serves, ServesIn, through, goes_on, is_served, ends_at, lacks_at, is_later, comes, part_by, spent_by}
use Rattle.rip_headline.specs.ServedLists.{AllServed, AreServed, IsFull, HistoriesServeByLists, ServeByLists, ServedIn, all_over, ended, lacking, later, made_on, numbered_from, reached, reports_of, spent_on}
use Rattle.rip_headline.proofs.HistoryLaw.{histories_serve}

-- ---- calls with their numbers

-- a call of this number and text
abbrev numbered : ℕ → List ℕ → Option (ℕ × List ℕ)
numbered number text = Some (number, text)

text_is : (x y : List ℕ) → Some x ≡ Some y → x ≡ y
text_is x y is = cc

call_is : (x y : ℕ × List ℕ) → Some x ≡ Some y → x ≡ y
call_is x y is = cc

numbered_get : (first : ℕ) (texts : List (List ℕ)) (j number : ℕ) (text : List ℕ) → number ≡ first + j → slice_get texts j ≡ Some text
    → slice_get (numbered_from first texts) j ≡ Some (number, text)
numbered_get first [] j number text at is = absurd (let f : None ≡ Some text = is in cc)
numbered_get first (t ∷ ts) zero number text at is =
    let e : first ≡ number = omega (arith, at) in
    ap (λ (m : ℕ). numbered m t) e ∙ ap (λ (x : List ℕ). numbered number x) (text_is t text is)
numbered_get first (t ∷ ts) (suc j) number text at is = numbered_get (first + 1) ts j number text (omega (arith, at)) is

numbered_at : (first : ℕ) (texts : List (List ℕ)) (j number : ℕ) (text : List ℕ) → slice_get (numbered_from first texts) j ≡ Some (number, text)
    → (number ≡ first + j) × (slice_get texts j ≡ Some text)
numbered_at first [] j number text is = absurd (let f : None ≡ Some (number, text) = is in cc)
numbered_at first (t ∷ ts) zero number text is =
    let same = call_is (first, t) (number, text) is in
    let e : first ≡ number = ap (λ (c : ℕ × List ℕ). c.0) same in
    let g : t ≡ text = ap (λ (c : ℕ × List ℕ). c.1) same in
    (omega (arith, e), ap Some g)
numbered_at first (t ∷ ts) (suc j) number text is =
    let rest : (number ≡ first + 1 + j) × (slice_get ts j ≡ Some text) = numbered_at (first + 1) ts j number text is in
    (omega (arith, rest.0), rest.1)

-- ---- one item more

report_longer : {A C : Type 0} (o : Option C) (before : List A) (xs ys : List (ReportedCall A C)) → length xs ≡ length ys + 1
    → length (with_report o before xs) ≡ length (with_report o before ys) + 1
report_longer None before xs ys h = h
report_longer (Some c) before xs ys h = omega (arith, h)

behind_longer : {A C : Type 0} (call : A → Option C) (before items : List A) (a : A) (c : C) → call a ≡ Some c
    → length (reported_behind call before (items ++ a ∷ [])) ≡ length (reported_behind call before items) + 1
behind_longer call before [] a c is = ap (λ o. length (with_report o before [])) is
behind_longer call before (x ∷ items) a c is =
    report_longer (call x) before (reported_behind call (before ++ x ∷ []) (items ++ a ∷ [])) (reported_behind call (before ++ x ∷ []) items)
    (behind_longer call (before ++ x ∷ []) items a c is)

reached_more : (d : Doing Task Browser) (start : Reached Browser) (before : List (Placed Task)) (p : Placed Task) → reached d start (before ++ p ∷ []) ≡ after d (reached d start before) p
reached_more d start [] p = refl
reached_more d start (x ∷ xs) p = reached_more d (after d start x) xs p

spent_more : (d : Doing Task Browser) (start : Reached Browser) (spent : ℕ) (before : List (Placed Task)) (p : Placed Task)
    → spent_on d start spent (before ++ p ∷ []) ≡ spent_by d (reached d start before) (spent_on d start spent before) p
spent_more d start spent [] p = refl
spent_more d start spent (x ∷ xs) p = spent_more d (after d start x) (spent_by d start spent x) xs p

-- ---- from where it stands

-- all calls that these items report are served, and the next has this number
record Stood (d : Doing Task Browser) (start : Reached Browser) (before : List (Placed Task)) (at : Reached Browser) (spent k : ℕ) : Type 0 where
  here : reached d start before ≡ at
  units : spent_on d start 1 before ≡ spent
  served : IsServed (made_on d start) (reports_of before) (length (reports_of before))
  next : k ≡ length (reports_of before) + 1

all_served : (d : Doing Task Browser) (start : Reached Browser) (before : List (Placed Task)) (at : Reached Browser) (spent k n : ℕ) → Stood d start before at spent k
    → n ≡ length (reports_of before) → AllServed d start before n
all_served d start before at spent k n st count = record {
  served = subst (λ (m : ℕ). IsServed (made_on d start) (reports_of before) m) (sym count) st.served;
  all = count;
}

moved : (d : Doing Task Browser) (start : Reached Browser) (before : List (Placed Task)) (at : Reached Browser) (spent k : ℕ) (p : Placed Task) → Stood d start before at spent k
    → reached d start (before ++ p ∷ []) ≡ after d at p
moved d start before at spent k p st = reached_more d start before p ∙ ap (λ (x : Reached Browser). after d x p) st.here

counted : (d : Doing Task Browser) (start : Reached Browser) (before : List (Placed Task)) (at : Reached Browser) (spent k : ℕ) (p : Placed Task) → Stood d start before at spent k
    → spent_on d start 1 (before ++ p ∷ []) ≡ spent_by d at spent p
counted d start before at spent k p st =
    spent_more d start 1 before p
    ∙ ap (λ (x : Reached Browser). spent_by d x (spent_on d start 1 before) p) st.here
    ∙ ap (λ (u : ℕ). spent_by d at u p) st.units

-- behind an item that reports no call
stood_none : (d : Doing Task Browser) (start : Reached Browser) (before : List (Placed Task)) (at : Reached Browser) (spent k : ℕ) (p : Placed Task) → call_of p.item ≡ None
    → Stood d start before at spent k → Stood d start (before ++ p ∷ []) (after d at p) (spent_by d at spent p) k
stood_none d start before at spent k p none st =
    let same : reports_of (before ++ p ∷ []) ≡ reports_of before = none_more (λ (q : Placed Task). call_of q.item) before p none in
    record {
      here = moved d start before at spent k p st;
      units = counted d start before at spent k p st;
      served = subst (λ (rs : List (ReportedCall (Placed Task) (ℕ × List ℕ))). IsServed (made_on d start) rs (length rs)) (sym same) st.served;
      next = st.next ∙ ap (λ (rs : List (ReportedCall (Placed Task) (ℕ × List ℕ))). length rs + 1) (sym same);
    }

-- behind a call that is the next of those that the script made
stood_some : (d : Doing Task Browser) (start : Reached Browser) (before : List (Placed Task)) (at : Reached Browser) (spent k : ℕ) (p : Placed Task) (number : ℕ) (text : List ℕ)
    → call_of p.item ≡ Some (number, text) → number ≡ k → IsMade (browser_rules.made at.page) (number, text)
    → Stood d start before at spent k → Stood d start (before ++ p ∷ []) (after d at p) (spent_by d at spent p) (k + 1)
stood_some d start before at spent k p number text is called made st =
    let call : Placed Task → Option (ℕ × List ℕ) = λ (q : Placed Task). call_of q.item in
    let n : ℕ = length (reports_of before) in
    let more : length (reports_of (before ++ p ∷ [])) ≡ n + 1 = behind_longer call [] before p (number, text) is in
    let position : number - 1 ≡ n = omega (arith, called, st.next) in
    let here : slice_get (browser_rules.made at.page) n ≡ Some text = subst (λ (j : ℕ). slice_get (browser_rules.made at.page) j ≡ Some text) position made.1 in
    let there : slice_get (browser_rules.made (let x = reached d start before in x.page)) n ≡ Some text =
    subst (λ (x : Reached Browser). slice_get (browser_rules.made x.page) n ≡ Some text) (sym st.here) here in
    let matches : slice_get (made_on d start before) n ≡ Some (number, text) =
    numbered_get 1 (browser_rules.made (let x = reached d start before in x.page)) n number text (omega (arith, called, st.next)) there in
    record {
      here = moved d start before at spent k p st;
      units = counted d start before at spent k p st;
      served = subst (λ (m : ℕ). IsServed (made_on d start) (reports_of (before ++ p ∷ [])) m) (sym more)
          ((stepwise (made_on d start) call before p (number, text) is st.served).0 matches);
      next = omega (arith, more, st.next);
    }

-- at an item that ends the session
at_end : (d : Doing Task Browser) (start : Reached Browser) (before : List (Placed Task)) (at : Reached Browser) (spent k n : ℕ) (p : Placed Task) (o : Option (ℕ × List ℕ)) → call_of p.item ≡ o
    → IfSome o (λ c. ¬ (MayBeServedAt k at.page c)) → Stood d start before at spent k → n ≡ length (reports_of before) → ¬ (IsFull d start before n)
    → IsServed (made_on d start) (reports_of (before ++ p ∷ [])) n
at_end d start before at spent k n p None is may st count room =
    let same : reports_of (before ++ p ∷ []) ≡ reports_of before = none_more (λ (q : Placed Task). call_of q.item) before p is in
    subst (λ (rs : List (ReportedCall (Placed Task) (ℕ × List ℕ))). IsServed (made_on d start) rs n) (sym same)
    (subst (λ (m : ℕ). IsServed (made_on d start) (reports_of before) m) (sym count) st.served)
at_end d start before at spent k n p (Some (number, text)) is may st count room =
    let call : Placed Task → Option (ℕ × List ℕ) = λ (q : Placed Task). call_of q.item in
    let m : ℕ = length (reports_of before) in
    let position : m ≡ k - 1 = omega (arith, st.next) in
    let apart : ¬ (slice_get (made_on d start before) m ≡ Some (number, text)) = λ matches.
    (let found : (number ≡ 1 + m) × (slice_get (browser_rules.made (let x = reached d start before in x.page)) m ≡ Some text) =
    numbered_at 1 (browser_rules.made (let x = reached d start before in x.page)) m number text matches in
    let here : slice_get (browser_rules.made at.page) m ≡ Some text =
    subst (λ (x : Reached Browser). slice_get (browser_rules.made x.page) m ≡ Some text) st.here found.1 in
    let vacant : ¬ (HasNoRoom (browser_rules.calls_back at.page) n (browser_rules.undelivered at.page) (browser_rules.most_undelivered at.page)) =
    subst (λ (x : Reached Browser). ¬ (HasNoRoom (browser_rules.calls_back x.page) n (browser_rules.undelivered x.page) (browser_rules.most_undelivered x.page))) st.here room in
    may (
      omega (arith, found.0, st.next),
      subst (λ (j : ℕ). slice_get (browser_rules.made at.page) j ≡ Some text) position here,
      subst (λ (j : ℕ). ¬ (HasNoRoom (browser_rules.calls_back at.page) j (browser_rules.undelivered at.page) (browser_rules.most_undelivered at.page))) (count ∙ position) vacant,
    )) in
    subst (λ (j : ℕ). IsServed (made_on d start) (reports_of (before ++ p ∷ [])) j) (sym count)
    ((stepwise (made_on d start) call before p (number, text) is st.served).1 apart)

-- ---- the items one after another

go : (d : Doing Task Browser) (last : ℕ) (turns : List ℕ) (did : List Deed) (start : Reached Browser) (items before : List (Placed Task)) (n : ℕ)
    (at : Reached Browser) (spent k : ℕ) (ps : List (Placed Task)) (calls : List Deed)
    → items ≡ before ++ ps → n ≡ length (reports_of before) + length calls → Stood d start before at spent k
    → Serves d last turns did at spent k ps calls → AreServed d last turns did start items n
go d last turns did start items before n at spent k ps calls split count st (through _ _ _) =
    all_over (subst (λ (xs : List (Placed Task)). AllServed d start xs n) (sym (split ∙ append-nil before)) (all_served d start before at spent k n st (omega (arith, count))))
go d last turns did start items before n at spent k ps calls split count st (goes_on _ _ _ p rest _ fine come none more) =
    let same : reports_of (before ++ p ∷ []) ≡ reports_of before = none_more (λ (q : Placed Task). call_of q.item) before p none in
    go d last turns did start items (before ++ p ∷ []) n (after d at p) (spent_by d at spent p) k rest calls
    (split ∙ sym (append_assoc before (p ∷ []) rest))
    (count ∙ ap (λ (rs : List (ReportedCall (Placed Task) (ℕ × List ℕ))). length rs + length calls) (sym same))
    (stood_none d start before at spent k p none st) more
go d last turns did start items before n at spent k ps calls split count st (is_served _ _ _ p rest others (number, text) fine come is called made want more) =
    let longer : length (reports_of (before ++ p ∷ [])) ≡ length (reports_of before) + 1 = behind_longer (λ (q : Placed Task). call_of q.item) [] before p (number, text) is in
    go d last turns did start items (before ++ p ∷ []) n (after d at p) (spent_by d at spent p) (k + 1) rest others
    (split ∙ sym (append_assoc before (p ∷ []) rest))
    (omega (arith, count, longer))
    (stood_some d start before at spent k p number text is called made st) more
go d last turns did start items before n at spent k ps calls split count st (ends_at _ _ _ p rest broken may) =
    let all : n ≡ length (reports_of before) = omega (arith, count) in
    ended before p rest split (all_served d start before at spent k n st all)
    (subst (λ (x : Reached Browser). closes_fine (played d x p) ≡ false) (sym st.here) broken)
    (λ room. at_end d start before at spent k n p (call_of p.item) refl may st all room)
go d last turns did start items before n at spent k ps calls split count st (lacks_at _ _ _ p rest call want) =
    lacking before p rest split (all_served d start before at spent k n st (omega (arith, count))) call want
go d last turns did start items before n at spent k ps calls split count st (is_later _ _ _ p rest late) =
    let here : comes last turns (part_by d at (spent_on d start 1 before) p) ≡ false = subst (λ (u : ℕ). comes last turns (part_by d at u p) ≡ false) (sym st.units) late in
    later before p rest split (all_served d start before at spent k n st (omega (arith, count)))
    (subst (λ (x : Reached Browser). comes last turns (part_by d x (spent_on d start 1 before) p) ≡ false) (sym st.here) here)

none_served : (d : Doing Task Browser) (start : Reached Browser) → IsServed (made_on d start) (reports_of []) 0
none_served d start = record {
  within = omega arith;
  match = λ k less. absurd (omega (arith, less));
  longest = λ less. absurd (omega (arith, less));
}

pub serve_by_lists : ServeByLists
serve_by_lists d last turns did start items calls serves =
    go d last turns did start items [] (length calls) start 1 1 items calls refl (omega arith)
    (record { here = refl; units = refl; served = none_served d start; next = omega arith }) serves

-- ---- the law

served_in : (app : Loaded) (last : ℕ) (h : List Recorded) (n : ℕ) (o : Option (ℕ × ℕ)) → ServesIn app last h n o → ServedIn app last h n o
served_in app last h n None none = none
served_in app last h n (Some (seed, time)) serves = serve_by_lists _ last _ _ _ _ _ serves

pub histories_serve_by_lists : HistoriesServeByLists
histories_serve_by_lists app service limit told turns history course n =
    served_in app _ history n (opening_in n history) (histories_serve app service limit told turns history course n)
