-- Sessions of runs are apart.
use Rattle.std.proofs.Common.{◌≡◌, inl, inr, ℕ, suc, ◌+◌, Bool, true, false, cond, ◌&&◌, eqb, List, [], ◌∷◌, ◌++◌, length, map, Option, refl, sym, ap, ◌∙◌, subst, arith, append-nil, length-append}
use Rattle.std.specs.Prelude.{option_map}
use Rattle.rip_wire.specs.Answers.{Served, Said}
use Rattle.rip_wire.specs.Reasons.{reason_of}
use Rattle.rip_wire.specs.declared.ending.Ending.{Ending}
use Rattle.rip_data.specs.Datum.{Tree}
use Rattle.rip_log.specs.Entries.{Recorded, opened, admitted, served, done, closed, ended}
use Rattle.rip_history.specs.Parts.{Fact, passes, serves, finishes, Given, Meaning, IsLawful, serves_call}
use Rattle.rip_history.specs.Requests.{served_in}
use Rattle.rip_history.specs.Sessions.{turns_in, given_in, Deed, deeds_in, IsSessionOf, Distant, distant, story_in, IsFrontOf, Agree}
use Rattle.rip_history.proofs.SessionLemmas.{sessions_are_alone}
use Rattle.rip_law_history.specs.Alone.{said_after, said_in, RunsIsolate}
use Rattle.rip_law_history.specs.Legal.{course_turns, history_of}
use Rattle.rip_law_history.proofs.WholeRunLemmas.{runs_are_courses}

-- ---- answers, by what a session did and was given

-- served calls, each with its batch
abbrev Kept : Type 0
Kept = List (ℕ × Served)

abbrev of_batch : ℕ → Kept → List Served
of_batch b [] = []
of_batch b ((c, s) ∷ kept) = cond (eqb c b) (s ∷ of_batch b kept) (of_batch b kept)

abbrev telling : Fact → ℕ → Kept → (Kept → List Given → List Said) → List Given → List Said
telling passes b kept next gs = next kept gs
telling (serves k name args) b kept next [] = []
telling (serves k name args) b kept next (g ∷ gs) = next (kept ++ (b, record { number = k; time = g.time; reply = g.reply }) ∷ []) gs
telling (finishes how) b kept next gs = record { number = b; ended = option_map reason_of how; served = of_batch b kept } ∷ next kept gs

abbrev tell : List Distant → Kept → List Given → List Said
tell [] kept gs = []
tell (d ∷ ds) kept gs = telling d.fact d.batch kept (tell ds) gs

batch-join : (b : ℕ) (xs ys : Kept) → of_batch b (xs ++ ys) ≡ of_batch b xs ++ of_batch b ys
batch-join b [] ys = refl
batch-join b ((c, s) ∷ xs) ys = by (eqb c b) (batch-join b xs ys)
  where
    by : (t : Bool) → of_batch b (xs ++ ys) ≡ of_batch b xs ++ of_batch b ys
        → cond t (s ∷ of_batch b (xs ++ ys)) (of_batch b (xs ++ ys)) ≡ cond t (s ∷ of_batch b xs) (of_batch b xs) ++ of_batch b ys
    by true e = ap (λ (r : List Served). s ∷ r) e
    by false e = e

served-step : (t : Bool) (s : Served) (xs ys zs : List Served) → xs ≡ ys ++ zs → cond t (s ∷ xs) xs ≡ cond t (s ∷ ys) ys ++ zs
served-step true s xs ys zs e = ap (λ (r : List Served). s ∷ r) e
served-step false s xs ys zs e = e

served-join : (n b : ℕ) (h es : List Recorded) → served_in n b (h ++ es) ≡ served_in n b h ++ served_in n b es
served-join n b [] es = refl
served-join n b (opened turn session id seed time ∷ h) es = served-join n b h es
served-join n b (admitted turn session c ∷ h) es = served-join n b h es
served-join n b (served turn session number k name args time reply ∷ h) es =
    served-step (eqb session n && eqb number b) (record { number = k; time = time; reply = reply }) (served_in n b (h ++ es)) (served_in n b h) (served_in n b es) (served-join n b h es)
served-join n b (done turn session number how ∷ h) es = served-join n b h es
served-join n b (closed turn session ∷ h) es = served-join n b h es
served-join n b (ended turn status ∷ h) es = served-join n b h es

-- the entries keep these served calls of a session
abbrev Keeps : ℕ → List Recorded → Kept → Type 0
Keeps n before kept = (b : ℕ) → served_in n b before ≡ of_batch b kept

keeps-on : (n : ℕ) (before : List Recorded) (kept : Kept) (e : Recorded) → ((b : ℕ) → served_in n b (e ∷ []) ≡ []) → Keeps n before kept
    → Keeps n (before ++ e ∷ []) kept
keeps-on n before kept e none k b =
    served-join n b before (e ∷ []) ∙ (λ i. k b i ++ none b i) ∙ append-nil (of_batch b kept)

keeps-one : (n : ℕ) (before : List Recorded) (kept : Kept) (turn session number k : ℕ) (name : List ℕ) (args : List Tree) (time : ℕ) (reply : Tree)
    → eqb session n ≡ true → Keeps n before kept
    → Keeps n (before ++ served turn session number k name args time reply ∷ []) (kept ++ (number, record { number = k; time = time; reply = reply }) ∷ [])
keeps-one n before kept turn session number k name args time reply own keeps b =
    let s : Served = record { number = k; time = time; reply = reply } in
    served-join n b before (served turn session number k name args time reply ∷ [])
    ∙ (λ i. keeps b i ++ cond (own i && eqb number b) (s ∷ []) [])
    ∙ sym (batch-join b kept ((number, s) ∷ []))

said-step : (n : ℕ) (turns : List ℕ) (h : List Recorded)
    → ((before : List Recorded) (kept : Kept) → Keeps n before kept → said_after n before h ≡ tell (map (distant turns) (deeds_in n h)) kept (given_in n h))
    → (turn session number k : ℕ) (name : List ℕ) (args : List Tree) (time : ℕ) (reply : Tree) (before : List Recorded) (kept : Kept) → Keeps n before kept
    → (t : Bool) → eqb session n ≡ t
    → said_after n (before ++ served turn session number k name args time reply ∷ []) h
    ≡ tell (map (distant turns) (cond t (record { turn = turn; batch = number; fact = serves k name args } ∷ deeds_in n h) (deeds_in n h))) kept
    (cond t (record { time = time; reply = reply } ∷ given_in n h) (given_in n h))
said-step n turns h more turn session number k name args time reply before kept keeps true own =
    more (before ++ served turn session number k name args time reply ∷ []) (kept ++ (number, record { number = k; time = time; reply = reply }) ∷ [])
    (keeps-one n before kept turn session number k name args time reply own keeps)
said-step n turns h more turn session number k name args time reply before kept keeps false other =
    let e = served turn session number k name args time reply in
    more (before ++ e ∷ []) kept
    (keeps-on n before kept e (λ b. ap (λ (t : Bool). cond (t && eqb number b) (record { number = k; time = time; reply = reply } ∷ []) []) other) keeps)

done-step : (n : ℕ) (turns : List ℕ) (h : List Recorded) (turn session number : ℕ) (how : Option Ending) (before : List Recorded) (kept : Kept) → Keeps n before kept
    → (r : List Said) → r ≡ tell (map (distant turns) (deeds_in n h)) kept (given_in n h) → (t : Bool)
    → cond t (record { number = number; ended = option_map reason_of how; served = served_in n number (before ++ done turn session number how ∷ []) } ∷ r) r
    ≡ tell (map (distant turns) (cond t (record { turn = turn; batch = number; fact = finishes how } ∷ deeds_in n h) (deeds_in n h))) kept (given_in n h)
done-step n turns h turn session number how before kept keeps r e true =
    (λ i. record {
      number = number;
      ended = option_map reason_of how;
      served = keeps-on n before kept (done turn session number how) (λ b. refl) keeps number i;
    } ∷ e i)
done-step n turns h turn session number how before kept keeps r e false = e

said_tells : (n : ℕ) (turns : List ℕ) (h before : List Recorded) (kept : Kept) → Keeps n before kept
    → said_after n before h ≡ tell (map (distant turns) (deeds_in n h)) kept (given_in n h)
said_tells n turns [] before kept keeps = refl
said_tells n turns (opened turn session id seed time ∷ h) before kept keeps =
    said_tells n turns h (before ++ opened turn session id seed time ∷ []) kept (keeps-on n before kept (opened turn session id seed time) (λ b. refl) keeps)
said_tells n turns (admitted turn session b ∷ h) before kept keeps =
    said_tells n turns h (before ++ admitted turn session b ∷ []) kept (keeps-on n before kept (admitted turn session b) (λ c. refl) keeps)
said_tells n turns (served turn session number k name args time reply ∷ h) before kept keeps =
    said-step n turns h (said_tells n turns h) turn session number k name args time reply before kept keeps (eqb session n) refl
said_tells n turns (done turn session number how ∷ h) before kept keeps =
    let now = before ++ done turn session number how ∷ [] in
    done-step n turns h turn session number how before kept keeps (said_after n now h)
    (said_tells n turns h now kept (keeps-on n before kept (done turn session number how) (λ b. refl) keeps)) (eqb session n)
said_tells n turns (closed turn session ∷ h) before kept keeps =
    said_tells n turns h (before ++ closed turn session ∷ []) kept (keeps-on n before kept (closed turn session) (λ b. refl) keeps)
said_tells n turns (ended turn status ∷ h) before kept keeps =
    said_tells n turns h (before ++ ended turn status ∷ []) kept (keeps-on n before kept (ended turn status) (λ b. refl) keeps)

said_is : (n : ℕ) (h : List Recorded) → said_in n h ≡ tell (story_in n h) [] (given_in n h)
said_is n h = said_tells n (turns_in n h) h [] [] (λ b. refl)

-- ---- fronts

abbrev serving : List Distant → ℕ
serving [] = 0
serving (d ∷ ds) = cond (serves_call d.fact) (suc (serving ds)) (serving ds)

-- the answers to a front, which was given a front
front-step : (f : Fact) (b : ℕ) (kept : Kept) (next other : Kept → List Given → List Said) (gs more : List Given) (r : ℕ)
    → ((a : Kept) (hs : List Given) → r ≡ length hs → IsFrontOf (next a hs) (other a (hs ++ more)))
    → cond (serves_call f) (suc r) r ≡ length gs → IsFrontOf (telling f b kept next gs) (telling f b kept other (gs ++ more))
front-step passes b kept next other gs more r fronts e = fronts kept gs e
front-step (serves k name args) b kept next other [] more r fronts e = absurd (omega (arith, e))
front-step (serves k name args) b kept next other (g ∷ gs) more r fronts e =
    fronts (kept ++ (b, record { number = k; time = g.time; reply = g.reply }) ∷ []) gs (omega (arith, e))
front-step (finishes how) b kept next other gs more r fronts e =
    let one : Said = record { number = b; ended = option_map reason_of how; served = of_batch b kept } in
    let rest = fronts kept gs e in
    (rest.0, ap (λ (t : List Said). one ∷ t) rest.1)

front-tells : (ds es : List Distant) (kept : Kept) (gs more : List Given) → serving ds ≡ length gs
    → IsFrontOf (tell ds kept gs) (tell (ds ++ es) kept (gs ++ more))
front-tells [] es kept gs more e = (tell es kept (gs ++ more), refl)
front-tells (d ∷ ds) es kept gs more e =
    front-step d.fact d.batch kept (tell ds) (tell (ds ++ es)) gs more (serving ds) (λ a hs same. front-tells ds es a hs more same) e

count-served : (t : Bool) (turns : List ℕ) (d : Deed) (ds : List Deed) (g : Given) (gs : List Given) → serves_call d.fact ≡ true
    → serving (map (distant turns) ds) ≡ length gs → serving (map (distant turns) (cond t (d ∷ ds) ds)) ≡ length (cond t (g ∷ gs) gs)
count-served true turns d ds g gs calls e =
    ap (λ (c : Bool). cond c (suc (serving (map (distant turns) ds))) (serving (map (distant turns) ds))) calls ∙ ap suc e
count-served false turns d ds g gs calls e = e

count-done : (t : Bool) (turns : List ℕ) (d : Deed) (ds : List Deed) → serves_call d.fact ≡ false
    → serving (map (distant turns) (cond t (d ∷ ds) ds)) ≡ serving (map (distant turns) ds)
count-done true turns d ds calls = ap (λ (c : Bool). cond c (suc (serving (map (distant turns) ds))) (serving (map (distant turns) ds))) calls
count-done false turns d ds calls = refl

counts : (n : ℕ) (turns : List ℕ) (h : List Recorded) → serving (map (distant turns) (deeds_in n h)) ≡ length (given_in n h)
counts n turns [] = refl
counts n turns (opened turn session id seed time ∷ h) = counts n turns h
counts n turns (admitted turn session b ∷ h) = counts n turns h
counts n turns (served turn session number k name args time reply ∷ h) =
    count-served (eqb session n) turns (record { turn = turn; batch = number; fact = serves k name args }) (deeds_in n h) (record { time = time; reply = reply }) (given_in n h)
    refl (counts n turns h)
counts n turns (done turn session number how ∷ h) =
    count-done (eqb session n) turns (record { turn = turn; batch = number; fact = finishes how }) (deeds_in n h) refl ∙ counts n turns h
counts n turns (closed turn session ∷ h) = counts n turns h
counts n turns (ended turn status ∷ h) = counts n turns h

serving-join : (ds es : List Distant) → serving (ds ++ es) ≡ serving ds + serving es
serving-join [] es = omega arith
serving-join (d ∷ ds) es = by (serves_call d.fact) (serving-join ds es)
  where
    by : (t : Bool) → serving (ds ++ es) ≡ serving ds + serving es
        → cond t (suc (serving (ds ++ es))) (serving (ds ++ es)) ≡ cond t (suc (serving ds)) (serving ds) + serving es
    by true e = omega (arith, e)
    by false e = e

empty-of : (gs : List Given) → length gs ≡ 0 → gs ≡ []
empty-of [] e = refl
empty-of (g ∷ gs) e = absurd (omega (arith, e))

-- a longer story was given no less
given-more : (ds es : List Distant) (gs hs : List Given) → serving ds ≡ length gs → serving (ds ++ es) ≡ length hs → Agree gs hs → IsFrontOf gs hs
given-more ds es gs hs a b (inl f) = f
given-more ds es gs hs a b (inr (more, e)) =
    let long : length gs ≡ length hs + length more = ap length e ∙ length-append hs more in
    let none : more ≡ [] = empty-of more (omega (arith, long, a, b, serving-join ds es)) in
    ([], sym (e ∙ ap (λ (t : List Given). hs ++ t) none ∙ append-nil hs) ∙ sym (append-nil gs))

front-said : (xs ys : List Distant) (gs hs : List Given) → serving xs ≡ length gs → serving ys ≡ length hs → IsFrontOf xs ys → Agree gs hs
    → IsFrontOf (tell xs [] gs) (tell ys [] hs)
front-said xs ys gs hs a b (es, e) agree =
    let g = given-more xs es gs hs a (sym (ap serving e) ∙ b) agree in
    subst (λ (zs : List Distant). IsFrontOf (tell xs [] gs) (tell zs [] hs)) (sym e)
    (subst (λ (ks : List Given). IsFrontOf (tell xs [] gs) (tell (xs ++ es) [] ks)) (sym g.1) (front-tells xs es [] gs g.0 a))

flip : {A : Type 0} (xs ys : List A) → Agree xs ys → Agree ys xs
flip xs ys (inl h) = inr h
flip xs ys (inr h) = inl h

agree-said : (history other : List Recorded) (n k : ℕ) → Agree (story_in n history) (story_in k other) → Agree (given_in n history) (given_in k other)
    → Agree (said_in n history) (said_in k other)
agree-said history other n k story given =
    subst (λ (xs : List Said). Agree xs (said_in k other)) (sym (said_is n history))
    (subst (λ (ys : List Said). Agree (tell (story_in n history) [] (given_in n history)) ys) (sym (said_is k other)) (by story))
  where
    here : serving (story_in n history) ≡ length (given_in n history)
    here = counts n (turns_in n history) history

    there : serving (story_in k other) ≡ length (given_in k other)
    there = counts k (turns_in k other) other

    by : Agree (story_in n history) (story_in k other)
        → Agree (tell (story_in n history) [] (given_in n history)) (tell (story_in k other) [] (given_in k other))
    by (inl f) = inl (front-said (story_in n history) (story_in k other) (given_in n history) (given_in k other) here there f given)
    by (inr f) =
        inr (front-said (story_in k other) (story_in n history) (given_in k other) (given_in n history) there here f
        (flip (given_in n history) (given_in k other) given))

pub runs_isolate : RunsIsolate
runs_isolate site other_site ts other_ts n k lawful same turns other_turns g =
    let c = runs_are_courses site ts lawful turns in
    let d = runs_are_courses other_site other_ts (subst IsLawful (sym same) lawful) other_turns in
    let history = history_of site ts in
    let other = history_of other_site other_ts in
    let s : IsSessionOf site.meaning (length (course_turns 1 ts)) history n = c.sessions n g.start g.opening in
    let t : IsSessionOf site.meaning (length (course_turns 1 other_ts)) other k =
    subst (λ (m : Meaning). IsSessionOf m (length (course_turns 1 other_ts)) other k) same (d.sessions k g.start g.other_opening) in
    let story : Agree (story_in n history) (story_in k other) =
    sessions_are_alone site.meaning lawful.reads (length (course_turns 1 ts)) (length (course_turns 1 other_ts)) history other n k s t
    g.calm g.other_calm (g.opening ∙ sym g.other_opening) g.batches g.given in
    record { story = story; said = agree-said history other n k story g.given }
