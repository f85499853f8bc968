-- What a history has of a session, when entries are added.
use Rattle.std.proofs.Common.{◌≡◌, ℕ, suc, ◌+◌, Bool, true, false, cond, eqb, List, [], ◌∷◌, ◌++◌, length, map, Option, Some, None, refl, sym, ap, ◌∙◌, subst, arith, append-nil}
use Rattle.std.specs.Prelude.{option_map}
use Rattle.std.specs.List.{AllByRecursion, zip}
use Rattle.std.proofs.lemmas.Bool.{true≢false, false≢true, eq-eqb, or_parts}
use Rattle.std.proofs.lemmas.Grind.{flat_map-append}
use Rattle.rip_wire.specs.Batches.{Contents}
use Rattle.rip_wire.specs.Reasons.{reason_of}
use Rattle.rip_wire.specs.declared.ending.Ending.{Ending}
use Rattle.rip_log.specs.Entries.{Recorded, opened, admitted, served, done, closed, ended}
use Rattle.rip_history.specs.Parts.{Fact, passes, serves, finishes, Part, Given, ends_batch, serves_call, served_count, has_finished}
use Rattle.rip_history.specs.Run.{done_entries}
use Rattle.rip_history.specs.Services.{Serving, serving_of, servings_in, served_entry, served_entries}
use Rattle.rip_history.specs.Sessions.{opening_in, batches_in, turns_in, given_in, Deed, deeds_in, deed_of, is_deed, deeds_of}
use Rattle.rip_history.specs.Stages.{IsProgress}
use Rattle.rip_history.specs.Standings.{when_opened, when_admitted, when_done, when_closed, standing_from, standing_of, after_entry, is_of}
use Rattle.rip_history.specs.declared.sessions.Progress.{Progress}
use Rattle.rip_history.specs.declared.sessions.Progress.TheVariants.{Busy, Finished}
use Rattle.rip_history.specs.declared.standing.Standing.{Standing}
use Rattle.rip_law_history.proofs.StandLemmas.{InTurn, after_progress}
use Rattle.rip_history.proofs.SessionLemmas.{deeds_join}

-- what a history has of a session
pub record Seen : Type 0 where
  pub opening : Option (ℕ × ℕ)
  pub batches : List Contents
  pub turns : List ℕ
  pub given : List Given
  pub deeds : List Deed
  pub standing : Option Standing

abbrev pub seen : ℕ → List Recorded → Seen
seen n h = record {
  opening = opening_in n h;
  batches = batches_in n h;
  turns = turns_in n h;
  given = given_in n h;
  deeds = deeds_in n h;
  standing = standing_of n h;
}

abbrev pub first_of : Option (ℕ × ℕ) → Option (ℕ × ℕ) → Option (ℕ × ℕ)
first_of None o = o
first_of (Some x) o = Some x

-- with these entries more
abbrev pub seen_more : ℕ → Seen → List Recorded → Seen
seen_more n v es = record {
  opening = first_of v.opening (opening_in n es);
  batches = v.batches ++ batches_in n es;
  turns = v.turns ++ turns_in n es;
  given = v.given ++ given_in n es;
  deeds = v.deeds ++ deeds_in n es;
  standing = standing_from n v.standing es;
}

pushed : {A : Type 0} (t : Bool) (x : A) (xs ys zs : List A) → xs ≡ ys ++ zs → cond t (x ∷ xs) xs ≡ cond t (x ∷ ys) ys ++ zs
pushed true x xs ys zs e = ap (λ t. x ∷ t) e
pushed false x xs ys zs e = e

opening-step : (t : Bool) (x : ℕ × ℕ) (a b c : Option (ℕ × ℕ)) → a ≡ first_of b c → cond t (Some x) a ≡ first_of (cond t (Some x) b) c
opening-step true x a b c e = refl
opening-step false x a b c e = e

opening-join : (n : ℕ) (h es : List Recorded) → opening_in n (h ++ es) ≡ first_of (opening_in n h) (opening_in n es)
opening-join n [] es = refl
opening-join n (opened turn session id seed time ∷ h) es =
    opening-step (eqb session n) (seed, time) (opening_in n (h ++ es)) (opening_in n h) (opening_in n es) (opening-join n h es)
opening-join n (admitted turn session b ∷ h) es = opening-join n h es
opening-join n (served turn session number k name args time reply ∷ h) es = opening-join n h es
opening-join n (done turn session number how ∷ h) es = opening-join n h es
opening-join n (closed turn session ∷ h) es = opening-join n h es
opening-join n (ended turn status ∷ h) es = opening-join n h es

batches-join : (n : ℕ) (h es : List Recorded) → batches_in n (h ++ es) ≡ batches_in n h ++ batches_in n es
batches-join n [] es = refl
batches-join n (opened turn session id seed time ∷ h) es = batches-join n h es
batches-join n (admitted turn session b ∷ h) es = pushed (eqb session n) b (batches_in n (h ++ es)) (batches_in n h) (batches_in n es) (batches-join n h es)
batches-join n (served turn session number k name args time reply ∷ h) es = batches-join n h es
batches-join n (done turn session number how ∷ h) es = batches-join n h es
batches-join n (closed turn session ∷ h) es = batches-join n h es
batches-join n (ended turn status ∷ h) es = batches-join n h es

turns-join : (n : ℕ) (h es : List Recorded) → turns_in n (h ++ es) ≡ turns_in n h ++ turns_in n es
turns-join n [] es = refl
turns-join n (opened turn session id seed time ∷ h) es = pushed (eqb session n) turn (turns_in n (h ++ es)) (turns_in n h) (turns_in n es) (turns-join n h es)
turns-join n (admitted turn session b ∷ h) es = pushed (eqb session n) turn (turns_in n (h ++ es)) (turns_in n h) (turns_in n es) (turns-join n h es)
turns-join n (served turn session number k name args time reply ∷ h) es = turns-join n h es
turns-join n (done turn session number how ∷ h) es = turns-join n h es
turns-join n (closed turn session ∷ h) es = turns-join n h es
turns-join n (ended turn status ∷ h) es = turns-join n h es

given-join : (n : ℕ) (h es : List Recorded) → given_in n (h ++ es) ≡ given_in n h ++ given_in n es
given-join n [] es = refl
given-join n (opened turn session id seed time ∷ h) es = given-join n h es
given-join n (admitted turn session b ∷ h) es = given-join n h es
given-join n (served turn session number k name args time reply ∷ h) es =
    pushed (eqb session n) (record { time = time; reply = reply }) (given_in n (h ++ es)) (given_in n h) (given_in n es) (given-join n h es)
given-join n (done turn session number how ∷ h) es = given-join n h es
given-join n (closed turn session ∷ h) es = given-join n h es
given-join n (ended turn status ∷ h) es = given-join n h es

deeds-join : (n : ℕ) (h es : List Recorded) → deeds_in n (h ++ es) ≡ deeds_in n h ++ deeds_in n es
deeds-join n [] es = refl
deeds-join n (opened turn session id seed time ∷ h) es = deeds-join n h es
deeds-join n (admitted turn session b ∷ h) es = deeds-join n h es
deeds-join n (served turn session number k name args time reply ∷ h) es =
    pushed (eqb session n) (record { turn = turn; batch = number; fact = serves k name args }) (deeds_in n (h ++ es)) (deeds_in n h) (deeds_in n es) (deeds-join n h es)
deeds-join n (done turn session number how ∷ h) es =
    pushed (eqb session n) (record { turn = turn; batch = number; fact = finishes how }) (deeds_in n (h ++ es)) (deeds_in n h) (deeds_in n es) (deeds-join n h es)
deeds-join n (closed turn session ∷ h) es = deeds-join n h es
deeds-join n (ended turn status ∷ h) es = deeds-join n h es

pub standing_join : (n : ℕ) (s : Option Standing) (h es : List Recorded) → standing_from n s (h ++ es) ≡ standing_from n (standing_from n s h) es
standing_join n s [] es = refl
standing_join n s (e ∷ h) es = standing_join n (after_entry n s e) h es

pub seen_join : (n : ℕ) (h es : List Recorded) → seen n (h ++ es) ≡ seen_more n (seen n h) es
seen_join n h es =
    (λ i. record {
      opening = opening-join n h es i;
      batches = batches-join n h es i;
      turns = turns-join n h es i;
      given = given-join n h es i;
      deeds = deeds-join n h es i;
      standing = standing_join n None h es i;
    })

-- ---- entries of others

-- none of them is of this session
abbrev pub AreOthers : ℕ → List Recorded → Type 0
AreOthers n es = AllByRecursion (λ (e : Recorded). is_of n e ≡ false) es

without : {A : Type 0} (t : Bool) (x y : A) → t ≡ false → cond t x y ≡ y
without true x y e = absurd (true≢false e)
without false x y e = refl

-- what they are of this session
record Nothing (n : ℕ) (es : List Recorded) : Type 0 where
  opening : opening_in n es ≡ None
  batches : batches_in n es ≡ []
  turns : turns_in n es ≡ []
  given : given_in n es ≡ []
  deeds : deeds_in n es ≡ []
  standing : (s : Option Standing) → standing_from n s es ≡ s

nothing-step : (n : ℕ) (e : Recorded) (es : List Recorded) → is_of n e ≡ false → Nothing n es → Nothing n (e ∷ es)
nothing-step n (opened turn session id seed time) es o k = record {
  opening = without (eqb session n) (Some (seed, time)) (opening_in n es) o ∙ k.opening;
  batches = k.batches;
  turns = without (eqb session n) (turn ∷ turns_in n es) (turns_in n es) o ∙ k.turns;
  given = k.given;
  deeds = k.deeds;
  standing = λ s. ap (λ (t : Option Standing). standing_from n t es) (without (eqb session n) (Some when_opened) s o) ∙ k.standing s;
}
nothing-step n (admitted turn session b) es o k = record {
  opening = k.opening;
  batches = without (eqb session n) (b ∷ batches_in n es) (batches_in n es) o ∙ k.batches;
  turns = without (eqb session n) (turn ∷ turns_in n es) (turns_in n es) o ∙ k.turns;
  given = k.given;
  deeds = k.deeds;
  standing = λ s. ap (λ (t : Option Standing). standing_from n t es) (without (eqb session n) (option_map (when_admitted b.number) s) s o) ∙ k.standing s;
}
nothing-step n (served turn session number j name args time reply) es o k = record {
  opening = k.opening;
  batches = k.batches;
  turns = k.turns;
  given = without (eqb session n) (record { time = time; reply = reply } ∷ given_in n es) (given_in n es) o ∙ k.given;
  deeds = without (eqb session n) (record { turn = turn; batch = number; fact = serves j name args } ∷ deeds_in n es) (deeds_in n es) o ∙ k.deeds;
  standing = k.standing;
}
nothing-step n (done turn session number how) es o k = record {
  opening = k.opening;
  batches = k.batches;
  turns = k.turns;
  given = k.given;
  deeds = without (eqb session n) (record { turn = turn; batch = number; fact = finishes how } ∷ deeds_in n es) (deeds_in n es) o ∙ k.deeds;
  standing = λ s. ap (λ (t : Option Standing). standing_from n t es) (without (eqb session n) (option_map (when_done number (option_map reason_of how)) s) s o) ∙ k.standing s;
}
nothing-step n (closed turn session) es o k = record {
  opening = k.opening;
  batches = k.batches;
  turns = k.turns;
  given = k.given;
  deeds = k.deeds;
  standing = λ s. ap (λ (t : Option Standing). standing_from n t es) (without (eqb session n) (option_map when_closed s) s o) ∙ k.standing s;
}
nothing-step n (ended turn status) es o k = record {
  opening = k.opening;
  batches = k.batches;
  turns = k.turns;
  given = k.given;
  deeds = k.deeds;
  standing = k.standing;
}

nothing : (n : ℕ) (es : List Recorded) → AreOthers n es → Nothing n es
nothing n [] o = record { opening = refl; batches = refl; turns = refl; given = refl; deeds = refl; standing = λ s. refl }
nothing n (e ∷ es) o = nothing-step n e es o.0 (nothing n es o.1)

pub first-none : (o : Option (ℕ × ℕ)) → first_of o None ≡ o
first-none None = refl
first-none (Some x) = refl

-- they change nothing of it
pub seen_others : (n : ℕ) (h es : List Recorded) → AreOthers n es → seen n (h ++ es) ≡ seen n h
seen_others n h es o =
    let k = nothing n es o in
    seen_join n h es
    ∙ (λ i. record {
      opening = (ap (first_of (opening_in n h)) k.opening ∙ first-none (opening_in n h)) i;
      batches = (ap (λ (t : List Contents). batches_in n h ++ t) k.batches ∙ append-nil (batches_in n h)) i;
      turns = (ap (λ (t : List ℕ). turns_in n h ++ t) k.turns ∙ append-nil (turns_in n h)) i;
      given = (ap (λ (t : List Given). given_in n h ++ t) k.given ∙ append-nil (given_in n h)) i;
      deeds = (ap (λ (t : List Deed). deeds_in n h ++ t) k.deeds ∙ append-nil (deeds_in n h)) i;
      standing = k.standing (standing_of n h) i;
    })

-- ---- its own entries of a turn

same : (n : ℕ) → eqb n n ≡ true
same n = eq-eqb n n refl

pub chosen : {A : Type 0} (t : Bool) (x y : A) → t ≡ true → cond t x y ≡ x
chosen true x y e = refl
chosen false x y e = absurd (false≢true e)

-- the deed of a served call in a turn
abbrev serve_deed : ℕ → Serving → Deed
serve_deed turn s = record { turn = turn; batch = s.batch; fact = serves s.number s.name s.args }

abbrev entries : ℕ → ℕ → List Serving → List Given → List Recorded
entries turn n ss gs = map (served_entry turn n) (zip ss gs)

served-opening : (turn n : ℕ) (ss : List Serving) (gs : List Given) (es : List Recorded) → opening_in n (entries turn n ss gs ++ es) ≡ opening_in n es
served-opening turn n [] gs es = refl
served-opening turn n (s ∷ ss) [] es = refl
served-opening turn n (s ∷ ss) (g ∷ gs) es = served-opening turn n ss gs es

served-batches : (turn n : ℕ) (ss : List Serving) (gs : List Given) (es : List Recorded) → batches_in n (entries turn n ss gs ++ es) ≡ batches_in n es
served-batches turn n [] gs es = refl
served-batches turn n (s ∷ ss) [] es = refl
served-batches turn n (s ∷ ss) (g ∷ gs) es = served-batches turn n ss gs es

served-turns : (turn n : ℕ) (ss : List Serving) (gs : List Given) (es : List Recorded) → turns_in n (entries turn n ss gs ++ es) ≡ turns_in n es
served-turns turn n [] gs es = refl
served-turns turn n (s ∷ ss) [] es = refl
served-turns turn n (s ∷ ss) (g ∷ gs) es = served-turns turn n ss gs es

served-standing : (turn n : ℕ) (t : Option Standing) (ss : List Serving) (gs : List Given) (es : List Recorded)
    → standing_from n t (entries turn n ss gs ++ es) ≡ standing_from n t es
served-standing turn n t [] gs es = refl
served-standing turn n t (s ∷ ss) [] es = refl
served-standing turn n t (s ∷ ss) (g ∷ gs) es = served-standing turn n t ss gs es

served-given : (turn n : ℕ) (ss : List Serving) (gs : List Given) (es : List Recorded) → length ss ≡ length gs
    → given_in n (entries turn n ss gs ++ es) ≡ gs ++ given_in n es
served-given turn n [] [] es e = refl
served-given turn n [] (g ∷ gs) es e = absurd (omega (arith, e))
served-given turn n (s ∷ ss) [] es e = absurd (omega (arith, e))
served-given turn n (s ∷ ss) (g ∷ gs) es e =
    let rest = given_in n (entries turn n ss gs ++ es) in
    chosen (eqb n n) (g ∷ rest) rest (same n) ∙ ap (λ (t : List Given). g ∷ t) (served-given turn n ss gs es (omega (arith, e)))

served-deeds : (turn n : ℕ) (ss : List Serving) (gs : List Given) (es : List Recorded) → length ss ≡ length gs
    → deeds_in n (entries turn n ss gs ++ es) ≡ map (serve_deed turn) ss ++ deeds_in n es
served-deeds turn n [] [] es e = refl
served-deeds turn n [] (g ∷ gs) es e = absurd (omega (arith, e))
served-deeds turn n (s ∷ ss) [] es e = absurd (omega (arith, e))
served-deeds turn n (s ∷ ss) (g ∷ gs) es e =
    let rest = deeds_in n (entries turn n ss gs ++ es) in
    chosen (eqb n n) (serve_deed turn s ∷ rest) rest (same n) ∙ ap (λ (t : List Deed). serve_deed turn s ∷ t) (served-deeds turn n ss gs es (omega (arith, e)))

-- as many are served as are counted
count-step : (batch : ℕ) (f : Fact) (ss : List Serving) (n : ℕ) → length ss ≡ n → length (serving_of batch f ++ ss) ≡ cond (serves_call f) (suc n) n
count-step batch passes ss n e = e
count-step batch (serves number name args) ss n e = ap suc e
count-step batch (finishes how) ss n e = e

pub servings_count : (ps : List Part) → length (servings_in ps) ≡ served_count ps
servings_count [] = refl
servings_count (p ∷ ps) = count-step p.batch p.fact (servings_in ps) (served_count ps) (servings_count ps)

-- parts in which no batch is done: their deeds are served calls
serves-step : (u : ℕ) (turns : List ℕ) (last : ℕ) (p : Part) (r : List Deed) (ss : List Serving) (f : Fact) → p.fact ≡ f → InTurn u turns last p
    → ends_batch f ≡ false → r ≡ map (serve_deed (u + 1)) ss
    → cond (is_deed f) (deed_of turns p ∷ r) r ≡ map (serve_deed (u + 1)) (serving_of p.batch f ++ ss)
serves-step u turns last p r ss passes is t goes e = e
serves-step u turns last p r ss (serves number name args) is t goes e =
    (λ i. record { turn = t.turn i; batch = p.batch; fact = is i } ∷ e i)
serves-step u turns last p r ss (finishes how) is t goes e = absurd (true≢false goes)

unfinished-deeds : (u : ℕ) (turns : List ℕ) (last : ℕ) (ps : List Part) → AllByRecursion (InTurn u turns last) ps → has_finished ps ≡ false
    → deeds_of turns ps ≡ map (serve_deed (u + 1)) (servings_in ps)
unfinished-deeds u turns last [] t h = refl
unfinished-deeds u turns last (p ∷ ps) t h =
    let both = or_parts (ends_batch p.fact) (has_finished ps) h in
    serves-step u turns last p (deeds_of turns ps) (servings_in ps) p.fact refl t.0 both.0 (unfinished-deeds u turns last ps t.1 both.1)

-- the deed of a batch that is done
abbrev done_deeds : ℕ → ℕ → Progress → List Deed
done_deeds turn number Busy = []
done_deeds turn number (Finished how) = record { turn = turn; batch = number; fact = finishes how } ∷ []

all-parts : {A : Type 0} (P : A → Type 0) (xs ys : List A) → AllByRecursion P (xs ++ ys) → AllByRecursion P xs × AllByRecursion P ys
all-parts P [] ys h = (tt, h)
all-parts P (x ∷ xs) ys h = let both = all-parts P xs ys h.1 in ((h.0, both.0), both.1)

last-deed : (u : ℕ) (turns : List ℕ) (last : ℕ) (p : Part) (how : Option Ending) → InTurn u turns last p → p.fact ≡ finishes how
    → deeds_of turns (p ∷ []) ≡ record { turn = u + 1; batch = last; fact = finishes how } ∷ []
last-deed u turns last p how t is =
    chosen (is_deed p.fact) (deed_of turns p ∷ []) [] (ap is_deed is) ∙ (λ i. record { turn = t.turn i; batch = t.batch i; fact = is i } ∷ [])

last-serving : (p : Part) (how : Option Ending) → p.fact ≡ finishes how → servings_in (p ∷ []) ≡ []
last-serving p how is = ap (λ (f : Fact). serving_of p.batch f ++ []) is

-- the deeds of parts that come in a turn: the served calls, and that the batch is done
turn_deeds : (u : ℕ) (turns : List ℕ) (last : ℕ) (ps : List Part) (progress : Progress) → AllByRecursion (InTurn u turns last) ps → IsProgress progress ps
    → deeds_of turns ps ≡ map (serve_deed (u + 1)) (servings_in ps) ++ done_deeds (u + 1) last progress
turn_deeds u turns last ps Busy t h = unfinished-deeds u turns last ps t h ∙ sym (append-nil (map (serve_deed (u + 1)) (servings_in ps)))
turn_deeds u turns last ps (Finished how) t f =
    let both = all-parts (InTurn u turns last) f.others (f.last ∷ []) (subst (λ (qs : List Part). AllByRecursion (InTurn u turns last) qs) f.are t) in
    let servings : servings_in ps ≡ servings_in f.others =
    ap servings_in f.are ∙ flat_map-append (λ (p : Part). serving_of p.batch p.fact) f.others (f.last ∷ [])
    ∙ ap (λ (ss : List Serving). servings_in f.others ++ ss) (last-serving f.last how f.fact) ∙ append-nil (servings_in f.others) in
    let one = record { turn = u + 1; batch = last; fact = finishes how } ∷ [] in
    ap (deeds_of turns) f.are ∙ deeds_join turns f.others (f.last ∷ [])
    ∙ (λ i. unfinished-deeds u turns last f.others both.0 f.busy i ++ last-deed u turns last f.last how both.1.0 f.fact i)
    ∙ ap (λ (ss : List Serving). map (serve_deed (u + 1)) ss ++ one) (sym servings)

done-opening : (turn n number : ℕ) (p : Progress) → opening_in n (done_entries turn n number p) ≡ None
done-opening turn n number Busy = refl
done-opening turn n number (Finished how) = refl

done-batches : (turn n number : ℕ) (p : Progress) → batches_in n (done_entries turn n number p) ≡ []
done-batches turn n number Busy = refl
done-batches turn n number (Finished how) = refl

done-turns : (turn n number : ℕ) (p : Progress) → turns_in n (done_entries turn n number p) ≡ []
done-turns turn n number Busy = refl
done-turns turn n number (Finished how) = refl

done-given : (turn n number : ℕ) (p : Progress) → given_in n (done_entries turn n number p) ≡ []
done-given turn n number Busy = refl
done-given turn n number (Finished how) = refl

done-deeds : (turn n number : ℕ) (p : Progress) → deeds_in n (done_entries turn n number p) ≡ done_deeds turn number p
done-deeds turn n number Busy = refl
done-deeds turn n number (Finished how) = chosen (eqb n n) (record { turn = turn; batch = number; fact = finishes how } ∷ []) [] (same n)

done-standing : (turn n number : ℕ) (s : Standing) (p : Progress) → standing_from n (Some s) (done_entries turn n number p) ≡ Some (after_progress number p s)
done-standing turn n number s Busy = refl
done-standing turn n number s (Finished how) =
    chosen (eqb n n) (option_map (when_done number (option_map reason_of how)) (Some s)) (Some s) (same n)

-- what a history has of a session after its entries of a turn
pub seen_advance : (u n : ℕ) (h : List Recorded) (ps : List Part) (given : List Given) (progress : Progress) (last : ℕ) (s : Standing)
    → standing_of n h ≡ Some s → AllByRecursion (InTurn u (turns_in n h) last) ps → IsProgress progress ps → served_count ps ≡ length given
    → seen n (h ++ (served_entries (u + 1) n ps given ++ done_entries (u + 1) n last progress))
    ≡ record {
      opening = opening_in n h;
      batches = batches_in n h;
      turns = turns_in n h;
      given = given_in n h ++ given;
      deeds = deeds_in n h ++ deeds_of (turns_in n h) ps;
      standing = Some (after_progress last progress s);
    }
seen_advance u n h ps given progress last s is t so count =
    let T = u + 1 in
    let ss = servings_in ps in
    let ds = done_entries T n last progress in
    let long : length ss ≡ length given = servings_count ps ∙ count in
    let gives : given_in n (entries T n ss given ++ ds) ≡ given =
    served-given T n ss given ds long ∙ ap (λ (gs : List Given). given ++ gs) (done-given T n last progress) ∙ append-nil given in
    let deeds : deeds_in n (entries T n ss given ++ ds) ≡ deeds_of (turns_in n h) ps =
    served-deeds T n ss given ds long ∙ ap (λ (xs : List Deed). map (serve_deed T) ss ++ xs) (done-deeds T n last progress)
    ∙ sym (turn_deeds u (turns_in n h) last ps progress t so) in
    seen_join n h (served_entries T n ps given ++ ds)
    ∙ (λ i. record {
      opening = (ap (first_of (opening_in n h)) (served-opening T n ss given ds ∙ done-opening T n last progress) ∙ first-none (opening_in n h)) i;
      batches = (ap (λ (bs : List Contents). batches_in n h ++ bs) (served-batches T n ss given ds ∙ done-batches T n last progress) ∙ append-nil (batches_in n h)) i;
      turns = (ap (λ (ts : List ℕ). turns_in n h ++ ts) (served-turns T n ss given ds ∙ done-turns T n last progress) ∙ append-nil (turns_in n h)) i;
      given = given_in n h ++ gives i;
      deeds = deeds_in n h ++ deeds i;
      standing = (ap (λ (o : Option Standing). standing_from n o (entries T n ss given ++ ds)) is
          ∙ served-standing T n (Some s) ss given ds ∙ done-standing T n last s progress) i;
    })
