-- What is told of turns is what is told of each, one after another.
use Rattle.std.proofs.Common.{◌≡◌, ℕ, suc, ◌+◌, Bool, true, false, cond, eqb, List, [], ◌∷◌, ◌++◌, length, map, Option, Some, None, refl, sym, ap, ◌∙◌, subst, arith, append_assoc}
use Rattle.std.specs.Prelude.{count_by, IfSome}
use Rattle.std.specs.List.{fold}
use Rattle.std.proofs.lemmas.List.Concat.{flat_map-append}
use Rattle.rip_outer.specs.Connections.{Told, knocked, is_knock}
use Rattle.rip_outer.specs.Outside.{also}
use Rattle.rip_outer.specs.declared.connections.TraceKnock.{TraceKnock}
use Rattle.rip_outer.proofs.Composing.{also-nil, also-also}
use Rattle.rip_log.specs.Entries.{entry_text}
use Rattle.rip_log.specs.Histories.{history_text}
use Rattle.rip_history.specs.Connections.{Act, puts, sends, loses, shuts, put_in, sent_in, lost_in, shut_in}
use Rattle.rip_history.specs.Run.{Site, State, first_state, Coming, after_turn, turn_acts}
use Rattle.rip_history.specs.Runs.{after_turns, turns_acts, knock_told, turns_told, knocks_by, turns_shut, AreAsked}
use Rattle.rip_law_history.proofs.EndLemmas.{put-join}
use Rattle.rip_server.specs.Acts.{shut_by}
use Rattle.rip_server.specs.Turning.{Source, Outer, Come, Gives, knocks_of, TellsTurn}
use Rattle.rip_serve.specs.Serving.{moments_of, words_of, AreTimely, AreKnocks, Tells}
use Rattle.rip_serve.proofs.TurnLemmas.{first-number, next-number}

-- what is told of turns, one after another
abbrev pub EachTold : Site → ℕ → State → List Coming → Outer → Outer → Type 0
EachTold site turn s [] old new = new ≡ old
EachTold site turn s (t ∷ ts) old new =
    (mid : Outer) × TellsTurn site turn s t old mid × EachTold site (turn + 1) (after_turn site turn t s) ts mid new

-- ---- the log, and what is sent

pub log-append : (xs ys : List Act) → history_text (put_in (xs ++ ys)) ≡ history_text (put_in xs) ++ history_text (put_in ys)
log-append xs ys = ap history_text (put-join xs ys) ∙ flat_map-append entry_text (put_in xs) (put_in ys)

held : (site : Site) (turn : ℕ) (s : State) (ts : List Coming) (old new : Outer) → EachTold site turn s ts old new
    → new.seen.held ≡ also (history_text (put_in (turns_acts site turn s ts))) old.seen.held
held site turn s [] old new e = ap (λ (o : Outer). o.seen.held) e ∙ also-nil old.seen.held
held site turn s (t ∷ ts) old new (mid, one, more) =
    let next = after_turn site turn t s in
    let first = turn_acts site turn t s in
    let others = turns_acts site (turn + 1) next ts in
    let text = history_text (put_in others) in
    held site (turn + 1) next ts mid new more
    ∙ ap (also text) (one.did.held ∙ ap (also (history_text (put_in first))) one.knocks.held)
    ∙ also-also (history_text (put_in first)) text old.seen.held
    ∙ ap (λ (bytes : List ℕ). also bytes old.seen.held) (sym (log-append first others))

more-bytes : (t : Bool) (b x y xy : List ℕ) → xy ≡ x ++ y → cond t (b ++ xy) xy ≡ cond t (b ++ x) x ++ y
more-bytes true b x y xy e = ap (λ (z : List ℕ). b ++ z) e ∙ sym (append_assoc b x y)
more-bytes false b x y xy e = e

pub sent-append : (c : ℕ) (xs ys : List Act) → sent_in c (xs ++ ys) ≡ sent_in c xs ++ sent_in c ys
sent-append c [] ys = refl
sent-append c (puts e ∷ xs) ys = sent-append c xs ys
sent-append c (sends d bytes ∷ xs) ys = more-bytes (eqb d c) bytes (sent_in c xs) (sent_in c ys) (sent_in c (xs ++ ys)) (sent-append c xs ys)
sent-append c (loses d ∷ xs) ys = sent-append c xs ys
sent-append c (shuts d ∷ xs) ys = sent-append c xs ys

sent : (c : ℕ) (site : Site) (turn : ℕ) (s : State) (ts : List Coming) (old new : Outer) → EachTold site turn s ts old new
    → new.seen.sent c ≡ also (sent_in c (turns_acts site turn s ts)) (old.seen.sent c)
sent c site turn s [] old new e = ap (λ (o : Outer). o.seen.sent c) e ∙ also-nil (old.seen.sent c)
sent c site turn s (t ∷ ts) old new (mid, one, more) =
    let next = after_turn site turn t s in
    let first = turn_acts site turn t s in
    let others = turns_acts site (turn + 1) next ts in
    sent c site (turn + 1) next ts mid new more
    ∙ ap (also (sent_in c others)) (one.did.sent c ∙ ap (also (sent_in c first)) (one.knocks.sent c))
    ∙ also-also (sent_in c first) (sent_in c others) (old.seen.sent c)
    ∙ ap (λ (bytes : List ℕ). also bytes (old.seen.sent c)) (sym (sent-append c first others))

-- ---- knocks

knock-told : (k : Option TraceKnock) → map knocked (knocks_of k) ≡ knock_told k
knock-told None = refl
knock-told (Some k) = refl

-- what is told once the turn is over
told-then : (site : Site) (turn : ℕ) (s : State) (t : Coming) (old mid : Outer) → TellsTurn site turn s t old mid
    → mid.seen.telling.told ≡ also (knock_told t.knock ++ lost_in (turn_acts site turn t s)) old.seen.telling.told
told-then site turn s t old mid one =
    let gone = lost_in (turn_acts site turn t s) in
    one.did.told ∙ ap (also gone) one.knocks.goes.told
    ∙ also-also (map knocked (knocks_of t.knock)) gone old.seen.telling.told
    ∙ ap (λ (first : List Told). also (first ++ gone) old.seen.telling.told) (knock-told t.knock)

told : (site : Site) (turn : ℕ) (s : State) (ts : List Coming) (old new : Outer) → EachTold site turn s ts old new
    → new.seen.telling.told ≡ also (turns_told site turn s ts) old.seen.telling.told
told site turn s [] old new e = ap (λ (o : Outer). o.seen.telling.told) e ∙ also-nil old.seen.telling.told
told site turn s (t ∷ ts) old new (mid, one, more) =
    let next = after_turn site turn t s in
    let knock = knock_told t.knock in
    let gone = lost_in (turn_acts site turn t s) in
    let others = turns_told site (turn + 1) next ts in
    told site (turn + 1) next ts mid new more
    ∙ ap (also others) (told-then site turn s t old mid one)
    ∙ also-also (knock ++ gone) others old.seen.telling.told

knocks : (site : Site) (turn : ℕ) (s : State) (ts : List Coming) (old new : Outer) → EachTold site turn s ts old new
    → AreKnocks site turn s ts old.seen.telling.left new.seen.telling.left
knocks site turn s [] old new e = ap (λ (o : Outer). o.seen.telling.left) e
knocks site turn s (t ∷ ts) old new (mid, one, more) =
    let next = after_turn site turn t s in (
      one.knocked.telling.left,
      one.knocks.goes.left,
      one.knocks.closed,
      subst (λ (left : Option (List TraceKnock)). AreKnocks site (turn + 1) next ts left new.seen.telling.left) one.did.left
          (knocks site (turn + 1) next ts mid new more),
    )

-- ---- what is shut

fold-lost : (n : ℕ) (xs : List Act) → fold (λ (a : ℕ) (x : Told). a + cond (is_knock x) 1 0) n (lost_in xs) ≡ n
fold-lost n [] = refl
fold-lost n (puts e ∷ xs) = fold-lost n xs
fold-lost n (sends d bytes ∷ xs) = fold-lost n xs
fold-lost n (loses d ∷ xs) = fold-lost (n + 0) xs ∙ omega arith
fold-lost n (shuts d ∷ xs) = fold-lost n xs

fold-append : (n : ℕ) (xs ys : List Told)
    → fold (λ (a : ℕ) (x : Told). a + cond (is_knock x) 1 0) n (xs ++ ys)
    ≡ fold (λ (a : ℕ) (x : Told). a + cond (is_knock x) 1 0) (fold (λ (a : ℕ) (x : Told). a + cond (is_knock x) 1 0) n xs) ys
fold-append n [] ys = refl
fold-append n (x ∷ xs) ys = fold-append (n + cond (is_knock x) 1 0) xs ys

fold-knock : (n : ℕ) (k : Option TraceKnock) → fold (λ (a : ℕ) (x : Told). a + cond (is_knock x) 1 0) n (knock_told k) ≡ knocks_by n k
fold-knock n None = refl
fold-knock n (Some k) = refl

-- how many knocks are told up to one
knock-count : (xs : List Told) (k : Option TraceKnock) → count_by is_knock (xs ++ knock_told k) ≡ knocks_by (count_by is_knock xs) k
knock-count xs k = fold-append 0 xs (knock_told k) ∙ fold-knock (count_by is_knock xs) k

-- a send that finds its connection gone is no knock
lost-count : (xs : List Told) (acts : List Act) → count_by is_knock (xs ++ lost_in acts) ≡ count_by is_knock xs
lost-count xs acts = fold-append 0 xs (lost_in acts) ∙ fold-lost (count_by is_knock xs) acts

shut-each : (acts : List Act) (xs : List Told) (shut : Option (List (ℕ × ℕ)))
    → shut_by acts (Some xs) shut ≡ also (map (λ (c : ℕ). (c, count_by is_knock xs)) (shut_in acts)) shut
shut-each [] xs shut = also-nil shut
shut-each (puts e ∷ acts) xs shut = shut-each acts xs shut
shut-each (sends d bytes ∷ acts) xs shut = shut-each acts xs shut
shut-each (loses d ∷ acts) xs shut = shut-each acts xs shut
shut-each (shuts d ∷ acts) xs shut =
    let n = count_by is_knock xs in
    shut-each acts xs (also ((d, n) ∷ []) shut) ∙ also-also ((d, n) ∷ []) (map (λ (c : ℕ). (c, n)) (shut_in acts)) shut

-- what is shut in a turn
shut-then : (site : Site) (turn : ℕ) (s : State) (t : Coming) (old mid : Outer) (xs : List Told) → TellsTurn site turn s t old mid
    → old.seen.telling.told ≡ Some xs
    → mid.seen.shut ≡ also (map (λ (c : ℕ). (c, knocks_by (count_by is_knock xs) t.knock)) (shut_in (turn_acts site turn t s))) old.seen.shut
shut-then site turn s t old mid xs one is =
    let acts = turn_acts site turn t s in
    let now = xs ++ knock_told t.knock in
    let seen : one.knocked.telling.told ≡ Some now =
    one.knocks.goes.told ∙ ap (also (map knocked (knocks_of t.knock))) is ∙ ap (λ (first : List Told). Some (xs ++ first)) (knock-told t.knock) in
    one.did.shut ∙ (λ i. shut_by acts (seen i) (one.knocks.shut i)) ∙ shut-each acts now old.seen.shut
    ∙ ap (λ (n : ℕ). also (map (λ (c : ℕ). (c, n)) (shut_in acts)) old.seen.shut) (knock-count xs t.knock)

shut : (site : Site) (turn : ℕ) (s : State) (ts : List Coming) (old new : Outer) (xs : List Told) → EachTold site turn s ts old new
    → old.seen.telling.told ≡ Some xs
    → new.seen.shut ≡ also (turns_shut site turn (count_by is_knock xs) s ts) old.seen.shut
shut site turn s [] old new xs e is = ap (λ (o : Outer). o.seen.shut) e ∙ also-nil old.seen.shut
shut site turn s (t ∷ ts) old new xs (mid, one, more) is =
    let next = after_turn site turn t s in
    let acts = turn_acts site turn t s in
    let now = knocks_by (count_by is_knock xs) t.knock in
    let first = map (λ (c : ℕ). (c, now)) (shut_in acts) in
    let others = turns_shut site (turn + 1) now next ts in
    let told_now = (xs ++ knock_told t.knock) ++ lost_in acts in
    let counts : count_by is_knock told_now ≡ now = lost-count (xs ++ knock_told t.knock) acts ∙ knock-count xs t.knock in
    let tells : mid.seen.telling.told ≡ Some told_now =
    told-then site turn s t old mid one ∙ ap (also (knock_told t.knock ++ lost_in acts)) is
    ∙ ap Some (sym (append_assoc xs (knock_told t.knock) (lost_in acts))) in
    shut site (turn + 1) next ts mid new told_now more tells
    ∙ ap (λ (n : ℕ). also (turns_shut site (turn + 1) n next ts) mid.seen.shut) counts
    ∙ ap (also others) (shut-then site turn s t old mid xs one is)
    ∙ also-also first others old.seen.shut

-- ---- what is asked

pub record Asked (site : Site) (turn : ℕ) (s : State) (ts : List Coming) (old new : Outer) : Type 0 where
  pub busy : List Bool
  pub asks : AreAsked site turn s ts busy
  pub asked : new.seen.asked ≡ also busy old.seen.asked

asked : (site : Site) (turn : ℕ) (s : State) (ts : List Coming) (old new : Outer) → EachTold site turn s ts old new
    → Asked site turn s ts old new
asked site turn s [] old new e =
    record { busy = []; asks = refl; asked = ap (λ (o : Outer). o.seen.asked) e ∙ also-nil old.seen.asked }
asked site turn s (t ∷ ts) old new (mid, one, more) =
    let rest = asked site (turn + 1) (after_turn site turn t s) ts mid new more in
    let first = one.knocks.busy in
    record {
      busy = first ++ rest.busy;
      asks = (first, rest.busy, refl, one.knocks.asks, rest.asks);
      asked = rest.asked ∙ ap (also rest.busy) (one.did.asked ∙ one.knocks.asked) ∙ also-also first rest.busy old.seen.asked;
    }

-- ---- clock and words

come-shift : (from n : ℕ) (xs : List ℕ) (later earlier : ℕ → Option ℕ) → ((j : ℕ) → later j ≡ earlier (n + j)) → Come from xs later
    → Come (n + from) xs earlier
come-shift from n [] later earlier same c = tt
come-shift from n (x ∷ xs) later earlier same c =
    let e : n + (from + 1) ≡ n + from + 1 = omega arith in (
      subst (λ (o : Option ℕ). IfSome o (λ (y : ℕ). x ≡ y)) (same from) c.0,
      subst (λ (m : ℕ). Come m xs earlier) e (come-shift (from + 1) n xs later earlier same c.1),
    )

come-append : (from : ℕ) (xs ys : List ℕ) (coming : ℕ → Option ℕ) → Come from xs coming → Come (from + length xs) ys coming → Come from (xs ++ ys) coming
come-append from [] ys coming a b = let e : from + 0 ≡ from = omega arith in subst (λ (m : ℕ). Come m ys coming) e b
come-append from (x ∷ xs) ys coming a b =
    let e : from + suc (length xs) ≡ from + 1 + length xs = omega arith in
    (a.0, come-append (from + 1) xs ys coming a.1 (subst (λ (m : ℕ). Come m ys coming) e b))

append-length : (xs ys : List ℕ) → length (xs ++ ys) ≡ length xs + length ys
append-length [] ys = omega arith
append-length (x ∷ xs) ys = let e = append-length xs ys in omega (arith, e)

pub gives_none : (s : Source) → Gives [] s s
gives_none s = record { told = also-nil s.told; first = tt; others = λ j. ap s.coming (plus j) }
  where
    plus : (j : ℕ) → j ≡ 0 + j
    plus j = omega arith

pub gives_then : (xs ys : List ℕ) (a b c : Source) → Gives xs a b → Gives ys b c → Gives (xs ++ ys) a c
gives_then xs ys a b c x y = record {
  told = y.told ∙ ap (also ys) x.told ∙ also-also xs ys a.told;
  first = come-append 0 xs ys a.coming x.first (subst (λ (m : ℕ). Come m ys a.coming) (swap (length xs)) (come-shift 0 (length xs) ys b.coming a.coming x.others y.first));
  others = λ j. y.others j ∙ x.others (length ys + j) ∙ ap a.coming (sum j);
}
  where
    swap : (n : ℕ) → n + 0 ≡ 0 + n
    swap n = omega arith

    sum : (j : ℕ) → length xs + (length ys + j) ≡ length (xs ++ ys) + j
    sum j = let e = append-length xs ys in omega (arith, e)

moments : (site : Site) (turn : ℕ) (s : State) (ts : List Coming) (old new : Outer) → EachTold site turn s ts old new
    → Gives (moments_of ts) old.clock new.clock
moments site turn s [] old new e = subst (λ (o : Outer). Gives [] old.clock o.clock) (sym e) (gives_none old.clock)
moments site turn s (t ∷ ts) old new (mid, one, more) =
    gives_then (t.moment ∷ []) (moments_of ts) old.clock mid.clock new.clock one.moment
    (moments site (turn + 1) (after_turn site turn t s) ts mid new more)

words : (site : Site) (turn : ℕ) (s : State) (ts : List Coming) (old new : Outer) → EachTold site turn s ts old new
    → Gives (words_of ts) old.words new.words
words site turn s [] old new e = subst (λ (o : Outer). Gives [] old.words o.words) (sym e) (gives_none old.words)
words site turn s (t ∷ ts) old new (mid, one, more) =
    gives_then t.words (words_of ts) old.words mid.words new.words one.words
    (words site (turn + 1) (after_turn site turn t s) ts mid new more)

timely : (site : Site) (turn : ℕ) (s : State) (ts : List Coming) (old new : Outer) → EachTold site turn s ts old new → AreTimely ts
timely site turn s [] old new e = tt
timely site turn s (t ∷ ts) old new (mid, one, more) = (one.timely, timely site (turn + 1) (after_turn site turn t s) ts mid new more)

-- ---- all that is told

pub all_told : (site : Site) (ts : List Coming) (old new : Outer) → EachTold site 1 first_state ts old new
    → Tells site ts (turns_acts site 1 first_state ts) old new
all_told site ts old new each =
    let questions = asked site 1 first_state ts old new each in
    record {
      held = held site 1 first_state ts old new each;
      sent = λ c. sent c site 1 first_state ts old new each;
      told = told site 1 first_state ts old new each;
      knocks = knocks site 1 first_state ts old new each;
      shut = λ xs is. shut site 1 first_state ts old new xs each is;
      busy = questions.busy;
      asks = questions.asks;
      asked = questions.asked;
      moments = moments site 1 first_state ts old new each;
      timely = timely site 1 first_state ts old new each;
      words = words site 1 first_state ts old new each;
    }

-- one turn more is told
pub told_more : (site : Site) (turn last : ℕ) (s : State) (ts : List Coming) (t : Coming) (old mid new : Outer) → last ≡ turn + length ts
    → EachTold site turn s ts old mid → TellsTurn site last (after_turns site turn s ts) t mid new → EachTold site turn s (ts ++ t ∷ []) old new
told_more site turn last s [] t old mid new e each one =
    let here : TellsTurn site turn s t old new =
    subst (λ (o : Outer). TellsTurn site turn s t o new) each (subst (λ (n : ℕ). TellsTurn site n s t mid new) (first-number turn last e) one) in
    (new, here, refl)
told_more site turn last s (x ∷ ts) t old mid new e (first, before_it, more) one =
    (first, before_it, told_more site (turn + 1) last (after_turn site turn x s) ts t first mid new (next-number turn last (length ts) e) more one)
