-- The entries of requests are in range.
use Rattle.std.proofs.Common.{◌≡◌, ◌⊎◌, inl, inr, ℕ, ◌+◌, ◌<◌, ◌≤◌, ◌^◌, Bool, true, false, cond, ◌&&◌, eqb, ltb, leb, List, [], ◌∷◌, length, Option, Some, None, refl, sym, subst, arith}
use Rattle.std.specs.Prelude.{codes}
use Rattle.std.specs.List.{AllByRecursion, cons_option}
use Rattle.std.proofs.lemmas.Bool.{leb-false, lt-ltb, and_from}
use Rattle.std.proofs.lemmas.Option.{same_Some}
use Rattle.rip_http.specs.declared.request.Message.{Message}
use Rattle.rip_http.specs.declared.request.Route.{Route}
use Rattle.rip_http.specs.declared.request.Route.TheVariants.{Page, Events, Quit}
use Rattle.rip_wire.specs.Batches.{Contents, IsBatch}
use Rattle.rip_log.specs.Entries.{Recorded, opened, admitted, served, done, closed, ended}
use Rattle.rip_log.specs.Ranges.{IsLong, IsShort, IsRecorded}
use Rattle.rip_history.specs.Connections.{Connection}
use Rattle.rip_history.specs.Course.{Handled, decided_entries, draws, Draws, HandledDraw, IsMadeIn}
use Rattle.rip_history.specs.Decisions.{batch_decision, close_decision}
use Rattle.rip_history.specs.declared.decision.BatchDecision.{BatchDecision}
use Rattle.rip_history.specs.declared.decision.BatchDecision.TheVariants as on_batch
use Rattle.rip_history.specs.declared.decision.CloseDecision.{CloseDecision}
use Rattle.rip_history.specs.declared.decision.CloseDecision.TheVariants as on_close
use Rattle.rip_history.specs.declared.standing.Standing.{Standing}
use Rattle.rip_history.specs.Requests.{Asked, page, batch, quit, Says, AsksAt, Asks, identifiers_in, was_opened, session_named, live_count, Lack, no_lack, early, late, Drawn, opens, fails, on_drawn, on_batch_of, on_batch_to, on_close_of, on_close_to, for_session, named_by, decide}
use Rattle.rip_history.specs.Run.{Site, State, Arrived, refused, message, Handling, IsAsked, IsFirst, AreHandledSo, after_arrived, after_handling, after_handlings, asked_of, asked_in, Coming, knocked_at, handled_at, after_turn, IsTurn, busy_in}
use Rattle.rip_history.specs.Runs.{after_turns, AreTurns}
use Rattle.rip_history.specs.Standings.{standing_of}
use Rattle.rip_law_history.specs.Legal.{made_in}
use Rattle.rip_law_history.proofs.EntryLemmas.{advanced_history}
use Rattle.rip_law_history.proofs.WholeMadeLemmas.{all-join, all-maps, advanced_made}
use Rattle.rip_law_history.specs.Ranged.{AreTimed}
use Rattle.rip_law_history.proofs.IdentifierLemmas.{drawn_fits, seed_fits}

-- what an entry is known to be from its turn alone: one of a request is in range, one of a session is of its turn and moment
abbrev pub IsPlaced : Recorded → Type 0
IsPlaced (opened turn session id seed time) = IsRecorded (opened turn session id seed time)
IsPlaced (admitted turn session b) = IsRecorded (admitted turn session b)
IsPlaced (served turn session number k name args time reply) = IsLong turn × IsLong time
IsPlaced (done turn session number how) = IsLong turn
IsPlaced (closed turn session) = IsRecorded (closed turn session)
IsPlaced (ended turn status) = ⊥

abbrev pub ArePlaced : List Recorded → Type 0
ArePlaced h = AllByRecursion IsPlaced h

-- ---- the ordinal that an identifier names

named-step : (t : Bool) (session n : ℕ) (o : Option ℕ) → IsShort session → (o ≡ Some n → IsShort n) → cond t (Some session) o ≡ Some n → IsShort n
named-step true session n o short rest e = subst IsShort (same_Some session n e) short
named-step false session n o short rest e = rest e

named-short : (h : List Recorded) (id n : ℕ) → ArePlaced h → session_named id h ≡ Some n → IsShort n
named-short [] id n p e = absurd cc
named-short (opened turn session other seed time ∷ h) id n p e =
    named-step (eqb other id) session n (session_named id h) p.0.1 (named-short h id n p.1) e
named-short (admitted turn session b ∷ h) id n p e = named-short h id n p.1 e
named-short (served turn session number k name args time reply ∷ h) id n p e = named-short h id n p.1 e
named-short (done turn session number how ∷ h) id n p e = named-short h id n p.1 e
named-short (closed turn session ∷ h) id n p e = named-short h id n p.1 e
named-short (ended turn status ∷ h) id n p e = named-short h id n p.1 e

by-short : (h : List Recorded) (id : Option ℕ) (n : ℕ) → ArePlaced h → named_by id h ≡ Some n → IsShort n
by-short h None n p e = absurd cc
by-short h (Some id) n p e = named-short h id n p e

module _ (turn moment : ℕ) (in_turn : IsLong turn) (in_time : IsLong moment) where
  -- ---- the page is asked for

  fresh : (limit : ℕ) (h : List Recorded) (drawn : Drawn) (words left : List ℕ) (a b c : Bool) → leb limit (live_count h) ≡ a
      → leb 1000000 (length (identifiers_in h)) ≡ b → Draws (draws limit h page no_lack) drawn words left
      → ArePlaced (decided_entries turn moment (cond a (fails 503 (codes "full")) (cond b (fails 503 (codes "spent")) (cond c (fails 503 (codes "clash"))
      (opens (length (identifiers_in h) + 1) drawn.id drawn.seed)))))
  fresh limit h drawn words left true b c ea eb d = tt
  fresh limit h drawn words left false true c ea eb d = tt
  fresh limit h drawn words left false false true ea eb d = tt
  fresh limit h drawn words left false false false ea eb d =
      let few : length (identifiers_in h) < 1000000 = leb-false 1000000 (length (identifiers_in h)) eb in
      let draw : (ltb (live_count h) limit && ltb (length (identifiers_in h)) 1000000) ≡ true =
      and_from (ltb (live_count h) limit) (ltb (length (identifiers_in h)) 1000000)
      (lt-ltb (live_count h) limit (leb-false limit (live_count h) ea)) (lt-ltb (length (identifiers_in h)) 1000000 few) in
      let (first, second, third, are, is) = subst (λ (t : Bool). Draws t drawn words left) draw d in (
        (
          in_turn,
          omega (arith, few),
          subst (λ (x : Drawn). x.id < 2 ^ 128) (sym is) (drawn_fits first second third),
          subst (λ (x : Drawn). x.seed < 2 ^ 32) (sym is) (seed_fits first second third),
          in_time,
        ),
        tt,
      )

  page-late : (limit : ℕ) (h : List Recorded) (drawn : Drawn) (a b : Bool)
      → ArePlaced (decided_entries turn moment (cond a (fails 503 (codes "full")) (cond b (fails 503 (codes "spent")) (on_drawn h drawn late))))
  page-late limit h drawn true b = tt
  page-late limit h drawn false true = tt
  page-late limit h drawn false false = tt

  -- ---- a batch is sent, or the end is asked for

  batch-by : (h : List Recorded) (n : ℕ) (s : Standing) (b : Contents) → IsShort n → IsBatch b → (d : BatchDecision)
      → ArePlaced (decided_entries turn moment (on_batch_of n h s b d))
  batch-by h n s b short range on_batch.Repeat = tt
  batch-by h n s b short range on_batch.Gone = tt
  batch-by h n s b short range on_batch.Busy = tt
  batch-by h n s b short range on_batch.Old = tt
  batch-by h n s b short range on_batch.Gap = tt
  batch-by h n s b short range on_batch.Admit = ((in_turn, short, range), tt)

  batch-to : (h : List Recorded) (n : ℕ) (o : Option Standing) (b : Option Contents) → IsShort n → ((c : Contents) → b ≡ Some c → IsBatch c)
      → ArePlaced (decided_entries turn moment (on_batch_to n h o b))
  batch-to h n None b short range = tt
  batch-to h n (Some s) None short range = tt
  batch-to h n (Some s) (Some b) short range = batch-by h n s b short (range b refl) (batch_decision s b.number)

  batch-for : (h : List Recorded) (o : Option ℕ) (b : Option Contents) → ((n : ℕ) → o ≡ Some n → IsShort n) → ((c : Contents) → b ≡ Some c → IsBatch c)
      → ArePlaced (decided_entries turn moment (for_session o (λ n. on_batch_to n h (standing_of n h) b)))
  batch-for h None b short range = tt
  batch-for h (Some n) b short range = batch-to h n (standing_of n h) b (short n refl) range

  close-by : (n : ℕ) (s : Standing) → IsShort n → (d : CloseDecision) → ArePlaced (decided_entries turn moment (on_close_of n s d))
  close-by n s short on_close.Gone = tt
  close-by n s short on_close.Busy = tt
  close-by n s short on_close.Close = ((in_turn, short), tt)

  close-to : (n : ℕ) (o : Option Standing) → IsShort n → ArePlaced (decided_entries turn moment (on_close_to n o))
  close-to n None short = tt
  close-to n (Some s) short = close-by n s short (close_decision s)

  close-for : (h : List Recorded) (o : Option ℕ) → ((n : ℕ) → o ≡ Some n → IsShort n)
      → ArePlaced (decided_entries turn moment (for_session o (λ n. on_close_to n (standing_of n h))))
  close-for h None short = tt
  close-for h (Some n) short = close-to n (standing_of n h) (short n refl)

  -- ---- a batch that is asked for is one in range

  asked-range : (r : Route) (segment body : List ℕ) (id : Option ℕ) (b : Option Contents) (c : Contents) → AsksAt r segment body (batch id b) → b ≡ Some c → IsBatch c
  asked-range Page segment body id b c asks e = absurd cc
  asked-range Events segment body id b c (other, says, is) e =
      let same : other ≡ Some c = cc in
      let spells = subst (Says body) same says in
      spells.in_range
  asked-range Quit segment body id b c asks e = absurd cc

  decided : (limit : ℕ) (h : List Recorded) (m : Message) (a : Asked) (l : Lack) (drawn : Drawn) (words left : List ℕ) → ArePlaced h
      → (l ≡ early) ⊎ Asks m a → Draws (draws limit h a l) drawn words left → ArePlaced (decided_entries turn moment (decide limit h a drawn l))
  decided limit h m page no_lack drawn words left p asks d =
      fresh limit h drawn words left (leb limit (live_count h)) (leb 1000000 (length (identifiers_in h))) (was_opened drawn.id h) refl refl d
  decided limit h m page early drawn words left p asks d = tt
  decided limit h m page late drawn words left p asks d = page-late limit h drawn (leb limit (live_count h)) (leb 1000000 (length (identifiers_in h)))
  decided limit h m (batch id b) no_lack drawn words left p asks d = batch-for h (named_by id h) b (λ n e. by-short h id n p e) (λ c e. range asks c e)
    where
      range : (no_lack ≡ early) ⊎ Asks m (batch id b) → (c : Contents) → b ≡ Some c → IsBatch c
      range (inl e) c f = absurd cc
      range (inr asks) c f = asked-range m.route m.segment m.body id b c asks f
  decided limit h m (batch id b) early drawn words left p asks d = tt
  decided limit h m (batch id b) late drawn words left p asks d = tt
  decided limit h m (quit id) no_lack drawn words left p asks d = close-for h (named_by id h) (λ n e. by-short h id n p e)
  decided limit h m (quit id) early drawn words left p asks d = tt
  decided limit h m (quit id) late drawn words left p asks d = tt

  -- ---- requests are handled

  first-asked : (cs : List Connection) (h : Handling) → IsFirst cs h → IsAsked h.arrived
  first-asked [] h k = absurd k
  first-asked (c ∷ cs) h (inl at) = at.asked
  first-asked (c ∷ cs) h (inr k) = first-asked cs h k.1

  record Went (site : Site) (s : State) (xs : List Handled) (left : List ℕ) : Type 0 where
    placed : ArePlaced s.history
    words : List ℕ
    draw : HandledDraw site.limit turn moment s.history xs words left

  arrives : (site : Site) (s : State) (c size : ℕ) (gone : Bool) (a : Arrived) (xs : List Handled) (words left : List ℕ) → IsAsked a → ArePlaced s.history
      → HandledDraw site.limit turn moment s.history (cons_option (asked_of a) xs) words left → Went site (after_arrived site turn moment c size gone s a) xs left
  arrives site s c size gone (refused r) xs words left asked placed draw = record { placed = placed; words = words; draw = draw }
  arrives site s c size gone (message m x) xs words left asked placed (behind, d, rest) = record {
    placed =
        all-join IsPlaced s.history (decided_entries turn moment (decide site.limit s.history x.asked x.drawn x.lack)) placed
        (decided site.limit s.history m x.asked x.lack x.drawn words behind placed asked d);
    words = behind;
    draw = rest;
  }

  pub handled_placed : (site : Site) (s : State) (hs : List Handling) (words left : List ℕ) → AreHandledSo site turn moment s hs
      → HandledDraw site.limit turn moment s.history (asked_in hs) words left → ArePlaced s.history
      → ArePlaced (let x = after_handlings site turn moment s hs in x.history)
  handled_placed site s [] words left so draw placed = placed
  handled_placed site s (h ∷ hs) words left so draw placed =
      let went = arrives site s h.connection h.size h.gone h.arrived (asked_in hs) words left (first-asked s.connections.there h so.0) placed draw in
      handled_placed site (after_handling site turn moment s h) hs went.words left so.1 went.draw went.placed

  pub made_placed : (e : Recorded) → IsMadeIn turn moment e → IsPlaced e
  made_placed (opened t session id seed time) k = absurd k
  made_placed (admitted t session b) k = absurd k
  made_placed (served t session number j name args time reply) k = (subst IsLong (sym k.0) in_turn, subst IsLong (sym k.1) in_time)
  made_placed (done t session number how) k = subst IsLong (sym k) in_turn
  made_placed (closed t session) k = absurd k
  made_placed (ended t status) k = absurd k

pub turn_placed : (site : Site) (turn : ℕ) (s : State) (t : Coming) → IsLong turn → IsLong t.moment → IsTurn site turn s t → ArePlaced s.history
    → ArePlaced (let x = after_turn site turn t s in x.history)
turn_placed site turn s t in_turn in_time is placed =
    let x = handled_at site turn t s in
    subst ArePlaced (sym (advanced_history turn x t.advances))
    (all-join IsPlaced x.history (made_in turn t.advances)
    (handled_placed turn t.moment in_turn in_time site (knocked_at t s) t.handlings t.words [] is.handled is.words placed)
    (all-maps (IsMadeIn turn t.moment) IsPlaced (made_placed turn t.moment in_turn in_time) (made_in turn t.advances)
    (advanced_made site turn t.moment x (busy_in x.history) t.advances is.advanced)))

pub turns_placed : (site : Site) (turn : ℕ) (s : State) (ts : List Coming) → turn + length ts ≤ 2 ^ 64 → AreTimed ts → AreTurns site turn s ts
    → ArePlaced s.history → ArePlaced (let x = after_turns site turn s ts in x.history)
turns_placed site turn s [] few timed are placed = placed
turns_placed site turn s (t ∷ ts) few timed are placed =
    turns_placed site (turn + 1) (after_turn site turn t s) ts (omega (arith, few)) timed.1 are.1
    (turn_placed site turn s t (omega (arith, few)) timed.0 are.0 placed)
