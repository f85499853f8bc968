-- What a client tells on a page that keeps replies, from one place to the next.
use Rattle.std.proofs.Common.{◌≢◌, ◌≡◌, ℕ, ◌+◌, ◌<◌, ◌≤◌, Bool, true, false, List, [], ◌∷◌, ◌++◌, map, refl, sym, ap, subst, ◌∙◌, arith, append_assoc}
use Rattle.std.specs.Prelude.{Option, Some, if◌then◌else◌}
use Rattle.std.specs.List.{AllByRecursion}
use Rattle.std.proofs.lemmas.List.{append-nil, map-append}
use Rattle.rip_heap.specs.World.{World}
use Rattle.rip_base.specs.declared.report.EventKind.{EventKind}
use Rattle.rip_eval_rows.specs.declared.close.Close.{Close}
use Rattle.rip_eval_rows.specs.declared.close.Close.TheVariants.{Fine, Refused, Mismatch, Stopped}
use Rattle.rip_replica.specs.Play.{Closes}
use Rattle.rip_wire.specs.Batches.{Contents}
use Rattle.rip_wire.specs.Items.{Reported, event, reply}
use Rattle.rip_wire.specs.declared.gesture.Gesture.{Gesture}
use Rattle.rip_wire.specs.declared.gesture.Gesture.TheVariants.{Event, Flush}
use Rattle.rip_history.specs.Parts.{Given}
use Rattle.rip_replica.specs.Parts.{Doing, first_given, whole_item}
use Rattle.rip_client.specs.Truth.{Place, IsPut, IsReportOf, Playing, Silent, TellsCall, TellsCalls, TellsEvent, TellsGesture, TellsItem, TellsList, TellsReplies, Then, Waiting, behind_call}
use Rattle.rip_client.specs.Truth as client
use Rattle.rip_law_replica.specs.Truthful.{IsDueReport, IsFineOrStopped, IsLegal, IsLegalAndDue, IsReport, Reports, Seat, given_in_turn, playing_of}
use Rattle.rip_law_replica.specs.Truthful as truthful
use Rattle.rip_headline.specs.DueReplies.{Kept, KeepsReplies, RepliesAreDue, kept_behind}

-- ---- the replies that wait

abbrev numbers : List Kept → List ℕ
numbers rs = map (λ (r : Kept). r.number) rs

abbrev Below : ℕ → List Kept → Type 0
Below n rs = AllByRecursion (λ (r : Kept). r.batch < n) rs

below_later : (n m : ℕ) (rs : List Kept) → n ≤ m → Below n rs → Below m rs
below_later n m [] le h = tt
below_later n m (r ∷ rs) le h = (omega (arith, le, h.0), below_later n m rs le h.1)

below_push : (n : ℕ) (rs : List Kept) (r : Kept) → Below n rs → r.batch < n → Below n (rs ++ r ∷ [])
below_push n [] r h lt = (lt, tt)
below_push n (s ∷ rs) r h lt = (h.0, below_push n rs r h.1 lt)

-- in a list that began with this batch, so it stands behind its open one: these calls are those whose replies are still to be
-- told, which were served before the list, and behind them come those that wait for a later one
record Stands {S : Type 0} (kept : S → List Kept) (ks : List ℕ) (first : ℕ) (page : S) (waiting : List ℕ) (number batch : ℕ) : Type 0 where
  olds : List Kept
  news : List Kept
  are : kept page ≡ olds ++ news
  old_numbers : numbers olds ≡ ks
  new_numbers : numbers news ≡ waiting
  before : Below first olds
  within : Below (number + 1) news
  from : first ≤ number
  seat : batch ≡ number

none_left : (rs : List Kept) → numbers rs ≡ [] → rs ≡ []
none_left [] e = refl
none_left (r ∷ rs) e = absurd (let f : r.number ∷ numbers rs ≡ [] = e in cc)

module _ {A S : Type 0} (d : Doing A S) (task : Reported → A) (next : S → Option Waiting) (kept : S → List Kept) (keeps : KeepsReplies d task next kept) where
  abbrev There : Type 0
  There = Place (Seat S) (List Given)

  abbrev x : Playing (Seat S) (List Given)
  x = playing_of d task next given_in_turn IsLegal

  abbrev y : Playing (Seat S) (List Given)
  y = playing_of d task next given_in_turn IsLegalAndDue

  abbrev At : List ℕ → ℕ → There → Type 0
  At ks first p = Stands kept ks first p.session.page p.waiting p.number p.session.batch

  -- behind what closed so
  abbrev After : List ℕ → ℕ → Close → There → Type 0
  After ks first Fine q = At ks first q
  After ks first (Refused item kind) q = Unit {0}
  After ks first (Mismatch item) q = Unit {0}
  After ks first (Stopped item stop) q = Unit {0}

  broken : (ks : List ℕ) (first : ℕ) (close : Close) (q : There) → close ≢ Fine → After ks first close q
  broken ks first Fine q not = absurd (not refl)
  broken ks first (Refused item kind) q not = tt
  broken ks first (Mismatch item) q not = tt
  broken ks first (Stopped item stop) q not = tt

  closed_fine : (ks : List ℕ) (first : ℕ) (close : Close) (q : There) → (close ≡ Fine → At ks first q) → After ks first close q
  closed_fine ks first Fine q f = f refl
  closed_fine ks first (Refused item kind) q f = tt
  closed_fine ks first (Mismatch item) q f = tt
  closed_fine ks first (Stopped item stop) q f = tt

  -- what is told so of one kind is told so of the other
  abbrev Passes : List ℕ → List ℕ → ℕ → (There → Close → There → Type 0) → (There → Close → There → Type 0) → Type 0
  Passes ks left first R T = (p : There) (close : Close) (q : There) → At ks first p → R p close q → T p close q × After left first close q

  -- ---- an item

  put_same : (item : Reported) (p q : There) → IsPut x item p q → IsPut y item p q
  put_same item p q (client.fits room) = client.fits room
  put_same item p q (client.opens session full turned) = client.opens session full turned

  put_stands : (ks : List ℕ) (first : ℕ) (item : Reported) (p q : There) → IsPut x item p q → At ks first p → At ks first q
  put_stands ks first item p q (client.fits room) st = st
  put_stands ks first item p q (client.opens session full turned) st =
      subst (λ (s : Seat S). Stands kept ks first s.page p.waiting (p.number + 1) s.batch) (sym turned)
      record {
        olds = st.olds;
        news = st.news;
        are = st.are;
        old_numbers = st.old_numbers;
        new_numbers = st.new_numbers;
        before = st.before;
        within = below_later (p.number + 1) (p.number + 1 + 1) st.news (omega arith) st.within;
        from = omega (arith, st.from);
        seat = refl;
      }

  put_page : (item : Reported) (p q : There) → IsPut x item p q → q.session.page ≡ p.session.page
  put_page item p q (client.fits room) = refl
  put_page item p q (client.opens session full turned) = ap (λ (a : Seat S). a.page) turned

  item_same : (Kind : Reported → Type 0) (p : There) (close : Close) (q : There) (t : TellsItem x Kind p close q) → IsLegalAndDue t.item close → TellsItem y Kind p close q
  item_same Kind p close q t legal =
      let play = t.plays in
      record {
        item = t.item;
        is = t.is;
        put = t.put;
        is_put = put_same t.item p t.put t.is_put;
        fuel = t.fuel;
        plays = record {
          is = play.is;
          batch = play.batch;
          count = play.count;
          given = play.given;
          legal = legal;
        };
        rest = t.rest;
      }

  -- the item as it was played
  played : (item : Reported) (Kind : Reported → Type 0) (p : There) (close : Close) (q : There) (t : TellsItem x Kind p close q) → t.item ≡ item
      → whole_item d t.put.session.batch (task item) (t.put.session.count + 1) t.put.session.world t.put.session.page (first_given t.put.giver)
      ≡ Closes close (let play = t.plays in play.is.gs) (let play = t.plays in play.is.fuel) (let play = t.plays in play.is.left) q.session.world q.session.page
  played item Kind p close q t is =
      let put = t.put in
      let play = t.plays in
      subst (λ (i : Reported). whole_item d put.session.batch (task i) (put.session.count + 1) put.session.world put.session.page (first_given put.giver) ≡ Closes close play.is.gs play.is.fuel play.is.left q.session.world q.session.page) is play.is.is

  -- ---- an event

  event_passes : (ks : List ℕ) (first : ℕ) (kind : EventKind) (node : ℕ) (text : Option (List ℕ)) (place : Option ℕ)
      → Passes ks ks first (TellsItem x (λ item. item ≡ event kind node text place)) (TellsItem y (λ item. item ≡ event kind node text place))
  event_passes ks first kind node text place p close q at t =
      let put = t.put in
      let play = t.plays in
      let st : At ks first put = put_stands ks first t.item p put t.is_put at in
      let legal : IsLegalAndDue t.item close = subst (λ (i : Reported). IsLegalAndDue i close) (sym t.is) (subst (λ (i : Reported). IsLegal i close) t.is play.legal) in
      let same : kept q.session.page ≡ kept put.session.page =
      keeps.events put.session.batch (put.session.count + 1) put.session.world put.session.page (first_given put.giver) kind node text place close play.is.gs play.is.fuel play.is.left
      q.session.world q.session.page (played (event kind node text place) (λ item. item ≡ event kind node text place) p close q t t.is) in
      let behind : At ks first (record put { session = q.session; giver = q.giver }) = record {
        olds = st.olds;
        news = st.news;
        are = same ∙ st.are;
        old_numbers = st.old_numbers;
        new_numbers = st.new_numbers;
        before = st.before;
        within = st.within;
        from = st.from;
        seat = play.batch ∙ st.seat;
      } in
      (item_same (λ item. item ≡ event kind node text place) p close q t legal, closed_fine ks first close q (λ e. subst (At ks first) (sym t.rest) behind))

  -- ---- a call

  call_behind : (ks : List ℕ) (first : ℕ) (c : Waiting) (page old : S) (waiting : List ℕ) (number batch put : ℕ) (b : Bool) → c.calls_back ≡ b
      → put ≡ number → batch ≡ number → kept page ≡ kept_behind c put (kept old) → (st : Stands kept ks first old waiting number put)
      → Stands kept ks first page (if c.calls_back then waiting ++ c.number ∷ [] else waiting) number batch
  call_behind ks first c page old waiting number batch put true back at seat is st =
      let new : Kept = record { number = c.number; batch = put } in
      record {
        olds = st.olds;
        news = st.news ++ new ∷ [];
        are =
            is ∙ ap (λ (b : Bool). if b then kept old ++ new ∷ [] else kept old) back
            ∙ ap (λ (rs : List Kept). rs ++ new ∷ []) st.are ∙ append_assoc st.olds st.news (new ∷ []);
        old_numbers = st.old_numbers;
        new_numbers =
            map-append (λ (r : Kept). r.number) st.news (new ∷ []) ∙ ap (λ (ns : List ℕ). ns ++ c.number ∷ []) st.new_numbers
            ∙ ap (λ (b : Bool). if b then waiting ++ c.number ∷ [] else waiting) (sym back);
        before = st.before;
        within = below_push (number + 1) st.news new st.within (omega (arith, at));
        from = st.from;
        seat = seat;
      }
  call_behind ks first c page old waiting number batch put false back at seat is st = record {
    olds = st.olds;
    news = st.news;
    are = is ∙ ap (λ (b : Bool). if b then kept old ++ record { number = c.number; batch = put } ∷ [] else kept old) back ∙ st.are;
    old_numbers = st.old_numbers;
    new_numbers = st.new_numbers ∙ ap (λ (b : Bool). if b then waiting ++ c.number ∷ [] else waiting) (sym back);
    before = st.before;
    within = st.within;
    from = st.from;
    seat = seat;
  }

  call_fine : (ks : List ℕ) (first : ℕ) (c : Waiting) (p q : There) → next p.session.page ≡ Some c → At ks first p → TellsCall x c p Fine q → At ks first q
  call_fine ks first c p q waits at t =
      let told = t.told in
      let tells = t.tells in
      let put = tells.put in
      let play = tells.plays in
      let st : At ks first put = put_stands ks first tells.item p put tells.is_put at in
      let there : next put.session.page ≡ Some c = ap next (put_page tells.item p put tells.is_put) ∙ waits in
      let is : kept told.session.page ≡ kept_behind c put.session.batch (kept put.session.page) =
      keeps.calls put.session.batch (put.session.count + 1) put.session.world put.session.page (first_given put.giver) c tells.item play.is.gs play.is.fuel play.is.left
      told.session.world told.session.page there tells.is play.is.is in
      let behind : At ks first (behind_call c Fine (record put { session = told.session; giver = told.giver })) =
      call_behind ks first c told.session.page put.session.page put.waiting put.number told.session.batch put.session.batch c.calls_back refl st.seat (play.batch ∙ st.seat) is st in
      subst (At ks first) (sym (t.behind ∙ ap (behind_call c Fine) tells.rest)) behind

  call_same : (c : Waiting) (p : There) (close : Close) (q : There) → TellsCall x c p close q → TellsCall y c p close q
  call_same c p close q t =
      let tells = t.tells in
      let is = tells.is in
      record {
        told = t.told;
        tells = item_same (IsReportOf c) p close t.told tells (subst (λ (i : Reported). IsLegalAndDue i close) (sym is.is) tt);
        behind = t.behind;
      }

  calls_pass : (ks : List ℕ) (first : ℕ) → Passes ks ks first (TellsCalls x) (TellsCalls y)
  calls_pass ks first p close q at (client.none _ none) = (client.none p none, at)
  calls_pass ks first p close q at (client.more _ c m _ _ waits first_call rest) =
      let others = calls_pass ks first m close q (call_fine ks first c p m waits at first_call) rest in
      (client.more p c m close q waits (call_same c p Fine m first_call) others.0, others.1)
  calls_pass ks first p close q at (client.breaks _ c _ _ waits not last_call) =
      (client.breaks p c close q waits not (call_same c p close q last_call), broken ks first close q not)

  -- ---- a reply

  reply_due : (k : ℕ) (ks : List ℕ) (first : ℕ) (page old : S) (waiting : List ℕ) (number batch put n : ℕ) (w : World) (g : Given) (close : Close) (more : List (S → S)) (fuel left : ℕ) (v : World)
      → batch ≡ put → whole_item d put (task (reply k)) n w old g ≡ Closes close more fuel left v page
      → (st : Stands kept (k ∷ ks) first old waiting number put) → (olds : List Kept) → st.olds ≡ olds
      → IsFineOrStopped close × Stands kept ks first page waiting number batch
  reply_due k ks first page old waiting number batch put n w g close more fuel left v same is st [] none =
      absurd (let f : [] ≡ k ∷ ks = ap numbers (sym none) ∙ st.old_numbers in cc)
  reply_due k ks first page old waiting number batch put n w g close more fuel left v same is st (o ∷ os) some =
      let both : o.number ∷ numbers os ≡ k ∷ ks = ap numbers (sym some) ∙ st.old_numbers in
      let own : o.number ≡ k = cc in
      let others : numbers os ≡ ks = cc in
      let below : Below first (o ∷ os) = subst (Below first) some st.before in
      let goes = keeps.replies put n w old g o (os ++ st.news) close more fuel left v page (st.are ∙ ap (λ (rs : List Kept). rs ++ st.news) some)
      (omega (arith, below.0, st.from, st.seat)) (subst (λ (j : ℕ). whole_item d put (task (reply j)) n w old g ≡ Closes close more fuel left v page) (sym own) is) in (
        goes.0,
        record {
          olds = os;
          news = st.news;
          are = goes.1;
          old_numbers = others;
          new_numbers = st.new_numbers;
          before = below.1;
          within = st.within;
          from = st.from;
          seat = same ∙ st.seat;
        },
      )

  reply_passes : (k : ℕ) (ks : List ℕ) (first : ℕ) → Passes (k ∷ ks) ks first (TellsItem x (λ item. item ≡ reply k)) (TellsItem y (λ item. item ≡ reply k))
  reply_passes k ks first p close q at t =
      let put = t.put in
      let play = t.plays in
      let st : At (k ∷ ks) first put = put_stands (k ∷ ks) first t.item p put t.is_put at in
      let goes = reply_due k ks first q.session.page put.session.page put.waiting put.number q.session.batch put.session.batch (put.session.count + 1) put.session.world (first_given put.giver)
      close play.is.gs play.is.fuel play.is.left q.session.world play.batch (played (reply k) (λ item. item ≡ reply k) p close q t t.is) st st.olds refl in (
        item_same (λ item. item ≡ reply k) p close q t (subst (λ (i : Reported). IsLegalAndDue i close) (sym t.is) goes.0),
        closed_fine ks first close q (λ e. subst (At ks first) (sym t.rest) goes.1),
      )

  -- ---- a list

  then_passes : (ks js is : List ℕ) (first : ℕ) (R T U V : There → Close → There → Type 0) → Passes ks js first R T → Passes js is first U V → Passes ks is first (Then R U) (Then T V)
  then_passes ks js is first R T U V one two p close q at (client.goes_on m _ _ f g) =
      let here = one p Fine m at f in
      let there = two m close q here.1 g in
      (client.goes_on m close q here.0 there.0, there.1)
  then_passes ks js is first R T U V one two p close q at (client.breaks _ _ not f) =
      let here = one p close q at f in
      (client.breaks close q not here.0, broken is first close q not)

  silent_passes : (ks : List ℕ) (first : ℕ) → Passes ks ks first Silent Silent
  silent_passes ks first p close q at h =
      (h, closed_fine ks first close q (λ e. subst (At ks first) (sym h.1) at))

  replies_pass : (ks : List ℕ) (first : ℕ) → Passes ks [] first (TellsReplies x ks) (TellsReplies y ks)
  replies_pass [] first = silent_passes [] first
  replies_pass (k ∷ ks) first =
      then_passes (k ∷ ks) ks [] first (TellsItem x (λ item. item ≡ reply k)) (TellsItem y (λ item. item ≡ reply k))
      (Then (TellsCalls x) (TellsReplies x ks)) (Then (TellsCalls y) (TellsReplies y ks)) (reply_passes k ks first)
      (then_passes ks ks [] first (TellsCalls x) (TellsCalls y) (TellsReplies x ks) (TellsReplies y ks) (calls_pass ks first) (replies_pass ks first))

  event_list : (first : ℕ) (g : Gesture) → Passes [] [] first (TellsEvent x g) (TellsEvent y g)
  event_list first (Event r) =
      then_passes [] [] [] first (TellsItem x (λ item. item ≡ event r.kind r.node r.text r.place)) (TellsItem y (λ item. item ≡ event r.kind r.node r.text r.place))
      (TellsCalls x) (TellsCalls y) (event_passes [] first r.kind r.node r.text r.place) (calls_pass [] first)
  event_list first Flush = silent_passes [] first

  list_passes : (first : ℕ) (g : Gesture) (p : There) (close : Close) (q : There) → At p.waiting first (record p { waiting = [] }) → TellsList x g p close q
      → TellsList y g p close q × After [] first close q
  list_passes first g p close q at t =
      then_passes p.waiting p.waiting [] first (TellsCalls x) (TellsCalls y) (Then (TellsReplies x p.waiting) (TellsEvent x g)) (Then (TellsReplies y p.waiting) (TellsEvent y g))
      (calls_pass p.waiting first)
      (then_passes p.waiting [] [] first (TellsReplies x p.waiting) (TellsReplies y p.waiting) (TellsEvent x g) (TellsEvent y g) (replies_pass p.waiting first) (event_list first g))
      (record p { waiting = [] }) close q at t

  -- ---- gestures

  -- between lists: the replies that wait are those of the client, of batches before the next
  abbrev Rests : S → ℕ → List ℕ → Type 0
  Rests page number waiting = (numbers (kept page) ≡ waiting) × Below number (kept page)

  begins : (page : S) (number batch : ℕ) (waiting : List ℕ) → batch ≡ number → Rests page number waiting → Stands kept waiting number page [] number batch
  begins page number batch waiting seat rests = record {
    olds = kept page;
    news = [];
    are = sym (append-nil (kept page));
    old_numbers = rests.0;
    new_numbers = refl;
    before = rests.1;
    within = tt;
    from = omega arith;
    seat = seat;
  }

  ends : (first : ℕ) (q : There) → At [] first q → Rests q.session.page (q.number + 1) q.waiting
  ends first q st =
      let are : kept q.session.page ≡ st.news = st.are ∙ ap (λ (rs : List Kept). rs ++ st.news) (none_left st.olds st.old_numbers) in
      (ap numbers are ∙ st.new_numbers, subst (Below (q.number + 1)) (sym are) st.within)

  -- a gesture, and how the client stands behind it
  gesture_same : (gesture : Gesture) (a b : Seat S) (g h : List Given) (number following : ℕ) (waiting waits : List ℕ) (close : Close) (batches : List Contents)
      → Rests a.page number waiting → (t : TellsGesture x gesture a g number waiting close batches b h following waits)
      → TellsGesture y gesture a g number waiting close batches b h following waits × After [] number close t.last
  gesture_same gesture a b g h number following waiting waits close batches rests t =
      let begun : Stands kept waiting number t.first.page [] number t.first.batch =
      subst (λ (s : Seat S). Stands kept waiting number s.page [] number s.batch) (sym t.turns) (begins a.page number number waiting refl rests) in
      let told = list_passes number gesture (record { session = t.first; giver = g; closed = []; number = number; items = []; waiting = waiting }) close t.last begun t.tells in (
        record {
          first = t.first;
          turns = t.turns;
          last = t.last;
          tells = told.0;
          are = t.are;
          session_is = t.session_is;
          giver_is = t.giver_is;
          number_is = t.number_is;
          waiting_is = t.waiting_is;
        },
        told.1,
      )

  reports_same : (gestures : List Gesture) (a : Seat S) (g : List Given) (number : ℕ) (waiting : List ℕ) (batches : List Contents)
      → Rests a.page number waiting → Reports x gestures a g number waiting batches → Reports y gestures a g number waiting batches
  reports_same gestures a g number waiting batches rests (truthful.silent _ _ _ _) = truthful.silent a g number waiting
  reports_same gestures a g number waiting batches rests (truthful.told gesture others _ b _ h _ following _ waits told rest t reports) =
      let here = gesture_same gesture a b g h number following waiting waits Fine told rests t in
      let last = t.last in
      let end : Rests last.session.page (last.number + 1) last.waiting = ends number last here.1 in
      let page : Rests b.page (last.number + 1) last.waiting = subst (λ (s : Seat S). Rests s.page (last.number + 1) last.waiting) (sym t.session_is) end in
      let behind : Rests b.page following waits = subst (λ (ws : List ℕ). Rests b.page following ws) (sym t.waiting_is) (subst (λ (n : ℕ). Rests b.page n last.waiting) (sym t.number_is) page) in
      truthful.told gesture others a b g h number following waiting waits told rest here.0 (reports_same others b h following waits rest behind reports)
  reports_same gestures a g number waiting batches rests (truthful.ended gesture others _ b _ h _ following _ waits close _ not t) =
      let here = gesture_same gesture a b g h number following waiting waits close batches rests t in
      truthful.ended gesture others a b g h number following waiting waits close batches not here.0

  told_same : (gestures : List Gesture) (given : List Given) (batches : List Contents) → IsReport d task next gestures given batches → IsDueReport d task next gestures given batches
  told_same gestures given batches t =
      let none : kept t.page ≡ [] = keeps.opening (first_given given) t.more t.fuel t.left t.world t.page t.opens in
      record {
        more = t.more;
        fuel = t.fuel;
        left = t.left;
        world = t.world;
        page = t.page;
        opens = t.opens;
        reports =
            reports_same gestures (record { world = t.world; page = t.page; batch = 0; count = 1 }) given 1 [] batches
            (ap numbers none, subst (Below 1) (sym none) tt) t.reports;
      }

pub told_due : (A S : Type 0) → RepliesAreDue A S
told_due A S d task next kept keeps gestures given batches told = told_same d task next kept keeps gestures given batches told
