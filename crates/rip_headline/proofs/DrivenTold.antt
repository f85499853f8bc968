-- What a client tells with the replies of a service, it tells with what is given then: from the last item to the first.
use Rattle.std.proofs.Common.{◌≡◌, ℕ, List, [], ◌∷◌, ◌++◌, refl, sym, ap, subst, ◌∙◌, append_assoc}
use Rattle.std.proofs.lemmas.List.{append-nil}
use Rattle.std.proofs.lemmas.Grind.{flat_map-append}
use Rattle.std.specs.Prelude.{Option}
use Rattle.rip_eval_rows.specs.declared.close.Close.{Close}
use Rattle.rip_eval_rows.specs.declared.close.Close.TheVariants.{Fine, Refused, Mismatch, Stopped}
use Rattle.rip_wire.specs.Batches.{Contents}
use Rattle.rip_wire.specs.Items.{Reported, event, reply}
use Rattle.rip_wire.specs.declared.gesture.Gesture.{Gesture}
use Rattle.rip_wire.specs.declared.gesture.Gesture.TheVariants.{Event, Flush}
use Rattle.rip_history.specs.Parts.{Given}
use Rattle.rip_history.specs.Services.{Called, Service}
use Rattle.rip_replica.specs.Parts.{Doing}
use Rattle.rip_client.specs.declared.actor.Over.{Over}
use Rattle.rip_client.specs.Truth.{Place, IsPut, IsReportOf, Playing, Silent, TellsCall, TellsCalls, TellsEvent, TellsGesture, TellsItem, TellsList, TellsReplies, Then, Waiting, behind_call, open_batch, with_item}
use Rattle.rip_client.specs.Truth as client
use Rattle.rip_law_replica.specs.Truthful.{IsFineOrStopped, IsLegal, Seat, given_in_turn, playing_of}
use Rattle.rip_drive.specs.Driving.{driven}
use Rattle.rip_headline.specs.Driven.{call_in, calls_in, calls_of, replies_of}
use Rattle.rip_headline.proofs.Given.{AreTasks, item_back}

-- ---- the calls that were told

-- the calls of all items of a list so far
abbrev pub told : {A G : Type 0} → Place A G → List Called
told p = calls_of p.closed ++ calls_in p.items

-- a place with this giver
abbrev pub with_giver : {A G H : Type 0} → Place A G → H → Place A H
with_giver p k = record { session = p.session; giver = k; closed = p.closed; number = p.number; items = p.items; waiting = p.waiting }

abbrev batch_calls : Contents → List Called
batch_calls b = calls_in b.items

calls_push : (items : List Reported) (item : Reported) → calls_in (items ++ item ∷ []) ≡ calls_in items ++ call_in item
calls_push items item = flat_map-append call_in items (item ∷ []) ∙ ap (λ cs. calls_in items ++ cs) (append-nil (call_in item))

pub batches_push : (closed : List Contents) (b : Contents) → calls_of (closed ++ b ∷ []) ≡ calls_of closed ++ calls_in b.items
batches_push closed b = flat_map-append batch_calls closed (b ∷ []) ∙ ap (λ cs. calls_of closed ++ cs) (append-nil (calls_in b.items))

-- an item is put: it is the last of those told
told_put : {A G : Type 0} (x : Playing A G) (item : Reported) (p q : Place A G) → IsPut x item p q → (told q ≡ told p ++ call_in item) × (q.giver ≡ p.giver)
told_put x item p q (client.fits room) = (
  ap (λ cs. calls_of p.closed ++ cs) (calls_push p.items item) ∙ sym (append_assoc (calls_of p.closed) (calls_in p.items) (call_in item)),
  refl,
)
told_put x item p q (client.opens session full turned) = (
  ap (λ cs. cs ++ calls_in (item ∷ [])) (batches_push p.closed (open_batch p)) ∙ ap (λ cs. (calls_of p.closed ++ calls_in p.items) ++ cs) (append-nil (call_in item)),
  refl,
)

module _ {A S : Type 0} (d : Doing A S) (task : Reported → A) (next : S → Option Waiting) (service : Service) (are : AreTasks d task) where
  abbrev pub There : Type 0
  There = Place (Seat S) (List Called)

  abbrev pub Here : Type 0
  Here = Place (Seat S) (List Given)

  abbrev pub x : Playing (Seat S) (List Called)
  x = driven d task next service

  abbrev pub y : Playing (Seat S) (List Given)
  y = playing_of d task next given_in_turn IsLegal

  -- what is told there is told here, where what is given are the replies to the calls that are told and those behind
  abbrev Back : (There → Close → There → Type 0) → (Here → Close → Here → Type 0) → Type 0
  Back T U = (p : There) (close : Close) (q : There) (rest : List Called) → IsFineOrStopped close → T p close q
      → (mid : List Called) × (told q ≡ told p ++ mid) × (l : List Given) × U (with_giver p (replies_of service p.giver (mid ++ rest))) close (with_giver q l)
      × (close ≡ Fine → l ≡ replies_of service q.giver rest)

  put_back : (item : Reported) (p q : There) (k : List Given) → IsPut x item p q → IsPut y item (with_giver p k) (with_giver q k)
  put_back item p q k (client.fits room) = client.fits room
  put_back item p q k (client.opens session full turned) = client.opens session full turned

  tells_back : (Kind : Reported → Type 0) → Back (TellsItem x Kind) (TellsItem y Kind)
  tells_back Kind p close q rest legal t =
      let over : Over = record { close = close; fuel = t.fuel } in
      let put = told_put x t.item p t.put t.is_put in
      let there = item_back d task service t.item t.put.session q.session t.put.giver q.giver over rest are legal t.plays in
      let gs = replies_of service p.giver (call_in t.item ++ rest) in
      let same : replies_of service t.put.giver (call_in t.item ++ rest) ≡ gs = ap (λ cs. replies_of service cs (call_in t.item ++ rest)) put.1 in (
        call_in t.item,
        ap (λ (m : There). told m) t.rest ∙ put.0,
        there.0,
        record {
          item = t.item;
          is = t.is;
          put = with_giver t.put gs;
          is_put = put_back t.item p t.put gs t.is_put;
          fuel = t.fuel;
          plays = subst (λ g. y.plays t.item t.put.session g over q.session there.0) same there.1;
          rest = ap (λ (m : There). with_giver m there.0) t.rest;
        },
        there.2,
      )

  -- one thing behind another: the calls of both
  joined : (p between q : There) (one two rest : List Called) → told between ≡ told p ++ one → told q ≡ told between ++ two → told q ≡ told p ++ (one ++ two)
  joined p between q one two rest e f = f ∙ ap (λ cs. cs ++ two) e ∙ append_assoc (told p) one two

  regiven : (calls one two rest : List Called) → replies_of service calls (one ++ (two ++ rest)) ≡ replies_of service calls ((one ++ two) ++ rest)
  regiven calls one two rest = ap (λ cs. replies_of service calls cs) (sym (append_assoc one two rest))

  then_back : (T U : There → Close → There → Type 0) (V W : Here → Close → Here → Type 0) → Back T V → Back U W → Back (Then T U) (Then V W)
  then_back T U V W one two p close q rest legal (client.goes_on between _ _ t u) =
      let b = two between close q rest legal u in
      let a = one p Fine between (b.0 ++ rest) tt t in
      let first = subst (λ g. V (with_giver p g) Fine (with_giver between a.2)) (regiven p.giver a.0 b.0 rest) a.3 in
      let second = subst (λ g. W (with_giver between g) close (with_giver q b.2)) (sym (a.4 refl)) b.3 in
      (a.0 ++ b.0, joined p between q a.0 b.0 rest a.1 b.1, b.2, client.goes_on (with_giver between a.2) close (with_giver q b.2) first second, b.4)
  then_back T U V W one two p close q rest legal (client.breaks _ _ broken t) =
      let a = one p close q rest legal t in
      (a.0, a.1, a.2, client.breaks close (with_giver q a.2) broken a.3, a.4)

  silent_back : Back Silent Silent
  silent_back p close q rest legal t =
      let l = replies_of service p.giver rest in (
        [],
        ap (λ (m : There). told m) t.1 ∙ sym (append-nil (told p)),
        l,
        (t.0, ap (λ (m : There). with_giver m l) t.1),
        λ fine. ap (λ cs. replies_of service cs rest) (sym (ap (λ (m : There). m.giver) t.1)),
      )

  -- ---- calls

  behind_told : {G : Type 0} (c : Waiting) (close : Close) (p : Place (Seat S) G) → told (behind_call c close p) ≡ told p
  behind_told c Fine p = refl
  behind_told c (Refused item kind) p = refl
  behind_told c (Mismatch item) p = refl
  behind_told c (Stopped item stop) p = refl

  behind_giver : (c : Waiting) (close : Close) (p : There) → (let q = behind_call c close p in q.giver) ≡ p.giver
  behind_giver c Fine p = refl
  behind_giver c (Refused item kind) p = refl
  behind_giver c (Mismatch item) p = refl
  behind_giver c (Stopped item stop) p = refl

  behind_seen : (c : Waiting) (close : Close) (p : There) (k : List Given) → with_giver (behind_call c close p) k ≡ behind_call c close (with_giver p k)
  behind_seen c Fine p k = refl
  behind_seen c (Refused item kind) p k = refl
  behind_seen c (Mismatch item) p k = refl
  behind_seen c (Stopped item stop) p k = refl

  call_back : (c : Waiting) → Back (TellsCall x c) (TellsCall y c)
  call_back c p close q rest legal t =
      let a = tells_back (IsReportOf c) p close t.told rest legal t.tells in (
        a.0,
        ap (λ (m : There). told m) t.behind ∙ behind_told c close t.told ∙ a.1,
        a.2,
        record { told = with_giver t.told a.2; tells = a.3; behind = ap (λ (m : There). with_giver m a.2) t.behind ∙ behind_seen c close t.told a.2 },
        λ fine. a.4 fine ∙ ap (λ cs. replies_of service cs rest) (sym (ap (λ (m : There). m.giver) t.behind ∙ behind_giver c close t.told)),
      )

  calls_back : Back (TellsCalls x) (TellsCalls y)
  calls_back p close q rest legal (client.none _ none) =
      ([], sym (append-nil (told p)), replies_of service p.giver rest, client.none (with_giver p (replies_of service p.giver rest)) none, λ fine. refl)
  calls_back p close q rest legal (client.more _ c between _ _ waits call others) =
      let b = calls_back between close q rest legal others in
      let a = call_back c p Fine between (b.0 ++ rest) tt call in
      let first = subst (λ g. TellsCall y c (with_giver p g) Fine (with_giver between a.2)) (regiven p.giver a.0 b.0 rest) a.3 in
      let second = subst (λ g. TellsCalls y (with_giver between g) close (with_giver q b.2)) (sym (a.4 refl)) b.3 in (
        a.0 ++ b.0,
        joined p between q a.0 b.0 rest a.1 b.1,
        b.2,
        client.more (with_giver p (replies_of service p.giver ((a.0 ++ b.0) ++ rest))) c (with_giver between a.2) close (with_giver q b.2) waits first second,
        b.4,
      )
  calls_back p close q rest legal (client.breaks _ c _ _ waits broken call) =
      let a = call_back c p close q rest legal call in
      (a.0, a.1, a.2, client.breaks (with_giver p (replies_of service p.giver (a.0 ++ rest))) c close (with_giver q a.2) waits broken a.3, a.4)

  -- ---- a list

  replies_back : (ks : List ℕ) → Back (TellsReplies x ks) (TellsReplies y ks)
  replies_back [] = silent_back
  replies_back (n ∷ ks) =
      then_back (TellsItem x (λ item. item ≡ reply n)) (Then (TellsCalls x) (TellsReplies x ks)) (TellsItem y (λ item. item ≡ reply n)) (Then (TellsCalls y) (TellsReplies y ks))
      (tells_back (λ item. item ≡ reply n))
      (then_back (TellsCalls x) (TellsReplies x ks) (TellsCalls y) (TellsReplies y ks) calls_back (replies_back ks))

  event_back : (g : Gesture) → Back (TellsEvent x g) (TellsEvent y g)
  event_back (Event e) =
      then_back (TellsItem x (λ item. item ≡ event e.kind e.node e.text e.place)) (TellsCalls x) (TellsItem y (λ item. item ≡ event e.kind e.node e.text e.place)) (TellsCalls y)
      (tells_back (λ item. item ≡ event e.kind e.node e.text e.place)) calls_back
  event_back Flush = silent_back

  list_back : (g : Gesture) → Back (TellsList x g) (TellsList y g)
  list_back g p close q rest legal t =
      then_back (TellsCalls x) (Then (TellsReplies x p.waiting) (TellsEvent x g)) (TellsCalls y) (Then (TellsReplies y p.waiting) (TellsEvent y g))
      calls_back
      (then_back (TellsReplies x p.waiting) (TellsEvent x g) (TellsReplies y p.waiting) (TellsEvent y g) (replies_back p.waiting) (event_back g))
      (record p { waiting = [] }) close q rest legal t

  -- a gesture that is told there is told here, by the same batches
  pub gesture_back : (gesture : Gesture) (a b : Seat S) (g h : List Called) (number following : ℕ) (waiting waits : List ℕ) (close : Close) (batches : List Contents) (rest : List Called)
      → IsFineOrStopped close → TellsGesture x gesture a g number waiting close batches b h following waits
      → (l : List Given) × TellsGesture y gesture a (replies_of service g (calls_of batches ++ rest)) number waiting close batches b l following waits × (close ≡ Fine → l ≡ replies_of service h rest)
  gesture_back gesture a b g h number following waiting waits close batches rest legal t =
      let start : There = record { session = t.first; giver = g; closed = []; number = number; items = []; waiting = waiting } in
      let there = list_back gesture start close t.last rest legal t.tells in
      let same : calls_of batches ≡ there.0 = ap (λ bs. calls_of bs) t.are ∙ batches_push t.last.closed (open_batch t.last) ∙ there.1 in (
        there.2,
        record {
          first = t.first;
          turns = t.turns;
          last = with_giver t.last there.2;
          tells = subst (λ cs. TellsList y gesture (with_giver start (replies_of service g (cs ++ rest))) close (with_giver t.last there.2)) (sym same) there.3;
          are = t.are;
          session_is = t.session_is;
          giver_is = refl;
          number_is = t.number_is;
          waiting_is = t.waiting_is;
        },
        λ fine. there.4 fine ∙ ap (λ cs. replies_of service cs rest) (sym t.giver_is),
      )
