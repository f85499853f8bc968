-- A session that does as another: what a client tells in the one it tells in the other.
use Rattle.std.proofs.Common.{◌≡◌, ℕ, ◌+◌, List, [], ◌∷◌, refl, sym, ap, subst, ◌∙◌}
use Rattle.rip_eval_rows.specs.declared.close.Close.{Close}
use Rattle.rip_eval_rows.specs.declared.close.Close.TheVariants.{Fine, Refused, Mismatch, Stopped}
use Rattle.rip_client.specs.declared.actor.Over.{Over}
use Rattle.rip_wire.specs.Batches.{Contents}
use Rattle.rip_wire.specs.Items.{Reported, event, reply}
use Rattle.rip_wire.specs.declared.gesture.Gesture.{Gesture}
use Rattle.rip_wire.specs.declared.gesture.Gesture.TheVariants.{Event, Flush}
use Rattle.rip_client.specs.Truth.{Place, IsPut, IsReportOf, Playing, Silent, TellsCall, TellsCalls, TellsEvent, TellsGesture, TellsItem, TellsList, TellsReplies, Then, Waiting, behind_call, open_batch}
use Rattle.rip_client.specs.Truth as truth

-- a session x, seen as one of y by `seen`, does as y does, where R says which two givers go together
pub record Follows {A G B K : Type 0} (x : Playing A G) (y : Playing B K) (seen : A → B) (R : A → G → K → Type 0) : Type 0 where
  pub turns : (n : ℕ) (a b : A) (g : G) (k : K) → x.turns n a b → R a g k → y.turns n (seen a) (seen b) × R b g k
  pub plays : (item : Reported) (a : A) (g : G) (over : Over) (b : A) (h : G) (k : K) → x.plays item a g over b h → R a g k → (l : K) × y.plays item (seen a) k over (seen b) l × R b h l
  pub next : (a : A) → x.next a ≡ y.next (seen a)

-- a place as it is seen, with this giver
abbrev pub seen_at : {A G B K : Type 0} → (A → B) → Place A G → K → Place B K
seen_at seen p k = record { session = seen p.session; giver = k; closed = p.closed; number = p.number; items = p.items; waiting = p.waiting }

-- what is told in the one is told in the other
abbrev pub Carries : {A G B K : Type 0} → (A → B) → (A → G → K → Type 0) → (Place A G → Close → Place A G → Type 0) → (Place B K → Close → Place B K → Type 0) → Type 0
Carries seen R T U = (p : Place _ _) (close : Close) (q : Place _ _) (k : _) → T p close q → R p.session p.giver k → (l : _) × U (seen_at seen p k) close (seen_at seen q l) × R q.session q.giver l

-- ---- an item

put_seen : {A G B K : Type 0} (x : Playing A G) (y : Playing B K) (seen : A → B) (R : A → G → K → Type 0) → Follows x y seen R → (item : Reported) (p q : Place A G) (k : K) → IsPut x item p q → R p.session p.giver k → IsPut y item (seen_at seen p k) (seen_at seen q k) × R q.session q.giver k
put_seen x y seen R follows item p q k (truth.fits room) r = (truth.fits room, r)
put_seen x y seen R follows item p q k (truth.opens session full turned) r =
    let there = follows.turns (p.number + 1) p.session session p.giver k turned r in
    (truth.opens (seen session) full there.0, there.1)

item_carried : {A G B K : Type 0} (x : Playing A G) (y : Playing B K) (seen : A → B) (R : A → G → K → Type 0) → Follows x y seen R → (Kind : Reported → Type 0) → Carries seen R (TellsItem x Kind) (TellsItem y Kind)
item_carried x y seen R follows Kind p close q k t r =
    let put = put_seen x y seen R follows t.item p t.put k t.is_put r in
    let played = follows.plays t.item t.put.session t.put.giver (record { close = close; fuel = t.fuel }) q.session q.giver k t.plays put.1 in (
      played.0,
      record {
        item = t.item;
        is = t.is;
        put = seen_at seen t.put k;
        is_put = put.0;
        fuel = t.fuel;
        plays = played.1;
        rest = ap (λ (m : Place _ _). seen_at seen m played.0) t.rest;
      },
      played.2,
    )

-- ---- one thing behind another

then_carried : {A G B K : Type 0} (seen : A → B) (R : A → G → K → Type 0) (T U : Place A G → Close → Place A G → Type 0) (V W : Place B K → Close → Place B K → Type 0) → Carries seen R T V → Carries seen R U W → Carries seen R (Then T U) (Then V W)
then_carried seen R T U V W one two p close q k (truth.goes_on m _ _ t u) r =
    let a = one p Fine m k t r in
    let b = two m close q a.0 u a.2 in
    (b.0, truth.goes_on (seen_at seen m a.0) close (seen_at seen q b.0) a.1 b.1, b.2)
then_carried seen R T U V W one two p close q k (truth.breaks _ _ broken t) r =
    let a = one p close q k t r in
    (a.0, truth.breaks close (seen_at seen q a.0) broken a.1, a.2)

silent_carried : {A G B K : Type 0} (seen : A → B) (R : A → G → K → Type 0) → Carries {A = A} {G = G} {B = B} {K = K} seen R Silent Silent
silent_carried seen R p close q k t r =
    (k, (t.0, ap (λ (m : Place _ _). seen_at seen m k) t.1), subst (λ (m : Place _ _). R m.session m.giver k) (sym t.1) r)

-- ---- calls

behind_seen : {A G B K : Type 0} (seen : A → B) (c : Waiting) (close : Close) (p : Place A G) (k : K) → seen_at seen (behind_call c close p) k ≡ behind_call c close (seen_at seen p k)
behind_seen seen c Fine p k = refl
behind_seen seen c (Refused item kind) p k = refl
behind_seen seen c (Mismatch item) p k = refl
behind_seen seen c (Stopped item stop) p k = refl

behind_kept : {A G K : Type 0} (R : A → G → K → Type 0) (c : Waiting) (close : Close) (p : Place A G) (k : K) → R p.session p.giver k → R (behind_call c close p).session (behind_call c close p).giver k
behind_kept R c Fine p k r = r
behind_kept R c (Refused item kind) p k r = r
behind_kept R c (Mismatch item) p k r = r
behind_kept R c (Stopped item stop) p k r = r

call_carried : {A G B K : Type 0} (x : Playing A G) (y : Playing B K) (seen : A → B) (R : A → G → K → Type 0) → Follows x y seen R → (c : Waiting) → Carries seen R (TellsCall x c) (TellsCall y c)
call_carried x y seen R follows c p close q k t r =
    let told = item_carried x y seen R follows (IsReportOf c) p close t.told k t.tells r in (
      told.0,
      record {
        told = seen_at seen t.told told.0;
        tells = told.1;
        behind = ap (λ (m : Place _ _). seen_at seen m told.0) t.behind ∙ behind_seen seen c close t.told told.0;
      },
      subst (λ (m : Place _ _). R m.session m.giver told.0) (sym t.behind) (behind_kept R c close t.told told.0 told.2),
    )

calls_carried : {A G B K : Type 0} (x : Playing A G) (y : Playing B K) (seen : A → B) (R : A → G → K → Type 0) → Follows x y seen R → Carries seen R (TellsCalls x) (TellsCalls y)
calls_carried x y seen R follows p close q k (truth.none _ none) r =
    (k, truth.none (seen_at seen p k) (sym (follows.next p.session) ∙ none), r)
calls_carried x y seen R follows p close q k (truth.more _ c m _ _ waits call rest) r =
    let a = call_carried x y seen R follows c p Fine m k call r in
    let b = calls_carried x y seen R follows m close q a.0 rest a.2 in
    (b.0, truth.more (seen_at seen p k) c (seen_at seen m a.0) close (seen_at seen q b.0) (sym (follows.next p.session) ∙ waits) a.1 b.1, b.2)
calls_carried x y seen R follows p close q k (truth.breaks _ c _ _ waits broken call) r =
    let a = call_carried x y seen R follows c p close q k call r in
    (a.0, truth.breaks (seen_at seen p k) c close (seen_at seen q a.0) (sym (follows.next p.session) ∙ waits) broken a.1, a.2)

-- ---- a list

replies_carried : {A G B K : Type 0} (x : Playing A G) (y : Playing B K) (seen : A → B) (R : A → G → K → Type 0) → Follows x y seen R → (ks : List ℕ) → Carries seen R (TellsReplies x ks) (TellsReplies y ks)
replies_carried x y seen R follows [] = silent_carried seen R
replies_carried x y seen R follows (n ∷ ks) =
    then_carried seen R (TellsItem x (λ item. item ≡ reply n)) (Then (TellsCalls x) (TellsReplies x ks)) (TellsItem y (λ item. item ≡ reply n)) (Then (TellsCalls y) (TellsReplies y ks))
    (item_carried x y seen R follows (λ item. item ≡ reply n))
    (then_carried seen R (TellsCalls x) (TellsReplies x ks) (TellsCalls y) (TellsReplies y ks) (calls_carried x y seen R follows) (replies_carried x y seen R follows ks))

event_carried : {A G B K : Type 0} (x : Playing A G) (y : Playing B K) (seen : A → B) (R : A → G → K → Type 0) → Follows x y seen R → (g : Gesture) → Carries seen R (TellsEvent x g) (TellsEvent y g)
event_carried x y seen R follows (Event e) =
    then_carried seen R (TellsItem x (λ item. item ≡ event e.kind e.node e.text e.place)) (TellsCalls x) (TellsItem y (λ item. item ≡ event e.kind e.node e.text e.place)) (TellsCalls y)
    (item_carried x y seen R follows (λ item. item ≡ event e.kind e.node e.text e.place)) (calls_carried x y seen R follows)
event_carried x y seen R follows Flush = silent_carried seen R

list_carried : {A G B K : Type 0} (x : Playing A G) (y : Playing B K) (seen : A → B) (R : A → G → K → Type 0) → Follows x y seen R → (g : Gesture) → Carries seen R (TellsList x g) (TellsList y g)
list_carried x y seen R follows g p close q k t r =
    then_carried seen R (TellsCalls x) (Then (TellsReplies x p.waiting) (TellsEvent x g)) (TellsCalls y) (Then (TellsReplies y p.waiting) (TellsEvent y g))
    (calls_carried x y seen R follows)
    (then_carried seen R (TellsReplies x p.waiting) (TellsEvent x g) (TellsReplies y p.waiting) (TellsEvent y g) (replies_carried x y seen R follows p.waiting) (event_carried x y seen R follows g))
    (record p { waiting = [] }) close q k t r

-- a gesture that is told in the one is told in the other, by the same batches
pub gesture_carried : {A G B K : Type 0} (x : Playing A G) (y : Playing B K) (seen : A → B) (R : A → G → K → Type 0) → Follows x y seen R
    → (gesture : Gesture) (a b : A) (g h : G) (k : K) (number following : ℕ) (waiting waits : List ℕ) (close : Close) (batches : List Contents)
    → TellsGesture x gesture a g number waiting close batches b h following waits → R a g k
    → (l : K) × TellsGesture y gesture (seen a) k number waiting close batches (seen b) l following waits × R b h l
gesture_carried x y seen R follows gesture a b g h k number following waiting waits close batches t r =
    let turned = follows.turns number a t.first g k t.turns r in
    let told = list_carried x y seen R follows gesture _ close t.last k t.tells turned.1 in (
      told.0,
      record {
        first = seen t.first;
        turns = turned.0;
        last = seen_at seen t.last told.0;
        tells = told.1;
        are = t.are;
        session_is = ap seen t.session_is;
        giver_is = refl;
        number_is = t.number_is;
        waiting_is = t.waiting_is;
      },
      subst (λ s. R s h told.0) (sym t.session_is) (subst (λ m. R t.last.session m told.0) (sym t.giver_is) told.2),
    )
