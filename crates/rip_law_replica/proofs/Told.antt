-- What is told, kept to its end.
use Rattle.std.proofs.Common.{◌≢◌, refl, ◌≡◌, ℕ, ◌+◌, List, [], ◌∷◌, ◌++◌, take, sym, ap, subst, ◌∙◌, append_assoc}
use Rattle.rip_eval_rows.specs.declared.close.Close.{Close}
use Rattle.rip_eval_rows.specs.declared.close.Close.TheVariants.{Fine, Refused, Mismatch, Stopped}
use Rattle.rip_wire.specs.Batches.{Contents}
use Rattle.rip_base.specs.declared.report.EventKind.{EventKind}
use Rattle.rip_wire.specs.Items.{Reported, event, reply}
use Rattle.rip_wire.specs.declared.gesture.Gesture.{Gesture}
use Rattle.rip_wire.specs.declared.gesture.Gesture.TheVariants.{Event, Flush}
use Rattle.rip_history.specs.Parts.{Given}
use Rattle.rip_replica.specs.Parts.{Doing, first_given, session_parts}
use Rattle.rip_client.specs.Truth.{Place, IsPut, IsReportOf, Playing, Silent, TellsCall, TellsCalls, TellsEvent, TellsGesture, TellsItem, TellsList, TellsReplies, Then, Waiting, behind_call, open_batch}
use Rattle.rip_client.specs.Truth as truth
use Rattle.std.specs.Prelude.{Option, Some}
use Rattle.rip_law_replica.specs.Truthful.{AreItems, IsFineOrStopped, IsLegalAndDue, Reports, ServesNext, Seat, TruthIsServed, given_in_turn, has_lie, playing_of}
use Rattle.rip_law_replica.specs.Truthful as truthful
use Rattle.rip_law_replica.proofs.Honest.{Honest, no_lie}
use Rattle.rip_law_replica.proofs.Seats.{Plays, Served, Standing, opened, rebase, rewait, step_close, step_fine, step_stop}

-- a session of which is told, where each reply is due
abbrev telling : {A S : Type 0} → Doing A S → (Reported → A) → (S → Option Waiting) → Playing (Seat S) (List Given)
telling d task next = playing_of d task next given_in_turn IsLegalAndDue

-- where a client stands behind what closed so
abbrev Good : {A S : Type 0} → Doing A S → (Reported → A) → List Given → List Contents → Close → Place (Seat S) (List Given) → Type 0
Good d task given before Fine q = Standing d task given before q
Good d task given before (Refused item kind) q = ⊥
Good d task given before (Mismatch item) q = ⊥
Good d task given before (Stopped item stop) q = Served d given before q

-- what is told leaves a session so
abbrev Keeps : {A S : Type 0} → Doing A S → (Reported → A) → List Given → List Contents → (Place (Seat S) (List Given) → Close → Place (Seat S) (List Given) → Type 0) → Type 0
Keeps d task given before R = (p : Place _ _) (close : Close) (q : Place _ _) → Standing d task given before p → R p close q → Good d task given before close q

-- ---- an item

-- where it stands in the open batch
played_good : {A S : Type 0} (d : Doing A S) (task : Reported → A) (given : List Given) (before : List Contents) → AreItems d task → (p : Place (Seat S) (List Given)) (item : Reported) (close : Close) (fuel : ℕ) (b : Seat S) (hs : List Given) → IsFineOrStopped close → Standing d task given before p → Plays d task item p.session p.giver (record { close = close; fuel = fuel }) b hs → Good d task given before close (record (truth.with_item item p) { session = b; giver = hs })
played_good d task given before are p item Fine fuel b hs ok st t = step_fine d task given before p item b hs fuel are st t
played_good d task given before are p item (Refused number kind) fuel b hs ok st t = ok
played_good d task given before are p item (Mismatch number) fuel b hs ok st t = ok
played_good d task given before are p item (Stopped number stop) fuel b hs ok st t = step_stop d task given before p item b hs number stop fuel are st t

item_good : {A S : Type 0} (d : Doing A S) (task : Reported → A) (next : S → Option Waiting) (given : List Given) (before : List Contents) → AreItems d task → (p put : Place (Seat S) (List Given)) (item : Reported) (close : Close) (fuel : ℕ) (b : Seat S) (hs : List Given) → IsFineOrStopped close → IsPut (telling d task next) item p put → Standing d task given before p → Plays d task item put.session put.giver (record { close = close; fuel = fuel }) b hs → Good d task given before close (record put { session = b; giver = hs })
item_good d task next given before are p put item close fuel b hs ok (truth.fits room) st t = played_good d task given before are p item close fuel b hs ok st t
item_good d task next given before are p put item close fuel b hs ok (truth.opens session full turned) st t =
    let behind : Place _ _ = record p { session = record p.session { batch = p.number + 1; count = 0 }; closed = p.closed ++ open_batch p ∷ []; number = p.number + 1; items = [] } in
    let there = subst (λ (a : Seat _). Plays d task item a p.giver (record { close = close; fuel = fuel }) b hs) turned t in
    played_good d task given before are behind item close fuel b hs ok (step_close d task given before p are st) there

keeps_item : {A S : Type 0} (d : Doing A S) (task : Reported → A) (next : S → Option Waiting) (given : List Given) (before : List Contents) (Kind : Reported → Type 0) → AreItems d task → ((item : Reported) (close : Close) → Kind item → IsLegalAndDue item close → IsFineOrStopped close) → Keeps d task given before (TellsItem (telling d task next) Kind)
keeps_item d task next given before Kind are legal p close q st t =
    subst (λ m. Good d task given before close m) (sym t.rest) (item_good d task next given before are p t.put t.item close t.fuel q.session q.giver (legal t.item close t.is t.plays.legal) t.is_put st t.plays)

legal_reply : (k : ℕ) (item : Reported) (close : Close) → item ≡ reply k → IsLegalAndDue item close → IsFineOrStopped close
legal_reply k item close is legal = subst (λ i. IsLegalAndDue i close) is legal

legal_event : (kind : EventKind) (node : ℕ) (text : Option (List ℕ)) (place : Option ℕ) (item : Reported) (close : Close) → item ≡ event kind node text place → IsLegalAndDue item close → IsFineOrStopped close
legal_event kind node text place item close is legal = subst (λ i. IsLegalAndDue i close) is legal

-- ---- one thing behind another

keeps_then : {A S : Type 0} (d : Doing A S) (task : Reported → A) (given : List Given) (before : List Contents) (First Second : Place (Seat S) (List Given) → Close → Place (Seat S) (List Given) → Type 0) → Keeps d task given before First → Keeps d task given before Second → Keeps d task given before (Then First Second)
keeps_then d task given before First Second one two p close q st (truth.goes_on m _ _ f g) = two m close q (one p Fine m st f) g
keeps_then d task given before First Second one two p close q st (truth.breaks _ _ broken f) = one p close q st f

keeps_silent : {A S : Type 0} (d : Doing A S) (task : Reported → A) (given : List Given) (before : List Contents) → Keeps d task given before Silent
keeps_silent d task given before p close q st h =
    subst (λ c. Good d task given before c q) (sym h.0) (subst (λ m. Standing d task given before m) (sym h.1) st)

-- ---- calls

behind_good : {A S : Type 0} (d : Doing A S) (task : Reported → A) (given : List Given) (before : List Contents) (c : Waiting) (close : Close) (p : Place (Seat S) (List Given)) → Good d task given before close p → Good d task given before close (behind_call c close p)
behind_good d task given before c Fine p st = rewait d task given before p _ st
behind_good d task given before c (Refused number kind) p st = st
behind_good d task given before c (Mismatch number) p st = st
behind_good d task given before c (Stopped number stop) p st = st

-- the page in which an item is played is that before it
put_page : {A S : Type 0} (d : Doing A S) (task : Reported → A) (next : S → Option Waiting) (item : Reported) (p put : Place (Seat S) (List Given)) → IsPut (telling d task next) item p put → put.session.page ≡ p.session.page
put_page d task next item p put (truth.fits room) = refl
put_page d task next item p put (truth.opens session full turned) = ap (λ (a : Seat _). a.page) turned

keeps_call : {A S : Type 0} (d : Doing A S) (task : Reported → A) (next : S → Option Waiting) (given : List Given) (before : List Contents) (c : Waiting) → AreItems d task → ServesNext d task next → (p : Place (Seat S) (List Given)) (close : Close) (q : Place (Seat S) (List Given)) → next p.session.page ≡ Some c → Standing d task given before p → TellsCall (telling d task next) c p close q → Good d task given before close q
keeps_call d task next given before c are serves p close q waits st t =
    let told = t.tells in
    let put = told.put in
    let play = told.plays in
    let there = ap next (put_page d task next told.item p put told.is_put) ∙ waits in
    let ok = serves put.session.batch (put.session.count + 1) put.session.world put.session.page (first_given put.giver) c told.item close play.is.gs play.is.fuel play.is.left t.told.session.world t.told.session.page there told.is play.is.is in
    let good = subst (λ m. Good d task given before close m) (sym told.rest) (item_good d task next given before are p put told.item close told.fuel t.told.session t.told.giver ok told.is_put st play) in
    subst (λ m. Good d task given before close m) (sym t.behind) (behind_good d task given before c close t.told good)

keeps_calls : {A S : Type 0} (d : Doing A S) (task : Reported → A) (next : S → Option Waiting) (given : List Given) (before : List Contents) → AreItems d task → ServesNext d task next → (p : Place (Seat S) (List Given)) (close : Close) (q : Place (Seat S) (List Given)) → Standing d task given before p → TellsCalls (telling d task next) p close q → Good d task given before close q
keeps_calls d task next given before are serves p close q st (truth.none _ none) = st
keeps_calls d task next given before are serves p close q st (truth.more _ c m _ _ waits call rest) = keeps_calls d task next given before are serves m close q (keeps_call d task next given before c are serves p Fine m waits st call) rest
keeps_calls d task next given before are serves p close q st (truth.breaks _ c _ _ waits broken call) = keeps_call d task next given before c are serves p close q waits st call

-- ---- a list

keeps_replies : {A S : Type 0} (d : Doing A S) (task : Reported → A) (next : S → Option Waiting) (given : List Given) (before : List Contents) → AreItems d task → ServesNext d task next → (ks : List ℕ) → Keeps d task given before (TellsReplies (telling d task next) ks)
keeps_replies d task next given before are serves [] = keeps_silent d task given before
keeps_replies d task next given before are serves (k ∷ ks) =
    keeps_then d task given before (TellsItem (telling d task next) (λ item. item ≡ reply k)) (Then (TellsCalls (telling d task next)) (TellsReplies (telling d task next) ks)) (keeps_item d task next given before (λ item. item ≡ reply k) are (legal_reply k))
    (keeps_then d task given before (TellsCalls (telling d task next)) (TellsReplies (telling d task next) ks) (keeps_calls d task next given before are serves) (keeps_replies d task next given before are serves ks))

keeps_event : {A S : Type 0} (d : Doing A S) (task : Reported → A) (next : S → Option Waiting) (given : List Given) (before : List Contents) → AreItems d task → ServesNext d task next → (g : Gesture) → Keeps d task given before (TellsEvent (telling d task next) g)
keeps_event d task next given before are serves (Event r) =
    keeps_then d task given before (TellsItem (telling d task next) (λ item. item ≡ event r.kind r.node r.text r.place)) (TellsCalls (telling d task next)) (keeps_item d task next given before (λ item. item ≡ event r.kind r.node r.text r.place) are (legal_event r.kind r.node r.text r.place)) (keeps_calls d task next given before are serves)
keeps_event d task next given before are serves Flush = keeps_silent d task given before

keeps_list : {A S : Type 0} (d : Doing A S) (task : Reported → A) (next : S → Option Waiting) (given : List Given) (before : List Contents) → AreItems d task → ServesNext d task next → (g : Gesture) → Keeps d task given before (TellsList (telling d task next) g)
keeps_list d task next given before are serves g p close q st t =
    keeps_then d task given before (TellsCalls (telling d task next)) (Then (TellsReplies (telling d task next) p.waiting) (TellsEvent (telling d task next) g)) (keeps_calls d task next given before are serves)
    (keeps_then d task given before (TellsReplies (telling d task next) p.waiting) (TellsEvent (telling d task next) g) (keeps_replies d task next given before are serves p.waiting) (keeps_event d task next given before are serves g))
    (record p { waiting = [] }) close q (rewait d task given before p [] st) t

-- ---- gestures

-- before a list: the session as it turns to the batch
abbrev Starts : {A S : Type 0} → Doing A S → (Reported → A) → List Given → List Contents → Seat S → List Given → ℕ → List ℕ → Type 0
Starts d task given before a g number waiting =
    Standing d task given before (record { session = record a { batch = number; count = 0 }; giver = g; closed = []; number = number; items = []; waiting = waiting })

list_good : {A S : Type 0} (d : Doing A S) (task : Reported → A) (next : S → Option Waiting) (given : List Given) (before : List Contents) → AreItems d task → ServesNext d task next → (gesture : Gesture) (a b : Seat S) (g h : List Given) (number following : ℕ) (waiting waits : List ℕ) (close : Close) (batches : List Contents) → Starts d task given before a g number waiting → (t : TellsGesture (telling d task next) gesture a g number waiting close batches b h following waits) → Good d task given before close t.last
list_good d task next given before are serves gesture a b g h number following waiting waits close batches st t =
    keeps_list d task next given before are serves gesture _ close t.last (subst (λ (first : Seat _). Standing d task given before (record { session = first; giver = g; closed = []; number = number; items = []; waiting = waiting })) (sym t.turns) st) t.tells

-- behind a list that was told to its end
starts_next : {A S : Type 0} (d : Doing A S) (task : Reported → A) (given : List Given) (before : List Contents) → AreItems d task → (last : Place (Seat S) (List Given)) → Standing d task given before last → Starts d task given (before ++ (last.closed ++ open_batch last ∷ [])) last.session last.giver (last.number + 1) last.waiting
starts_next d task given before are last st = rebase d task given before (record last { session = record last.session { batch = last.number + 1; count = 0 }; closed = last.closed ++ open_batch last ∷ []; number = last.number + 1; items = [] }) (step_close d task given before last are st)

stopped_served : {A S : Type 0} (d : Doing A S) (task : Reported → A) (given : List Given) (before : List Contents) (close : Close) (q : Place (Seat S) (List Given)) → close ≢ Fine → Good d task given before close q → Served d given before q
stopped_served d task given before Fine q broken good = absurd (broken refl)
stopped_served d task given before (Refused number kind) q broken good = absurd good
stopped_served d task given before (Mismatch number) q broken good = absurd good
stopped_served d task given before (Stopped number stop) q broken good = good

reports_served : {A S : Type 0} (d : Doing A S) (task : Reported → A) (next : S → Option Waiting) (given : List Given) (before : List Contents) → AreItems d task → ServesNext d task next → (gestures : List Gesture) (a : Seat S) (g : List Given) (number : ℕ) (waiting : List ℕ) (batches : List Contents) → Starts d task given before a g number waiting → Reports (telling d task next) gestures a g number waiting batches → (k : ℕ) → Honest (session_parts d (take k (before ++ batches)) given)
reports_served d task next given before are serves gestures a g number waiting batches st (truthful.silent _ _ _ _) k = st.fronts k
reports_served d task next given before are serves gestures a g number waiting batches st (truthful.told gesture others _ b _ h _ following _ waits told rest t reports) k =
    let last = t.last in
    let good : Standing d task given before last = list_good d task next given before are serves gesture a b g h number following waiting waits Fine told st t in
    let from = starts_next d task given before are last good in
    let at_told = subst (λ bs. Starts d task given (before ++ bs) last.session last.giver (last.number + 1) last.waiting) (sym t.are) from in
    let at_session = subst (λ (s : Seat _). Starts d task given (before ++ told) s last.giver (last.number + 1) last.waiting) (sym t.session_is) at_told in
    let at_giver = subst (λ gs. Starts d task given (before ++ told) b gs (last.number + 1) last.waiting) (sym t.giver_is) at_session in
    let at_number = subst (λ n. Starts d task given (before ++ told) b h n last.waiting) (sym t.number_is) at_giver in
    let there = subst (λ ws. Starts d task given (before ++ told) b h following ws) (sym t.waiting_is) at_number in
    subst (λ bs. Honest (session_parts d (take k bs) given)) (append_assoc before told rest) (reports_served d task next given (before ++ told) are serves others b h following waits rest there reports k)
reports_served d task next given before are serves gestures a g number waiting batches st (truthful.ended gesture others _ b _ h _ following _ waits close _ stopped t) k =
    let good = list_good d task next given before are serves gesture a b g h number following waiting waits close batches st t in
    let served = stopped_served d task given before close t.last stopped good k in
    subst (λ bs. Honest (session_parts d (take k bs) given)) (append_assoc before t.last.closed (open_batch t.last ∷ []) ∙ ap (λ bs. before ++ bs) (sym t.are)) served

pub truth_served : (A S : Type 0) → TruthIsServed A S
truth_served A S d task next gestures given batches are serves r k =
    no_lie (session_parts d (take k batches) given) (reports_served d task next given [] are serves gestures _ given 1 [] batches (opened d task given r.more r.fuel r.left r.world r.page are r.opens) r.reports k)
