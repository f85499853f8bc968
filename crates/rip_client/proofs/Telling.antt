-- One thing is told behind another.
use Rattle.std.proofs.Common.{◌≡◌, ℕ, ◌+◌, ◌<◌, Bool, true, false, length, drop, get_or, List, [], ◌∷◌, ◌++◌, map, Result, Ok, Err, IfOk, IfErr, OnOk, Option, Some, None, if◌then◌else◌, refl, sym, ap, subst, ◌∙◌}
use Rattle.std.proofs.lemmas.List.{drop_more, map-append}
use Rattle.std.proofs.Math.Seq.{drop-length}
use Rattle.rip_wire.specs.Batches.{Contents}
use Rattle.rip_wire.specs.Items.{Reported, reply, reported_of}
use Rattle.rip_wire.specs.declared.item.Item.{Item}
use Rattle.rip_client.specs.declared.client.Client.{Client}
use Rattle.rip_client.specs.declared.list.Telling.{Telling}
use Rattle.rip_client.specs.Bytes.{batches_of}
use Rattle.rip_eval_rows.specs.declared.close.Close.{Close}
use Rattle.rip_eval_rows.specs.declared.close.Close.TheVariants.{Fine, Refused, Mismatch, Stopped}
use Rattle.rip_client.specs.declared.client.Stop.{Stop}
use Rattle.rip_client.specs.declared.client.Stop.TheVariants.{Closed, Memory}
use Rattle.rip_client.specs.Truth.{Fits, IsPut, Place, Playing, Waiting, Then, goes_on, breaks, IsReportOf, TellsCall, TellsCalls, TellsEvent, TellsItem, TellsList, TellsReplies, in_next, with_item}
use Rattle.rip_client.specs.Truth as truth
use Rattle.rip_wire.specs.declared.gesture.Gesture.{Gesture}
use Rattle.rip_client.specs.declared.client.HowTold.{HowTold}
use Rattle.rip_client.specs.Sizes.{Comes, ToldSo, how_told, place_of}

pub then_comes : {A G T : Type 0} (First Second : Place A G → Close → Place A G → Type 0) (p m q : Place A G) (r : Result T Stop) → First p Fine m → Comes Second m r q → Comes (Then First Second) p r q
then_comes First Second p m q (Ok done) first second = goes_on m Fine q first second
then_comes First Second p m q (Err (Closed c)) first second = (second.0, goes_on m c q first second.1)
then_comes First Second p m q (Err Memory) first second = tt

pub then_stops : {A G : Type 0} (T U : Type 0) (First Second : Place A G → Close → Place A G → Type 0) (p q : Place A G) (stop : Stop) → Comes {T = T} First p (Err stop) q → Comes {T = U} (Then First Second) p (Err stop) q
then_stops T U First Second p q (Closed c) h = (h.0, breaks c q h.0 h.1)
then_stops T U First Second p q Memory h = tt

-- ---- all calls that wait

-- how calls that were told so far are followed by those that wait then
abbrev pub Follows : {A G : Type 0} → Playing A G → Place A G → Place A G → Type 0
Follows x p m = (close : Close) (q : Place _ _) → TellsCalls x m close q → TellsCalls x p close q

pub follows_none : {A G : Type 0} (x : Playing A G) (p : Place A G) → Follows x p p
follows_none x p close q h = h

pub follows_more : {A G : Type 0} (x : Playing A G) (p m n : Place A G) (c : Waiting) → Follows x p m → x.next m.session ≡ Some c → TellsCall x c m Fine n → Follows x p n
follows_more x p m n c before next told close q h = before close q (truth.more m c n close q next told h)

pub follows_end : {A G : Type 0} (x : Playing A G) (p m : Place A G) → Follows x p m → x.next m.session ≡ None → TellsCalls x p Fine m
follows_end x p m before next = before Fine m (truth.none m next)

pub follows_break : {A G : Type 0} (T : Type 0) (x : Playing A G) (p m n : Place A G) (c : Waiting) (stop : Stop) → Follows x p m → x.next m.session ≡ Some c → Comes {T = T} (TellsCall x c) m (Err stop) n → Comes {T = T} (TellsCalls x) p (Err stop) n
follows_break T x p m n c (Closed close) before next h = (h.0, before close n (truth.breaks m c close n next h.0 h.1))
follows_break T x p m n c Memory before next h = tt

-- ---- an item

pub on_ok_onto : {V E : Type 0} (r : Result V E) (P Q : Type 0) → OnOk r P → (P → Q) → OnOk r Q
on_ok_onto (Ok v) P Q h onto = onto h
on_ok_onto (Err e) P Q h onto = h

-- put into the open batch
pub put_fits : {A G : Type 0} (x : Playing A G) (c : Client A) (list : Telling) (item : Item) (giver : G)
    → Fits (record { number = c.list.number; items = map reported_of c.list.items.items ++ reported_of item ∷ [] })
    → list.items.items ≡ c.list.items.items ++ item ∷ [] → list.closed ≡ c.list.closed → list.number ≡ c.list.number
    → IsPut x (reported_of item) (place_of c giver) (place_of (record c { list = list }) giver)
put_fits {A} {G} x c list item giver room items closed number =
    subst (λ p. IsPut x (reported_of item) (place_of c giver) p) same (truth.fits room)
  where
    at : List Contents → ℕ → List Reported → Place A G
    at cs n is = record { session = c.actor; giver = giver; closed = cs; number = n; items = is; waiting = c.waiting.items }

    same : with_item (reported_of item) (place_of c giver) ≡ place_of (record c { list = list }) giver
    same =
        ap (λ cs. at (batches_of cs.items) c.list.number (map reported_of c.list.items.items ++ reported_of item ∷ [])) (sym closed)
        ∙ ap (λ n. at (batches_of list.closed.items) n (map reported_of c.list.items.items ++ reported_of item ∷ [])) (sym number)
        ∙ ap (λ is. at (batches_of list.closed.items) list.number is) (sym (ap (map reported_of) items ∙ map-append reported_of c.list.items.items (item ∷ [])))

-- put into the next
pub put_opens : {A G : Type 0} (x : Playing A G) (c : Client A) (mid list : Telling) (actor : A) (item : Item) (giver : G)
    → (Fits (record { number = c.list.number; items = map reported_of c.list.items.items ++ reported_of item ∷ [] }) → ⊥)
    → batches_of mid.closed.items ≡ batches_of c.list.closed.items ++ record { number = c.list.number; items = map reported_of c.list.items.items } ∷ []
    → mid.number ≡ c.list.number + 1 → mid.items.items ≡ [] → x.turns mid.number c.actor actor
    → list.items.items ≡ mid.items.items ++ item ∷ [] → list.closed ≡ mid.closed → list.number ≡ mid.number
    → IsPut x (reported_of item) (place_of c giver) (place_of (record c { actor = actor; list = list }) giver)
put_opens {A} {G} x c mid list actor item giver full told next none turned items closed number =
    subst (λ p. IsPut x (reported_of item) (place_of c giver) p) same (truth.opens actor full (subst (λ n. x.turns n c.actor actor) next turned))
  where
    at : List Contents → ℕ → List Reported → Place A G
    at cs n is = record { session = actor; giver = giver; closed = cs; number = n; items = is; waiting = c.waiting.items }

    same : in_next (reported_of item) actor (place_of c giver) ≡ place_of (record c { actor = actor; list = list }) giver
    same =
        ap (λ cs. at cs (c.list.number + 1) (reported_of item ∷ [])) (sym (ap (λ v. batches_of v.items) closed ∙ told))
        ∙ ap (λ n. at (batches_of list.closed.items) n (reported_of item ∷ [])) (sym (number ∙ next))
        ∙ ap (λ is. at (batches_of list.closed.items) list.number is) (sym (ap (map reported_of) (items ∙ ap (λ xs. xs ++ item ∷ []) none)))

-- what came of an item that closed so
pub closed_comes : {A G : Type 0} (R : Place A G → Close → Place A G → Type 0) (p q : Place A G) (close : Close) (r : Result (Unit {0}) Stop)
    → IfOk r (λ _. close ≡ Fine) → IfErr r (λ stop. (close ≡ Fine → ⊥) × (stop ≡ Closed close)) → R p close q → Comes R p r q
closed_comes R p q close (Ok done) fine other h = subst (λ c. R p c q) fine h
closed_comes R p q close (Err stop) fine other h = subst (λ s. Comes {T = Unit {0}} R p (Err s) q) (sym other.1) (other.0, h)

-- units that were spent change no place
pub spent_same : {A G : Type 0} (c : Client A) (list : Telling) (giver : G) → list.items ≡ c.list.items → list.closed ≡ c.list.closed → list.number ≡ c.list.number → place_of (record c { list = list }) giver ≡ place_of c giver
spent_same {A} {G} c list giver items closed number =
    ap (λ is. at (batches_of list.closed.items) list.number (map reported_of is.items)) items
    ∙ ap (λ cs. at (batches_of cs.items) list.number (map reported_of c.list.items.items)) closed
    ∙ ap (λ n. at (batches_of c.list.closed.items) n (map reported_of c.list.items.items)) number
  where
    at : List Contents → ℕ → List Reported → Place A G
    at cs n is = record { session = c.actor; giver = giver; closed = cs; number = n; items = is; waiting = c.waiting.items }

-- a call whose item broke off
pub call_stops : {A G : Type 0} (T U : Type 0) (x : Playing A G) (w : Waiting) (p q : Place A G) (stop : Stop) → Comes {T = T} (TellsItem x (IsReportOf w)) p (Err stop) q → Comes {T = U} (TellsCall x w) p (Err stop) q
call_stops T U x w p q (Closed close) h = (h.0, ended close h.0 h.1)
  where
    ended : (close : Close) → (close ≡ Fine → ⊥) → TellsItem x (IsReportOf w) p close q → TellsCall x w p close q
    ended Fine not_fine t = absurd (not_fine refl)
    ended (Refused item kind) not_fine t = record { told = q; tells = t; behind = refl }
    ended (Mismatch item) not_fine t = record { told = q; tells = t; behind = refl }
    ended (Stopped item stop) not_fine t = record { told = q; tells = t; behind = refl }
call_stops T U x w p q Memory h = tt

-- a call that was told, and whose reply waits if it is to
pub call_told : {A G : Type 0} (x : Playing A G) (w : Waiting) (p : Place A G) (c d : Client A) (giver : G) → TellsItem x (IsReportOf w) p Fine (place_of c giver) → d.waiting.items ≡ (if w.calls_back then c.waiting.items ++ w.number ∷ [] else c.waiting.items) → d.actor ≡ c.actor → d.list ≡ c.list → TellsCall x w p Fine (place_of d giver)
call_told {A} {G} x w p c d giver told waits actor list = record {
  told = place_of c giver;
  tells = told;
  behind =
      ap (λ ws. at d.actor d.list ws) waits
      ∙ ap (λ a. at a d.list (if w.calls_back then c.waiting.items ++ w.number ∷ [] else c.waiting.items)) actor
      ∙ ap (λ l. at c.actor l (if w.calls_back then c.waiting.items ++ w.number ∷ [] else c.waiting.items)) list;
}
  where
    at : A → Telling → List ℕ → Place A G
    at a l ws = record { session = a; giver = giver; closed = batches_of l.closed.items; number = l.number; items = map reported_of l.items.items; waiting = ws }

pub not_both : (b : Bool) → b ≡ true → b ≡ false → ⊥
not_both b t f = let e : true ≡ false = sym t ∙ f in cc

-- what an exit hands on
pub at_err : {U : Type 0} (P : Result U Stop → Type 0) (r : Result U Stop) (stop : Stop) → ((y : Stop) × (r ≡ Err y) × (y ≡ stop)) → P (Err stop) → P r
at_err P r stop p h = subst P (sym (p.1 ∙ ap Err p.2)) h

-- ---- replies

-- how the replies that were told so far are followed by the others
abbrev pub Answers : {A G : Type 0} → Playing A G → List ℕ → ℕ → Place A G → Place A G → Type 0
Answers x ks i p m = (close : Close) (q : Place _ _) → TellsReplies x (drop i ks) m close q → TellsReplies x ks p close q

pub answers_none : {A G : Type 0} (x : Playing A G) (ks : List ℕ) (p : Place A G) → Answers x ks 0 p p
answers_none x ks p close q h = h

pub answers_more : {A G : Type 0} (x : Playing A G) (ks : List ℕ) (i k d : ℕ) (p m n o : Place A G) → i < length ks → k ≡ get_or ks i d → Answers x ks i p m → TellsItem x (λ item. item ≡ reply k) m Fine n → TellsCalls x n Fine o → Answers x ks (i + 1) p o
answers_more x ks i k d p m n o low is before told calls close q h =
    before close q (subst (λ xs. TellsReplies x xs m close q) (sym (drop_more ks i d low ∙ ap (λ v. v ∷ drop (i + 1) ks) (sym is))) (goes_on n close q told (goes_on o close q calls h)))

pub answers_stop : {A G : Type 0} (x : Playing A G) (ks : List ℕ) (i k d : ℕ) (p m n : Place A G) (stop : Stop) → i < length ks → k ≡ get_or ks i d → Answers x ks i p m → Comes {T = Unit {0}} (TellsItem x (λ item. item ≡ reply k)) m (Err stop) n → Comes {T = Unit {0}} (TellsReplies x ks) p (Err stop) n
answers_stop x ks i k d p m n (Closed c) low is before h =
    (h.0, before c n (subst (λ xs. TellsReplies x xs m c n) (sym (drop_more ks i d low ∙ ap (λ v. v ∷ drop (i + 1) ks) (sym is))) (breaks c n h.0 h.1)))
answers_stop x ks i k d p m n Memory low is before h = tt

pub answers_calls_stop : {A G : Type 0} (x : Playing A G) (ks : List ℕ) (i k d : ℕ) (p m n o : Place A G) (stop : Stop) → i < length ks → k ≡ get_or ks i d → Answers x ks i p m → TellsItem x (λ item. item ≡ reply k) m Fine n → Comes {T = Unit {0}} (TellsCalls x) n (Err stop) o → Comes {T = Unit {0}} (TellsReplies x ks) p (Err stop) o
answers_calls_stop x ks i k d p m n o (Closed c) low is before told h =
    (h.0, before c o (subst (λ xs. TellsReplies x xs m c o) (sym (drop_more ks i d low ∙ ap (λ v. v ∷ drop (i + 1) ks) (sym is))) (goes_on n c o told (breaks c o h.0 h.1))))
answers_calls_stop x ks i k d p m n o Memory low is before told h = tt

pub answers_end : {A G : Type 0} (x : Playing A G) (ks : List ℕ) (i : ℕ) (p m : Place A G) → i ≡ length ks → Answers x ks i p m → TellsReplies x ks p Fine m
answers_end x ks i p m all before =
    before Fine m (subst (λ xs. TellsReplies x xs m Fine m) (sym (ap (λ k. drop k ks) all ∙ drop-length ks)) (refl, refl))

-- ---- a whole list

pub list_comes : {A G T : Type 0} (x : Playing A G) (g : Gesture) (p q : Place A G) (r : Result T Stop) → Comes (Then (TellsCalls x) (Then (TellsReplies x p.waiting) (TellsEvent x g))) (record p { waiting = [] }) r q → Comes (TellsList x g) p r q
list_comes x g p q (Ok done) h = h
list_comes x g p q (Err (Closed c)) h = h
list_comes x g p q (Err Memory) h = tt

pub told_close : {A G T : Type 0} (R : Place A G → Close → Place A G → Type 0) (p q : Place A G) (r : Result T Stop) (how : HowTold) (close : Close) → how ≡ how_told r → ToldSo how close → Comes R p r q → R p close q
told_close R p q (Ok done) how close is so h = subst (λ c. R p c q) (sym (subst (λ v. ToldSo v close) is so)) h
told_close R p q (Err (Closed c)) how close is so h = subst (λ v. R p v q) (sym (subst (λ v. ToldSo v close) is so)) h.1
told_close R p q (Err Memory) how close is so h = absurd (subst (λ v. ToldSo v close) is so)
