-- What stands at the front of the connection at a place is handled.
use Rattle.std.proofs.Common.{◌≡◌, ℕ, zero, suc, ◌-◌, ◌<◌, ◌≤◌, List, [], ◌∷◌, length, drop, Some, None, refl, sym, ap, subst, ◌∙◌}
use Rattle.std.specs.Prelude.{Result, Ok, Err, IsErr, IfOk, OnOk, option_map, slice_get, slice_set}
use Rattle.rip_http.specs.Conns.{IsTaken}
use Rattle.rip_http.specs.Stream.{waits, takes, refuses, IsNext, code_of}
use Rattle.rip_http.specs.declared.conn.Taken.{Taken}
use Rattle.rip_http.specs.declared.conn.Taken.TheVariants as T
use Rattle.rip_http.specs.declared.request.Message.{Message}
use Rattle.rip_http.specs.declared.request.RefusedHead.{RefusedHead}
use Rattle.rip_log.specs.Entries.{Recorded}
use Rattle.rip_history.specs.Connections.{Connection as Link, Connections as Links}
use Rattle.rip_history.specs.Parts.{Meaning}
use Rattle.rip_history.specs.Run.{Site, State, AreQuiet, taken, answered_or_owed, after_handlings}
use Rattle.rip_history.specs.Stages.{Stage}
use Rattle.rip_table.specs.Rolls.{IsRollOf}
use Rattle.rip_table.specs.declared.roll.roll.Roll.{Roll}
use Rattle.rip_server.specs.Acts.{Seen}
use Rattle.rip_server.specs.Links.{owed_of, link_of, there_of, links_of, AreRising, AreLinks}
use Rattle.rip_server.specs.declared.connection.Connection.{Connection}
use Rattle.rip_server.specs.declared.connections.Connections.{Connections}
use Rattle.rip_server.specs.declared.halt.Halt.{Halt}
use Rattle.rip_server.proofs.LinkLemmas.{same_at, there-get, there-changed}
use Rattle.rip_server.proofs.OwedLemmas.{links_changed, get_set}
use Rattle.rip_server.proofs.PlaceLemmas.{got_below}
use Rattle.rip_server.specs.Handling.{state_of, AreAt, weight_from, Stays, Refused, Messaged, HandledSo, IsQuietBefore}
use Rattle.rip_server.specs.Turning.{Source}
use Rattle.rip_server.proofs.FrontLemmas.{took_some, took_within}
use Rattle.rip_server.proofs.MessageLemmas.{Stood, handled_message, handled_refused}
use Rattle.rip_server.proofs.TurnPlaceLemmas.{Less, taken_less, took_less, refused_less, quiet_all}

-- ---- what is left

set_here : (cs : List Connection) (place : ℕ) (c : Connection) → slice_get cs place ≡ Some c → slice_set cs place c ≡ cs
set_here [] place c e = cc
set_here (d ∷ cs) zero c e = let same : d ≡ c = cc in ap (λ (t : Connection). t ∷ cs) (sym same)
set_here (d ∷ cs) (suc place) c e = ap (λ (t : List Connection). d ∷ t) (set_here cs place c e)

-- nothing was taken
pub none_taken : (before after : Connections) (place : ℕ) (c : Connection) (left : List ℕ) → slice_get before.list.items place ≡ Some c → left ≡ c.conn
    → after.list.items ≡ slice_set before.list.items place (record c { conn = left }) → after.list.items ≡ before.list.items
none_taken before after place c left at same is =
    is ∙ ap (λ (t : List ℕ). slice_set before.list.items place (record c { conn = t })) same ∙ set_here before.list.items place c at

pub links_kept : (P : ℕ → Type 0) (before after : Connections) → after.list.items ≡ before.list.items → after.opened ≡ before.opened
    → AreLinks P (links_of before) → AreLinks P (links_of after)
links_kept P before after list opened links =
    subst (λ (k : ℕ). AreLinks P (record { opened = k; there = there_of after.list.items })) (sym opened)
    (subst (λ (t : List Connection). AreLinks P (record { opened = before.opened; there = there_of t })) (sym list) links)

-- a message was taken
pub record TookAt (P : ℕ → Type 0) (before after : Connections) (place : ℕ) (c : Connection) (m : Message) : Type 0 where
  pub size : ℕ
  pub next : IsNext c.conn (takes size m)
  pub there : there_of after.list.items ≡ taken c.number size (there_of before.list.items)
  pub at : slice_get after.list.items place ≡ Some (record c { conn = drop size c.conn })
  pub links : AreLinks P (links_of after)

pub took_at : (P : ℕ → Type 0) (before after : Connections) (place : ℕ) (c : Connection) (m : Message) (t : Taken) (left : List ℕ)
    → AreLinks P (links_of before) → slice_get before.list.items place ≡ Some c → t ≡ T.Message m → IsTaken c.conn left t
    → after.list.items ≡ slice_set before.list.items place (record c { conn = left }) → after.opened ≡ before.opened
    → TookAt P before after place c m
took_at P before after place c m t left links at is took list opened = by (subst (IsTaken c.conn left) is took)
  where
    items : List Connection
    items = before.list.items

    by : IsTaken c.conn left (T.Message m) → TookAt P before after place c m
    by (n, next, is_left) =
        let d : Connection = record c { conn = drop n c.conn } in
        let f : Link → Link = λ x. record x { unread = drop n x.unread } in
        let set : after.list.items ≡ slice_set items place d = list ∙ ap (λ (u : List ℕ). slice_set items place (record c { conn = u })) is_left in
        let there : there_of after.list.items ≡ taken c.number n (there_of items) =
        ap there_of set ∙ there-changed items before.opened place c d f links.rising at refl in
        record {
          size = n;
          next = next;
          there = there;
          at = ap (λ (xs : List Connection). slice_get xs place) set ∙ get_set items place d (got_below items place c at);
          links = subst (λ (k : ℕ). AreLinks P (record { opened = k; there = there_of after.list.items })) (sym opened)
              (links_changed P before.opened c.number f (λ x. refl) (there_of items) (there_of after.list.items) there links);
        }

pub place_kept : (before after : Connections) (place : ℕ) (d : Connection) → slice_get after.list.items place ≡ Some d → place < length after.list.items
place_kept before after place d at = got_below after.list.items place d at

pub free_at : (after : Connections) (place : ℕ) (c : Connection) (left : List ℕ) → slice_get after.list.items place ≡ Some (record c { conn = left })
    → c.waits ≡ None → (y : Connection) → slice_get after.list.items place ≡ Some y → y.waits ≡ None
free_at after place c left at free y e =
    ap (λ (x : Connection). x.waits) (same_at after.list.items place y (record c { conn = left }) e at) ∙ free

-- ---- less is to be looked at

pub message_less : (before : Connections) (place : ℕ) (c : Connection) (m : Message) (n : ℕ) (r : Result (Unit {0}) Halt) (mid now : List Link)
    → AreRising (there_of before.list.items) before.opened → slice_get before.list.items place ≡ Some c → IsNext c.conn (takes n m)
    → mid ≡ taken c.number n (there_of before.list.items) → OnOk r (Stays c.number mid now)
    → OnOk r (weight_from place now < weight_from place (there_of before.list.items))
message_less before place c m n (Err halt) mid now rising at next is stays = tt
message_less before place c m n (Ok done) mid now rising at next is stays =
    let there = there_of before.list.items in
    let at_there = there-get before.list.items place c at in
    let same : now ≡ answered_or_owed c.number stays.gone stays.close stays.owed (taken c.number n there) =
    stays.is ∙ ap (answered_or_owed c.number stays.gone stays.close stays.owed) is in
    let l = taken_less there before.opened place n (link_of c) stays.gone stays.close stays.owed rising at_there in
    took_less there now place n (link_of c) at_there (took_some c.conn n m next) (took_within c.conn n m next)
    (subst (λ (t : List Link). Less there t place (length c.conn - n)) (sym same) l)

pub refusal_less : (before : Connections) (place : ℕ) (c : Connection) (head : RefusedHead) (r : Result (Unit {0}) Halt) (now : List Link) (old new : Seen)
    → AreRising (there_of before.list.items) before.opened → slice_get before.list.items place ≡ Some c
    → Refused c.number head r (there_of before.list.items) now old new
    → OnOk r (weight_from place now < weight_from place (there_of before.list.items))
refusal_less before place c head (Err halt) now old new rising at refused = tt
refusal_less before place c head (Ok done) now old new rising at refused =
    let there = there_of before.list.items in
    subst (λ (t : List Link). weight_from place t < weight_from place there) (sym refused.after)
    (refused_less there before.opened place (link_of c) refused.gone rising (there-get before.list.items place c at))

-- ---- it is handled

pub handled_map : {A : Type 0} (site : Site) (turn time : ℕ) (s : State) (r : Result A Halt) (After Later : A → State → Type 0) (old new : Seen) (w x : Source)
    → ((a : A) (next : State) → After a next → Later a next) → HandledSo site turn time s r After old new w x → HandledSo site turn time s r Later old new w x
handled_map {A = A} site turn time s r After Later old new w x f h = record {
  handlings = h.handlings;
  words = h.words;
  handled = h.handled;
  draws_so = h.draws_so;
  gives = h.gives;
  acts = h.acts;
  after = by r h.after;
}
  where
    by : (q : Result A Halt) → IfOk q (λ a. After a (after_handlings site turn time s h.handlings))
        → IfOk q (λ a. Later a (after_handlings site turn time s h.handlings))
    by (Ok a) p = f a (after_handlings site turn time s h.handlings) p
    by (Err halt) p = tt

links_same : (connections : Connections) (k : Links) → there_of connections.list.items ≡ k.there → connections.opened ≡ k.opened → links_of connections ≡ k
links_same connections k there opened = λ i. let x : Links = record { opened = opened i; there = there i } in x

module _ {T : Type 0} (stands : T → Stage → Type 0) (m : Meaning) (site : Site) (turn time place : ℕ) (before after : Connections) (roll : Roll T)
    (h : List Recorded) (stages : List Stage) (c : Connection) where
  abbrev s : State
  s = state_of (links_of before) h stages

  stood_at : (now : List Link) (next : State) → now ≡ there_of after.list.items → after.opened ≡ before.opened
      → Stood s place (IsRollOf stands m site.limit roll) now next
      → AreAt stands m site.limit after roll next × IsQuietBefore place next
  stood_at now next is opened stood = (
    record { links = links_same after next.connections (sym is ∙ stood.there) (opened ∙ sym stood.opened); roll_is = stood.roll },
    stood.quiet,
  )

  pub message_handled : (message : Message) (n : ℕ) (r : Result (Unit {0}) Halt) (mid : List Link) (old new : Seen) (w x : Source)
      → AreRising (there_of before.list.items) before.opened → IsQuietBefore place s → slice_get before.list.items place ≡ Some c
      → c.waits ≡ None → IsNext c.conn (takes n message) → mid ≡ taken c.number n (there_of before.list.items) → after.opened ≡ before.opened
      → Messaged site.limit turn time c.number message h stages (IsRollOf stands m site.limit roll) r mid (there_of after.list.items) old new w x
      → HandledSo site turn time s r (λ _ next. AreAt stands m site.limit after roll next × IsQuietBefore place next) old new w x
  message_handled message n r mid old new w x rising quiet at free next is opened messaged =
      handled_map site turn time s r _ _ old new w x (λ _ z p. stood_at (there_of after.list.items) z refl opened p)
      (handled_message site turn time s place n (link_of c) message r (IsRollOf stands m site.limit roll) (there_of after.list.items) old new w x rising quiet
      (there-get before.list.items place c at) (ap (option_map owed_of) free) next
      (subst (λ (t : List Link). Messaged site.limit turn time c.number message h stages (IsRollOf stands m site.limit roll) r t (there_of after.list.items) old new w x) is messaged))

  pub refusal_handled : (n : ℕ) (head : RefusedHead) (r : Result (Unit {0}) Halt) (old new : Seen) (w : Source)
      → AreRising (there_of before.list.items) before.opened → IsQuietBefore place s → slice_get before.list.items place ≡ Some c
      → c.waits ≡ None → IsNext c.conn (refuses n head) → after.opened ≡ before.opened → IsRollOf stands m site.limit roll h stages
      → Refused c.number head r (there_of before.list.items) (there_of after.list.items) old new
      → HandledSo site turn time s r (λ _ next. AreAt stands m site.limit after roll next × IsQuietBefore place next) old new w w
  refusal_handled n head r old new w rising quiet at free next opened roll_is refused =
      handled_map site turn time s r _ _ old new w w (λ _ z p. stood_at (there_of after.list.items) z refl opened p)
      (handled_refused site turn time s place n (link_of c) head r (IsRollOf stands m site.limit roll) (there_of after.list.items) old new w rising quiet
      (there-get before.list.items place c at) (ap (option_map owed_of) free) next roll_is refused)

-- ---- what was told of the front

pub refusal_told : (c : Connection) (t : Taken) (left : List ℕ) (code : ℕ) → t ≡ T.Refused code → IsTaken c.conn left t
    → (n : ℕ) × (r : RefusedHead) × IsNext c.conn (refuses n r) × (code ≡ code_of r.refusal) × (left ≡ c.conn)
refusal_told c t left code is took = subst (IsTaken c.conn left) is took

pub waits_told : (c : Connection) (t : Taken) (left : List ℕ) → t ≡ T.NotYet → IsTaken c.conn left t → IsNext c.conn waits × (left ≡ c.conn)
waits_told c t left is took = subst (IsTaken c.conn left) is took

pub memory_told : (c : Connection) (t : Taken) (left : List ℕ) → t ≡ T.Memory → IsTaken c.conn left t
    → (n : ℕ) × (m : Message) × IsNext c.conn (takes n m) × (left ≡ c.conn)
memory_told c t left is took = subst (IsTaken c.conn left) is took

-- ---- and then the next

-- what stops a turn stops it whatever was to come of it
pub handled_stops : {A B : Type 0} (site : Site) (turn time : ℕ) (s : State) (r : Result B Halt) (halt : Halt) (After : A → State → Type 0) (Ever : B → State → Type 0)
    (old new : Seen) (w x : Source) → IsErr r → HandledSo {A = A} site turn time s (Err halt) After old new w x → HandledSo site turn time s r Ever old new w x
handled_stops site turn time s (Ok b) halt After Ever old new w x err h = cc
handled_stops site turn time s (Err why) halt After Ever old new w x err h = record {
  handlings = h.handlings;
  words = h.words;
  handled = h.handled;
  draws_so = h.draws_so;
  gives = h.gives;
  acts = h.acts;
  after = tt;
}

-- what was handled is told with the place to look at next
pub handled_at : {A : Type 0} (site : Site) (turn time : ℕ) (s : State) (place : ℕ) (After : A → State → Type 0) (Ever : ℕ → State → Type 0)
    (old new : Seen) (w x : Source) {a : A} → ((next : State) → After a next → Ever place next)
    → HandledSo site turn time s (Ok a) After old new w x → HandledSo site turn time s (Ok place) Ever old new w x
handled_at site turn time s place After Ever old new w x f h = record {
  handlings = h.handlings;
  words = h.words;
  handled = h.handled;
  draws_so = h.draws_so;
  gives = h.gives;
  acts = h.acts;
  after = f (after_handlings site turn time s h.handlings) h.after;
}

-- all places were looked at
pub handled_end : {T : Type 0} (site : Site) (turn time : ℕ) (s : State) (place : ℕ) (stands : T → Stage → Type 0) (m : Meaning)
    (connections : Connections) (roll : Roll T) (old new : Seen) (w x : Source) → length (there_of connections.list.items) ≤ place
    → HandledSo site turn time s (Ok place) (λ (p : ℕ) (next : State). AreAt stands m site.limit connections roll next × IsQuietBefore p next) old new w x
    → HandledSo site turn time s (Ok tt) (λ (_ : Unit {0}) (next : State). AreAt stands m site.limit connections roll next × AreQuiet (let k = next.connections in k.there))
    old new w x
handled_end site turn time s place stands m connections roll old new w x past h =
    let next = after_handlings site turn time s h.handlings in
    let there : there_of connections.list.items ≡ (let k = next.connections in k.there) = ap (λ (k : Links). k.there) h.after.0.links in
    record {
      handlings = h.handlings;
      words = h.words;
      handled = h.handled;
      draws_so = h.draws_so;
      gives = h.gives;
      acts = h.acts;
      after = (h.after.0, quiet_all (let k = next.connections in k.there) place (subst (λ (t : List Link). length t ≤ place) there past) h.after.1);
    }
