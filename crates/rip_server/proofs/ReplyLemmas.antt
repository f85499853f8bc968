-- What becomes of a connection whose request is answered or waits.
use Rattle.std.proofs.Common.{◌≡◌, ℕ, zero, suc, ◌<◌, length, arith, Bool, true, false, cond, ◌||◌, List, [], ◌∷◌, ◌++◌, Option, Some, None, refl, sym, ap, subst, ◌∙◌}
use Rattle.std.specs.Prelude.{Result, Ok, Err, IsErr, OnOk, slice_get, slice_set}
use Rattle.rip_http.specs.Answers.{answer_text}
use Rattle.rip_http.specs.declared.answer.HttpAnswer.{HttpAnswer}
use Rattle.rip_http.specs.declared.request.Message.{Message}
use Rattle.rip_http.specs.declared.request.RefusedHead.{RefusedHead}
use Rattle.rip_log.specs.Entries.{Recorded}
use Rattle.rip_log.specs.Histories.{history_text}
use Rattle.rip_outer.specs.Outside.{also, Front}
use Rattle.rip_base.specs.declared.memory.NoMemory.{NoMemory}
use Rattle.rip_history.specs.Answering.{decided_owed, refusal_answer}
use Rattle.rip_history.specs.Connections.{put_in, all_put, Owed, Connection as Link, without, changed, answer_acts, after_answer}
use Rattle.rip_history.specs.Course.{decided_entries}
use Rattle.rip_history.specs.Requests.{Decision, decide}
use Rattle.rip_history.specs.Run.{answered_or_owed, at_once_acts, decided_stages, owed_by}
use Rattle.rip_history.specs.Stages.{Stage}
use Rattle.rip_server.specs.Acts.{Seen, Acted, Did, Stopped}
use Rattle.rip_server.specs.Links.{AreRising, AreLinks, links_of, there_of}
use Rattle.rip_server.specs.declared.connection.Connection.{Connection}
use Rattle.rip_server.specs.declared.connection.Wait.{Wait}
use Rattle.rip_server.specs.declared.connections.Connections.{Connections}
use Rattle.rip_server.specs.Sending.{found_gone}
use Rattle.rip_server.specs.declared.halt.Halt.{Halt}
use Rattle.rip_server.specs.declared.send.Reached.{Reached}
use Rattle.rip_server.proofs.ActLemmas.{did_none, stopped_none, stopped_more}
use Rattle.rip_server.proofs.LinkLemmas.{set-changed, there-changed}
use Rattle.rip_server.proofs.OwedLemmas.{links_changed}
use Rattle.rip_server.specs.Deciding.{IsLine, answer_in, owed_in, MessageComes}
use Rattle.rip_server.specs.Handling.{Replied, Settled, Stays, Refused, Messaged}
use Rattle.rip_server.specs.Turning.{Source}
use Rattle.rip_server.specs.declared.turn.decide.Decided.{Decided}
use Rattle.rip_server.specs.declared.turn.reply.Reply.{Reply}
use Rattle.rip_server.specs.declared.turn.reply.Reply.TheVariants.{Now, Later}
use Rattle.rip_server.proofs.DecideLemmas.{answer_closes}
use Rattle.rip_server.proofs.SeenLemmas.{acted_held, acted_then, did_put, put_stopped}

-- ---- a connection on which nothing is owed

set_same : (cs : List Link) (place : ℕ) (d : Link) → slice_get cs place ≡ Some d → slice_set cs place d ≡ cs
set_same [] place d e = cc
set_same (c ∷ cs) zero d e = let same : c ≡ d = cc in ap (λ (t : Link). t ∷ cs) (sym same)
set_same (c ∷ cs) (suc place) d e = ap (λ (t : List Link). c ∷ t) (set_same cs place d e)

abbrev owes_nothing : Link → Link
owes_nothing c = record c { owed = None }

pub nothing_owed : (cs : List Link) (high place : ℕ) (d : Link) → AreRising cs high → slice_get cs place ≡ Some d → d.owed ≡ None
    → changed d.number owes_nothing cs ≡ cs
nothing_owed cs high place d rising e none =
    let same : owes_nothing d ≡ d = ap (λ (o : Option Owed). record d { owed = o }) (sym none) in
    sym (set-changed cs high place d owes_nothing rising e) ∙ ap (slice_set cs place) same ∙ set_same cs place d e

-- ---- an answer at once

sent_so : (gone close : Bool) (n : ℕ) (there now : List Link) → changed n owes_nothing there ≡ there → now ≡ cond (gone || close) (without n there) there
    → now ≡ after_answer gone close n there
sent_so true close n there now same e = e
sent_so false true n there now same e = e
sent_so false false n there now same e = e ∙ sym same

puts_none : (gone close : Bool) (n : ℕ) (bytes : List ℕ) → put_in (answer_acts gone close n bytes) ≡ []
puts_none true close n bytes = refl
puts_none false true n bytes = refl
puts_none false false n bytes = refl

-- it was sent: the connection stays, is shut or was found gone
pub replied_now : (r : Result (Unit {0}) Halt) (reached : Reached) (n : ℕ) (close : Bool) (a : HttpAnswer) (there now : List Link) (old new : Seen)
    (held : Option (List ℕ)) → r ≡ Ok tt → a.close ≡ close → changed n owes_nothing there ≡ there
    → now ≡ cond (found_gone reached || a.close) (without n there) there
    → Acted (let q : Result Reached Halt = Ok reached in q) (answer_acts (found_gone reached) a.close n (answer_text a)) old new
    → Replied n close (Now a) r there now (record old { held = held }) (record new { held = held })
replied_now r reached n close a there now old new held is same nothing left acts =
    subst (λ (q : Result (Unit {0}) Halt). Replied n close (Now a) q there now (record old { held = held }) (record new { held = held })) (sym is)
    (subst (λ (b : Bool). Replied n b (Now a) (Ok tt) there now (record old { held = held }) (record new { held = held })) same (record {
      gone = found_gone reached;
      after = sent_so (found_gone reached) a.close n there now nothing left;
      acts = acted_held done (answer_acts (found_gone reached) a.close n (answer_text a)) old new held (puts_none (found_gone reached) a.close n (answer_text a)) acts;
    }))
  where
    done : Result (Unit {0}) Halt
    done = Ok tt

pub replied_not : (r : Result (Unit {0}) Halt) (n : ℕ) (close : Bool) (a : HttpAnswer) (there now : List Link) (old new : Seen)
    (held : Option (List ℕ)) → IsErr r → a.close ≡ close
    → Stopped (answer_acts false a.close n (answer_text a)) old new
    → Replied n close (Now a) r there now (record old { held = held }) (record new { held = held })
replied_not (Ok x) n close a there now old new held e same s = cc
replied_not (Err h) n close a there now old new held e same s =
    subst (λ (b : Bool). Replied n b (Now a) (Err h) there now (record old { held = held }) (record new { held = held })) same (record {
      gone = false;
      after = tt;
      acts = acted_held stops (answer_acts false a.close n (answer_text a)) old new held (puts_none false a.close n (answer_text a)) s;
    })
  where
    stops : Result (Unit {0}) Halt
    stops = Err h

pub stays_now : (reached : Reached) (n : ℕ) (close : Bool) (there now : List Link) → changed n owes_nothing there ≡ there
    → now ≡ cond (found_gone reached || close) (without n there) there → Stays n there now
stays_now reached n close there now nothing left =
    record { gone = found_gone reached; close = close; owed = None; is = sent_so (found_gone reached) close n there now nothing left }

-- so it is of a reply at once
pub replied_sent : (reply : Reply) (a : HttpAnswer) (reached : Reached) (n : ℕ) (close : Bool) (there now : List Link) (old new : Seen)
    (held : Option (List ℕ)) → reply ≡ Now a → ((b : HttpAnswer) → answer_in reply ≡ Some b → b.close ≡ close) → changed n owes_nothing there ≡ there
    → now ≡ cond (found_gone reached || a.close) (without n there) there
    → Did (answer_acts (found_gone reached) a.close n (answer_text a)) old new
    → Replied n close reply (Ok tt) there now (record old { held = held }) (record new { held = held })
replied_sent reply a reached n close there now old new held is closes nothing left acts =
    subst (λ (x : Reply). Replied n close x (Ok tt) there now (record old { held = held }) (record new { held = held })) (sym is)
    (replied_now (Ok tt) reached n close a there now old new held refl (closes a (ap answer_in is)) nothing left acts)

pub replied_cut : (reply : Reply) (a : HttpAnswer) (r : Result (Unit {0}) Halt) (n : ℕ) (close : Bool) (there now : List Link) (old new : Seen)
    (held : Option (List ℕ)) → reply ≡ Now a → ((b : HttpAnswer) → answer_in reply ≡ Some b → b.close ≡ close) → IsErr r
    → Stopped (answer_acts false a.close n (answer_text a)) old new
    → Replied n close reply r there now (record old { held = held }) (record new { held = held })
replied_cut reply a r n close there now old new held is closes err acts =
    subst (λ (x : Reply). Replied n close x r there now (record old { held = held }) (record new { held = held })) (sym is)
    (replied_not r n close a there now old new held err (closes a (ap answer_in is)) acts)

-- ---- a connection waits

pub replied_later : (reply : Reply) (session n : ℕ) (close : Bool) (there now : List Link) (seen : Seen) → reply ≡ Later session
    → now ≡ owed_by n session close there → Replied n close reply (Ok tt) there now seen seen
replied_later reply session n close there now seen is after =
    subst (λ (x : Reply). Replied n close x (Ok tt) there now seen seen) (sym is)
    (record { gone = false; after = after; acts = did_none seen })

pub stays_later : (session n : ℕ) (close : Bool) (there now : List Link) → now ≡ owed_by n session close there → Stays n there now
stays_later session n close there now after = record { gone = false; close = close; owed = Some session; is = after }

-- ---- connections by their places

pub exists_at : (cs : List Connection) (place : ℕ) → place < length cs → (c : Connection) × (slice_get cs place ≡ Some c)
exists_at [] place below = absurd (omega (arith, below))
exists_at (c ∷ cs) zero below = (c, refl)
exists_at (c ∷ cs) (suc place) below = exists_at cs place (omega (arith, below))

-- one that waits is there as it was, but for that
pub waits_at : (items now : List Connection) (high place : ℕ) (c : Connection) (w : Wait) → AreRising (there_of items) high → slice_get items place ≡ Some c
    → now ≡ slice_set items place (record c { waits = Some w }) → there_of now ≡ owed_by c.number w.session w.close (there_of items)
waits_at items now high place c w rising at is =
    ap there_of is
    ∙ there-changed items high place c (record c { waits = Some w }) (λ (x : Link). record x { owed = Some (record { session = w.session; close = w.close }) }) rising at refl

pub links_later : (P : ℕ → Type 0) (old new : Connections) (place : ℕ) (w : Wait) → AreLinks P (links_of old) → place < length old.list.items
    → ((c : Connection) → slice_get old.list.items place ≡ Some c → new.list.items ≡ slice_set old.list.items place (record c { waits = Some w }))
    → new.opened ≡ old.opened → AreLinks P (links_of new)
links_later P old new place w links below list opened =
    let (c, at) = exists_at old.list.items place below in
    subst (λ (k : ℕ). AreLinks P (record { opened = k; there = there_of new.list.items })) (sym opened)
    (links_changed P old.opened c.number (λ (x : Link). record x { owed = Some (record { session = w.session; close = w.close }) }) (λ x. refl)
    (there_of old.list.items) (there_of new.list.items) (waits_at old.list.items new.list.items old.opened place c w links.rising at (list c at)) links)

-- ---- a refused head

pub refused_cut : (n : ℕ) (head : RefusedHead) (a : HttpAnswer) (r : Result (Unit {0}) Halt) (there now : List Link) (old new : Seen)
    (held : Option (List ℕ)) → IsErr r → a ≡ refusal_answer head → Stopped (answer_acts false a.close n (answer_text a)) old new
    → Refused n head r there now (record old { held = held }) (record new { held = held })
refused_cut n head a (Ok x) there now old new held err is acts = cc
refused_cut n head a (Err h) there now old new held err is acts = record {
  gone = false;
  after = tt;
  acts = subst (λ (b : HttpAnswer). Stopped (answer_acts false b.close n (answer_text b)) (record old { held = held }) (record new { held = held })) is
      (acted_held stops (answer_acts false a.close n (answer_text a)) old new held (puts_none false a.close n (answer_text a)) acts);
}
  where
    stops : Result (Unit {0}) Halt
    stops = Err h

pub refused_none : (n : ℕ) (head : RefusedHead) (r : Result (Unit {0}) Halt) (there now : List Link) (seen : Seen) → IsErr r
    → Refused n head r there now seen seen
refused_none n head (Ok x) there now seen err = cc
refused_none n head (Err h) there now seen err = record { gone = false; after = tt; acts = stopped_none _ seen }

pub refused_sent : (n : ℕ) (head : RefusedHead) (a : HttpAnswer) (reached : Reached) (there now : List Link) (old new : Seen)
    (held : Option (List ℕ)) → a ≡ refusal_answer head → now ≡ cond (found_gone reached || a.close) (without n there) there
    → Did (answer_acts (found_gone reached) a.close n (answer_text a)) old new
    → Refused n head (Ok tt) there now (record old { held = held }) (record new { held = held })
refused_sent n head a reached there now old new held is left acts = record {
  gone = found_gone reached;
  after = left ∙ ap (λ (b : HttpAnswer). cond (found_gone reached || b.close) (without n there) there) is ∙ by (found_gone reached);
  acts = subst (λ (b : HttpAnswer). Did (answer_acts (found_gone reached) b.close n (answer_text b)) (record old { held = held }) (record new { held = held })) is
      (acted_held done (answer_acts (found_gone reached) a.close n (answer_text a)) old new held (puts_none (found_gone reached) a.close n (answer_text a)) acts);
}
  where
    done : Result (Unit {0}) Halt
    done = Ok tt

    by : (t : Bool) → cond (t || true) (without n there) there ≡ after_answer t true n there
    by true = refl
    by false = refl

-- ---- behind the lines of entries

pub settled_then : (n : ℕ) (close : Bool) (es : List Recorded) (reply : Reply) (r : Result (Unit {0}) Halt) (there now : List Link) (a c : Seen)
    (held : Option (List ℕ)) → held ≡ also (history_text es) a.held → Replied n close reply r there now (record a { held = held }) c
    → Settled n close es reply r there now a c
settled_then n close es reply r there now a c held e replied = record {
  gone = replied.gone;
  after = replied.after;
  acts = acted_then r (all_put es) (at_once_acts n replied.gone close (answer_in reply)) a (record a { held = held }) c (did_put es a held e) replied.acts;
}

pub settled_err : (n : ℕ) (close : Bool) (es : List Recorded) (reply : Reply) (r : Result (Unit {0}) Halt) (there now : List Link) (a : Seen)
    (held : Option (List ℕ)) → IsErr r → Front (history_text es) a.held held → Settled n close es reply r there now a (record a { held = held })
settled_err n close es reply (Ok x) there now a held e f = cc
settled_err n close es reply (Err halt) there now a held e f = record {
  gone = false;
  after = tt;
  acts = stopped_more (all_put es) (at_once_acts n false close (answer_in reply)) a (record a { held = held }) (put_stopped es a held f);
}

-- ---- a message

pub messaged_so : (limit turn time n : ℕ) (m : Message) (h : List Recorded) (stages : List Stage) (After : List Recorded → List Stage → Type 0) (told : Decided)
    (r : Result (Unit {0}) Halt) (there now : List Link) (old new : Seen) (w x : Source) → MessageComes limit turn time m h stages After (Ok told) w x
    → ((es : List Recorded) → IsLine told.line es → ((a : HttpAnswer) → answer_in told.reply ≡ Some a → a.close ≡ m.close)
    → Settled n m.close es told.reply r there now old new)
    → Messaged limit turn time n m h stages After r there now old new w x
messaged_so limit turn time n m h stages After told r there now old new w x comes settles = by (settles es comes.comes.tells.line closes_so)
  where
    d : Decision
    d = let y = comes.handled in decide limit h y.asked y.drawn y.lack

    es : List Recorded
    es = decided_entries turn time d

    closes_so : (a : HttpAnswer) → answer_in told.reply ≡ Some a → a.close ≡ m.close
    closes_so a = answer_closes m.close d told.reply a comes.comes.tells.answer

    ended : (q : Result (Unit {0}) Halt) (gone : Bool) → OnOk q (now ≡ answered_or_owed n gone m.close (owed_in told.reply) there)
        → OnOk q ((now ≡ answered_or_owed n gone m.close (decided_owed d) there) × After (h ++ es) (decided_stages time d stages))
    ended (Ok done) gone e = (e ∙ ap (λ (o : Option ℕ). answered_or_owed n gone m.close o there) comes.comes.tells.owed, comes.comes.after)
    ended (Err halt) gone e = tt

    by : Settled n m.close es told.reply r there now old new → Messaged limit turn time n m h stages After r there now old new w x
    by settled = record {
      handled = comes.handled;
      words = comes.words;
      gone = settled.gone;
      asked = comes.asked;
      draws_so = comes.draws_so;
      gives = comes.gives;
      acts = subst (λ (o : Option HttpAnswer). Acted r (all_put es ++ at_once_acts n settled.gone m.close o) old new) comes.comes.tells.answer settled.acts;
      after = ended r settled.gone settled.after;
    }

pub messaged_err : (limit turn time n : ℕ) (m : Message) (h : List Recorded) (stages : List Stage) (After Ever : List Recorded → List Stage → Type 0) (e : NoMemory)
    (r : Result (Unit {0}) Halt) (there now : List Link) (seen : Seen) (w x : Source) → IsErr r → MessageComes limit turn time m h stages After (Err e) w x
    → Messaged limit turn time n m h stages Ever r there now seen seen w x
messaged_err limit turn time n m h stages After Ever e (Ok done) there now seen w x err comes = cc
messaged_err limit turn time n m h stages After Ever e (Err halt) there now seen w x err comes = record {
  handled = comes.handled;
  words = comes.words;
  gone = false;
  asked = comes.asked;
  draws_so = comes.draws_so;
  gives = comes.gives;
  acts = stopped_none _ seen;
  after = tt;
}
