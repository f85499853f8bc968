-- What is decided, by its parts.
use Rattle.std.proofs.Common.{◌≡◌, inl, inr, ◌⊎◌, ℕ, Bool, true, false, cond, not, ◌&&◌, leb, ltb, List, [], ◌∷◌, length, Option, Some, refl, sym, ap, subst, ◌∙◌, append-nil}
use Rattle.std.specs.Prelude.{Result, Ok, Err, IfOk, codes}
use Rattle.std.proofs.lemmas.Bool.{leb-true, leb-false, le-ltb, lt-ltb}
use Rattle.rip_http.specs.declared.request.Message.{Message}
use Rattle.rip_http.specs.declared.request.Route.{Route}
use Rattle.rip_http.specs.declared.request.Route.TheVariants.{Page, Events, Quit}
use Rattle.rip_http.specs.declared.answer.HttpAnswer.{HttpAnswer}
use Rattle.rip_log.specs.Entries.{Recorded}
use Rattle.rip_base.specs.declared.memory.NoMemory.{NoMemory}
use Rattle.rip_wire.specs.Batches.{Contents}
use Rattle.rip_history.specs.Answering.{decided_answer}
use Rattle.rip_history.specs.Course.{draws, Draws}
use Rattle.rip_history.specs.Requests.{page, batch, quit, Drawn, drawn_of, Lack, no_lack, early, late, Decision, answers, opens, admits, closes, fails, on_page, on_drawn, decide, live_count, identifiers_in, identifier_in, Says, AsksAt}
use Rattle.rip_history.specs.Stages.{Stage}
use Rattle.rip_table.specs.Rolls.{room_in}
use Rattle.rip_table.specs.declared.roll.roll.Room.{Room}
use Rattle.rip_table.specs.declared.roll.roll.Room.TheVariants.{Free, Full, Spent}
use Rattle.rip_server.specs.Deciding.{answer_in, Tells, Comes, ComesOr, PageComes, StillComes, MessageComes}
use Rattle.rip_server.specs.Turning.{Source, Gives}
use Rattle.rip_server.specs.declared.turn.decide.Decided.{Decided}
use Rattle.rip_server.specs.declared.turn.reply.Reply.{Reply}
use Rattle.rip_server.proofs.SourceLemmas.{gives_none}

-- an answer at once leaves the sessions
pub comes_answered : (turn time code : ℕ) (close : Bool) (body : List ℕ) (h : List Recorded) (stages : List Stage) (After : List Recorded → List Stage → Type 0)
    (told : Decided) → Tells turn time close (answers code body) told → After h stages → Comes turn time close h stages After (answers code body) told
comes_answered turn time code close body h stages After told tells after =
    record { tells = tells; after = subst (λ (g : List Recorded). After g stages) (sym (append-nil h)) after }

pub comes_refused : (turn time code : ℕ) (close : Bool) (body : List ℕ) (h : List Recorded) (stages : List Stage) (After : List Recorded → List Stage → Type 0)
    (r : Result Decided NoMemory) → IfOk r (Tells turn time close (answers code body)) → After h stages
    → IfOk r (Comes turn time close h stages After (answers code body))
comes_refused turn time code close body h stages After (Ok told) tells after =
    comes_answered turn time code close body h stages After told tells after
comes_refused turn time code close body h stages After (Err e) tells after = tt

pub comes_or : (turn time : ℕ) (close : Bool) (h : List Recorded) (stages : List Stage) (After : List Recorded → List Stage → Type 0) (d : Decision)
    (r : Result Decided NoMemory) → IfOk r (Comes turn time close h stages After d) → ComesOr turn time close h stages After d r
comes_or turn time close h stages After d r comes = record { given = d; is = inl refl; comes = comes }

pub comes_memory : (turn time : ℕ) (close : Bool) (h : List Recorded) (stages : List Stage) (After : List Recorded → List Stage → Type 0) (d : Decision)
    (r : Result Decided NoMemory) → IfOk r (Comes turn time close h stages After (fails 503 (codes "memory"))) → ComesOr turn time close h stages After d r
comes_memory turn time close h stages After d r comes = record { given = fails 503 (codes "memory"); is = inr refl; comes = comes }

-- ---- the answer is shut behind as the message says

pub answer_closes : (close : Bool) (d : Decision) (reply : Reply) (a : HttpAnswer) → answer_in reply ≡ decided_answer close d → answer_in reply ≡ Some a → a.close ≡ close
answer_closes close (answers code body) reply a is some = let both = sym some ∙ is in cc
answer_closes close (opens n id seed) reply a is some = let both = sym some ∙ is in cc
answer_closes close (admits n b) reply a is some = let both = sym some ∙ is in cc
answer_closes close (closes n body) reply a is some = let both = sym some ∙ is in cc

-- ---- the page

less-not : (a b : ℕ) → ltb b a ≡ not (leb a b)
less-not a b = by (leb a b) refl
  where
    by : (t : Bool) → leb a b ≡ t → ltb b a ≡ not (leb a b)
    by true e = le-ltb b a (leb-true a b e) ∙ sym (ap not e)
    by false e = lt-ltb b a (leb-false a b e) ∙ sym (ap not e)

-- what is decided on the page by whether there is room for a session more
abbrev pub PageAt : ℕ → List Recorded → Drawn → Room → Type 0
PageAt limit h drawn Free =
    (draws limit h page no_lack ≡ true) × (draws limit h page late ≡ true)
    × (on_page limit h drawn no_lack ≡ on_drawn h drawn no_lack) × (on_page limit h drawn late ≡ fails 503 (codes "memory"))
PageAt limit h drawn Full = (draws limit h page no_lack ≡ false) × (on_page limit h drawn no_lack ≡ fails 503 (codes "full"))
PageAt limit h drawn Spent = (draws limit h page no_lack ≡ false) × (on_page limit h drawn no_lack ≡ fails 503 (codes "spent"))

pub page_at : (limit : ℕ) (h : List Recorded) (drawn : Drawn) → PageAt limit h drawn (room_in limit h)
page_at limit h drawn = by (leb limit live) refl (leb 1000000 count) refl
  where
    live : ℕ
    live = live_count h

    count : ℕ
    count = length (identifiers_in h)

    drawn_so : (t u : Bool) → leb limit live ≡ t → leb 1000000 count ≡ u → (ltb live limit && ltb count 1000000) ≡ (not t && not u)
    drawn_so t u e f =
        ap (λ (x : Bool). x && ltb count 1000000) (less-not limit live ∙ ap not e) ∙ ap (λ (x : Bool). not t && x) (less-not 1000000 count ∙ ap not f)

    decided_so : (t u : Bool) (lack : Lack) → leb limit live ≡ t → leb 1000000 count ≡ u
        → cond (leb limit live) (fails 503 (codes "full")) (cond (leb 1000000 count) (fails 503 (codes "spent")) (on_drawn h drawn lack))
        ≡ cond t (fails 503 (codes "full")) (cond u (fails 503 (codes "spent")) (on_drawn h drawn lack))
    decided_so t u lack e f =
        ap (λ (x : Bool). cond x (fails 503 (codes "full")) (cond (leb 1000000 count) (fails 503 (codes "spent")) (on_drawn h drawn lack))) e
        ∙ ap (λ (x : Bool). cond t (fails 503 (codes "full")) (cond x (fails 503 (codes "spent")) (on_drawn h drawn lack))) f

    room_so : (t u : Bool) → leb limit live ≡ t → leb 1000000 count ≡ u
        → cond t Full (cond u Spent Free) ≡ room_in limit h
    room_so t u e f =
        sym (ap (λ (x : Bool). cond x Full (cond (leb 1000000 count) Spent Free)) e ∙ ap (λ (x : Bool). cond t Full (cond x Spent Free)) f)

    by : (t : Bool) → leb limit live ≡ t → (u : Bool) → leb 1000000 count ≡ u → PageAt limit h drawn (room_in limit h)
    by true e u f = subst (PageAt limit h drawn) (room_so true u e f) (drawn_so true u e f, decided_so true u no_lack e f)
    by false e true f = subst (PageAt limit h drawn) (room_so false true e f) (drawn_so false true e f, decided_so false true no_lack e f)
    by false e false f = subst (PageAt limit h drawn) (room_so false false e f)
        (drawn_so false false e f, drawn_so false false e f, decided_so false false no_lack e f, decided_so false false late e f)

abbrev nothing_drawn : Drawn
nothing_drawn = record { id = 0; seed = 0 }

-- there is no room
pub page_refused : (limit turn time : ℕ) (close : Bool) (h : List Recorded) (stages : List Stage) (After : List Recorded → List Stage → Type 0)
    (body : List ℕ) (r : Result Decided NoMemory) (w : Source) → draws limit h page no_lack ≡ false
    → ((drawn : Drawn) → on_page limit h drawn no_lack ≡ answers 503 body) → IfOk r (Tells turn time close (answers 503 body)) → After h stages
    → PageComes limit turn time close h stages After r w w
page_refused limit turn time close h stages After body r w none is tells after = record {
  drawn = nothing_drawn;
  lack = no_lack;
  words = [];
  draws_so = subst (λ (b : Bool). Draws b nothing_drawn [] []) (sym none) refl;
  gives = gives_none w;
  comes = subst (λ (d : Decision). IfOk r (Comes turn time close h stages After d)) (sym (is nothing_drawn))
      (comes_refused turn time 503 close body h stages After r tells after);
}

pub page_drawn : (limit turn time : ℕ) (close : Bool) (h : List Recorded) (stages : List Stage) (After : List Recorded → List Stage → Type 0)
    (r : Result Decided NoMemory) (first second third : ℕ) (drawn : Drawn) (w x : Source) → drawn ≡ drawn_of first second third
    → Gives (first ∷ second ∷ third ∷ []) w x → PageAt limit h drawn Free
    → ComesOr turn time close h stages After (on_drawn h drawn no_lack) r → PageComes limit turn time close h stages After r w x
page_drawn limit turn time close h stages After r first second third drawn w x same gives at comes = by comes.is comes.comes
  where
    words : List ℕ
    words = first ∷ second ∷ third ∷ []

    drawn_so : (lack : Lack) → draws limit h page lack ≡ true → Draws (draws limit h page lack) drawn words []
    drawn_so lack e = subst (λ (b : Bool). Draws b drawn words []) (sym e) (first, second, third, refl, same)

    by : (comes.given ≡ on_drawn h drawn no_lack) ⊎ (comes.given ≡ fails 503 (codes "memory")) → IfOk r (Comes turn time close h stages After comes.given)
        → PageComes limit turn time close h stages After r w x
    by (inl is) c = record {
      drawn = drawn;
      lack = no_lack;
      words = words;
      draws_so = drawn_so no_lack at.0;
      gives = gives;
      comes = subst (λ (d : Decision). IfOk r (Comes turn time close h stages After d)) (is ∙ sym at.2) c;
    }
    by (inr is) c = record {
      drawn = drawn;
      lack = late;
      words = words;
      draws_so = drawn_so late at.1;
      gives = gives;
      comes = subst (λ (d : Decision). IfOk r (Comes turn time close h stages After d)) (is ∙ sym at.3) c;
    }

-- ---- batches and ends

pub batch_comes : (limit turn time : ℕ) (m : Message) (h : List Recorded) (stages : List Stage) (After : List Recorded → List Stage → Type 0)
    (r : Result Decided NoMemory) (b : Option Contents) (d : Decision) → m.route ≡ Events → Says m.body b
    → decide limit h (batch (identifier_in m.segment) b) nothing_drawn no_lack ≡ d → ComesOr turn time m.close h stages After d r
    → StillComes limit turn time m h stages After r
batch_comes limit turn time m h stages After r b d route says is comes = by comes.is comes.comes
  where
    by : (comes.given ≡ d) ⊎ (comes.given ≡ fails 503 (codes "memory")) → IfOk r (Comes turn time m.close h stages After comes.given)
        → StillComes limit turn time m h stages After r
    by (inl same) c = record {
      handled = record { asked = batch (identifier_in m.segment) b; drawn = nothing_drawn; lack = no_lack };
      asked = inr (subst (λ (at : Route). AsksAt at m.segment m.body (batch (identifier_in m.segment) b)) (sym route) (b, says, refl));
      still = refl;
      comes = subst (λ (e : Decision). IfOk r (Comes turn time m.close h stages After e)) (same ∙ sym is) c;
    }
    by (inr same) c = record {
      handled = record { asked = batch (identifier_in m.segment) b; drawn = nothing_drawn; lack = early };
      asked = inl refl;
      still = refl;
      comes = subst (λ (e : Decision). IfOk r (Comes turn time m.close h stages After e)) same c;
    }

pub memory_comes : (limit turn time : ℕ) (m : Message) (h : List Recorded) (stages : List Stage) (After : List Recorded → List Stage → Type 0)
    (r : Result Decided NoMemory) → IfOk r (Comes turn time m.close h stages After (fails 503 (codes "memory"))) → StillComes limit turn time m h stages After r
memory_comes limit turn time m h stages After r c = record {
  handled = record { asked = page; drawn = nothing_drawn; lack = early };
  asked = inl refl;
  still = refl;
  comes = c;
}

pub quit_comes : (limit turn time : ℕ) (m : Message) (h : List Recorded) (stages : List Stage) (After : List Recorded → List Stage → Type 0)
    (r : Result Decided NoMemory) (d : Decision) → m.route ≡ Quit
    → decide limit h (quit (identifier_in m.segment)) nothing_drawn no_lack ≡ d → IfOk r (Comes turn time m.close h stages After d)
    → StillComes limit turn time m h stages After r
quit_comes limit turn time m h stages After r d route is c = record {
  handled = record { asked = quit (identifier_in m.segment); drawn = nothing_drawn; lack = no_lack };
  asked = inr (subst (λ (at : Route). AsksAt at m.segment m.body (quit (identifier_in m.segment))) (sym route) refl);
  still = refl;
  comes = subst (λ (e : Decision). IfOk r (Comes turn time m.close h stages After e)) (sym is) c;
}

-- ---- a message

pub message_page : (limit turn time : ℕ) (m : Message) (h : List Recorded) (stages : List Stage) (After : List Recorded → List Stage → Type 0)
    (r : Result Decided NoMemory) (w x : Source) → m.route ≡ Page → PageComes limit turn time m.close h stages After r w x
    → MessageComes limit turn time m h stages After r w x
message_page limit turn time m h stages After r w x route comes = record {
  handled = record { asked = page; drawn = comes.drawn; lack = comes.lack };
  words = comes.words;
  asked = inr (subst (λ (at : Route). AsksAt at m.segment m.body page) (sym route) refl);
  draws_so = comes.draws_so;
  gives = comes.gives;
  comes = comes.comes;
}

pub message_still : (limit turn time : ℕ) (m : Message) (h : List Recorded) (stages : List Stage) (After : List Recorded → List Stage → Type 0)
    (r : Result Decided NoMemory) (w : Source) → StillComes limit turn time m h stages After r → MessageComes limit turn time m h stages After r w w
message_still limit turn time m h stages After r w comes = record {
  handled = comes.handled;
  words = [];
  asked = comes.asked;
  draws_so = subst (λ (b : Bool). Draws b (let x = comes.handled in x.drawn) [] []) (sym comes.still) refl;
  gives = gives_none w;
  comes = comes.comes;
}
