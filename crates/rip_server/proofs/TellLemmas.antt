-- What is told of a busy session that went on.
use Rattle.std.proofs.Common.{◌≡◌, ℕ, zero, suc, Bool, true, false, cond, eqb, List, [], ◌∷◌, ◌++◌, map, length, Option, Some, None, refl, sym, ap, ap₂, subst, ◌∙◌, append-nil, append_assoc}
use Rattle.std.specs.Prelude.{Result, Ok, Err, IsErr, OnOk, option_map}
use Rattle.std.proofs.lemmas.Bool.{eq-eqb}
use Rattle.rip_http.specs.Answers.{answer_text}
use Rattle.rip_http.specs.declared.answer.HttpAnswer.{HttpAnswer}
use Rattle.rip_log.specs.Entries.{Recorded, done, recorded_of, entry_text}
use Rattle.rip_log.specs.Histories.{history_text}
use Rattle.rip_outer.specs.Outside.{also, Front}
use Rattle.rip_wire.specs.Reasons.{reason_of}
use Rattle.rip_wire.specs.declared.ending.Ending.{Ending}
use Rattle.rip_history.specs.Answering.{json_answer, batch_body, opening_answer, batch_answer}
use Rattle.rip_history.specs.Connections.{Act, puts, put_in, all_put, Connection as Link, Connections as Links, owing, answer_acts}
use Rattle.rip_history.specs.Parts.{Meaning}
use Rattle.rip_history.specs.Run.{Site, State, called_so_far, stage_of, with_stage, Advance, advance_entries, after_advance, done_entries, answered_there, answered_acts, progress_there, progress_acts}
use Rattle.rip_history.specs.Services.{Called, Service, served_entries}
use Rattle.rip_history.specs.Stages.{Stage}
use Rattle.rip_history.specs.Standings.{when_done, standing_of}
use Rattle.rip_history.specs.declared.sessions.Progress.{Progress}
use Rattle.rip_history.specs.declared.sessions.Progress.TheVariants.{Busy, Finished}
use Rattle.rip_history.specs.declared.standing.Standing.{Standing}
use Rattle.rip_history.proofs.StandingLemmas.{standings_follow}
use Rattle.rip_table.specs.Ordinals.{get_at}
use Rattle.rip_table.specs.Rolls.{IsKept, IsRollOf, IsAtStage, WentOn, advance_of, seats}
use Rattle.rip_table.specs.Seats.{standing_in, IsKeptAt, Leaves}
use Rattle.rip_table.specs.declared.roll.roll.Roll.{Roll}
use Rattle.rip_table.specs.declared.roll.seat.Advanced.{Advanced}
use Rattle.rip_table.specs.declared.roll.seat.Legacy.{Legacy}
use Rattle.rip_table.specs.declared.roll.seat.Seat.{Seat}
use Rattle.rip_server.specs.Acts.{Seen, Acted, Did, Stopped}
use Rattle.rip_server.specs.Links.{answered_with, links_of, there_of}
use Rattle.rip_server.specs.Sending.{found_gone}
use Rattle.rip_server.specs.declared.connections.Connections.{Connections}
use Rattle.rip_server.specs.declared.halt.Halt.{Halt}
use Rattle.rip_server.specs.declared.send.Reached.{Reached}
use Rattle.rip_server.proofs.ActLemmas.{stopped_more}
use Rattle.rip_server.specs.Advancing.{Answered, IsDoneIn, IsDoneSo, Told, AdvancedOne}
use Rattle.rip_server.specs.Handling.{state_of, AreAt}
use Rattle.rip_server.specs.Turning.{site_of}
use Rattle.rip_server.proofs.SeenLemmas.{acted_held, acted_then, acted_as, did_put, put_stopped}

-- ---- a batch that is done is told by the history

done_last : (n number turn : ℕ) (how : Option Ending) (h : List Recorded) (s : Standing) → standing_of n (h ++ done turn n number how ∷ []) ≡ Some s
    → (s.done ≡ Some number) × (s.ended ≡ option_map reason_of how)
done_last n number turn how h s e = by (standing_of n h) (sym last ∙ e)
  where
    before : Option Standing
    before = standing_of n h

    last : standing_of n (h ++ done turn n number how ∷ []) ≡ option_map (when_done number (option_map reason_of how)) before
    last = standings_follow n h (done turn n number how)
        ∙ ap (λ (b : Bool). cond b (option_map (when_done number (option_map reason_of how)) before) before) (eq-eqb n n refl)

    by : (o : Option Standing) → option_map (when_done number (option_map reason_of how)) o ≡ Some s
        → (s.done ≡ Some number) × (s.ended ≡ option_map reason_of how)
    by None e = cc
    by (Some x) e =
        let same : when_done number (option_map reason_of how) x ≡ s = cc in
        (sym (ap (λ (y : Standing). y.done) same), sym (ap (λ (y : Standing). y.ended) same))

stage-set : (n : ℕ) (stages : List Stage) (st x : Stage) → stage_of n stages ≡ Some st → stage_of n (with_stage n x stages) ≡ Some x
stage-set zero stages st x e = cc
stage-set (suc n) [] st x e = cc
stage-set (suc zero) (y ∷ stages) st x e = refl
stage-set (suc (suc n)) (y ∷ stages) st x e = stage-set (suc n) stages st x e

module _ {T : Type 0} where
  -- the session of a stage is kept, and stands so
  pub there_is : (stands : T → Stage → Type 0) (m : Meaning) (limit n : ℕ) (roll : Roll T) (h : List Recorded) (stages : List Stage) (st : Stage)
      → IsRollOf stands m limit roll h stages → stage_of n stages ≡ Some st → (s : Standing) × (standing_of n h ≡ Some s)
  there_is stands m limit n roll h stages st is at = by (get_at n (seats roll)) (is.kept.each n) (is.each n)
    where
      by : (o : Option (Seat T)) → IsKeptAt h n o → IsAtStage stands m o (stage_of n stages) → (s : Standing) × (standing_of n h ≡ Some s)
      by None kept none = let both : None ≡ Some st = sym none ∙ at in cc
      by (Some seat) kept there = (standing_in seat, kept.standing)

  pub done_in : (stands : T → Stage → Type 0) (m : Meaning) (limit n number turn : ℕ) (roll : Roll T) (h es : List Recorded) (stages : List Stage) (st : Stage)
      (progress : Progress) (legacy : Option Legacy) → IsRollOf stands m limit roll (h ++ (es ++ done_entries turn n number progress)) stages
      → stage_of n stages ≡ Some st → Leaves progress legacy n number (h ++ (es ++ done_entries turn n number progress))
      → IsDoneIn progress legacy n number (h ++ (es ++ done_entries turn n number progress))
  done_in stands m limit n number turn roll h es stages st Busy legacy is at leaves = tt
  done_in stands m limit n number turn roll h es stages st (Finished how) legacy is at leaves =
      let (s, e) = there_is stands m limit n roll (h ++ (es ++ done turn n number how ∷ [])) stages st is at in
      let told = done_last n number turn how (h ++ es) s (ap (standing_of n) (append_assoc h es (done turn n number how ∷ [])) ∙ e) in
      record { standing = s; stands = e; done = told.0; ended = told.1; leaves = leaves }

-- ---- a batch that is done is answered

owed_puts : (gone : Bool) (o : Option (ℕ × Bool)) (a : HttpAnswer) → put_in (answered_with gone o a) ≡ []
owed_puts gone None a = refl
owed_puts true (Some (c, close)) a = refl
owed_puts false (Some (c, true)) a = refl
owed_puts false (Some (c, false)) a = refl

abbrev with_close : Bool → HttpAnswer → HttpAnswer
with_close close a = record a { close = close }

close_any : (page : List ℕ) (n number : ℕ) (how : Option Ending) (h : List Recorded) (close : Bool)
    → with_close close (batch_answer page n number how h false) ≡ batch_answer page n number how h close
close_any page n number how h close = by (eqb number 0)
  where
    by : (t : Bool) → with_close close (cond t (opening_answer page n how h false) (json_answer 200 (batch_body n number how h) false))
        ≡ cond t (opening_answer page n how h close) (json_answer 200 (batch_body n number how h) close)
    by true = refl
    by false = refl

owed_acts : (site : Site) (gone : Bool) (o : Option (ℕ × Bool)) (n number : ℕ) (how : Option Ending) (h : List Recorded) (a : HttpAnswer)
    → a ≡ batch_answer site.page n number how h false → answered_acts site gone o n number how h ≡ answered_with gone o a
owed_acts site gone None n number how h a e = refl
owed_acts site gone (Some (c, close)) n number how h a e =
    ap (λ (t : HttpAnswer). answer_acts gone close c (answer_text t)) (sym (ap (with_close close) e ∙ close_any site.page n number how h close))

one_text : (turn n number : ℕ) (how : Option Ending) (a : Seen) (held : Option (List ℕ)) → held ≡ also (entry_text (done turn n number how)) a.held
    → held ≡ also (history_text (done turn n number how ∷ [])) a.held
one_text turn n number how a held e = e ∙ ap (λ (t : List ℕ). also t a.held) (sym (append-nil (entry_text (done turn n number how))))

-- the answer was sent, or there was none to be sent to
pub answered_so : (site : Site) (turn n number : ℕ) (how : Option Ending) (h : List Recorded) (r : Result (Unit {0}) Halt) (reached : Reached)
    (there now : List Link) (a x y : Seen) (held : Option (List ℕ)) (answer : HttpAnswer)
    → r ≡ Ok tt → now ≡ answered_there (found_gone reached) (owing n there) there
    → Did (answered_with (found_gone reached) (owing n there) answer) x y → answer ≡ batch_answer site.page n number how h false
    → held ≡ also (entry_text (done turn n number how)) a.held → record x { held = held } ≡ record a { held = held }
    → Answered site turn n number how h r there now a (record y { held = held })
answered_so site turn n number how h r reached there now a x y held answer is after acts same put frame =
    subst (λ (q : Result (Unit {0}) Halt). Answered site turn n number how h q there now a (record y { held = held })) (sym is) (record {
      gone = found_gone reached;
      after = after;
      acts = acted_then ok (all_put (done turn n number how ∷ [])) (answered_acts site (found_gone reached) (owing n there) n number how h)
          a (record a { held = held }) (record y { held = held }) (did_put (done turn n number how ∷ []) a held (one_text turn n number how a held put))
          (acted_as ok _ (answered_acts site (found_gone reached) (owing n there) n number how h) (record a { held = held }) (record y { held = held })
          (owed_acts site (found_gone reached) (owing n there) n number how h answer same)
          (subst (λ (z : Seen). Did (answered_with (found_gone reached) (owing n there) answer) z (record y { held = held })) frame
          (acted_held ok (answered_with (found_gone reached) (owing n there) answer) x y held (owed_puts (found_gone reached) (owing n there) answer) acts)));
    })
  where
    ok : Result (Unit {0}) Halt
    ok = Ok tt

-- the turn stops in the answer
pub answered_err : (site : Site) (turn n number : ℕ) (how : Option Ending) (h : List Recorded) (r : Result (Unit {0}) Halt)
    (there now : List Link) (a x y : Seen) (held : Option (List ℕ)) (answer : HttpAnswer)
    → IsErr r → Stopped (answered_with false (owing n there) answer) x y → answer ≡ batch_answer site.page n number how h false
    → held ≡ also (entry_text (done turn n number how)) a.held → record x { held = held } ≡ record a { held = held }
    → Answered site turn n number how h r there now a (record y { held = held })
answered_err site turn n number how h (Ok z) there now a x y held answer err acts same put frame = cc
answered_err site turn n number how h (Err halt) there now a x y held answer err acts same put frame = record {
  gone = false;
  after = tt;
  acts = acted_then stops (all_put (done turn n number how ∷ [])) (answered_acts site false (owing n there) n number how h)
      a (record a { held = held }) (record y { held = held }) (did_put (done turn n number how ∷ []) a held (one_text turn n number how a held put))
      (acted_as stops _ (answered_acts site false (owing n there) n number how h) (record a { held = held }) (record y { held = held })
      (owed_acts site false (owing n there) n number how h answer same)
      (subst (λ (z : Seen). Stopped (answered_with false (owing n there) answer) z (record y { held = held })) frame
      (acted_held stops (answered_with false (owing n there) answer) x y held (owed_puts false (owing n there) answer) acts)));
}
  where
    stops : Result (Unit {0}) Halt
    stops = Err halt

-- it stops before the answer
pub answered_not : (site : Site) (turn n number : ℕ) (how : Option Ending) (h : List Recorded) (r : Result (Unit {0}) Halt)
    (there now : List Link) (a : Seen) (held : Option (List ℕ)) → IsErr r → Front (entry_text (done turn n number how)) a.held held
    → Answered site turn n number how h r there now a (record a { held = held })
answered_not site turn n number how h (Ok z) there now a held err front = cc
answered_not site turn n number how h (Err halt) there now a held err front = record {
  gone = false;
  after = tt;
  acts = stopped_more (all_put (done turn n number how ∷ [])) (answered_acts site false (owing n there) n number how h) a (record a { held = held })
      (put_stopped (done turn n number how ∷ []) a held
      (subst (λ (t : List ℕ). Front t a.held held) (sym (append-nil (entry_text (done turn n number how)))) front));
}

-- ---- what a session did is told

puts-join : (xs ys : List Recorded) → all_put (xs ++ ys) ≡ all_put xs ++ all_put ys
puts-join [] ys = refl
puts-join (x ∷ xs) ys = ap (λ (t : List Act). puts x ∷ t) (puts-join xs ys)

pub told_busy : (site : Site) (turn n number : ℕ) (es : List Recorded) (h : List Recorded) (r : Result (Unit {0}) Halt) (there now : List Link) (a : Seen)
    (held : Option (List ℕ)) → r ≡ Ok tt → now ≡ there → held ≡ also (history_text es) a.held
    → Told site turn n number es Busy h r there now a (record a { held = held })
told_busy site turn n number es h r there now a held is same put =
    subst (λ (q : Result (Unit {0}) Halt). Told site turn n number es Busy h q there now a (record a { held = held })) (sym is) (record {
      gone = false;
      after = same;
      acts = subst (λ (t : List Act). Did t a (record a { held = held })) (sym (append-nil (all_put (es ++ [])) ∙ ap all_put (append-nil es))) (did_put es a held put);
    })

pub told_cut : (site : Site) (turn n number : ℕ) (es : List Recorded) (progress : Progress) (h : List Recorded) (r : Result (Unit {0}) Halt)
    (there now : List Link) (a : Seen) (held : Option (List ℕ)) → IsErr r → Front (history_text es) a.held held
    → Told site turn n number es progress h r there now a (record a { held = held })
told_cut site turn n number es progress h (Ok z) there now a held err front = cc
told_cut site turn n number es progress h (Err halt) there now a held err front = record {
  gone = false;
  after = tt;
  acts = stopped_more (all_put (es ++ done_entries turn n number progress)) (progress_acts site false n number progress there h) a (record a { held = held })
      (subst (λ (t : List Act). Stopped t a (record a { held = held })) (sym (puts-join es (done_entries turn n number progress)))
      (stopped_more (all_put es) (all_put (done_entries turn n number progress)) a (record a { held = held }) (put_stopped es a held front)));
}

pub told_done : (site : Site) (turn n number : ℕ) (es : List Recorded) (how : Option Ending) (h : List Recorded) (r : Result (Unit {0}) Halt)
    (there now : List Link) (a c : Seen) (held : Option (List ℕ)) → held ≡ also (history_text es) a.held
    → Answered site turn n number how h r there now (record a { held = held }) c → Told site turn n number es (Finished how) h r there now a c
told_done site turn n number es how h r there now a c held put answered = record {
  gone = answered.gone;
  after = answered.after;
  acts = acted_as r _ (all_put (es ++ done turn n number how ∷ []) ++ answered_acts site answered.gone (owing n there) n number how h) a c
      (ap (λ (t : List Act). t ++ answered_acts site answered.gone (owing n there) n number how h) (puts-join es (done turn n number how ∷ []))
      ∙ append_assoc (all_put es) (all_put (done turn n number how ∷ [])) (answered_acts site answered.gone (owing n there) n number how h))
      (acted_then r (all_put es) (all_put (done turn n number how ∷ []) ++ answered_acts site answered.gone (owing n there) n number how h)
      a (record a { held = held }) c (did_put es a held put) answered.acts);
}

pub told_idle : (site : Site) (turn n number : ℕ) (es : List Recorded) (progress : Progress) (h : List Recorded) (there : List Link) (a : Seen)
    (held : Option (List ℕ)) → progress ≡ Busy → held ≡ also (history_text es) a.held
    → Told site turn n number es progress h (Ok tt) there there a (record a { held = held })
told_idle site turn n number es progress h there a held e put =
    subst (λ (p : Progress). Told site turn n number es p h (Ok tt) there there a (record a { held = held })) (sym e)
    (told_busy site turn n number es h (Ok tt) there there a held refl refl put)

pub told_finished : (site : Site) (turn n number : ℕ) (es : List Recorded) (progress : Progress) (how : Option Ending) (legacy : Option Legacy)
    (h : List Recorded) (r : Result (Unit {0}) Halt) (there now : List Link) (a c : Seen) (held : Option (List ℕ)) → progress ≡ Finished how
    → IsDoneIn progress legacy n number h → held ≡ also (history_text es) a.held
    → (IsDoneSo how legacy n number h → Answered site turn n number how h r there now (record a { held = held }) c)
    → Told site turn n number es progress h r there now a c
told_finished site turn n number es progress how legacy h r there now a c held e ends put answered =
    subst (λ (p : Progress). Told site turn n number es p h r there now a c) (sym e)
    (told_done site turn n number es how h r there now a c held put (answered (subst (λ (p : Progress). IsDoneIn p legacy n number h) e ends)))

-- ---- a session went on

pub advanced_so : (m : Meaning) (meant : Service) (limit : ℕ) (page : List ℕ) (turn time n : ℕ) (k : Links) (h : List Recorded) (stages : List Stage)
    (advanced : Advanced) (After : List Recorded → List Stage → Type 0) (Replies : List Called → Type 0) (r : Result (Unit {0}) Halt)
    (there now : List Link) (old new : Seen) → there ≡ k.there
    → (went : WentOn m meant turn time n h stages advanced After Replies)
    → Told (site_of m meant limit page) turn n advanced.batch (served_entries turn n went.parts went.given) advanced.progress
    (h ++ advance_entries turn (advance_of n went.parts went.given went.next advanced.progress false)) r there now old new
    → AdvancedOne (site_of m meant limit page) turn time n (state_of k h stages) r
    (λ s. ((let x = s.connections in x.there) ≡ now) × ((let x = s.connections in x.opened) ≡ k.opened) × After s.history s.stages × Replies (called_so_far s.history))
    old new
advanced_so m meant limit page turn time n k h stages advanced After Replies r there now old new at went told = record {
  advance = a;
  session = refl;
  is = record { stage = went.stage; stands = went.stands; goes_on = went.goes_on; replied = went.replied; how_far = went.how_far };
  acts = subst (λ (t : List Act). Acted r t old new) (ap₂ acts_of went.batch at) told.acts;
  after = ended r told.after;
}
  where
    a : Advance
    a = advance_of n went.parts went.given went.next advanced.progress told.gone

    next_h : List Recorded
    next_h = h ++ advance_entries turn a

    acts_of : ℕ → List Link → List Act
    acts_of number cs =
        all_put (served_entries turn n went.parts went.given ++ done_entries turn n number advanced.progress)
        ++ progress_acts (site_of m meant limit page) told.gone n number advanced.progress cs next_h

    ended : (q : Result (Unit {0}) Halt) → OnOk q (now ≡ progress_there told.gone n advanced.progress there)
        → OnOk q (((let x = (after_advance turn (state_of k h stages) a).connections in x.there) ≡ now)
        × ((let x = (after_advance turn (state_of k h stages) a).connections in x.opened) ≡ k.opened)
        × After (let x = after_advance turn (state_of k h stages) a in x.history) (let x = after_advance turn (state_of k h stages) a in x.stages)
        × Replies (called_so_far (let x = after_advance turn (state_of k h stages) a in x.history)))
    ended (Ok z) e = (sym (e ∙ ap (progress_there told.gone n advanced.progress) at), refl, went.after, went.replies)
    ended (Err halt) e = tt

-- what holds where a session went on
advanced-map : (site : Site) (turn time n : ℕ) (s : State) (r : Result (Unit {0}) Halt) (A B : State → Type 0) (old new : Seen)
    → ((x : State) → A x → B x) → AdvancedOne site turn time n s r A old new → AdvancedOne site turn time n s r B old new
advanced-map site turn time n s r A B old new f one = record {
  advance = one.advance;
  session = one.session;
  is = one.is;
  acts = one.acts;
  after = by r one.after;
}
  where
    by : (q : Result (Unit {0}) Halt) → OnOk q (A (after_advance turn s one.advance)) → OnOk q (B (after_advance turn s one.advance))
    by (Ok z) a = f (after_advance turn s one.advance) a
    by (Err halt) a = tt

same-links : (connections : Connections) (k : Links) → k.there ≡ there_of connections.list.items → k.opened ≡ connections.opened → links_of connections ≡ k
same-links connections k there opened = λ i. let x : Links = record { opened = sym opened i; there = sym there i } in x

-- a busy session went on, and that was told
pub stepped : {T : Type 0} (stands : T → Stage → Type 0) (m : Meaning) (meant : Service) (limit : ℕ) (page : List ℕ) (turn time n : ℕ)
    (before connections : Connections) (roll : Roll T) (h : List Recorded) (stages : List Stage) (advanced : Advanced)
    (Replies : List Called → Type 0) (r : Result (Unit {0}) Halt) (old new : Seen) → connections.opened ≡ before.opened
    → WentOn m meant turn time n h stages advanced (IsRollOf stands m limit roll) Replies
    → ((site : Site) (bound : ℕ) (g es : List Recorded) → site.page ≡ page → IsKept bound roll g → IsDoneIn advanced.progress advanced.legacy n advanced.batch g
    → map recorded_of advanced.entries.items ≡ es
    → Told site turn n advanced.batch es advanced.progress g r (there_of before.list.items) (there_of connections.list.items) old new)
    → AdvancedOne (site_of m meant limit page) turn time n (state_of (links_of before) h stages) r
    (λ s. AreAt stands m limit connections roll s × Replies (called_so_far s.history)) old new
stepped stands m meant limit page turn time n before connections roll h stages advanced Replies r old new opened went tell =
    let site = site_of m meant limit page in
    let es = served_entries turn n went.parts went.given in
    let next_h = h ++ advance_entries turn (advance_of n went.parts went.given went.next advanced.progress false) in
    let done : IsDoneIn advanced.progress advanced.legacy n advanced.batch next_h =
    subst (λ (k : ℕ). IsDoneIn advanced.progress advanced.legacy n k next_h) (sym went.batch)
    (done_in stands m limit n (length went.next.batches) turn roll h es (with_stage n went.next stages) went.next advanced.progress advanced.legacy went.after
    (stage-set n stages went.stage went.next went.stands) went.leaves) in
    advanced-map site turn time n (state_of (links_of before) h stages) r _ _ old new
    (λ s p. (record { links = same-links connections s.connections p.0 (p.1 ∙ sym opened); roll_is = p.2 }, p.3))
    (advanced_so m meant limit page turn time n (links_of before) h stages advanced (IsRollOf stands m limit roll) Replies r
    (there_of before.list.items) (there_of connections.list.items) old new refl went
    (tell site limit next_h es refl went.after.kept done went.entries))
