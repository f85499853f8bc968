-- Work in code, as it goes on paper.
use Rattle.std.proofs.Common.{◌≡◌, ◌∙◌, ℕ, ◌+◌, Bool, true, false, List, [], ◌∷◌, ◌++◌, map, set, append-nil, refl, sym, ap, subst}
use Rattle.std.specs.Prelude.{Option, Some, None, option_map, slice_get, if◌then◌else◌}
use Rattle.rip_eval_rows.specs.declared.close.Close.{Close}
use Rattle.rip_eval_rows.specs.declared.close.Close.TheVariants.{Fine, Refused, Mismatch, Stopped}
use Rattle.rip_wire.specs.Batches.{Contents}
use Rattle.rip_wire.specs.declared.gesture.Gesture.{Gesture}
use Rattle.rip_client.specs.Bytes.{batches_of}
use Rattle.rip_client.specs.Sizes.{ToldSo, end_of}
use Rattle.rip_client.specs.Truth.{Playing, TellsGesture}
use Rattle.rip_client.specs.declared.client.Client.{Client}
use Rattle.rip_client.specs.declared.client.HowTold.{HowTold}
use Rattle.rip_client.specs.declared.client.HowTold.TheVariants as how
use Rattle.rip_client.specs.declared.list.ToldBatch.{ToldBatch}
use Rattle.rip_gen.specs.Plans.{Plan, place_of}
use Rattle.rip_gen.specs.Lies.{lied, lies_in}
use Rattle.rip_gen.specs.Work.{Opened, Played, Plays, Sessions, Stage, Stand, Tells, first_stage, first_stand, goes_on, is_fine, may_lie, open_lines, told_lines, with_lie, with_stand, with_told}
use Rattle.rip_gen.specs.Work as work
use Rattle.rip_gen.specs.Working.{AreOn, GoesOn, OpensTo, PlaysTo, TellsSo, stage_of, stand_of, taken}
use Rattle.rip_gen.specs.declared.generate.work.Work.{Work}
use Rattle.rip_gen.proofs.Places.{get_map, map_if, map_push, none_taken, push_each, put_back, seen_set, set_each, set_none, some_taken, taken_none}

-- ---- clients that go on

-- a client that is kept where it goes on
kept_on : {A : Type 0} (goes : Bool) (client c : Client A) (kept : Option (Client A)) → (goes ≡ true → client.over ≡ None) → kept ≡ (if goes then Some client else None) → kept ≡ Some c → c.over ≡ None
kept_on true client c kept over is there = let same : client ≡ c = cc in subst (λ d. d.over ≡ None) same (over refl)
kept_on false client c kept over is there = cc

-- where the session goes on behind its gesture, so does the client
on_behind : (how : HowTold) (goes : Bool) → GoesOn how goes → goes ≡ true → end_of how ≡ None
on_behind how.Whole goes on e = refl
on_behind (how.Ended Fine) goes on e = refl
on_behind (how.Ended (Refused item kind)) goes on e = let no : true ≡ false = sym e ∙ on.is ∙ ap is_fine on.told in cc
on_behind (how.Ended (Mismatch item)) goes on e = let no : true ≡ false = sym e ∙ on.is ∙ ap is_fine on.told in cc
on_behind (how.Ended (Stopped item stop)) goes on e = let no : true ≡ false = sym e ∙ on.is ∙ ap is_fine on.told in cc
on_behind how.Memory goes on e = absurd on.told

still_goes : (lies goes : Bool) → (if lies then false else goes) ≡ true → goes ≡ true
still_goes true goes e = cc
still_goes false goes e = e

-- one place has another client, or none
on_there : {A : Type 0} (clients after : List (Option (Client A))) (place : ℕ) (kept : Option (Client A)) → AreOn clients → after ≡ set clients place kept
    → ((c : Client A) → kept ≡ Some c → c.over ≡ None) → AreOn after
on_there clients after place kept on is one = subst AreOn (sym is) (set_each (λ j c. c.over ≡ None) clients place kept on one)

-- ---- openings

pub opens_none : {O A G : Type 0} (x : Sessions A G) (w : Work O A G) → x.gives w.giver → w.clients.items ≡ [] → w.lied ≡ false → w.text ≡ [] → OpensTo x 0 w
opens_none x w gives clients lied text =
    let stage : first_stage w.giver ≡ stage_of w = λ i. record { stands = map (option_map stand_of) (sym clients i); giver = w.giver; lied = sym lied i } in (
      subst (λ (lines : List ℕ). Opened x 0 (stage_of w) lines) (sym text) (subst (λ (s : Stage _ _). Opened x 0 s []) stage (work.none w.giver gives)),
      subst AreOn (sym clients) (λ place c get. cc),
    )

pub opens_more : {O A G : Type 0} (x : Sessions A G) (place quiet : ℕ) (w n : Work O A G) (close : Close) (fine : Bool) (actor : A) (client : Client A) (kept : Option (Client A)) → OpensTo x place w
    → x.opens place w.giver close actor n.giver → client.actor ≡ actor → client.list.number ≡ 1 → client.waiting.items ≡ [] → client.over ≡ None → fine ≡ is_fine close
    → kept ≡ (if fine then Some client else None) → n.clients.items ≡ w.clients.items ++ kept ∷ [] → n.lied ≡ w.lied → n.text ≡ w.text ++ open_lines place quiet → OpensTo x (place + 1) n
opens_more x place quiet w n close fine actor client kept o opens actor_is number waiting over is kept_is clients lied text =
    let stand : stand_of client ≡ first_stand actor = λ i. record { session = actor_is i; number = number i; waiting = waiting i } in
    let stands : (stage_of n).stands ≡ (stage_of w).stands ++ goes_on close (first_stand actor) ∷ [] =
    ap (map (option_map stand_of)) clients ∙ map_push (option_map stand_of) w.clients.items kept
    ∙ ap (λ c. (stage_of w).stands ++ c ∷ []) (ap (option_map stand_of) kept_is ∙ map_if stand_of fine client ∙ ap (λ b. if b then Some (stand_of client) else None) is ∙ ap (goes_on close) stand) in
    let stage : with_stand (goes_on close (first_stand actor)) n.giver (stage_of w) ≡ stage_of n = λ i. record { stands = sym stands i; giver = n.giver; lied = sym lied i } in (
      subst (λ (lines : List ℕ). Opened x (place + 1) (stage_of n) lines) (sym text)
          (subst (λ (s : Stage _ _). Opened x (place + 1) s (w.text ++ open_lines place quiet)) stage (work.more place (stage_of w) w.text close actor n.giver quiet o.0 opens)),
      subst AreOn (sym clients) (push_each (λ j c. c.over ≡ None) w.clients.items kept o.1 (λ c there. kept_on fine client c kept (λ goes. over) kept_is there)),
    )

-- ---- gestures

-- a gesture that was told so in code
abbrev pub Told : {A G : Type 0} → Playing A G → Gesture → Client A → G → Close → List Contents → Client A → G → Type 0
Told x gesture a g close batches b h = TellsGesture x gesture a.actor g a.list.number a.waiting.items close batches b.actor h b.list.number b.waiting.items

stand_there : {O A G : Type 0} (w : Work O A G) (place : ℕ) (a : Client A) → slice_get w.clients.items place ≡ Some (Some a) → slice_get (stage_of w).stands place ≡ Some (Some (stand_of a))
stand_there w place a get = get_map (option_map stand_of) w.clients.items place ∙ ap (option_map (option_map stand_of)) get

-- the client of a place was taken out of it
pub record Took {O A G : Type 0} (place : ℕ) (w m : Work O A G) (a : Option (Client A)) : Type 0 where
  pub there : a ≡ taken (slice_get w.clients.items place)
  pub clients : m.clients.items ≡ set w.clients.items place None
  pub others : (m.giver ≡ w.giver) × (m.lied ≡ w.lied) × (m.text ≡ w.text)

took_there : {O A G : Type 0} (place : ℕ) (w m : Work O A G) (o : Option (Client A)) (a : Client A) → Took place w m o → o ≡ Some a → slice_get w.clients.items place ≡ Some (Some a)
took_there place w m o a t is = some_taken (slice_get w.clients.items place) a (sym t.there ∙ is)

-- and another was put there, or none
put_so : {O A G : Type 0} (place : ℕ) (w m n : Work O A G) (o kept : Option (Client A)) → Took place w m o → n.clients.items ≡ set m.clients.items place kept → n.clients.items ≡ set w.clients.items place kept
put_so place w m n o kept t is = is ∙ put_back w.clients.items m.clients.items place kept t.clients

told_in : {A G : Type 0} (x : Playing A G) (gesture : Gesture) (a : Client A) (g k : G) (close : Close) (batches : List Contents) (b : Client A) (h l : G) → g ≡ k → l ≡ h → Told x gesture a g close batches b h
    → Told x gesture a k close batches b l
told_in x gesture a g k close batches b h l e f t =
    subst (λ z. Told x gesture a k close batches b z) (sym f) (subst (λ z. Told x gesture a z close batches b h) e t)

pub tells_so : {O A G : Type 0} (x : Sessions A G) (place : ℕ) (gesture : Gesture) (w m n : Work O A G) (o kept : Option (Client A)) (a b : Client A) (h : G) (how : HowTold) (goes : Bool) (told read : List ToldBatch)
    (text : List ℕ) → Took place w m o → o ≡ Some a → ((close : Close) → ToldSo how close → Told (x.goes place) gesture a m.giver close (batches_of told) b h) → GoesOn how goes
    → text ≡ m.text ++ told_lines place read → read ≡ told → kept ≡ (if goes then Some b else None) → n.clients.items ≡ set m.clients.items place kept
    → (n.giver ≡ h) × (n.lied ≡ m.lied) × (n.text ≡ text) → AreOn w.clients.items → b.over ≡ end_of how → TellsSo x place gesture false w n
tells_so x place gesture w m n o kept a b h how goes told read text took is tells on written read_is kept_is put others are over =
    let after = goes_on on.close (stand_of b) in
    let clients = put_so place w m n o kept took put ∙ ap (λ v. set w.clients.items place v) kept_is in
    let stands = seen_set stand_of w.clients.items n.clients.items place goes b clients ∙ ap (λ f. set (stage_of w).stands place (if f then Some (stand_of b) else None)) on.is in
    let stage : with_told place after n.giver (stage_of w) ≡ stage_of n = λ i. record { stands = sym stands i; giver = n.giver; lied = sym (others.1 ∙ took.others.1) i } in
    record {
      lines = told_lines place told;
      plays = subst (λ (s : Stage _ _). Plays x place gesture (stage_of w) false s (told_lines place told)) stage
          (work.tells (stand_of a) (stand_of b) on.close n.giver told (stand_there w place a (took_there place w m o a took is))
          (told_in (x.goes place) gesture a m.giver w.giver on.close (batches_of told) b h n.giver took.others.0 others.0 (tells on.close on.told)));
      text = others.2 ∙ written ∙ ap (λ bs. m.text ++ told_lines place bs) read_is ∙ ap (λ t. t ++ told_lines place told) took.others.2;
      on = on_there w.clients.items n.clients.items place kept are (put_so place w m n o kept took put) (λ c there. kept_on goes b c kept (λ e. over ∙ on_behind how goes on e) kept_is there);
    }

both_if : {A : Type 0} (lies goes : Bool) (on : A) → (if lies then None else if goes then Some on else None) ≡ (if (if lies then false else goes) then Some on else None)
both_if true goes on = refl
both_if false goes on = refl

pub lies_so : {O A G : Type 0} (x : Sessions A G) (place : ℕ) (gesture : Gesture) (w m n : Work O A G) (o kept : Option (Client A)) (a b : Client A) (g h : G) (how : HowTold) (goes lie still : Bool)
    (batches told read : List ToldBatch) (text : List ℕ) → Took place w m o → o ≡ Some a → x.gives g → ((close : Close) → ToldSo how close → Told (x.goes place) gesture a g close (batches_of batches) b h) → GoesOn how goes
    → batches_of told ≡ lied (batches_of batches) → lie ≡ lies_in (batches_of batches) → text ≡ m.text ++ told_lines place read → read ≡ told
    → still ≡ (if lie then false else goes) → kept ≡ (if still then Some b else None) → n.clients.items ≡ set m.clients.items place kept
    → (n.giver ≡ m.giver) × (n.lied ≡ lie) × (n.text ≡ text) → AreOn w.clients.items → b.over ≡ end_of how → TellsSo x place gesture true w n
lies_so x place gesture w m n o kept a b g h how goes lie still batches told read text took is gives tells on are lie_is written read_is still_is kept_is put others clients_on over =
    let after = goes_on on.close (stand_of b) in
    let f : Bool → List (Option (Stand _)) = λ s. set (stage_of w).stands place (if s then Some (stand_of b) else None) in
    let clients = put_so place w m n o kept took put ∙ ap (λ v. set w.clients.items place v) kept_is in
    let stands : (stage_of n).stands ≡ set (stage_of w).stands place (if lies_in (batches_of batches) then None else after) =
    seen_set stand_of w.clients.items n.clients.items place still b clients ∙ ap f still_is
    ∙ ap (λ v. set (stage_of w).stands place v) (sym (both_if lie goes (stand_of b)) ∙ ap (λ s. if lie then None else if s then Some (stand_of b) else None) on.is ∙ ap (λ l. if l then None else after) lie_is) in
    let stage : with_lie place after (lies_in (batches_of batches)) (stage_of w) ≡ stage_of n = λ i. record { stands = sym stands i; giver = sym (others.0 ∙ took.others.0) i; lied = sym (others.1 ∙ lie_is) i } in
    record {
      lines = told_lines place told;
      plays = subst (λ (s : Stage _ _). Plays x place gesture (stage_of w) true s (told_lines place told)) stage
          (work.lies (stand_of a) (stand_of b) on.close g h (batches_of batches) told (stand_there w place a (took_there place w m o a took is)) gives (tells on.close on.told) are);
      text = others.2 ∙ written ∙ ap (λ bs. m.text ++ told_lines place bs) read_is ∙ ap (λ t. t ++ told_lines place told) took.others.2;
      on = on_there w.clients.items n.clients.items place kept clients_on (put_so place w m n o kept took put)
          (λ c there. kept_on still b c kept (λ e. over ∙ on_behind how goes on (still_goes lie goes (sym still_is ∙ e))) kept_is there);
    }

-- a session that has ended tells nothing
pub skips_so : {O A G : Type 0} (x : Sessions A G) (place : ℕ) (gesture : Gesture) (lies : Bool) (w n : Work O A G) (o : Option (Client A)) → Took place w n o
    → ((c : Client A) → o ≡ Some c → ⊥) → AreOn w.clients.items → TellsSo x place gesture lies w n
skips_so x place gesture lies w n o took none are =
    let gone = sym took.there ∙ taken_none o none in
    let items = took.clients ∙ set_none w.clients.items place gone in
    let stage : stage_of w ≡ stage_of n = λ i. record { stands = map (option_map stand_of) (sym items i); giver = sym took.others.0 i; lied = sym took.others.1 i } in
    record {
      lines = [];
      plays = subst (λ (s : Stage _ _). Plays x place gesture (stage_of w) lies s []) stage (work.skips lies (none_taken stand_of w.clients.items place gone));
      text = took.others.2 ∙ sym (append-nil w.text);
      on = subst AreOn (sym items) are;
    }

-- ---- rounds

pub plays_more : {O A G : Type 0} (x : Sessions A G) (plan : Plan) (round place : ℕ) (gesture : Gesture) (may lies : Bool) (w n : Work O A G) → PlaysTo x plan round place w
    → slice_get plan.gestures (place_of plan (round + 1) (place + 1)) ≡ Some gesture → may ≡ may_lie plan round place w.lied → may ≡ lies → TellsSo x place gesture lies w n
    → PlaysTo x plan round (place + 1) n
plays_more x plan round place gesture may lies w n p get may_is is t = (
  subst (λ (lines : List ℕ). Played x plan round (place + 1) (stage_of n) lines) (sym t.text)
      (work.told round place (stage_of w) w.text gesture (stage_of n) t.lines p.0 get (subst (λ (b : Bool). Plays x place gesture (stage_of w) b (stage_of n) t.lines) (sym is ∙ may_is) t.plays)),
  t.on,
)

pub plays_over : {O A G : Type 0} (x : Sessions A G) (plan : Plan) (round place : ℕ) (w : Work O A G) → PlaysTo x plan round place w → place ≡ plan.sessions → PlaysTo x plan (round + 1) 0 w
plays_over x plan round place w p is = (work.over round (stage_of w) w.text (subst (λ (k : ℕ). Played x plan round k (stage_of w) w.text) is p.0), p.1)

pub opens_plays : {O A G : Type 0} (x : Sessions A G) (plan : Plan) (place : ℕ) (w : Work O A G) → OpensTo x place w → place ≡ plan.sessions → PlaysTo x plan 0 0 w
opens_plays x plan place w o is = (work.opened (stage_of w) w.text (subst (λ (k : ℕ). Opened x k (stage_of w) w.text) is o.0), o.1)
