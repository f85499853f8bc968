-- A session at its place in what a client tells.
use Rattle.std.proofs.Common.{◌≡◌, ℕ, ◌+◌, ◌-◌, ◌⊎◌, inl, inr, List, [], ◌∷◌, ◌++◌, length, map, take, refl, sym, ap, subst, ◌∙◌, arith, append_assoc, length-append}
use Rattle.std.specs.Prelude.{Some, None}
use Rattle.std.proofs.lemmas.List.{append-nil, map-append}
use Rattle.rip_heap.specs.World.{World}
use Rattle.rip_eval_rows.specs.declared.close.Close.{Close}
use Rattle.rip_eval_rows.specs.declared.close.Close.TheVariants.{Fine, Stopped}
use Rattle.rip_eval_rows.specs.declared.completion.Stop.{Stop}
use Rattle.rip_replica.specs.Play.{Closes}
use Rattle.rip_wire.specs.Batches.{Contents}
use Rattle.rip_wire.specs.Items.{Reported}
use Rattle.rip_history.specs.Parts.{finishes, Part, Given}
use Rattle.rip_replica.specs.Parts.{Doing, first_given, given_behind, items_parts, later_parts, part_of, session_parts, whole_item}
use Rattle.rip_client.specs.declared.actor.Over.{Over}
use Rattle.rip_client.specs.Truth.{Place, open_batch, with_item}
use Rattle.rip_law_replica.specs.Truthful.{AreItems, IsLegalAndDue, IsPlayed, Seat, given_in_turn, is_lie}
use Rattle.rip_law_replica.proofs.Honest.{Honest, after_fine, after_stop, front_cases, honest_both, no_front}

-- a session stands where the client stands, which told these batches before its list: what comes of the batches that are
-- closed, and of each front of them, ends for no lie; and so does what comes of the items of the open batch
pub record Standing {A S : Type 0} (d : Doing A S) (task : Reported → A) (given : List Given) (before : List Contents) (p : Place (Seat S) (List Given)) : Type 0 where
  pub parts : List Part
  pub honest : Honest parts
  pub hs : List Given
  pub w : World
  pub s : S
  pub whole : (bs : List Contents) → session_parts d ((before ++ p.closed) ++ bs) given ≡ parts ++ later_parts d p.number bs hs w s
  pub fronts : (k : ℕ) → Honest (session_parts d (take k (before ++ p.closed)) given)
  pub played : List Part
  pub fine : Honest played
  pub cost : ℕ
  pub within : (all ys : List A) (next : List Given → World → S → List Part) → items_parts d p.number all 1 1 (map task p.items ++ ys) hs w s next ≡ played ++ items_parts d p.number all (length p.items + 1) cost ys p.giver p.session.world p.session.page next
  pub seat : p.session.batch ≡ p.number
  pub count : p.session.count ≡ length p.items

-- an item of a client was played, whose replies are due
abbrev pub Plays : {A S : Type 0} → Doing A S → (Reported → A) → Reported → Seat S → List Given → Over → Seat S → List Given → Type 0
Plays d task item a gs over b hs = IsPlayed d task given_in_turn IsLegalAndDue item a gs over b hs

-- an item as it was played, by its place in the open batch
played_there : {A S : Type 0} (d : Doing A S) (task : Reported → A) (item : Reported) (a b : Seat S) (gs hs : List Given) (close : Close) (fuel : ℕ) (n m : ℕ) (t : Plays d task item a gs (record { close = close; fuel = fuel }) b hs) → a.batch ≡ n → a.count ≡ m → whole_item d n (task item) (m + 1) a.world a.page (first_given gs) ≡ Closes close t.is.gs t.is.fuel t.is.left b.world b.page
played_there d task item a b gs hs close fuel n m t batch count =
    ap (λ k. whole_item d k (task item) (m + 1) a.world a.page (first_given gs)) (sym batch)
    ∙ ap (λ k. whole_item d a.batch (task item) (k + 1) a.world a.page (first_given gs)) (sym count)
    ∙ t.is.is

items_push : {A : Type 0} (task : Reported → A) (items : List Reported) (item : Reported) (ys : List A) → map task (items ++ item ∷ []) ++ ys ≡ map task items ++ (task item ∷ ys)
items_push task items item ys = ap (λ xs. xs ++ ys) (map-append task items (item ∷ [])) ∙ append_assoc (map task items) (task item ∷ []) ys

-- an item of the open batch is over and fine
pub step_fine : {A S : Type 0} (d : Doing A S) (task : Reported → A) (given : List Given) (before : List Contents) (p : Place (Seat S) (List Given)) (item : Reported) (b : Seat S) (hs : List Given) (fuel : ℕ)
    → AreItems d task → Standing d task given before p → Plays d task item p.session p.giver (record { close = Fine; fuel = fuel }) b hs
    → Standing d task given before (record (with_item item p) { session = b; giver = hs })
step_fine d task given before p item b hs fuel are st t = record {
  parts = st.parts;
  honest = st.honest;
  hs = st.hs;
  w = st.w;
  s = st.s;
  whole = st.whole;
  fronts = st.fronts;
  played = st.played ++ here ∷ [];
  fine = honest_both st.played (here ∷ []) st.fine (are.fine item, tt);
  cost = spent;
  within = λ all ys next.
      ap (λ xs. items_parts d p.number all 1 1 xs st.hs st.w st.s next) (items_push task p.items item ys)
      ∙ st.within all (task item ∷ ys) next
      ∙ ap (λ ps. st.played ++ ps) (after_fine d p.number all (length p.items + 1) st.cost (task item) ys p.giver p.session.world b.world p.session.page b.page t.is.gs t.is.fuel t.is.left next is)
      ∙ ap (λ g. st.played ++ (here ∷ items_parts d p.number all (length p.items + 1 + 1) spent ys g b.world b.page next)) (sym t.given)
      ∙ ap (λ m. st.played ++ (here ∷ items_parts d p.number all (m + 1) spent ys hs b.world b.page next)) (sym (length-append p.items (item ∷ [])))
      ∙ sym (append_assoc st.played (here ∷ []) (items_parts d p.number all (length (p.items ++ item ∷ []) + 1) spent ys hs b.world b.page next));
  seat = t.batch ∙ st.seat;
  count = omega (arith, t.count, st.count, length-append p.items (item ∷ []));
}
  where
    is : whole_item d p.number (task item) (length p.items + 1) p.session.world p.session.page (first_given p.giver) ≡ Closes Fine t.is.gs t.is.fuel t.is.left b.world b.page
    is = played_there d task item p.session b p.giver hs Fine fuel p.number (length p.items) t st.seat st.count

    spent : ℕ
    spent = st.cost + 1 + (d.full - t.is.left)

    here : Part
    here = part_of p.number (length p.items + 1) spent (d.fact (task item))

-- what comes of all batches and the open one, with these parts of it
closing : {A S : Type 0} (d : Doing A S) (task : Reported → A) (given : List Given) (before : List Contents) (p : Place (Seat S) (List Given)) (items : List Reported) (bs : List Contents)
    → AreItems d task → (st : Standing d task given before p)
    → session_parts d ((before ++ p.closed) ++ record { number = p.number; items = items } ∷ bs) given ≡ st.parts ++ items_parts d p.number (map task items) 1 1 (map task items) st.hs st.w st.s (λ gs x r. later_parts d (p.number + 1) bs gs x r)
closing d task given before p items bs are st =
    st.whole (record { number = p.number; items = items } ∷ bs)
    ∙ ap (λ xs. st.parts ++ items_parts d p.number xs 1 1 xs st.hs st.w st.s (λ gs x r. later_parts d (p.number + 1) bs gs x r)) (are.items (record { number = p.number; items = items }))

-- the open batch is closed, and the next is open
pub step_close : {A S : Type 0} (d : Doing A S) (task : Reported → A) (given : List Given) (before : List Contents) (p : Place (Seat S) (List Given))
    → AreItems d task → Standing d task given before p
    → Standing d task given before (record p { session = record p.session { batch = p.number + 1; count = 0 }; closed = p.closed ++ open_batch p ∷ []; number = p.number + 1; items = [] })
step_close d task given before p are st = record {
  parts = done;
  honest = done_honest;
  hs = p.giver;
  w = p.session.world;
  s = p.session.page;
  whole = λ bs. ap (λ cs. session_parts d cs given) (regroup bs) ∙ comes bs;
  fronts = λ k. subst (λ cs. Honest (session_parts d (take k cs) given)) (append_assoc before p.closed (open_batch p ∷ [])) (front k (front_cases k (before ++ p.closed) (open_batch p)));
  played = [];
  fine = tt;
  cost = 1;
  within = λ all ys next. refl;
  seat = refl;
  count = refl;
}
  where
    over : Part
    over = part_of p.number (length p.items + 1) st.cost (finishes None)

    done : List Part
    done = st.parts ++ (st.played ++ over ∷ [])

    done_honest : Honest done
    done_honest = honest_both st.parts (st.played ++ over ∷ []) st.honest (honest_both st.played (over ∷ []) st.fine (refl, tt))

    regroup : (bs : List Contents) → (before ++ (p.closed ++ open_batch p ∷ [])) ++ bs ≡ (before ++ p.closed) ++ open_batch p ∷ bs
    regroup bs = ap (λ cs. cs ++ bs) (sym (append_assoc before p.closed (open_batch p ∷ []))) ∙ append_assoc (before ++ p.closed) (open_batch p ∷ []) bs

    comes : (bs : List Contents) → session_parts d ((before ++ p.closed) ++ open_batch p ∷ bs) given ≡ done ++ later_parts d (p.number + 1) bs p.giver p.session.world p.session.page
    comes bs =
        closing d task given before p p.items bs are st
        ∙ ap (λ xs. st.parts ++ items_parts d p.number (map task p.items) 1 1 xs st.hs st.w st.s (λ gs x r. later_parts d (p.number + 1) bs gs x r)) (sym (append-nil (map task p.items)))
        ∙ ap (λ ps. st.parts ++ ps) (st.within (map task p.items) [] (λ gs x r. later_parts d (p.number + 1) bs gs x r))
        ∙ ap (λ ps. st.parts ++ ps) (sym (append_assoc st.played (over ∷ []) (later_parts d (p.number + 1) bs p.giver p.session.world p.session.page)))
        ∙ sym (append_assoc st.parts (st.played ++ over ∷ []) (later_parts d (p.number + 1) bs p.giver p.session.world p.session.page))

    front : (k : ℕ) → (take k ((before ++ p.closed) ++ open_batch p ∷ []) ≡ take k (before ++ p.closed)) ⊎ (take k ((before ++ p.closed) ++ open_batch p ∷ []) ≡ (before ++ p.closed) ++ open_batch p ∷ []) → Honest (session_parts d (take k ((before ++ p.closed) ++ open_batch p ∷ [])) given)
    front k (inl e) = subst (λ cs. Honest (session_parts d cs given)) (sym e) (st.fronts k)
    front k (inr e) = subst (λ cs. Honest (session_parts d cs given)) (sym e) (subst Honest (sym (comes [])) (honest_both done [] done_honest tt))

-- what comes of each front of the batches that were told, the open one with them, ends for no lie
abbrev pub Served : {A S : Type 0} → Doing A S → List Given → List Contents → Place (Seat S) (List Given) → Type 0
Served d given before p = (k : ℕ) → Honest (session_parts d (take k ((before ++ p.closed) ++ open_batch p ∷ [])) given)

-- an item of the open batch meets a limit or a fault
pub step_stop : {A S : Type 0} (d : Doing A S) (task : Reported → A) (given : List Given) (before : List Contents) (p : Place (Seat S) (List Given)) (item : Reported) (b : Seat S) (hs : List Given) (number : ℕ) (stop : Stop) (fuel : ℕ)
    → AreItems d task → Standing d task given before p → Plays d task item p.session p.giver (record { close = Stopped number stop; fuel = fuel }) b hs
    → Served d given before (record (with_item item p) { session = b; giver = hs })
step_stop {A} {S} d task given before p item b hs number stop fuel are st t k = front (front_cases k (before ++ p.closed) all_told)
  where
    all_told : Contents
    all_told = record { number = p.number; items = p.items ++ item ∷ [] }

    is : whole_item d p.number (task item) (length p.items + 1) p.session.world p.session.page (first_given p.giver) ≡ Closes (Stopped number stop) t.is.gs t.is.fuel t.is.left b.world b.page
    is = played_there d task item p.session b p.giver hs (Stopped number stop) fuel p.number (length p.items) t st.seat st.count

    tasks : List A
    tasks = map task (p.items ++ item ∷ [])

    last : Part
    last = part_of p.number (length p.items + 1) (st.cost + 1 + (d.full - t.is.left)) (finishes (Some (d.ending tasks (Stopped number stop) b.page)))

    comes : session_parts d ((before ++ p.closed) ++ all_told ∷ []) given ≡ st.parts ++ (st.played ++ last ∷ [])
    comes =
        closing d task given before p (p.items ++ item ∷ []) [] are st
        ∙ ap (λ xs. st.parts ++ items_parts d p.number tasks 1 1 xs st.hs st.w st.s (λ gs x r. later_parts d (p.number + 1) [] gs x r)) (map-append task p.items (item ∷ []))
        ∙ ap (λ ps. st.parts ++ ps) (st.within tasks (task item ∷ []) (λ gs x r. later_parts d (p.number + 1) [] gs x r))
        ∙ ap (λ ps. st.parts ++ (st.played ++ ps)) (after_stop d p.number tasks (length p.items + 1) st.cost (task item) [] p.giver p.session.world b.world p.session.page b.page number stop t.is.gs t.is.fuel t.is.left (λ gs x r. later_parts d (p.number + 1) [] gs x r) is)

    honest : Honest (st.parts ++ (st.played ++ last ∷ []))
    honest = honest_both st.parts (st.played ++ last ∷ []) st.honest (honest_both st.played (last ∷ []) st.fine (are.stopped tasks number stop b.page, tt))

    front : (take k ((before ++ p.closed) ++ all_told ∷ []) ≡ take k (before ++ p.closed)) ⊎ (take k ((before ++ p.closed) ++ all_told ∷ []) ≡ (before ++ p.closed) ++ all_told ∷ []) → Honest (session_parts d (take k ((before ++ p.closed) ++ all_told ∷ [])) given)
    front (inl e) = subst (λ cs. Honest (session_parts d cs given)) (sym e) (st.fronts k)
    front (inr e) = subst (λ cs. Honest (session_parts d cs given)) (sym e) (subst Honest (sym comes) honest)

-- the batches of a list were told before the next
pub rebase : {A S : Type 0} (d : Doing A S) (task : Reported → A) (given : List Given) (before : List Contents) (p : Place (Seat S) (List Given)) → Standing d task given before p → Standing d task given (before ++ p.closed) (record p { closed = [] })
rebase d task given before p st = record {
  parts = st.parts;
  honest = st.honest;
  hs = st.hs;
  w = st.w;
  s = st.s;
  whole = λ bs. ap (λ cs. session_parts d (cs ++ bs) given) (append-nil (before ++ p.closed)) ∙ st.whole bs;
  fronts = λ k. subst (λ cs. Honest (session_parts d (take k cs) given)) (sym (append-nil (before ++ p.closed))) (st.fronts k);
  played = st.played;
  fine = st.fine;
  cost = st.cost;
  within = st.within;
  seat = st.seat;
  count = st.count;
}

-- the calls whose replies wait do not count
pub rewait : {A S : Type 0} (d : Doing A S) (task : Reported → A) (given : List Given) (before : List Contents) (p : Place (Seat S) (List Given)) (waiting : List ℕ) → Standing d task given before p → Standing d task given before (record p { waiting = waiting })
rewait d task given before p waiting st = record {
  parts = st.parts;
  honest = st.honest;
  hs = st.hs;
  w = st.w;
  s = st.s;
  whole = st.whole;
  fronts = st.fronts;
  played = st.played;
  fine = st.fine;
  cost = st.cost;
  within = st.within;
  seat = st.seat;
  count = st.count;
}

-- a session that was opened fine, before its first list
pub opened : {A S : Type 0} (d : Doing A S) (task : Reported → A) (given : List Given) (more : List (S → S)) (fuel left : ℕ) (x : World) (r : S)
    → AreItems d task → whole_item d 0 d.opening 1 d.world d.page (first_given given) ≡ Closes Fine more fuel left x r
    → Standing d task given [] (record { session = record { world = x; page = r; batch = 1; count = 0 }; giver = given; closed = []; number = 1; items = []; waiting = [] })
opened {A} {S} d task given more fuel left x r are is = record {
  parts = parts;
  honest = parts_honest;
  hs = given;
  w = x;
  s = r;
  whole = comes;
  fronts = λ k. subst (λ cs. Honest (session_parts d cs given)) (sym (no_front k)) (subst Honest (sym (comes [])) (honest_both parts [] parts_honest tt));
  played = [];
  fine = tt;
  cost = 1;
  within = λ all ys next. refl;
  seat = refl;
  count = refl;
}
  where
    spent : ℕ
    spent = 1 + 1 + (d.full - left)

    parts : List Part
    parts = part_of 0 1 spent (d.fact d.opening) ∷ part_of 0 2 spent (finishes None) ∷ []

    parts_honest : Honest parts
    parts_honest = (ap is_lie are.opening, (refl, tt))

    next : List Contents → List Given → World → S → List Part
    next bs gs y q = later_parts d 1 bs gs y q

    comes : (bs : List Contents) → session_parts d bs given ≡ parts ++ later_parts d 1 bs given x r
    comes bs =
        after_fine d 0 (d.opening ∷ []) 1 1 d.opening [] given d.world x d.page r more fuel left (next bs) is
        ∙ ap (λ fact. part_of 0 1 spent (d.fact d.opening) ∷ part_of 0 2 spent (finishes None) ∷ later_parts d 1 bs (given_behind fact given) x r) are.opening
