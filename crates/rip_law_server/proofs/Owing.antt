-- On which connections an answer is owed for a session.
use Rattle.std.proofs.Common.{◌≡◌, ◌≢◌, inl, inr, ℕ, ◌+◌, ◌<◌, Bool, true, false, cond, not, ◌||◌, eqb, leb, List, [], ◌∷◌, ◌++◌, length, Option, Some, None, refl, sym, ap, ◌∙◌, subst, arith}
use Rattle.std.specs.Prelude.{is_some}
use Rattle.std.specs.List.{AllByRecursion, filter}
use Rattle.std.proofs.lemmas.Bool.{true≢false, false≢true, eqb-true, eqb-false, eq-eqb}
use Rattle.rip_outer.specs.declared.connections.TraceKnock.{TraceKnock}
use Rattle.rip_outer.specs.declared.connections.TraceKnock.TheVariants.{Opened, Bytes, Gone, Quiet}
use Rattle.rip_history.specs.Connections.{Connection, Connections, Owed, after_answer, after_knock, changed, is_there, most_connections, overflows, owed_for, owing, without}
use Rattle.rip_history.specs.Run.{Handling, IsFirst, answered_there, owed_by, taken}
use Rattle.rip_law_server.specs.Answered.{Asker}

-- an answer that is owed for the session, as it was asked for
abbrev pub owed_as : ℕ → Asker → Owed
owed_as n k = record { session = n; close = k.close }

-- what is owed on a connection of this number: an answer for the session only where its last batch is not done and was asked
-- for there; and then it is owed
pub record Good (n : ℕ) (busy : Bool) (asker : Option Asker) (opened number : ℕ) (owed : Option Owed) : Type 0 where
  pub below : number < opened
  pub only : (o : Owed) → owed ≡ Some o → o.session ≡ n → (busy ≡ true) × (asker ≡ Some (record { connection = number; close = o.close }))
  pub owes : (k : Asker) → busy ≡ true → asker ≡ Some k → number ≡ k.connection → owed ≡ Some (owed_as n k)

abbrev pub AreGood : ℕ → Bool → Option Asker → ℕ → List Connection → Type 0
AreGood n busy asker opened cs = AllByRecursion (λ (d : Connection). Good n busy asker opened d.number d.owed) cs

-- so it is of all that are there
pub record Owes (n : ℕ) (busy : Bool) (asker : Option Asker) (opened : ℕ) (cs : List Connection) : Type 0 where
  pub good : AreGood n busy asker opened cs
  pub asked : (k : Asker) → asker ≡ Some k → k.connection < opened
  pub known : busy ≡ true → asker ≢ None

-- ---- lists of connections

all_filter : (P : Connection → Type 0) (test : Connection → Bool) (cs : List Connection) → AllByRecursion P cs → AllByRecursion P (filter test cs)
all_filter P test [] h = tt
all_filter P test (d ∷ cs) h = by (test d) (all_filter P test cs h.1)
  where
    by : (b : Bool) → AllByRecursion P (filter test cs) → AllByRecursion P (cond b (d ∷ filter test cs) (filter test cs))
    by true rest = (h.0, rest)
    by false rest = rest

pub all_without : (P : Connection → Type 0) (c : ℕ) (cs : List Connection) → AllByRecursion P cs → AllByRecursion P (without c cs)
all_without P c cs h = all_filter P (λ (d : Connection). not (eqb d.number c)) cs h

pub all_changed : (P Q : Connection → Type 0) (c : ℕ) (f : Connection → Connection) → ((d : Connection) → P d → d.number ≡ c → Q (f d)) → ((d : Connection) → P d → (d.number ≡ c → ⊥) → Q d)
    → (cs : List Connection) → AllByRecursion P cs → AllByRecursion Q (changed c f cs)
all_changed P Q c f own other [] h = tt
all_changed P Q c f own other (d ∷ cs) h = (by (eqb d.number c) refl, all_changed P Q c f own other cs h.1)
  where
    by : (b : Bool) → eqb d.number c ≡ b → Q (cond b (f d) d)
    by true e = own d h.0 (eqb-true d.number c e)
    by false e = other d h.0 (eqb-false d.number c e)

pub all_push : (P : Connection → Type 0) (cs : List Connection) (d : Connection) → AllByRecursion P cs → P d → AllByRecursion P (cs ++ d ∷ [])
all_push P [] d h p = (p, tt)
all_push P (c ∷ cs) d h p = (h.0, all_push P cs d h.1 p)

no_owed : (o : Owed) → None ≡ Some o → ⊥
no_owed o e = false≢true (ap (λ (x : Option Owed). is_some x) e)

-- ---- a knock

good_more : (n : ℕ) (busy : Bool) (asker : Option Asker) (opened : ℕ) (cs : List Connection) → AreGood n busy asker opened cs → AreGood n busy asker (opened + 1) cs
good_more n busy asker opened [] h = tt
good_more n busy asker opened (d ∷ cs) h =
    let g = h.0 in
    (record { below = omega (arith, g.below); only = g.only; owes = g.owes }, good_more n busy asker opened cs h.1)

opened_owes : (n : ℕ) (busy : Bool) (asker : Option Asker) (c opened : ℕ) (cs : List Connection) → c ≡ opened → Owes n busy asker opened cs
    → Owes n busy asker (opened + 1) (cs ++ record { number = c; unread = []; owed = None } ∷ [])
opened_owes n busy asker c opened cs next w = record {
  good =
      all_push (λ (d : Connection). Good n busy asker (opened + 1) d.number d.owed) cs (record { number = c; unread = []; owed = None }) (good_more n busy asker opened cs w.good)
      record {
        below = omega (arith, next);
        only = λ o e own. absurd (no_owed o e);
        owes = λ k b is same. absurd (omega (arith, w.asked k is, same, next));
      };
  asked = λ k is. omega (arith, w.asked k is);
  known = w.known;
}

pub knock_owes : (n : ℕ) (busy : Bool) (asker : Option Asker) (knock : Option TraceKnock) (k : Connections) → Owes n busy asker k.opened k.there
    → (let x = after_knock knock k in Owes n busy asker x.opened x.there)
knock_owes n busy asker None k w = w
knock_owes n busy asker (Some Quiet) k w = w
knock_owes n busy asker (Some (Gone c)) k w = record {
  good = all_without (λ (d : Connection). Good n busy asker k.opened d.number d.owed) c k.there w.good;
  asked = w.asked;
  known = w.known;
}
knock_owes n busy asker (Some (Opened c)) k w = by (eqb c k.opened) refl (leb most_connections (length k.there))
  where
    by : (t : Bool) → eqb c k.opened ≡ t → (u : Bool)
        → (let x = cond (not t) k (cond u (record k { opened = k.opened + 1 }) (record { opened = k.opened + 1; there = k.there ++ record { number = c; unread = []; owed = None } ∷ [] })) in Owes n busy asker x.opened x.there)
    by false e u = w
    by true e true = record {
      good = good_more n busy asker k.opened k.there w.good;
      asked = λ a is. omega (arith, w.asked a is);
      known = w.known;
    }
    by true e false = opened_owes n busy asker c k.opened k.there (eqb-true c k.opened e) w
knock_owes n busy asker (Some (Bytes c piece)) k w = by (is_there c k.there) (overflows c piece k)
  where
    by : (t u : Bool)
        → (let x = cond (not t) k (cond u (record k { there = without c k.there }) (record k { there = changed c (λ (d : Connection). record d { unread = d.unread ++ piece }) k.there })) in Owes n busy asker x.opened x.there)
    by false u = w
    by true true = record {
      good = all_without (λ (d : Connection). Good n busy asker k.opened d.number d.owed) c k.there w.good;
      asked = w.asked;
      known = w.known;
    }
    by true false = record {
      good =
          all_changed (λ (d : Connection). Good n busy asker k.opened d.number d.owed) (λ (d : Connection). Good n busy asker k.opened d.number d.owed) c
          (λ (d : Connection). record d { unread = d.unread ++ piece }) (λ d g same. g) (λ d g other. g) k.there w.good;
      asked = w.asked;
      known = w.known;
    }

-- ---- a request

-- on a connection whose request is handled no answer is owed for the session
pub front_free : (n : ℕ) (busy : Bool) (asker : Option Asker) (opened : ℕ) (cs : List Connection) (h : Handling) → IsFirst cs h → AreGood n busy asker opened cs
    → (k : Asker) → busy ≡ true → asker ≡ Some k → k.connection ≡ h.connection → ⊥
front_free n busy asker opened [] h first good k b is same = first
front_free n busy asker opened (d ∷ cs) h (inl front) good k b is same =
    let g = good.0 in
    no_owed (owed_as n k) (sym front.free ∙ g.owes k b is (front.connection ∙ sym same))
front_free n busy asker opened (d ∷ cs) h (inr rest) good k b is same = front_free n busy asker opened cs h rest.1 good.1 k b is same

pub front_below : (n : ℕ) (busy : Bool) (asker : Option Asker) (opened : ℕ) (cs : List Connection) (h : Handling) → IsFirst cs h → AreGood n busy asker opened cs → h.connection < opened
front_below n busy asker opened [] h first good = absurd first
front_below n busy asker opened (d ∷ cs) h (inl front) good =
    let g = good.0 in
    subst (λ (c : ℕ). c < opened) front.connection g.below
front_below n busy asker opened (d ∷ cs) h (inr rest) good = front_below n busy asker opened cs h rest.1 good.1

-- none is asked for on this connection
abbrev pub IsFree : Bool → Option Asker → ℕ → Type 0
IsFree busy asker c = (k : Asker) → busy ≡ true → asker ≡ Some k → k.connection ≡ c → ⊥

pub taken_good : (n : ℕ) (busy : Bool) (asker : Option Asker) (opened c size : ℕ) (cs : List Connection) → AreGood n busy asker opened cs → AreGood n busy asker opened (taken c size cs)
taken_good n busy asker opened c size cs h =
    all_changed (λ (d : Connection). Good n busy asker opened d.number d.owed) (λ (d : Connection). Good n busy asker opened d.number d.owed) c _ (λ d g same. g) (λ d g other. g) cs h

pub answer_good : (n : ℕ) (busy : Bool) (asker : Option Asker) (opened : ℕ) (gone close : Bool) (c : ℕ) (cs : List Connection) → IsFree busy asker c → AreGood n busy asker opened cs
    → AreGood n busy asker opened (after_answer gone close c cs)
answer_good n busy asker opened gone close c cs free h = by (gone || close)
  where
    by : (b : Bool) → AreGood n busy asker opened (cond b (without c cs) (changed c (λ (d : Connection). record d { owed = None }) cs))
    by true = all_without (λ (d : Connection). Good n busy asker opened d.number d.owed) c cs h
    by false =
        all_changed (λ (d : Connection). Good n busy asker opened d.number d.owed) (λ (d : Connection). Good n busy asker opened d.number d.owed) c
        (λ (d : Connection). record d { owed = None })
        (λ d g same. record {
          below = g.below;
          only = λ o e own. absurd (no_owed o e);
          owes = λ k b is at. absurd (free k b is (sym at ∙ same));
        })
        (λ d g other. g) cs h

-- an answer is owed for another session
pub other_good : (n : ℕ) (busy : Bool) (asker : Option Asker) (opened c j : ℕ) (close : Bool) (cs : List Connection) → IsFree busy asker c → (j ≡ n → ⊥) → AreGood n busy asker opened cs
    → AreGood n busy asker opened (owed_by c j close cs)
other_good n busy asker opened c j close cs free other h =
    all_changed (λ (d : Connection). Good n busy asker opened d.number d.owed) (λ (d : Connection). Good n busy asker opened d.number d.owed) c
    (λ (d : Connection). record d { owed = Some (record { session = j; close = close }) })
    (λ d g same. record {
      below = g.below;
      only = λ o e own. absurd (other (ap (λ (x : Owed). x.session) (some_owed _ o e) ∙ own));
      owes = λ k b is at. absurd (free k b is (sym at ∙ same));
    })
    (λ d g apart. g) cs h
  where
    some_owed : (a b : Owed) → Some a ≡ Some b → a ≡ b
    some_owed a b e = cc

-- an answer is owed for it, where none was
pub own_good : (n : ℕ) (asker : Option Asker) (opened c : ℕ) (close : Bool) (cs : List Connection) → AreGood n false asker opened cs
    → AreGood n true (Some (record { connection = c; close = close })) opened (owed_by c n close cs)
own_good n asker opened c close cs h =
    all_changed (λ (d : Connection). Good n false asker opened d.number d.owed)
    (λ (d : Connection). Good n true (Some (record { connection = c; close = close })) opened d.number d.owed) c
    (λ (d : Connection). record d { owed = Some (record { session = n; close = close }) })
    (λ d g same. record {
      below = g.below;
      only = λ o e own. (refl, ap (λ (k : Asker). Some k) (asked_so d.number o same e));
      owes = λ k b is at. owed_so k is;
    })
    (λ d g other. record {
      below = g.below;
      only = λ o e own. absurd (false≢true (g.only o e own).0);
      owes = λ k b is at. absurd (other (at ∙ sym (connection_so k is)));
    }) cs h
  where
    asked_so : (number : ℕ) (o : Owed) → number ≡ c → Some (record { session = n; close = close }) ≡ Some o
        → ◌≡◌ {A = Asker} (record { connection = c; close = close }) (record { connection = number; close = o.close })
    asked_so number o same e =
        let own : ◌≡◌ {A = Owed} (record { session = n; close = close }) o = cc in
        (λ i. record { connection = sym same i; close = (own i).close })

    owed_so : (k : Asker) → Some (record { connection = c; close = close }) ≡ Some k → ◌≡◌ {A = Option Owed} (Some (record { session = n; close = close })) (Some (owed_as n k))
    owed_so k is =
        let own : ◌≡◌ {A = Asker} (record { connection = c; close = close }) k = cc in
        (λ i. Some (record { session = n; close = (own i).close }))

    connection_so : (k : Asker) → Some (record { connection = c; close = close }) ≡ Some k → c ≡ k.connection
    connection_so k is =
        let own : ◌≡◌ {A = Asker} (record { connection = c; close = close }) k = cc in
        ap (λ (a : Asker). a.connection) own

-- ---- an answer that is due

-- it is owed exactly on the connection on which the batch was asked for, if that is there
pub owing_is : (n opened : ℕ) (k : Asker) (cs : List Connection) → AreGood n true (Some k) opened cs
    → owing n cs ≡ cond (is_there k.connection cs) (Some (k.connection, k.close)) None
owing_is n opened k [] h = refl
owing_is n opened k (d ∷ cs) h = by (eqb d.number k.connection) refl (owing_is n opened k cs h.1)
  where
    apart : (d.number ≡ k.connection → ⊥) → (o : Option Owed) → d.owed ≡ o → owed_for n d.number o (owing n cs) ≡ owing n cs
    apart other None e = refl
    apart other (Some o) e = apart_by (eqb o.session n) refl
      where
        apart_by : (b : Bool) → eqb o.session n ≡ b → cond b (Some (d.number, o.close)) (owing n cs) ≡ owing n cs
        apart_by true own =
            let g = h.0 in
            let asked = (g.only o e (eqb-true o.session n own)).1 in
            let same : k ≡ record { connection = d.number; close = o.close } = cc in
            absurd (other (sym (ap (λ (a : Asker). a.connection) same)))
        apart_by false own = refl

    by : (b : Bool) → eqb d.number k.connection ≡ b → owing n cs ≡ cond (is_there k.connection cs) (Some (k.connection, k.close)) None
        → owed_for n d.number d.owed (owing n cs) ≡ cond (b || is_there k.connection cs) (Some (k.connection, k.close)) None
    by true e rest =
        let g = h.0 in
        let same = eqb-true d.number k.connection e in
        ap (λ (o : Option Owed). owed_for n d.number o (owing n cs)) (g.owes k refl refl same)
        ∙ ap (λ (b : Bool). cond b (Some (d.number, k.close)) (owing n cs)) (eq-eqb n n refl)
        ∙ ap (λ (c : ℕ). Some (c, k.close)) same
    by false e rest = apart (eqb-false d.number k.connection e) d.owed refl ∙ rest

-- where none is owed for a session, no connection owes it
none_owed : (n : ℕ) (busy : Bool) (asker : Option Asker) (opened : ℕ) (cs : List Connection) → owing n cs ≡ None → AreGood n busy asker opened cs → AreGood n false asker opened cs
none_owed n busy asker opened [] none h = tt
none_owed n busy asker opened (d ∷ cs) none h = by d.owed refl none (λ is. none_owed n busy asker opened cs is h.1)
  where
    by : (o : Option Owed) → d.owed ≡ o → owed_for n d.number o (owing n cs) ≡ None → (owing n cs ≡ None → AreGood n false asker opened cs) → AreGood n false asker opened (d ∷ cs)
    by None e is rest =
        let g = h.0 in
        (record { below = g.below; only = λ o f own. absurd (no_owed o (sym e ∙ f)); owes = λ k b asked at. absurd (false≢true b) }, rest is)
    by (Some o) e is rest = at (eqb o.session n) refl is
      where
        at : (b : Bool) → eqb o.session n ≡ b → cond b (Some (d.number, o.close)) (owing n cs) ≡ None → AreGood n false asker opened (d ∷ cs)
        at true own some = absurd (true≢false (ap (λ (x : Option (ℕ × Bool)). is_some x) some))
        at false own none_behind =
            let g = h.0 in (
              record {
                below = g.below;
                only = λ p f same.
                    let one : o ≡ p = some_owed o p (sym e ∙ f) in
                    absurd (eqb-false o.session n own (ap (λ (x : Owed). x.session) one ∙ same));
                owes = λ k b asked at. absurd (false≢true b);
              },
              rest none_behind,
            )
          where
            some_owed : (a b : Owed) → Some a ≡ Some b → a ≡ b
            some_owed a b e = cc

-- another connection than the one on which it was asked for does not owe it
away_good : (n opened : ℕ) (k : Asker) (d : Connection) → Good n true (Some k) opened d.number d.owed → (d.number ≡ k.connection → ⊥) → Good n false (Some k) opened d.number d.owed
away_good n opened k d g other = record {
  below = g.below;
  only = λ o e own.
      let asked = (g.only o e own).1 in
      let same : k ≡ record { connection = d.number; close = o.close } = cc in
      absurd (other (sym (ap (λ (a : Asker). a.connection) same)));
  owes = λ a b asked at. absurd (false≢true b);
}

dropped_good : (n opened : ℕ) (k : Asker) (cs : List Connection) → AreGood n true (Some k) opened cs → AreGood n false (Some k) opened (without k.connection cs)
dropped_good n opened k [] g = tt
dropped_good n opened k (d ∷ cs) g = by (eqb d.number k.connection) refl (dropped_good n opened k cs g.1)
  where
    by : (b : Bool) → eqb d.number k.connection ≡ b → AreGood n false (Some k) opened (without k.connection cs)
        → AreGood n false (Some k) opened (cond (not b) (d ∷ without k.connection cs) (without k.connection cs))
    by true e rest = rest
    by false e rest = (away_good n opened k d g.0 (eqb-false d.number k.connection e), rest)

-- once it is answered on the connection on which it was asked for, no connection owes it
answered_own : (n opened : ℕ) (k : Asker) (gone close : Bool) (cs : List Connection) → AreGood n true (Some k) opened cs
    → AreGood n false (Some k) opened (after_answer gone close k.connection cs)
answered_own n opened k gone close cs h = by (gone || close)
  where
    by : (b : Bool) → AreGood n false (Some k) opened (cond b (without k.connection cs) (changed k.connection (λ (d : Connection). record d { owed = None }) cs))
    by true = dropped_good n opened k cs h
    by false =
        all_changed (λ (d : Connection). Good n true (Some k) opened d.number d.owed) (λ (d : Connection). Good n false (Some k) opened d.number d.owed) k.connection
        (λ (d : Connection). record d { owed = None })
        (λ d g same. record {
          below = g.below;
          only = λ o e own. absurd (no_owed o e);
          owes = λ a b asked at. absurd (false≢true b);
        })
        (away_good n opened k) cs h

-- the answer for the session is given, where it is owed
pub own_answered : (n opened : ℕ) (k : Asker) (gone : Bool) (cs : List Connection) → AreGood n true (Some k) opened cs
    → AreGood n false (Some k) opened (answered_there gone (owing n cs) cs)
own_answered n opened k gone cs h = subst (λ (o : Option (ℕ × Bool)). AreGood n false (Some k) opened (answered_there gone o cs)) (sym is) (by (is_there k.connection cs) refl)
  where
    is : owing n cs ≡ cond (is_there k.connection cs) (Some (k.connection, k.close)) None
    is = owing_is n opened k cs h

    by : (b : Bool) → is_there k.connection cs ≡ b → AreGood n false (Some k) opened (answered_there gone (cond b (Some (k.connection, k.close)) None) cs)
    by true e = answered_own n opened k gone k.close cs h
    by false e = none_owed n true (Some k) opened cs (is ∙ ap (λ (b : Bool). cond b (Some (k.connection, k.close)) None) e) h

-- a connection that owes another session its answer is not the one on which this one asked
owing_other : (n j : ℕ) (busy : Bool) (asker : Option Asker) (opened c : ℕ) (close : Bool) (cs : List Connection) → (j ≡ n → ⊥) → owing j cs ≡ Some (c, close)
    → AreGood n busy asker opened cs → IsFree busy asker c
owing_other n j busy asker opened c close [] other is h k b asked same = absurd (false≢true (ap (λ (x : Option (ℕ × Bool)). is_some x) is))
owing_other n j busy asker opened c close (d ∷ cs) other is h k b asked same = by d.owed refl is (λ rest. owing_other n j busy asker opened c close cs other rest h.1 k b asked same)
  where
    by : (o : Option Owed) → d.owed ≡ o → owed_for j d.number o (owing j cs) ≡ Some (c, close) → (owing j cs ≡ Some (c, close) → ⊥) → ⊥
    by None e first rest = rest first
    by (Some o) e first rest = at (eqb o.session j) refl first
      where
        at : (t : Bool) → eqb o.session j ≡ t → cond t (Some (d.number, o.close)) (owing j cs) ≡ Some (c, close) → ⊥
        at false own more = rest more
        at true own some =
            let g = h.0 in
            let number : d.number ≡ c = one (d.number, o.close) (c, close) some in
            let owed : Some o ≡ Some (owed_as n k) = sym e ∙ g.owes k b asked (number ∙ sym same) in
            let both : o ≡ owed_as n k = cc in
            other (sym (eqb-true o.session j own) ∙ ap (λ (x : Owed). x.session) both)
          where
            one : (x y : ℕ × Bool) → Some x ≡ Some y → x.0 ≡ y.0
            one x y e = (let same : x ≡ y = cc in ap (λ (p : ℕ × Bool). p.0) same)

-- another session is answered, where that is owed
pub other_answered : (n j : ℕ) (busy : Bool) (asker : Option Asker) (opened : ℕ) (gone : Bool) (cs : List Connection) → (j ≡ n → ⊥) → AreGood n busy asker opened cs
    → AreGood n busy asker opened (answered_there gone (owing j cs) cs)
other_answered n j busy asker opened gone cs other h = by (owing j cs) refl
  where
    by : (o : Option (ℕ × Bool)) → owing j cs ≡ o → AreGood n busy asker opened (answered_there gone o cs)
    by None e = h
    by (Some (c, close)) e = answer_good n busy asker opened gone close c cs (owing_other n j busy asker opened c close cs other e h) h
