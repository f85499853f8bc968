-- Busy sessions that go on one after another.
use Rattle.std.proofs.Common.{◌≡◌, ℕ, List, [], ◌∷◌, ◌++◌, refl, sym, ap, subst, ◌∙◌, append_assoc, append-nil}
use Rattle.std.specs.Prelude.{Result, Ok, Err, IsErr}
use Rattle.rip_history.specs.Connections.{Act}
use Rattle.rip_history.specs.Run.{Site, State, Advance, IsAdvance, AreAdvancedSo, after_advance, after_advances, advance_acts, advances_acts}
use Rattle.rip_server.specs.Acts.{Seen, Did}
use Rattle.rip_server.specs.declared.halt.Halt.{Halt}
use Rattle.rip_server.specs.Advancing.{AdvancedOne, AdvancedSo}
use Rattle.rip_server.proofs.SeenLemmas.{acted_then, acted_as}

after-join : (turn : ℕ) (s : State) (xs ys : List Advance) → after_advances turn s (xs ++ ys) ≡ after_advances turn (after_advances turn s xs) ys
after-join turn s [] ys = refl
after-join turn s (x ∷ xs) ys = after-join turn (after_advance turn s x) xs ys

so-join : (site : Site) (turn time : ℕ) (s : State) (ns : List ℕ) (xs : List Advance) (ms : List ℕ) (ys : List Advance) → AreAdvancedSo site turn time s ns xs
    → AreAdvancedSo site turn time (after_advances turn s xs) ms ys → AreAdvancedSo site turn time s (ns ++ ms) (xs ++ ys)
so-join site turn time s [] xs ms ys p q =
    subst (λ (t : List Advance). AreAdvancedSo site turn time s ms (t ++ ys)) (sym p)
    (subst (λ (t : List Advance). AreAdvancedSo site turn time (after_advances turn s t) ms ys) p q)
so-join site turn time s (n ∷ ns) [] ms ys p q = absurd p
so-join site turn time s (n ∷ ns) (x ∷ xs) ms ys (same, is, rest) q =
    (same, is, so-join site turn time (after_advance turn s x) ns xs ms ys rest q)

acts-join : (site : Site) (turn : ℕ) (s : State) (xs ys : List Advance)
    → advances_acts site turn s (xs ++ ys) ≡ advances_acts site turn s xs ++ advances_acts site turn (after_advances turn s xs) ys
acts-join site turn s [] ys = refl
acts-join site turn s (x ∷ xs) ys =
    let next = after_advance turn s x in
    ap (λ (t : List Act). advance_acts site turn s x ++ t) (acts-join site turn next xs ys)
    ∙ sym (append_assoc (advance_acts site turn s x) (advances_acts site turn next xs) (advances_acts site turn (after_advances turn next xs) ys))

-- ---- some went on, and this is how far the walk came

pub record Walked (site : Site) (turn time : ℕ) (busy rest : List ℕ) (s : State) (After : State → Type 0) (old new : Seen) : Type 0 where
  pub advances : List Advance
  pub first : List ℕ
  pub busy_are : busy ≡ first ++ rest
  pub advanced : AreAdvancedSo site turn time s first advances
  pub acts : Did (advances_acts site turn s advances) old new
  pub after : After (after_advances turn s advances)

pub walked_none : (site : Site) (turn time : ℕ) (busy : List ℕ) (s : State) (After : State → Type 0) (seen : Seen) → Did [] seen seen → After s
    → Walked site turn time busy busy s After seen seen
walked_none site turn time busy s After seen did after = record {
  advances = [];
  first = [];
  busy_are = refl;
  advanced = refl;
  acts = did;
  after = after;
}

one-so : (site : Site) (turn time n : ℕ) (s : State) (a : Advance) → a.session ≡ n → IsAdvance site time s a → AreAdvancedSo site turn time s (n ∷ []) (a ∷ [])
one-so site turn time n s a same is = (same, is, refl)

acts_one : (site : Site) (turn : ℕ) (s : State) (a : Advance) → advances_acts site turn s (a ∷ []) ≡ advance_acts site turn s a
acts_one site turn s a = append-nil (advance_acts site turn s a)

-- one more went on
pub walked_more : (site : Site) (turn time n : ℕ) (busy rest : List ℕ) (s : State) (Mid After : State → Type 0) (old mid new : Seen)
    → (walked : Walked site turn time busy (n ∷ rest) s Mid old mid)
    → AdvancedOne site turn time n (after_advances turn s walked.advances) (Ok tt) After mid new
    → Walked site turn time busy rest s After old new
walked_more site turn time n busy rest s Mid After old mid new walked one =
    let before = after_advances turn s walked.advances in
    record {
      advances = walked.advances ++ one.advance ∷ [];
      first = walked.first ++ n ∷ [];
      busy_are = walked.busy_are ∙ sym (append_assoc walked.first (n ∷ []) rest);
      advanced = so-join site turn time s walked.first walked.advances (n ∷ []) (one.advance ∷ []) walked.advanced
          (one-so site turn time n before one.advance one.session one.is);
      acts = subst (λ (t : List Act). Did t old new) (sym (acts-join site turn s walked.advances (one.advance ∷ [])
          ∙ ap (λ (t : List Act). advances_acts site turn s walked.advances ++ t) (acts_one site turn before one.advance)))
          (acted_then done (advances_acts site turn s walked.advances) (advance_acts site turn before one.advance) old mid new walked.acts one.acts);
      after = subst After (sym (after-join turn s walked.advances (one.advance ∷ []))) one.after;
    }
  where
    done : Result (Unit {0}) Halt
    done = Ok tt

-- the turn stops in one
pub walk_stops : (site : Site) (turn time n : ℕ) (busy rest : List ℕ) (s : State) (halt : Halt) (Mid After Last : State → Type 0) (old mid new : Seen)
    → (walked : Walked site turn time busy (n ∷ rest) s Mid old mid)
    → AdvancedOne site turn time n (after_advances turn s walked.advances) (Err halt) After mid new
    → AdvancedSo site turn time busy s (Err halt) Last old new
walk_stops site turn time n busy rest s halt Mid After Last old mid new walked one =
    let before = after_advances turn s walked.advances in
    record {
      advances = walked.advances ++ one.advance ∷ [];
      first = walked.first ++ n ∷ [];
      others = rest;
      busy_are = walked.busy_are ∙ sym (append_assoc walked.first (n ∷ []) rest);
      advanced = so-join site turn time s walked.first walked.advances (n ∷ []) (one.advance ∷ []) walked.advanced
          (one-so site turn time n before one.advance one.session one.is);
      acts = acted_as stops _ (advances_acts site turn s (walked.advances ++ one.advance ∷ [])) old new
          (acts-join site turn s walked.advances (one.advance ∷ [])
          ∙ ap (λ (t : List Act). advances_acts site turn s walked.advances ++ t) (acts_one site turn before one.advance))
          (acted_then stops (advances_acts site turn s walked.advances) (advance_acts site turn before one.advance) old mid new walked.acts one.acts);
      after = tt;
    }
  where
    stops : Result (Unit {0}) Halt
    stops = Err halt

pub walk_ends : (site : Site) (turn time : ℕ) (busy rest : List ℕ) (s : State) (Mid Last : State → Type 0) (old new : Seen)
    → rest ≡ [] → ((x : State) → Mid x → Last x) → Walked site turn time busy rest s Mid old new
    → AdvancedSo site turn time busy s (Ok tt) Last old new
walk_ends site turn time busy rest s Mid Last old new none gives walked = record {
  advances = walked.advances;
  first = walked.first;
  others = rest;
  busy_are = walked.busy_are;
  advanced = walked.advanced;
  acts = walked.acts;
  after = (none, gives (after_advances turn s walked.advances) walked.after);
}

-- the next of those that wait went on
pub walked_step : (site : Site) (turn time n : ℕ) (busy waits waits_now rest : List ℕ) (s : State) (Mid After : State → Type 0) (old mid new : Seen)
    → waits ≡ n ∷ rest → waits_now ≡ rest → (walked : Walked site turn time busy waits s Mid old mid)
    → AdvancedOne site turn time n (after_advances turn s walked.advances) (Ok tt) After mid new
    → Walked site turn time busy waits_now s After old new
walked_step site turn time n busy waits waits_now rest s Mid After old mid new next now walked one =
    subst (λ (ws : List ℕ). Walked site turn time busy ws s After old new) (sym now)
    (subst (λ (ws : List ℕ). (w : Walked site turn time busy ws s Mid old mid)
    → AdvancedOne site turn time n (after_advances turn s w.advances) (Ok tt) After mid new → Walked site turn time busy rest s After old new) (sym next)
    (λ w o. walked_more site turn time n busy rest s Mid After old mid new w o) walked one)

-- the turn stops in the next of those that wait
pub step_stops : (site : Site) (turn time n : ℕ) (busy waits rest : List ℕ) (s : State) (halt : Halt) (r : Result (Unit {0}) Halt) (Mid After Last : State → Type 0)
    (old mid new : Seen) → IsErr r → waits ≡ n ∷ rest → (walked : Walked site turn time busy waits s Mid old mid)
    → AdvancedOne site turn time n (after_advances turn s walked.advances) (Err halt) After mid new
    → AdvancedSo site turn time busy s r Last old new
step_stops site turn time n busy waits rest s halt (Ok z) Mid After Last old mid new err next walked one = cc
step_stops site turn time n busy waits rest s halt (Err why) Mid After Last old mid new err next walked one =
    subst (λ (ws : List ℕ). (w : Walked site turn time busy ws s Mid old mid)
    → AdvancedOne site turn time n (after_advances turn s w.advances) (Err halt) After mid new → AdvancedSo site turn time busy s (Err why) Last old new) (sym next)
    (λ w o. by (walk_stops site turn time n busy rest s halt Mid After Last old mid new w o)) walked one
  where
    by : AdvancedSo site turn time busy s (Err halt) Last old new → AdvancedSo site turn time busy s (Err why) Last old new
    by a = record {
      advances = a.advances;
      first = a.first;
      others = a.others;
      busy_are = a.busy_are;
      advanced = a.advanced;
      acts = a.acts;
      after = tt;
    }
