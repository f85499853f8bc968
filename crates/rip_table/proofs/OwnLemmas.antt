-- What a history tells of a session, its own entries tell; and what it tells when entries are added.
use Rattle.std.proofs.Common.{◌≡◌, ℕ, zero, suc, ◌+◌, Bool, true, false, cond, ◌&&◌, eqb, List, [], ◌∷◌, ◌++◌, length, Option, Some, None, refl, sym, ap, ◌∙◌, arith, append-nil, length-append}
use Rattle.std.specs.Int.{to_be_bytes, w128}
use Rattle.std.specs.List.{AllByRecursion}
use Rattle.std.proofs.lemmas.Bool.{eq-eqb}
use Rattle.rip_wire.specs.Answers.{Served}
use Rattle.rip_log.specs.Entries.{Recorded, opened, admitted, served, done, closed, ended}
use Rattle.rip_http.specs.declared.answer.Opening.{Opening}
use Rattle.rip_history.specs.Answering.{opening_told}
use Rattle.rip_history.specs.Requests.{identifiers_in, served_in}
use Rattle.rip_history.specs.Run.{called_so_far}
use Rattle.rip_history.specs.Sequences.{ordinals_in, counted}
use Rattle.rip_history.specs.Standings.{standing_of, standing_from, after_entry, is_of, entries_of}
use Rattle.rip_history.specs.declared.standing.Standing.{Standing}
use Rattle.rip_history.proofs.StandingLemmas.{standings_are_own}

-- ---- joined histories

pub pushed : {A : Type 0} (t : Bool) (x : A) (xs ys zs : List A) → xs ≡ ys ++ zs → cond t (x ∷ xs) xs ≡ cond t (x ∷ ys) ys ++ zs
pushed true x xs ys zs e = ap (λ t. x ∷ t) e
pushed false x xs ys zs e = e

entries-join : (n : ℕ) (h es : List Recorded) → entries_of n (h ++ es) ≡ entries_of n h ++ entries_of n es
entries-join n [] es = refl
entries-join n (e ∷ h) es = pushed (is_of n e) e (entries_of n (h ++ es)) (entries_of n h) (entries_of n es) (entries-join n h es)

pub served_join : (n k : ℕ) (h es : List Recorded) → served_in n k (h ++ es) ≡ served_in n k h ++ served_in n k es
served_join n k [] es = refl
served_join n k (opened turn session id seed time ∷ h) es = served_join n k h es
served_join n k (admitted turn session b ∷ h) es = served_join n k h es
served_join n k (served turn session batch number name args time reply ∷ h) es =
    pushed (eqb session n && eqb batch k) (record { number = number; time = time; reply = reply }) (served_in n k (h ++ es)) (served_in n k h) (served_in n k es) (served_join n k h es)
served_join n k (done turn session batch how ∷ h) es = served_join n k h es
served_join n k (closed turn session ∷ h) es = served_join n k h es
served_join n k (ended turn status ∷ h) es = served_join n k h es

pub identifiers_join : (h es : List Recorded) → identifiers_in (h ++ es) ≡ identifiers_in h ++ identifiers_in es
identifiers_join [] es = refl
identifiers_join (opened turn session id seed time ∷ h) es = ap (λ t. id ∷ t) (identifiers_join h es)
identifiers_join (admitted turn session b ∷ h) es = identifiers_join h es
identifiers_join (served turn session batch number name args time reply ∷ h) es = identifiers_join h es
identifiers_join (done turn session batch how ∷ h) es = identifiers_join h es
identifiers_join (closed turn session ∷ h) es = identifiers_join h es
identifiers_join (ended turn status ∷ h) es = identifiers_join h es

pub ordinals_join : (h es : List Recorded) → ordinals_in (h ++ es) ≡ ordinals_in h ++ ordinals_in es
ordinals_join [] es = refl
ordinals_join (opened turn session id seed time ∷ h) es = ap (λ t. session ∷ t) (ordinals_join h es)
ordinals_join (admitted turn session b ∷ h) es = ordinals_join h es
ordinals_join (served turn session batch number name args time reply ∷ h) es = ordinals_join h es
ordinals_join (done turn session batch how ∷ h) es = ordinals_join h es
ordinals_join (closed turn session ∷ h) es = ordinals_join h es
ordinals_join (ended turn status ∷ h) es = ordinals_join h es

pub called_join : (h es : List Recorded) → called_so_far (h ++ es) ≡ called_so_far h ++ called_so_far es
called_join [] es = refl
called_join (opened turn session id seed time ∷ h) es = called_join h es
called_join (admitted turn session b ∷ h) es = called_join h es
called_join (served turn session batch number name args time reply ∷ h) es = ap (λ t. (name, args) ∷ t) (called_join h es)
called_join (done turn session batch how ∷ h) es = called_join h es
called_join (closed turn session ∷ h) es = called_join h es
called_join (ended turn status ∷ h) es = called_join h es

pub standing_join : (n : ℕ) (s : Option Standing) (h es : List Recorded) → standing_from n s (h ++ es) ≡ standing_from n (standing_from n s h) es
standing_join n s [] es = refl
standing_join n s (e ∷ h) es = standing_join n (after_entry n s e) h es

opening-step : (t : Bool) (x o : Opening) (a b : Option Opening) → (a ≡ Some o → b ≡ Some o) → cond t (Some x) a ≡ Some o → cond t (Some x) b ≡ Some o
opening-step true x o a b f e = e
opening-step false x o a b f e = f e

pub opening_stays : (n : ℕ) (h es : List Recorded) (o : Opening) → opening_told n h ≡ Some o → opening_told n (h ++ es) ≡ Some o
opening_stays n [] es o e = absurd (cc)
opening_stays n (opened turn session id seed time ∷ h) es o e =
    opening-step (eqb session n) (record { id = to_be_bytes w128 id; seed = seed; time = time }) o (opening_told n h) (opening_told n (h ++ es))
    (opening_stays n h es o) e
opening_stays n (admitted turn session b ∷ h) es o e = opening_stays n h es o e
opening_stays n (served turn session batch number name args time reply ∷ h) es o e = opening_stays n h es o e
opening_stays n (done turn session batch how ∷ h) es o e = opening_stays n h es o e
opening_stays n (closed turn session ∷ h) es o e = opening_stays n h es o e
opening_stays n (ended turn status ∷ h) es o e = opening_stays n h es o e

-- ---- a session's own entries

served-pass : (n k : ℕ) (e : Recorded) (t : List Recorded) (b : Bool) → served_in n k (e ∷ t) ≡ served_in n k t
    → served_in n k (cond b (e ∷ t) t) ≡ served_in n k t
served-pass n k e t true same = same
served-pass n k e t false same = refl

served-own-step : (n k session batch : ℕ) (x : Served) (e : Recorded) (s : List Served) (t : List Recorded) (b : Bool) → eqb session n ≡ b
    → served_in n k (e ∷ t) ≡ cond (eqb session n && eqb batch k) (x ∷ served_in n k t) (served_in n k t)
    → s ≡ served_in n k t → cond (eqb session n && eqb batch k) (x ∷ s) s ≡ served_in n k (cond b (e ∷ t) t)
served-own-step n k session batch x e s t true is step same =
    ap (λ (u : List Served). cond (eqb session n && eqb batch k) (x ∷ u) u) same ∙ sym step
served-own-step n k session batch x e s t false is step same = ap (λ (c : Bool). cond (c && eqb batch k) (x ∷ s) s) is ∙ same

served-own : (n k : ℕ) (h : List Recorded) → served_in n k h ≡ served_in n k (entries_of n h)
served-own n k [] = refl
served-own n k (opened turn session id seed time ∷ h) =
    served-own n k h ∙ sym (served-pass n k (opened turn session id seed time) (entries_of n h) (eqb session n) refl)
served-own n k (admitted turn session b ∷ h) =
    served-own n k h ∙ sym (served-pass n k (admitted turn session b) (entries_of n h) (eqb session n) refl)
served-own n k (served turn session batch number name args time reply ∷ h) =
    served-own-step n k session batch (record { number = number; time = time; reply = reply }) (served turn session batch number name args time reply)
    (served_in n k h) (entries_of n h) (eqb session n) refl refl (served-own n k h)
served-own n k (done turn session batch how ∷ h) =
    served-own n k h ∙ sym (served-pass n k (done turn session batch how) (entries_of n h) (eqb session n) refl)
served-own n k (closed turn session ∷ h) =
    served-own n k h ∙ sym (served-pass n k (closed turn session) (entries_of n h) (eqb session n) refl)
served-own n k (ended turn status ∷ h) = served-own n k h

opening-pass : (n : ℕ) (e : Recorded) (t : List Recorded) (b : Bool) → opening_told n (e ∷ t) ≡ opening_told n t
    → opening_told n (cond b (e ∷ t) t) ≡ opening_told n t
opening-pass n e t true same = same
opening-pass n e t false same = refl

opening-own-step : (n session : ℕ) (x : Opening) (e : Recorded) (s : Option Opening) (t : List Recorded) (b : Bool) → eqb session n ≡ b
    → opening_told n (e ∷ t) ≡ cond (eqb session n) (Some x) (opening_told n t)
    → s ≡ opening_told n t → cond (eqb session n) (Some x) s ≡ opening_told n (cond b (e ∷ t) t)
opening-own-step n session x e s t true is step same = ap (λ (o : Option Opening). cond (eqb session n) (Some x) o) same ∙ sym step
opening-own-step n session x e s t false is step same = ap (λ (c : Bool). cond c (Some x) s) is ∙ same

opening-own : (n : ℕ) (h : List Recorded) → opening_told n h ≡ opening_told n (entries_of n h)
opening-own n [] = refl
opening-own n (opened turn session id seed time ∷ h) =
    opening-own-step n session (record { id = to_be_bytes w128 id; seed = seed; time = time }) (opened turn session id seed time)
    (opening_told n h) (entries_of n h) (eqb session n) refl refl (opening-own n h)
opening-own n (admitted turn session b ∷ h) =
    opening-own n h ∙ sym (opening-pass n (admitted turn session b) (entries_of n h) (eqb session n) refl)
opening-own n (served turn session batch number name args time reply ∷ h) =
    opening-own n h ∙ sym (opening-pass n (served turn session batch number name args time reply) (entries_of n h) (eqb session n) refl)
opening-own n (done turn session batch how ∷ h) =
    opening-own n h ∙ sym (opening-pass n (done turn session batch how) (entries_of n h) (eqb session n) refl)
opening-own n (closed turn session ∷ h) =
    opening-own n h ∙ sym (opening-pass n (closed turn session) (entries_of n h) (eqb session n) refl)
opening-own n (ended turn status ∷ h) = opening-own n h

-- two histories tell the same of a session
pub record TellSame (n : ℕ) (g h : List Recorded) : Type 0 where
  pub standing : standing_of n g ≡ standing_of n h
  pub opening : opening_told n g ≡ opening_told n h
  pub served : (k : ℕ) → served_in n k g ≡ served_in n k h

pub tell_same : (n : ℕ) (g h : List Recorded) → entries_of n g ≡ entries_of n h → TellSame n g h
tell_same n g h e = record {
  standing = standings_are_own n g ∙ ap (standing_of n) e ∙ sym (standings_are_own n h);
  opening = opening-own n g ∙ ap (opening_told n) e ∙ sym (opening-own n h);
  served = λ k. served-own n k g ∙ ap (served_in n k) e ∙ sym (served-own n k h);
}

-- none of these entries is of the session
abbrev pub AreOthers : ℕ → List Recorded → Type 0
AreOthers n es = AllByRecursion (λ (e : Recorded). is_of n e ≡ false) es

none-own : (n : ℕ) (es : List Recorded) → AreOthers n es → entries_of n es ≡ []
none-own n [] h = refl
none-own n (e ∷ es) h = ap (λ (b : Bool). cond b (e ∷ entries_of n es) (entries_of n es)) h.0 ∙ none-own n es h.1

pub others_same : (n : ℕ) (h es : List Recorded) → AreOthers n es → entries_of n (h ++ es) ≡ entries_of n h
others_same n h es others =
    entries-join n h es ∙ ap (λ t. entries_of n h ++ t) (none-own n es others) ∙ append-nil (entries_of n h)

-- a session that is opened
pub opened_opening : (n turn id seed time : ℕ) (h : List Recorded) → entries_of n h ≡ []
    → opening_told n (h ++ opened turn n id seed time ∷ []) ≡ Some (record { id = to_be_bytes w128 id; seed = seed; time = time })
opened_opening n turn id seed time h none =
    let e = opened turn n id seed time in
    let itself : eqb n n ≡ true = eq-eqb n n refl in
    let entries : entries_of n (h ++ e ∷ []) ≡ e ∷ [] =
    entries-join n h (e ∷ []) ∙ ap (λ t. t ++ entries_of n (e ∷ [])) none ∙ ap (λ (b : Bool). cond b (e ∷ []) []) itself in
    opening-own n (h ++ e ∷ []) ∙ ap (opening_told n) entries
    ∙ ap (λ (b : Bool). cond b (Some (record { id = to_be_bytes w128 id; seed = seed; time = time })) None) itself

-- ---- sessions are counted

counted-push : (from n : ℕ) → counted from n ++ (from + n) ∷ [] ≡ counted from (suc n)
counted-push from zero = let same : from + zero ≡ from = omega arith in ap (λ (k : ℕ). k ∷ []) same
counted-push from (suc n) =
    let same : from + suc n ≡ from + 1 + n = omega arith in
    ap (λ (k : ℕ). from ∷ counted (from + 1) n ++ k ∷ []) same ∙ ap (λ (t : List ℕ). from ∷ t) (counted-push (from + 1) n)

-- a session more is the next
pub ordinals_push : (n turn id seed time : ℕ) (h : List Recorded) → ordinals_in h ≡ counted 1 (length (identifiers_in h))
    → n ≡ length (identifiers_in h) + 1
    → ordinals_in (h ++ opened turn n id seed time ∷ []) ≡ counted 1 (length (identifiers_in (h ++ opened turn n id seed time ∷ [])))
ordinals_push n turn id seed time h is next =
    let e = opened turn n id seed time in
    let c = length (identifiers_in h) in
    let size : length (identifiers_in (h ++ e ∷ [])) ≡ suc c =
    ap length (identifiers_join h (e ∷ [])) ∙ length-append (identifiers_in h) (id ∷ []) ∙ omega arith in
    let last : n ≡ 1 + c = omega (arith, next) in
    ordinals_join h (e ∷ []) ∙ ap (λ t. t ++ n ∷ []) is ∙ ap (λ (k : ℕ). counted 1 c ++ k ∷ []) last ∙ counted-push 1 c ∙ ap (counted 1) (sym size)
