-- Connections before a place and from it on.
use Rattle.std.proofs.Common.{◌≡◌, inl, inr, ℕ, zero, suc, ◌+◌, ◌-◌, ◌<◌, ◌≤◌, Bool, true, false, List, [], ◌∷◌, length, take, drop, Option, Some, None, refl, sym, ap, subst, ◌∙◌, arith}
use Rattle.std.specs.Prelude.{slice_get, slice_set}
use Rattle.std.specs.List.{AllByRecursion, remove}
use Rattle.std.proofs.lemmas.List.{length-drop}
use Rattle.rip_history.specs.Connections.{Connection as Link, without, changed, after_answer}
use Rattle.rip_history.specs.Run.{Handling, IsQuiet, AreQuiet, IsAtFront, IsFirst, taken, answered_or_owed}
use Rattle.rip_server.specs.Links.{AreRising}
use Rattle.rip_server.proofs.LinkLemmas.{remove-without, set-changed}
use Rattle.rip_server.proofs.OwedLemmas.{rising-changed}
use Rattle.rip_server.specs.Handling.{weight, weight_from}

-- ---- lists

take-remove : {A : Type 0} (xs : List A) (place : ℕ) → take place (remove xs place) ≡ take place xs
take-remove [] zero = refl
take-remove [] (suc place) = refl
take-remove (x ∷ xs) zero = refl
take-remove (x ∷ xs) (suc place) = ap (λ t. x ∷ t) (take-remove xs place)

drop-remove : {A : Type 0} (xs : List A) (place : ℕ) → drop place (remove xs place) ≡ drop (suc place) xs
drop-remove [] zero = refl
drop-remove [] (suc place) = refl
drop-remove (x ∷ xs) zero = refl
drop-remove (x ∷ xs) (suc place) = drop-remove xs place

take-set : {A : Type 0} (xs : List A) (place : ℕ) (y : A) → take place (slice_set xs place y) ≡ take place xs
take-set [] zero y = refl
take-set [] (suc place) y = refl
take-set (x ∷ xs) zero y = refl
take-set (x ∷ xs) (suc place) y = ap (λ t. x ∷ t) (take-set xs place y)

drop-set : {A : Type 0} (xs : List A) (place : ℕ) (x y : A) → slice_get xs place ≡ Some x → drop place (slice_set xs place y) ≡ y ∷ drop (suc place) xs
drop-set [] place x y e = cc
drop-set (z ∷ xs) zero x y e = refl
drop-set (z ∷ xs) (suc place) x y e = drop-set xs place x y e

drop-at : {A : Type 0} (xs : List A) (place : ℕ) (x : A) → slice_get xs place ≡ Some x → drop place xs ≡ x ∷ drop (suc place) xs
drop-at [] place x e = cc
drop-at (z ∷ xs) zero x e = let same : z ≡ x = cc in ap (λ t. t ∷ xs) same
drop-at (z ∷ xs) (suc place) x e = drop-at xs place x e

get-set : {A : Type 0} (xs : List A) (place : ℕ) (x y : A) → slice_get xs place ≡ Some x → slice_get (slice_set xs place y) place ≡ Some y
get-set [] place x y e = cc
get-set (z ∷ xs) zero x y e = refl
get-set (z ∷ xs) (suc place) x y e = get-set xs place x y e

-- ---- the first that has something to handle

pub is_first : (cs : List Link) (place : ℕ) (d : Link) (h : Handling) → AllByRecursion IsQuiet (take place cs) → slice_get cs place ≡ Some d
    → IsAtFront d h → IsFirst cs h
is_first [] place d h quiet e front = cc
is_first (c ∷ cs) zero d h quiet e front = let same : c ≡ d = cc in inl (subst (λ (x : Link). IsAtFront x h) (sym same) front)
is_first (c ∷ cs) (suc place) d h quiet e front = inr (quiet.0, is_first cs place d h quiet.1 e front)

pub quiet_next : (cs : List Link) (place : ℕ) (d : Link) → AllByRecursion IsQuiet (take place cs) → slice_get cs place ≡ Some d → IsQuiet d
    → AllByRecursion IsQuiet (take (place + 1) cs)
quiet_next cs place d quiet e here =
    let same : suc place ≡ place + 1 = omega arith in
    subst (λ (n : ℕ). AllByRecursion IsQuiet (take n cs)) same (step cs place d quiet e here)
  where
    step : (cs : List Link) (place : ℕ) (d : Link) → AllByRecursion IsQuiet (take place cs) → slice_get cs place ≡ Some d → IsQuiet d
        → AllByRecursion IsQuiet (take (suc place) cs)
    step [] place d quiet e here = cc
    step (c ∷ cs) zero d quiet e here = let same : c ≡ d = cc in (subst IsQuiet (sym same) here, tt)
    step (c ∷ cs) (suc place) d quiet e here = (quiet.0, step cs place d quiet.1 e here)

pub quiet_all : (cs : List Link) (place : ℕ) → length cs ≤ place → AllByRecursion IsQuiet (take place cs) → AreQuiet cs
quiet_all [] place le quiet = tt
quiet_all (c ∷ cs) zero le quiet = absurd (omega (arith, le))
quiet_all (c ∷ cs) (suc place) le quiet = (quiet.0, quiet_all cs place (omega (arith, le)) quiet.1)

-- ---- one connection is answered, or waits

-- before its place all is as it was, and from there on less is to be looked at
pub record Less (cs now : List Link) (place : ℕ) (u : ℕ) : Type 0 where
  pub before : take place now ≡ take place cs
  pub from : weight_from place now ≤ u + 1 + weight (drop (suc place) cs)

less_without : (cs : List Link) (high place : ℕ) (d : Link) (u : ℕ) → AreRising cs high → slice_get cs place ≡ Some d → Less cs (without d.number cs) place u
less_without cs high place d u rising e =
    let is : remove cs place ≡ without d.number cs = remove-without cs high place d rising e in
    let rest : weight_from place (without d.number cs) ≡ weight (drop (suc place) cs) = ap (weight_from place) (sym is) ∙ ap weight (drop-remove cs place) in
    record {
      before = ap (take place) (sym is) ∙ take-remove cs place;
      from = omega (arith, rest);
    }

less_changed : (cs : List Link) (high place : ℕ) (d : Link) (f : Link → Link) (u : ℕ) → AreRising cs high → slice_get cs place ≡ Some d
    → (let x = f d in length x.unread) ≡ u → Less cs (changed d.number f cs) place u
less_changed cs high place d f u rising e long =
    let is : slice_set cs place (f d) ≡ changed d.number f cs = set-changed cs high place d f rising e in
    let rest : weight_from place (changed d.number f cs) ≡ weight (f d ∷ drop (suc place) cs) =
    ap (weight_from place) (sym is) ∙ ap weight (drop-set cs place d (f d) e) in
    record {
      before = ap (take place) (sym is) ∙ take-set cs place (f d);
      from = omega (arith, rest, long);
    }

less_answer : (cs : List Link) (high place : ℕ) (d : Link) (gone close : Bool) → AreRising cs high → slice_get cs place ≡ Some d
    → Less cs (after_answer gone close d.number cs) place (length d.unread)
less_answer cs high place d true close rising e = less_without cs high place d (length d.unread) rising e
less_answer cs high place d false true rising e = less_without cs high place d (length d.unread) rising e
less_answer cs high place d false false rising e =
    less_changed cs high place d (λ (c : Link). record c { owed = None }) (length d.unread) rising e refl

less_decided : (cs : List Link) (high place : ℕ) (d : Link) (gone close : Bool) (owed : Option ℕ) → AreRising cs high → slice_get cs place ≡ Some d
    → Less cs (answered_or_owed d.number gone close owed cs) place (length d.unread)
less_decided cs high place d gone close None rising e = less_answer cs high place d gone close rising e
less_decided cs high place d gone close (Some n) rising e =
    less_changed cs high place d (λ (c : Link). record c { owed = Some (record { session = n; close = close }) }) (length d.unread) rising e refl

-- a message is taken, and then its connection answered, or it waits
pub taken_less : (cs : List Link) (high place n : ℕ) (d : Link) (gone close : Bool) (owed : Option ℕ) → AreRising cs high → slice_get cs place ≡ Some d
    → Less cs (answered_or_owed d.number gone close owed (taken d.number n cs)) place (length d.unread - n)
taken_less cs high place n d gone close owed rising e =
    let f : Link → Link = λ c. record c { unread = drop n c.unread } in
    let is : slice_set cs place (f d) ≡ taken d.number n cs = set-changed cs high place d f rising e in
    let at : slice_get (taken d.number n cs) place ≡ Some (f d) = ap (λ (t : List Link). slice_get t place) (sym is) ∙ get-set cs place d (f d) e in
    let next = less_decided (taken d.number n cs) high place (f d) gone close owed (rising-changed d.number high f (λ c. refl) cs rising) at in
    let rest : drop (suc place) (taken d.number n cs) ≡ drop (suc place) cs = ap (drop (suc place)) (sym is) ∙ behind cs place (f d) in
    record {
      before = next.before ∙ ap (take place) (sym is) ∙ take-set cs place (f d);
      from = omega (arith, next.from, ap weight rest, length-drop n d.unread);
    }
  where
    behind : (xs : List Link) (p : ℕ) (y : Link) → drop (suc p) (slice_set xs p y) ≡ drop (suc p) xs
    behind [] zero y = refl
    behind [] (suc p) y = refl
    behind (x ∷ xs) zero y = refl
    behind (x ∷ xs) (suc p) y = behind xs p y

pub refused_less : (cs : List Link) (high place : ℕ) (d : Link) (gone : Bool) → AreRising cs high → slice_get cs place ≡ Some d
    → weight_from place (after_answer gone true d.number cs) < weight_from place cs
refused_less cs high place d gone rising e =
    let here : weight_from place cs ≡ weight (d ∷ drop (suc place) cs) = ap weight (drop-at cs place d e) in
    let is : remove cs place ≡ without d.number cs = remove-without cs high place d rising e in
    let rest : weight_from place (without d.number cs) ≡ weight (drop (suc place) cs) = ap (weight_from place) (sym is) ∙ ap weight (drop-remove cs place) in
    let gone_so : after_answer gone true d.number cs ≡ without d.number cs = by gone in
    omega (arith, here, rest, ap (weight_from place) gone_so)
  where
    by : (t : Bool) → after_answer t true d.number cs ≡ without d.number cs
    by true = refl
    by false = refl

pub refused_before : (cs : List Link) (high place : ℕ) (d : Link) (gone : Bool) → AreRising cs high → slice_get cs place ≡ Some d
    → take place (after_answer gone true d.number cs) ≡ take place cs
refused_before cs high place d gone rising e = let l = less_answer cs high place d gone true rising e in l.before

-- what is taken is at least a byte of what had come
pub took_less : (cs now : List Link) (place n : ℕ) (d : Link) → slice_get cs place ≡ Some d → 1 ≤ n → n ≤ length d.unread
    → Less cs now place (length d.unread - n) → weight_from place now < weight_from place cs
took_less cs now place n d e some within l =
    let here : weight_from place cs ≡ weight (d ∷ drop (suc place) cs) = ap weight (drop-at cs place d e) in
    omega (arith, here, l.from, some, within)

pub looked_less : (cs : List Link) (place : ℕ) (d : Link) → slice_get cs place ≡ Some d → weight_from (place + 1) cs < weight_from place cs
looked_less cs place d e =
    let here : weight_from place cs ≡ weight (d ∷ drop (suc place) cs) = ap weight (drop-at cs place d e) in
    let same : place + 1 ≡ suc place = omega arith in
    let next : weight_from (place + 1) cs ≡ weight (drop (suc place) cs) = ap (λ (n : ℕ). weight (drop n cs)) same in
    omega (arith, here, next)
