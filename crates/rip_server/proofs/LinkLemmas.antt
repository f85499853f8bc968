-- Connections by their places and by their numbers.
use Rattle.std.proofs.Common.{◌≡◌, ◌≢◌, ℕ, zero, suc, ◌+◌, ◌<◌, ◌≤◌, Bool, true, false, cond, eqb, leb, ◌&&◌, ◌||◌, not, List, [], ◌∷◌, ◌++◌, length, take, drop, map, Option, Some, None, refl, sym, ap, subst, ◌∙◌, append_assoc, append-nil, arith}
use Rattle.std.specs.Prelude.{slice_get, slice_set, option_map}
use Rattle.std.specs.List.{AllByRecursion, filter, list_any, remove}
use Rattle.std.proofs.lemmas.Bool.{eqb-true, eqb-false, ne_eqb, eq-eqb, le-leb, lt-leb}
use Rattle.rip_history.specs.Connections.{Owed, Connection as Link, Connections as Links, is_there, without, changed, owed_for, owing, shuts, opened_acts}
use Rattle.rip_server.specs.Links.{owed_of, link_of, there_of, AreRising, AreLinks}
use Rattle.rip_server.specs.declared.connection.Connection.{Connection}

-- a connection with another number than all of these
abbrev pub AreAbove : ℕ → List Link → Type 0
AreAbove n cs = AllByRecursion (λ (d : Link). n < d.number) cs

-- those above a number are all kept without it
without-above : (n : ℕ) (cs : List Link) → AreAbove n cs → without n cs ≡ cs
without-above n [] above = refl
without-above n (c ∷ cs) above =
    let other : eqb c.number n ≡ false = ne_eqb c.number n (λ e. omega (arith, above.0, e)) in
    ap (λ (b : Bool). cond (not b) (c ∷ without n cs) (without n cs)) other ∙ ap (λ (t : List Link). c ∷ t) (without-above n cs above.1)

-- the numbers of those behind the front are above it
pub above_at : (n : ℕ) (cs : List Link) (place : ℕ) (d : Link) → AreAbove n cs → slice_get cs place ≡ Some d → n < d.number
above_at n [] place d above e = cc
above_at n (c ∷ cs) zero d above e = let same : c ≡ d = some_is c d e in subst (λ (x : Link). n < x.number) same above.0
  where
    some_is : (x y : Link) → Some x ≡ Some y → x ≡ y
    some_is x y e = cc
above_at n (c ∷ cs) (suc place) d above e = above_at n cs place d above.1 e

-- the connection at a place is the one of its number: without that number is without that place
pub remove-without : (cs : List Link) (high place : ℕ) (d : Link) → AreRising cs high → slice_get cs place ≡ Some d
    → remove cs place ≡ without d.number cs
remove-without [] high place d rising e = cc
remove-without (c ∷ cs) high zero d rising e =
    let same : c ≡ d = cc in
    let here : eqb c.number c.number ≡ true = eq-eqb c.number c.number refl in
    let gone : without c.number (c ∷ cs) ≡ cs =
    ap (λ (b : Bool). cond (not b) (c ∷ without c.number cs) (without c.number cs)) here ∙ without-above c.number cs rising.1 in
    subst (λ (x : Link). cs ≡ without x.number (c ∷ cs)) same (sym gone)
remove-without (c ∷ cs) high (suc place) d rising e =
    let above : c.number < d.number = above_at c.number cs place d rising.1 e in
    let other : eqb c.number d.number ≡ false = ne_eqb c.number d.number (λ same. omega (arith, above, same)) in
    ap (λ (t : List Link). c ∷ t) (remove-without cs high place d rising.2 e)
    ∙ sym (ap (λ (b : Bool). cond (not b) (c ∷ without d.number cs) (without d.number cs)) other)

-- ---- facts of each

all_same : (P Q : ℕ → Type 0) → ((m : ℕ) → P m → Q m) → (cs : List Link)
    → AllByRecursion (λ (c : Link). P c.number) cs → AllByRecursion (λ (c : Link). Q c.number) cs
all_same P Q f [] all = tt
all_same P Q f (c ∷ cs) all = (f c.number all.0, all_same P Q f cs all.1)

all-without : (P Q : ℕ → Type 0) (n : ℕ) → ((m : ℕ) → m ≢ n → P m → Q m) → (cs : List Link)
    → AllByRecursion (λ (c : Link). P c.number) cs → AllByRecursion (λ (c : Link). Q c.number) (without n cs)
all-without P Q n f [] all = tt
all-without P Q n f (c ∷ cs) all = by_test (eqb c.number n) refl (all-without P Q n f cs all.1)
  where
    by_test : (t : Bool) → eqb c.number n ≡ t → AllByRecursion (λ (d : Link). Q d.number) (without n cs)
        → AllByRecursion (λ (d : Link). Q d.number) (cond (not t) (c ∷ without n cs) (without n cs))
    by_test true is rest = rest
    by_test false is rest = (f c.number (eqb-false c.number n is) all.0, rest)

pub rising-without : (n high : ℕ) (cs : List Link) → AreRising cs high → AreRising (without n cs) high
rising-without n high [] rising = tt
rising-without n high (c ∷ cs) rising = by_test (eqb c.number n) refl (rising-without n high cs rising.2)
  where
    by_test : (t : Bool) → eqb c.number n ≡ t → AreRising (without n cs) high
        → AreRising (cond (not t) (c ∷ without n cs) (without n cs)) high
    by_test true is rest = rest
    by_test false is rest = (rising.0, all-without (λ m. c.number < m) (λ m. c.number < m) n (λ m other above. above) cs rising.1, rest)

length-without : (n : ℕ) (cs : List Link) → length (without n cs) ≤ length cs
length-without n [] = omega arith
length-without n (c ∷ cs) = by_test (eqb c.number n) (length-without n cs)
  where
    by_test : (t : Bool) → length (without n cs) ≤ length cs → length (cond (not t) (c ∷ without n cs) (without n cs)) ≤ suc (length cs)
    by_test true le = omega (arith, le)
    by_test false le = omega (arith, le)

pub links_same : (P Q : ℕ → Type 0) (k : Links) → ((m : ℕ) → P m → Q m) → AreLinks P k → AreLinks Q k
links_same P Q k f links = record { rising = links.rising; each = all_same P Q f k.there links.each; few = links.few }

pub links_without : (P Q : ℕ → Type 0) (n : ℕ) (k : Links) → ((m : ℕ) → m ≢ n → P m → Q m) → AreLinks P k
    → AreLinks Q (record { opened = k.opened; there = without n k.there })
links_without P Q n k f links = record {
  rising = rising-without n k.opened k.there links.rising;
  each = all-without P Q n f k.there links.each;
  few = omega (arith, links.few, length-without n k.there);
}

-- ---- by places

pub there-remove : (cs : List Connection) (place : ℕ) → there_of (remove cs place) ≡ remove (there_of cs) place
there-remove [] zero = refl
there-remove [] (suc place) = refl
there-remove (c ∷ cs) zero = refl
there-remove (c ∷ cs) (suc place) = ap (λ (t : List Link). link_of c ∷ t) (there-remove cs place)

pub there-get : (cs : List Connection) (place : ℕ) (c : Connection) → slice_get cs place ≡ Some c → slice_get (there_of cs) place ≡ Some (link_of c)
there-get [] place c e = cc
there-get (d ∷ cs) zero c e = ap (option_map link_of) e
there-get (d ∷ cs) (suc place) c e = there-get cs place c e

-- what is removed at the place of a connection is what has its number
pub there-without : (cs : List Connection) (high place : ℕ) (c : Connection) → AreRising (there_of cs) high → slice_get cs place ≡ Some c
    → there_of (remove cs place) ≡ without c.number (there_of cs)
there-without cs high place c rising e =
    there-remove cs place ∙ remove-without (there_of cs) high place (link_of c) rising (there-get cs place c e)

pub open_at_place : (P : ℕ → Type 0) (cs : List Connection) (place : ℕ) (c : Connection) → AllByRecursion (λ (d : Link). P d.number) (there_of cs)
    → slice_get cs place ≡ Some c → P c.number
open_at_place P [] place c all e = cc
open_at_place P (d ∷ cs) zero c all e = let same : d ≡ c = cc in subst (λ (x : Connection). P x.number) same all.0
open_at_place P (d ∷ cs) (suc place) c all e = open_at_place P cs place c all.1 e

-- ---- a connection is changed

changed-above : (n : ℕ) (f : Link → Link) (cs : List Link) → AreAbove n cs → changed n f cs ≡ cs
changed-above n f [] above = refl
changed-above n f (c ∷ cs) above =
    let other : eqb c.number n ≡ false = ne_eqb c.number n (λ e. omega (arith, above.0, e)) in
    ap (λ (b : Bool). cond b (f c) c ∷ changed n f cs) other ∙ ap (λ (t : List Link). c ∷ t) (changed-above n f cs above.1)

-- a change at the place of a connection is one of its number
pub set-changed : (cs : List Link) (high place : ℕ) (d : Link) (f : Link → Link) → AreRising cs high → slice_get cs place ≡ Some d
    → slice_set cs place (f d) ≡ changed d.number f cs
set-changed [] high place d f rising e = cc
set-changed (c ∷ cs) high zero d f rising e =
    let same : c ≡ d = cc in
    let here : eqb c.number c.number ≡ true = eq-eqb c.number c.number refl in
    let is : f c ∷ cs ≡ changed c.number f (c ∷ cs) =
    sym (ap (λ (b : Bool). cond b (f c) c ∷ changed c.number f cs) here ∙ ap (λ (t : List Link). f c ∷ t) (changed-above c.number f cs rising.1)) in
    subst (λ (x : Link). f x ∷ cs ≡ changed x.number f (c ∷ cs)) same is
set-changed (c ∷ cs) high (suc place) d f rising e =
    let above : c.number < d.number = above_at c.number cs place d rising.1 e in
    let other : eqb c.number d.number ≡ false = ne_eqb c.number d.number (λ same. omega (arith, above, same)) in
    ap (λ (t : List Link). c ∷ t) (set-changed cs high place d f rising.2 e)
    ∙ sym (ap (λ (b : Bool). cond b (f c) c ∷ changed d.number f cs) other)

pub there-set : (cs : List Connection) (place : ℕ) (d : Connection) → there_of (slice_set cs place d) ≡ slice_set (there_of cs) place (link_of d)
there-set [] zero d = refl
there-set [] (suc place) d = refl
there-set (c ∷ cs) zero d = refl
there-set (c ∷ cs) (suc place) d = ap (λ (t : List Link). link_of c ∷ t) (there-set cs place d)

pub there-changed : (cs : List Connection) (high place : ℕ) (c d : Connection) (f : Link → Link) → AreRising (there_of cs) high
    → slice_get cs place ≡ Some c → link_of d ≡ f (link_of c) → there_of (slice_set cs place d) ≡ changed c.number f (there_of cs)
there-changed cs high place c d f rising e is =
    there-set cs place d ∙ ap (slice_set (there_of cs) place) is ∙ set-changed (there_of cs) high place (link_of c) f rising (there-get cs place c e)

-- what is changed and then there no more is there no more
pub without-changed : (n : ℕ) (f : Link → Link) → ((c : Link) → (f c).number ≡ c.number) → (cs : List Link) → without n (changed n f cs) ≡ without n cs
without-changed n f keeps [] = refl
without-changed n f keeps (c ∷ cs) = by_test (eqb c.number n) refl (without-changed n f keeps cs)
  where
    by_test : (t : Bool) → eqb c.number n ≡ t → without n (changed n f cs) ≡ without n cs
        → without n (cond t (f c) c ∷ changed n f cs) ≡ cond (not t) (c ∷ without n cs) (without n cs)
    by_test true is rest =
        ap (λ (b : Bool). cond (not b) (f c ∷ without n (changed n f cs)) (without n (changed n f cs))) (ap (λ (m : ℕ). eqb m n) (keeps c) ∙ is) ∙ rest
    by_test false is rest =
        ap (λ (b : Bool). cond (not b) (c ∷ without n (changed n f cs)) (without n (changed n f cs))) is ∙ ap (λ (t : List Link). c ∷ t) rest

-- ---- connections as a door has them

rising_higher : (high more : ℕ) → high ≤ more → (cs : List Link) → AreRising cs high → AreRising cs more
rising_higher high more le [] rising = tt
rising_higher high more le (c ∷ cs) rising = (omega (arith, le, rising.0), rising.1, rising_higher high more le cs rising.2)

all_below : (high : ℕ) (cs : List Link) → AreRising cs high → AllByRecursion (λ (c : Link). c.number < high) cs
all_below high [] rising = tt
all_below high (c ∷ cs) rising = (rising.0, all_below high cs rising.2)

all_other : (P Q : ℕ → Type 0) (n : ℕ) → ((m : ℕ) → m ≢ n → P m → Q m) → (cs : List Link) → AllByRecursion (λ (c : Link). c.number < n) cs
    → AllByRecursion (λ (c : Link). P c.number) cs → AllByRecursion (λ (c : Link). Q c.number) cs
all_other P Q n f [] below all = tt
all_other P Q n f (c ∷ cs) below all = (f c.number (λ e. omega (arith, below.0, e)) all.0, all_other P Q n f cs below.1 all.1)

-- one that is opened and shut at once is counted
pub links_full : (P Q : ℕ → Type 0) (opened : ℕ) (cs : List Link) → ((m : ℕ) → m ≢ opened → P m → Q m) → AreLinks P (record { opened = opened; there = cs })
    → AreLinks Q (record { opened = opened + 1; there = cs })
links_full P Q opened cs f links = record {
  rising = rising_higher opened (opened + 1) (omega arith) cs links.rising;
  each = all_other P Q opened f cs (all_below opened cs links.rising) links.each;
  few = links.few;
}

above_push : (n : ℕ) (c : Link) → n < c.number → (cs : List Link) → AreAbove n cs → AreAbove n (cs ++ c ∷ [])
above_push n c less [] above = (less, tt)
above_push n c less (d ∷ cs) above = (above.0, above_push n c less cs above.1)

rising_push : (high : ℕ) (c : Link) → c.number ≡ high → (cs : List Link) → AreRising cs high → AreRising (cs ++ c ∷ []) (high + 1)
rising_push high c same [] rising = (omega (arith, same), tt, tt)
rising_push high c same (d ∷ cs) rising =
    (omega (arith, rising.0), above_push d.number c (omega (arith, same, rising.0)) cs rising.1, rising_push high c same cs rising.2)

all_push : (P : Link → Type 0) (c : Link) → P c → (cs : List Link) → AllByRecursion P cs → AllByRecursion P (cs ++ c ∷ [])
all_push P c is [] all = (is, tt)
all_push P c is (d ∷ cs) all = (all.0, all_push P c is cs all.1)

length_push : (cs : List Link) (c : Link) → length (cs ++ c ∷ []) ≡ length cs + 1
length_push [] c = refl
length_push (d ∷ cs) c = ap suc (length_push cs c) ∙ omega arith

pub length-there : (cs : List Connection) → length (there_of cs) ≡ length cs
length-there [] = refl
length-there (c ∷ cs) = ap suc (length-there cs)

there-push : (cs : List Connection) (c : Connection) → there_of (cs ++ c ∷ []) ≡ there_of cs ++ link_of c ∷ []
there-push [] c = refl
there-push (d ∷ cs) c = ap (λ (t : List Link). link_of d ∷ t) (there-push cs c)

-- one that is opened stands behind the others
pub links_added : (P : ℕ → Type 0) (opened new_opened number : ℕ) (cs new_cs : List Connection) (c : Connection) → AreLinks P (record { opened = opened; there = there_of cs })
    → number ≡ opened → link_of c ≡ record { number = number; unread = []; owed = None } → P number → length cs < 64
    → new_cs ≡ cs ++ c ∷ [] → new_opened ≡ opened + 1 → AreLinks P (record { opened = new_opened; there = there_of new_cs })
links_added P opened new_opened number cs new_cs c links is link at_door few list counted =
    let numbered : c.number ≡ number = ap (λ (x : Link). x.number) link in
    let last : (link_of c).number ≡ opened = numbered ∙ is in
    let open_there : P (link_of c).number = subst P (sym numbered) at_door in
    let there : there_of new_cs ≡ there_of cs ++ link_of c ∷ [] = ap there_of list ∙ there-push cs c in
    subst (λ (k : Links). AreLinks P k) (sym (ap (λ (n : ℕ). record { opened = n; there = there_of new_cs }) counted
    ∙ ap (λ (t : List Link). record { opened = opened + 1; there = t }) there))
    (record {
      rising = rising_push opened (link_of c) last (there_of cs) links.rising;
      each = all_push (λ (x : Link). P x.number) (link_of c) open_there (there_of cs) links.each;
      few = omega (arith, few, length-there cs, length_push (there_of cs) (link_of c));
    })

-- the one at a place is there no more
pub links_forgot : (P Q : ℕ → Type 0) (opened new_opened : ℕ) (cs new_cs : List Connection) (place : ℕ) (c : Connection)
    → AreLinks P (record { opened = opened; there = there_of cs }) → slice_get cs place ≡ Some c → ((m : ℕ) → m ≢ c.number → P m → Q m)
    → new_cs ≡ remove cs place → new_opened ≡ opened → AreLinks Q (record { opened = new_opened; there = there_of new_cs })
links_forgot P Q opened new_opened cs new_cs place c links e f list counted =
    let there : there_of new_cs ≡ without c.number (there_of cs) = ap there_of list ∙ there-without cs opened place c links.rising e in
    subst (λ (k : Links). AreLinks Q k) (sym (ap (λ (n : ℕ). record { opened = n; there = there_of new_cs }) counted
    ∙ ap (λ (t : List Link). record { opened = opened; there = t }) there))
    (links_without P Q c.number (record { opened = opened; there = there_of cs }) f links)

-- all are there
pub links_stay : (P Q : ℕ → Type 0) (k : Links) (n : ℕ) → ((m : ℕ) → m ≢ n → P m → Q m) → Q n → AreLinks P k → AreLinks Q k
links_stay P Q k n f here links = links_same P Q k (λ m p. by_test m (eqb m n) refl p) links
  where
    by_test : (m : ℕ) (t : Bool) → eqb m n ≡ t → P m → Q m
    by_test m true is p = subst Q (sym (eqb-true m n is)) here
    by_test m false is p = f m (eqb-false m n is) p

-- ---- what is done as one is opened

pub opened_full : (number opened : ℕ) (cs : List Link) → number ≡ opened → 64 ≤ length cs
    → opened_acts number (record { opened = opened; there = cs }) ≡ shuts number ∷ []
opened_full number opened cs is full =
    let same : eqb number opened ≡ true = eq-eqb number opened is in
    let most : leb 64 (length cs) ≡ true = le-leb 64 (length cs) full in
    ap (λ (t : Bool). cond (t && leb 64 (length cs)) (shuts number ∷ []) []) same ∙ ap (λ (t : Bool). cond (true && t) (shuts number ∷ []) []) most

pub opened_added : (number opened : ℕ) (cs : List Link) → length cs < 64 → opened_acts number (record { opened = opened; there = cs }) ≡ []
opened_added number opened cs few =
    let most : leb 64 (length cs) ≡ false = lt-leb 64 (length cs) few in
    ap (λ (t : Bool). cond (eqb number opened && t) (shuts number ∷ []) []) most ∙ neither (eqb number opened)
  where
    neither : (t : Bool) → cond (t && false) (shuts number ∷ []) [] ≡ []
    neither true = refl
    neither false = refl

-- ---- by numbers

pub without-none : (n : ℕ) (cs : List Link) → is_there n cs ≡ false → cs ≡ without n cs
without-none n [] e = refl
without-none n (c ∷ cs) e = by_test (eqb c.number n) refl e (without-none n cs)
  where
    by_test : (t : Bool) → eqb c.number n ≡ t → (t || is_there n cs) ≡ false → (is_there n cs ≡ false → cs ≡ without n cs)
        → c ∷ cs ≡ cond (not (eqb c.number n)) (c ∷ without n cs) (without n cs)
    by_test true is f rest = cc
    by_test false is f rest =
        ap (λ (t : List Link). c ∷ t) (rest f)
        ∙ sym (ap (λ (b : Bool). cond (not b) (c ∷ without n cs) (without n cs)) is)

pub same_at : (cs : List Connection) (place : ℕ) (x y : Connection) → slice_get cs place ≡ Some x → slice_get cs place ≡ Some y → x ≡ y
same_at cs place x y e f = let both : Some x ≡ Some y = sym e ∙ f in cc

pub when_true : {A : Type 0} (t : Bool) (x y z : A) → t ≡ true → x ≡ y → x ≡ cond t y z
when_true true x y z e same = same
when_true false x y z e same = cc

pub remove_set : (cs : List Connection) (place : ℕ) (d : Connection) → remove (slice_set cs place d) place ≡ remove cs place
remove_set [] zero d = refl
remove_set [] (suc place) d = refl
remove_set (c ∷ cs) zero d = refl
remove_set (c ∷ cs) (suc place) d = ap (λ (t : List Connection). c ∷ t) (remove_set cs place d)
