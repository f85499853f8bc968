-- The knocks of a run are those that were left at its beginning, but for what is told no more of connections that are gone.
use Rattle.std.proofs.Common.{◌≡◌, ℕ, suc, ◌+◌, ◌≤◌, Bool, true, false, cond, eqb, List, [], ◌∷◌, ◌++◌, length, Option, Some, None, refl, sym, ap, ◌∙◌, subst, arith, append-nil, append_assoc}
use Rattle.std.proofs.lemmas.Bool.{true≢false, eqb-true}
use Rattle.std.proofs.lemmas.Option.{same_Some}
use Rattle.rip_outer.specs.Connections.{hushed}
use Rattle.rip_outer.specs.Outside.{before}
use Rattle.rip_outer.specs.declared.connections.TraceKnock.{TraceKnock}
use Rattle.rip_outer.specs.declared.connections.TraceKnock.TheVariants.{Opened, Bytes, Gone, Quiet}
use Rattle.rip_history.specs.Connections.{Act, puts, sends, loses, shuts}
use Rattle.rip_history.specs.Run.{Site, State, Coming, after_turn, turn_acts}
use Rattle.rip_law_server.specs.Asked.{bytes_on, bytes_opened, next_behind, knocked, knocks_of}
use Rattle.rip_law_server.specs.Ending.{knock_count, knocks_in}
use Rattle.rip_law_server.proofs.Fronts.{AskAtMost, front_asks}
use Rattle.rip_law_server.proofs.Waiting.{Opens}
use Rattle.rip_server.specs.Acts.{left_by}
use Rattle.rip_server.specs.Turning as turning
use Rattle.rip_serve.specs.Serving.{AreKnocks}

-- ---- fronts of bytes

IsFront : List ℕ → List ℕ → Type 0
IsFront xs ys = (more : List ℕ) × (ys ≡ xs ++ more)

front_all : (xs : List ℕ) → IsFront xs xs
unfolding IsFront
front_all xs = ([], sym (append-nil xs))

front_none : (xs : List ℕ) → IsFront [] xs
unfolding IsFront
front_none xs = (xs, refl)

front_more : (ps xs ys : List ℕ) → IsFront xs ys → IsFront (ps ++ xs) (ps ++ ys)
unfolding IsFront
front_more ps xs ys (more, e) = (more, ap (λ (t : List ℕ). ps ++ t) e ∙ sym (append_assoc ps xs more))

front_front : (xs ys zs : List ℕ) → IsFront xs ys → IsFront ys zs → IsFront xs zs
unfolding IsFront
front_front xs ys zs (more, e) (others, f) = (more ++ others, f ∙ ap (λ (t : List ℕ). t ++ others) e ∙ append_assoc xs more others)

front_atmost : (n : ℕ) (xs ys : List ℕ) → IsFront xs ys → AskAtMost ys n → AskAtMost xs n
unfolding IsFront
front_atmost n xs ys (more, e) a = front_asks xs more n (subst (λ (t : List ℕ). AskAtMost t n) e a)

front_if : (b : Bool) (xs ys : List ℕ) → IsFront xs ys → IsFront (cond b xs []) (cond b ys [])
front_if true xs ys f = f
front_if false xs ys f = front_all []

-- ---- what is told no more of a connection

hushed-own : (c n : ℕ) (ks : List TraceKnock) → eqb n c ≡ true → bytes_on n (hushed c ks) ≡ []
hushed-own c n [] e = refl
hushed-own c n (Opened d ∷ ks) e = hushed-own c n ks e
hushed-own c n (Bytes d piece ∷ ks) e = by (eqb d c) refl (eqb n d) refl (hushed-own c n ks e)
  where
    by : (b : Bool) → eqb d c ≡ b → (t : Bool) → eqb n d ≡ t → bytes_on n (hushed c ks) ≡ [] → bytes_on n (cond b Quiet (Bytes d piece) ∷ hushed c ks) ≡ []
    by true is t same none = none
    by false is true same none =
        absurd (true≢false (sym e ∙ ap (λ (x : ℕ). eqb x c) (eqb-true n d same) ∙ is))
    by false is false same none = ap (λ (t : Bool). cond t (piece ++ bytes_on n (hushed c ks)) (bytes_on n (hushed c ks))) same ∙ none
hushed-own c n (Gone d ∷ ks) e = by (eqb d c) (hushed-own c n ks e)
  where
    by : (b : Bool) → bytes_on n (hushed c ks) ≡ [] → bytes_on n (cond b Quiet (Gone d) ∷ hushed c ks) ≡ []
    by true none = none
    by false none = none
hushed-own c n (Quiet ∷ ks) e = hushed-own c n ks e

hushed-other : (c n : ℕ) (ks : List TraceKnock) → eqb n c ≡ false → bytes_on n (hushed c ks) ≡ bytes_on n ks
hushed-other c n [] e = refl
hushed-other c n (Opened d ∷ ks) e = hushed-other c n ks e
hushed-other c n (Bytes d piece ∷ ks) e = by (eqb d c) refl (eqb n d) refl (hushed-other c n ks e)
  where
    by : (b : Bool) → eqb d c ≡ b → (t : Bool) → eqb n d ≡ t → bytes_on n (hushed c ks) ≡ bytes_on n ks
        → bytes_on n (cond b Quiet (Bytes d piece) ∷ hushed c ks) ≡ cond t (piece ++ bytes_on n ks) (bytes_on n ks)
    by true is true same rest =
        absurd (true≢false (sym (ap (λ (x : ℕ). eqb x c) (eqb-true n d same) ∙ is) ∙ e))
    by true is false same rest = rest
    by false is t same rest =
        ap (λ (b : Bool). cond b (piece ++ bytes_on n (hushed c ks)) (bytes_on n (hushed c ks))) same
        ∙ ap (λ (bytes : List ℕ). cond t (piece ++ bytes) bytes) rest
hushed-other c n (Gone d ∷ ks) e = by (eqb d c) (hushed-other c n ks e)
  where
    by : (b : Bool) → bytes_on n (hushed c ks) ≡ bytes_on n ks → bytes_on n (cond b Quiet (Gone d) ∷ hushed c ks) ≡ bytes_on n ks
    by true rest = rest
    by false rest = rest
hushed-other c n (Quiet ∷ ks) e = hushed-other c n ks e

hushed-front : (c n : ℕ) (ks : List TraceKnock) → IsFront (bytes_on n (hushed c ks)) (bytes_on n ks)
hushed-front c n ks = by (eqb n c) refl
  where
    by : (b : Bool) → eqb n c ≡ b → IsFront (bytes_on n (hushed c ks)) (bytes_on n ks)
    by true e = subst (λ (xs : List ℕ). IsFront xs (bytes_on n ks)) (sym (hushed-own c n ks e)) (front_none (bytes_on n ks))
    by false e = subst (λ (xs : List ℕ). IsFront xs (bytes_on n ks)) (sym (hushed-other c n ks e)) (front_all (bytes_on n ks))

hushed-opens : (c next total : ℕ) (ks : List TraceKnock) → Opens next ks total → Opens next (hushed c ks) total
hushed-opens c next total [] o = tt
hushed-opens c next total (Opened d ∷ ks) (n, others, asks, count, o) = (
  n,
  others,
  front_atmost n (bytes_opened d next (hushed c ks)) (bytes_opened d next ks) (front_if (eqb d next) (bytes_on d (hushed c ks)) (bytes_on d ks) (hushed-front c d ks)) asks,
  count,
  hushed-opens c (next_behind d next) others ks o,
)
hushed-opens c next total (Bytes d piece ∷ ks) o = by (eqb d c) (hushed-opens c next total ks o)
  where
    by : (b : Bool) → Opens next (hushed c ks) total → Opens next (cond b Quiet (Bytes d piece) ∷ hushed c ks) total
    by true rest = rest
    by false rest = rest
hushed-opens c next total (Gone d ∷ ks) o = by (eqb d c) (hushed-opens c next total ks o)
  where
    by : (b : Bool) → Opens next (hushed c ks) total → Opens next (cond b Quiet (Gone d) ∷ hushed c ks) total
    by true rest = rest
    by false rest = rest
hushed-opens c next total (Quiet ∷ ks) o = hushed-opens c next total ks o

length-hushed : (c : ℕ) (ks : List TraceKnock) → length (hushed c ks) ≡ length ks
length-hushed c [] = refl
length-hushed c (k ∷ ks) = ap suc (length-hushed c ks)

-- ---- what is left

-- knocks that are left of others: as many, they open no more, and bring fronts of the bytes
record IsLeft (ks js : List TraceKnock) : Type 0 where
  count : length js ≡ length ks
  opens : (next total : ℕ) → Opens next ks total → Opens next js total
  bytes : (c : ℕ) → IsFront (bytes_on c js) (bytes_on c ks)

all-left : (ks : List TraceKnock) → IsLeft ks ks
all-left ks = record { count = refl; opens = λ next total o. o; bytes = λ c. front_all (bytes_on c ks) }

hushed-left : (c : ℕ) (ks : List TraceKnock) → IsLeft ks (hushed c ks)
hushed-left c ks = record {
  count = length-hushed c ks;
  opens = λ next total o. hushed-opens c next total ks o;
  bytes = λ n. hushed-front c n ks;
}

left-left : (ks js is : List TraceKnock) → IsLeft ks js → IsLeft js is → IsLeft ks is
left-left ks js is a b = record {
  count = b.count ∙ a.count;
  opens = λ next total o. b.opens next total (a.opens next total o);
  bytes = λ c. front_front (bytes_on c is) (bytes_on c js) (bytes_on c ks) (b.bytes c) (a.bytes c);
}

acts-leave : (acts : List Act) (ks : List TraceKnock) → (js : List TraceKnock) × (left_by acts (Some ks) ≡ Some js) × IsLeft ks js
acts-leave [] ks = (ks, refl, all-left ks)
acts-leave (puts e ∷ acts) ks = acts-leave acts ks
acts-leave (sends c bytes ∷ acts) ks = acts-leave acts ks
acts-leave (loses c ∷ acts) ks =
    let (js, is, left) = acts-leave acts (hushed c ks) in (js, is, left-left ks (hushed c ks) js (hushed-left c ks) left)
acts-leave (shuts c ∷ acts) ks =
    let (js, is, left) = acts-leave acts (hushed c ks) in (js, is, left-left ks (hushed c ks) js (hushed-left c ks) left)

-- ---- turns

-- the knocks of turns are the first of these, but for what is told no more
pub record AreFirst (ts : List Coming) (ks : List TraceKnock) : Type 0 where
  pub count : knocks_in ts ≤ length ks
  pub opens : (next total : ℕ) → Opens next ks total → Opens next (knocks_of ts) total
  bytes : (c : ℕ) → IsFront (bytes_on c (knocks_of ts)) (bytes_on c ks)

none-opens : (next total : ℕ) (ks : List TraceKnock) → Opens next ks total → Opens next [] total
none-opens next total ks o = tt

-- behind one knock
first-behind : (k : TraceKnock) (t : Coming) (ts : List Coming) (ks js : List TraceKnock) → t.knock ≡ Some k → IsLeft ks js → AreFirst ts js → AreFirst (t ∷ ts) (k ∷ ks)
first-behind k t ts ks js is left f = record {
  count = omega (arith, f.count, left.count, ap knock_count is);
  opens = λ next total o.
      subst (λ (q : Option TraceKnock). Opens next (knocked q ++ knocks_of ts) total) (sym is) (by k next total o);
  bytes = λ c.
      subst (λ (q : Option TraceKnock). IsFront (bytes_on c (knocked q ++ knocks_of ts)) (bytes_on c (k ∷ ks))) (sym is) (brings k c);
}
  where
    front : (c : ℕ) → IsFront (bytes_on c (knocks_of ts)) (bytes_on c ks)
    front c = front_front (bytes_on c (knocks_of ts)) (bytes_on c js) (bytes_on c ks) (f.bytes c) (left.bytes c)

    goes : (next total : ℕ) → Opens next ks total → Opens next (knocks_of ts) total
    goes next total o = f.opens next total (left.opens next total o)

    by : (q : TraceKnock) (next total : ℕ) → Opens next (q ∷ ks) total → Opens next (q ∷ knocks_of ts) total
    by (Opened d) next total (n, others, asks, count, o) = (
      n,
      others,
      front_atmost n (bytes_opened d next (knocks_of ts)) (bytes_opened d next ks) (front_if (eqb d next) (bytes_on d (knocks_of ts)) (bytes_on d ks) (front d)) asks,
      count,
      goes (next_behind d next) others o,
    )
    by (Bytes d piece) next total o = goes next total o
    by (Gone d) next total o = goes next total o
    by Quiet next total o = goes next total o

    brings : (q : TraceKnock) (c : ℕ) → IsFront (bytes_on c (q ∷ knocks_of ts)) (bytes_on c (q ∷ ks))
    brings (Opened d) c = front c
    brings (Bytes d piece) c = own (eqb c d)
      where
        own : (b : Bool) → IsFront (cond b (piece ++ bytes_on c (knocks_of ts)) (bytes_on c (knocks_of ts))) (cond b (piece ++ bytes_on c ks) (bytes_on c ks))
        own true = front_more piece (bytes_on c (knocks_of ts)) (bytes_on c ks) (front c)
        own false = front c
    brings (Gone d) c = front c
    brings Quiet c = front c

none-first : (t : Coming) (ts : List Coming) (ks js : List TraceKnock) → t.knock ≡ None → IsLeft ks js → AreFirst ts js → AreFirst (t ∷ ts) ks
none-first t ts ks js is left f = record {
  count = omega (arith, f.count, left.count, ap knock_count is);
  opens = λ next total o.
      subst (λ (q : Option TraceKnock). Opens next (knocked q ++ knocks_of ts) total) (sym is) (f.opens next total (left.opens next total o));
  bytes = λ c.
      subst (λ (q : Option TraceKnock). IsFront (bytes_on c (knocked q ++ knocks_of ts)) (bytes_on c ks)) (sym is)
      (front_front (bytes_on c (knocks_of ts)) (bytes_on c js) (bytes_on c ks) (f.bytes c) (left.bytes c));
}

-- the knocks that were there before these
here-left : (q : Option TraceKnock) (left : Option (List TraceKnock)) (ks : List TraceKnock) → Some ks ≡ before (turning.knocks_of q) left
    → (rest : List TraceKnock) × (left ≡ Some rest) × (ks ≡ turning.knocks_of q ++ rest)
here-left q None ks e = absurd cc
here-left q (Some rest) ks e = (rest, refl, same_Some ks (turning.knocks_of q ++ rest) e)

pub are_first : (site : Site) (turn : ℕ) (s : State) (ts : List Coming) (ks : List TraceKnock) (new : Option (List TraceKnock))
    → AreKnocks site turn s ts (Some ks) new → AreFirst ts ks
are_first site turn s [] ks new a = record { count = omega arith; opens = λ next total o. tt; bytes = λ c. front_none (bytes_on c ks) }
are_first site turn s (t ∷ ts) ks new (left, is, closed, a) =
    let (rest, some, same) = here-left t.knock left ks is in
    let acts = turn_acts site turn t s in
    let (js, by, stays) = acts-leave acts rest in
    let goes : left_by acts left ≡ Some js = ap (left_by acts) some ∙ by in
    let behind : AreFirst ts js =
    are_first site (turn + 1) (after_turn site turn t s) ts js new
    (subst (λ (o : Option (List TraceKnock)). AreKnocks site (turn + 1) (after_turn site turn t s) ts o new) goes a) in
    choose t.knock refl rest js stays behind same
  where
    choose : (q : Option TraceKnock) → t.knock ≡ q → (rest js : List TraceKnock) → IsLeft rest js → AreFirst ts js → ks ≡ turning.knocks_of q ++ rest → AreFirst (t ∷ ts) ks
    choose None none rest js stays behind same = subst (AreFirst (t ∷ ts)) (sym same) (none-first t ts rest js none stays behind)
    choose (Some k) some rest js stays behind same = subst (AreFirst (t ∷ ts)) (sym same) (first-behind k t ts rest js some stays behind)
