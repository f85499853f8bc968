-- States that are kept up to the last one that was set.
use Rattle.std.proofs.Common.{◌≡◌, ℕ, zero, suc, ◌+◌, ◌-◌, ◌<◌, ◌≤◌, List, [], ◌∷◌, ◌++◌, length, set, refl, sym, ap, ap₂, ◌∙◌, arith, append_assoc, length-set, length-append, get_or}
use Rattle.std.specs.Prelude.{replicate, slice_set, min, max}
use Rattle.std.proofs.lemmas.List.{length-replicate, replicate-append-replicate, replicate_more, set-append_left}
use Rattle.rip_forms.specs.declared.state.ControlState.{ControlState}
use Rattle.rip_forms.specs.States.{no_state}
use Rattle.rip_forms.specs.Kept.{AreReserved, filled, record_at}

blank-get : (k n : ℕ) → get_or (replicate k no_state) n no_state ≡ no_state
blank-get zero n = refl
blank-get (suc k) zero = refl
blank-get (suc k) (suc n) = blank-get k n

-- what was not kept reads as nothing set
behind-get : (xs : List ControlState) (k n : ℕ) → get_or (xs ++ replicate k no_state) n no_state ≡ get_or xs n no_state
behind-get [] k n = blank-get k n
behind-get (x ∷ xs) k zero = refl
behind-get (x ∷ xs) k (suc n) = behind-get xs k n

pub filled-get : (k : ℕ) (xs : List ControlState) (n : ℕ) → record_at xs n ≡ record_at (filled k xs) n
filled-get k xs n = sym (behind-get xs (k - length xs) n)

pub filled-length : (k : ℕ) (xs : List ControlState) → length (filled k xs) ≡ length xs + (k - length xs)
filled-length k xs = length-append xs (replicate (k - length xs) no_state) ∙ ap (λ j. length xs + j) (length-replicate (k - length xs) no_state)

-- what is filled twice is filled as far as the second time
filled-twice : (k j : ℕ) (xs : List ControlState) → length xs ≤ k → j ≤ k → filled k (filled j xs) ≡ filled k xs
filled-twice k j xs h g =
    append_assoc xs (replicate (j - length xs) no_state) (replicate (k - length (filled j xs)) no_state)
    ∙ ap (λ ys. xs ++ ys)
    (replicate-append-replicate (j - length xs) (k - length (filled j xs)) no_state
    ∙ ap (λ i. replicate i no_state) (let l = filled-length j xs in let s : j - length xs + (k - length (filled j xs)) ≡ k - length xs = omega (arith, l, h, g) in s))

-- a state that is set is set among all that have room
pub filled-set : (room n : ℕ) (xs ys : List ControlState) (s : ControlState) → length xs ≤ room → n < room → ys ≡ slice_set (filled (n + 1) xs) n s → filled room ys ≡ slice_set (filled room xs) n s
filled-set room n xs ys s h g e =
    let l : length (filled (n + 1) xs) ≡ length xs + (n + 1 - length xs) = filled-length (n + 1) xs in
    let below : n < length (filled (n + 1) xs) = omega (arith, l) in
    let same : length (slice_set (filled (n + 1) xs) n s) ≡ length (filled (n + 1) xs) = length-set (filled (n + 1) xs) n s in
    ap (filled room) e
    ∙ ap (λ k. slice_set (filled (n + 1) xs) n s ++ replicate (room - k) no_state) same
    ∙ sym (set-append_left (filled (n + 1) xs) (replicate (room - length (filled (n + 1) xs)) no_state) n s below)
    ∙ ap (λ zs. slice_set zs n s) (filled-twice room (n + 1) xs h (omega (arith, g)))

-- a record more
pub filled-more : (i : ℕ) (xs ys zs : List ControlState) → length xs ≤ i → ys ≡ filled i xs → zs ≡ ys ++ no_state ∷ [] → zs ≡ filled (i + 1) xs
filled-more i xs ys zs h e f =
    f ∙ ap (λ us. us ++ no_state ∷ []) e
    ∙ append_assoc xs (replicate (i - length xs) no_state) (no_state ∷ [])
    ∙ ap (λ us. xs ++ us) (replicate_more (i - length xs) no_state ∙ ap (λ k. replicate k no_state) (let s : i - length xs + 1 ≡ i + 1 - length xs = omega (arith, h) in s))

-- as far as a walk from the end of the records to another place goes
pub record Fills (i end : ℕ) (old now : List ControlState) : Type 0 where
  pub from : length old ≤ i
  pub upto : i ≤ max (length old) end
  pub items : now ≡ filled i old

append-nothing : (xs : List ControlState) → xs ≡ xs ++ []
append-nothing [] = refl
append-nothing (x ∷ xs) = ap (λ ys. x ∷ ys) (append-nothing xs)

pub fills-first : (i end : ℕ) (xs : List ControlState) → i ≡ length xs → Fills i end xs xs
fills-first i end xs e = record {
  from = omega (arith, e);
  upto = omega (arith, e);
  items =
      append-nothing xs
      ∙ ap (λ k. xs ++ replicate k no_state) (let z : 0 ≡ i - length xs = omega (arith, e) in z);
}

pub fills-more : (i end : ℕ) (xs ys zs : List ControlState) → Fills i end xs ys → i < end → zs ≡ ys ++ no_state ∷ [] → Fills (i + 1) end xs zs
fills-more i end xs ys zs f h e = record {
  from = omega (arith, f.from);
  upto = omega (arith, h);
  items = filled-more i xs ys zs f.from f.items e;
}

pub fills-length : (i end : ℕ) (xs ys : List ControlState) → Fills i end xs ys → length ys ≡ i
fills-length i end xs ys f = ap length f.items ∙ filled-length i xs ∙ (let s : length xs + (i - length xs) ≡ i = omega (arith, f.from) in s)

pub fills-all : (i end : ℕ) (xs ys : List ControlState) → Fills i end xs ys → end ≤ i → ys ≡ filled end xs
fills-all i end xs ys f h = f.items ∙ ap (λ k. xs ++ replicate k no_state) (let s : i - length xs ≡ end - length xs = omega (arith, f.from, f.upto, h) in s)

pub AreReserved-set : (room n capacity more : ℕ) (xs ys : List ControlState) (s : ControlState) → AreReserved room xs capacity → n < room → ys ≡ slice_set (filled (n + 1) xs) n s → more ≡ capacity → AreReserved room ys more
AreReserved-set room n capacity more xs ys s a g e m =
    let l = filled-length (n + 1) xs in
    let same : length ys ≡ length (filled (n + 1) xs) = ap length e ∙ length-set (filled (n + 1) xs) n s in
    record {
      within = omega (arith, a.within, l, same, g);
      reserved = omega (arith, a.reserved, m);
    }

pub filled-room : (room capacity : ℕ) (xs : List ControlState) → AreReserved room xs capacity → room ≡ length (filled room xs)
filled-room room capacity xs a = let l = filled-length room xs in omega (arith, l, a.within)
