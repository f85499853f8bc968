-- The places of properties, put in the order of their names.
use Rattle.std.proofs.Common.{◌≡◌, ℕ, ◌+◌, ◌<◌, ◌≤◌, Ordering, Less, Equal, Greater, List, [], ◌∷◌, ◌++◌, length, take, drop, get_or, refl, sym, ap, subst, ◌∙◌, arith, append_assoc, append-nil, length-append}
use Rattle.std.proofs.Math.Seq.{take-append_seam}
use Rattle.std.specs.Ordering.{nat_cmp, match_ordering}
use Rattle.std.specs.Cmp.Lexicographic.{slice_cmp}
use Rattle.std.proofs.lemmas.List.{take-append-drop, take-append-le, drop-append-le, drop_more, drop_all, take_more, length-take, length-drop}
use Rattle.std.proofs.lemmas.List.Elements.{All-head, All-tail, All-append, All-cons, All-nil}
use Rattle.std.proofs.lemmas.Map.Lookups.{exact_bytes}
use Rattle.serde_json.specs.Data.{Data, Members, no_members, member, put}
use Rattle.rip_base.specs.declared.value.Value.{Value}
use Rattle.rip_base.specs.declared.value.Value.TheVariants.{Undefined}
use Rattle.rip_values.specs.Pool.{Texts}
use Rattle.rip_heap_region.specs.declared.pages.property.Property.{Property}
use Rattle.serde_json.specs.Data.{null}
use Rattle.rip_data.specs.Datum.{AreInOrder}
use Rattle.rip_convert.specs.Written.{AreFrom, fields_data, field_at, name_at, members_before, members_at, IsOrdered}
use Rattle.rip_convert.proofs.ToldData.{ordered-put}

-- LISTS

cancel_right : (xs ys zs : List ℕ) → length xs ≡ length ys → xs ++ zs ≡ ys ++ zs → xs ≡ ys
cancel_right [] [] zs l e = refl
cancel_right [] (y ∷ ys) zs l e = absurd (omega (arith, l))
cancel_right (x ∷ xs) [] zs l e = absurd (omega (arith, l))
cancel_right (x ∷ xs) (y ∷ ys) zs l e =
    let head : x ≡ y = cc in
    let tail : xs ++ zs ≡ ys ++ zs = cc in
    let same : xs ≡ ys = cancel_right xs ys zs (omega (arith, l)) tail in cc

-- what is put behind the first i, of which the first `base` stay
cut : (xs front ys : List ℕ) (base i : ℕ) → base ≤ length xs → take i xs ≡ take base xs ++ front → drop base (take i xs ++ ys) ≡ front ++ ys
cut xs front ys base i h e =
    let whole : take i xs ++ ys ≡ take base xs ++ (front ++ ys) = ap (λ l. l ++ ys) e ∙ append_assoc (take base xs) front ys in
    let count : length (take base xs) ≡ base = length-take-le base xs h in
    ap (drop base) whole ∙ drop-append-le base (take base xs) (front ++ ys) (omega (arith, count)) ∙ ap (λ l. l ++ (front ++ ys)) (drop_all base (take base xs) (omega (arith, count)))
  where
    length-take-le : (n : ℕ) (xs : List ℕ) → n ≤ length xs → length (take n xs) ≡ n
    length-take-le n xs h = omega (arith, h, length-take n xs)

kept : (xs ys : List ℕ) (base i : ℕ) → base ≤ i → i ≤ length xs → take base (take i xs ++ ys) ≡ take base xs
kept xs ys base i h k =
    let count : length (take i xs) ≡ i = omega (arith, k, length-take i xs) in
    take-append-le base (take i xs) ys (omega (arith, h, count))
    ∙ sym (ap (take base) (sym (take-append-drop i xs)) ∙ take-append-le base (take i xs) (drop i xs) (omega (arith, h, count)))

-- all from `base` on are those before i and those from there on
parted : (xs front : List ℕ) (base i : ℕ) → base ≤ length xs → take i xs ≡ take base xs ++ front → drop base xs ≡ front ++ drop i xs
parted xs front base i h e = ap (drop base) (sym (take-append-drop i xs)) ∙ cut xs front (drop i xs) base i h e

left-from : (low high : ℕ) (xs ys : List ℕ) → AreFrom low high (xs ++ ys) → AreFrom low high xs
left-from low high [] ys h = All-nil (λ i. (low ≤ i) × (i < high))
left-from low high (x ∷ xs) ys h = All-cons (λ i. (low ≤ i) × (i < high)) x xs (All-head (λ i. (low ≤ i) × (i < high)) x (xs ++ ys) h) (left-from low high xs ys (All-tail (λ i. (low ≤ i) × (i < high)) x (xs ++ ys) h))

right-from : (low high : ℕ) (xs ys : List ℕ) → AreFrom low high (xs ++ ys) → AreFrom low high ys
right-from low high [] ys h = h
right-from low high (x ∷ xs) ys h = right-from low high xs ys (All-tail (λ i. (low ≤ i) × (i < high)) x (xs ++ ys) h)

-- ONE PLACE

before-append : (pool : Texts) (tell : Value → Data) (ps : List Property) (xs ys : List ℕ) (others : Members) → members_before pool tell ps (xs ++ ys) others ≡ members_before pool tell ps xs (members_before pool tell ps ys others)
before-append pool tell ps [] ys others = refl
before-append pool tell ps (x ∷ xs) ys others = ap (member (name_at pool ps x) (tell (field_at ps x).value)) (before-append pool tell ps xs ys others)

-- those before i, of the places from `base` on, have lesser names than this one
pub record IsSearched (pool : Texts) (ps : List Property) (xs : List ℕ) (base place i : ℕ) : Type 0 where
  pub front : List ℕ
  pub taken : take i xs ≡ take base xs ++ front
  pub members : (tell : Value → Data) → put (name_at pool ps place) (tell (field_at ps place).value) (members_at pool tell ps (drop base xs))
      ≡ members_before pool tell ps front (put (name_at pool ps place) (tell (field_at ps place).value) (members_at pool tell ps (drop i xs)))

pub begins : (pool : Texts) (ps : List Property) (xs : List ℕ) (base place : ℕ) → IsSearched pool ps xs base place base
begins pool ps xs base place = record { front = []; taken = sym (append-nil (take base xs)); members = λ tell. refl }

module _ (pool : Texts) (ps : List Property) (xs : List ℕ) (base place i : ℕ) (h : i < length xs) where
  here : (tell : Value → Data) → members_at pool tell ps (drop i xs) ≡ member (name_at pool ps (get_or xs i 0)) (tell (field_at ps (get_or xs i 0)).value) (members_at pool tell ps (drop (i + 1) xs))
  here tell = ap (members_at pool tell ps) (drop_more xs i 0 h)

  against : (tell : Value → Data) (o : Ordering) → slice_cmp nat_cmp (name_at pool ps place) (name_at pool ps (get_or xs i 0)) ≡ o
      → put (name_at pool ps place) (tell (field_at ps place).value) (members_at pool tell ps (drop i xs))
      ≡ match_ordering o (member (name_at pool ps place) (tell (field_at ps place).value) (members_at pool tell ps (drop i xs)))
      (member (name_at pool ps (get_or xs i 0)) (tell (field_at ps place).value) (members_at pool tell ps (drop (i + 1) xs)))
      (member (name_at pool ps (get_or xs i 0)) (tell (field_at ps (get_or xs i 0)).value) (put (name_at pool ps place) (tell (field_at ps place).value) (members_at pool tell ps (drop (i + 1) xs))))
  against tell o e =
      let k = name_at pool ps place in
      let d = tell (field_at ps place).value in
      let l = name_at pool ps (get_or xs i 0) in
      let f = tell (field_at ps (get_or xs i 0)).value in
      let rest = members_at pool tell ps (drop (i + 1) xs) in
      ap (put k d) (here tell) ∙ ap (λ o. match_ordering o (member k d (member l f rest)) (member l d rest) (member l f (put k d rest))) e
      ∙ ap (λ ms. match_ordering o (member k d ms) (member l d rest) (member l f (put k d rest))) (sym (here tell))

  pub goes-on : IsSearched pool ps xs base place i → Greater ≡ slice_cmp nat_cmp (name_at pool ps place) (name_at pool ps (get_or xs i 0)) → IsSearched pool ps xs base place (i + 1)
  goes-on s e = record {
    front = s.front ++ get_or xs i 0 ∷ [];
    taken = take_more xs i 0 h ∙ ap (λ l. l ++ get_or xs i 0 ∷ []) s.taken ∙ append_assoc (take base xs) s.front (get_or xs i 0 ∷ []);
    members = λ tell. s.members tell ∙ ap (members_before pool tell ps s.front) (against tell Greater (sym e))
        ∙ sym (before-append pool tell ps s.front (get_or xs i 0 ∷ []) (put (name_at pool ps place) (tell (field_at ps place).value) (members_at pool tell ps (drop (i + 1) xs))));
  }

-- what holds of the places with this one among them
pub record IsPut (pool : Texts) (ps : List Property) (xs : List ℕ) (base place : ℕ) (new : List ℕ) : Type 0 where
  pub first : take base new ≡ take base xs
  pub members : (tell : Value → Data) → members_at pool tell ps (drop base new) ≡ put (name_at pool ps place) (tell (field_at ps place).value) (members_at pool tell ps (drop base xs))
  pub from : (low high : ℕ) → low ≤ place → place < high → AreFrom low high (drop base xs) → AreFrom low high (drop base new)
  pub count : length new ≤ length xs + 1
  pub kept : base ≤ length new

-- what is put between the places before i and others, which are some of those from i on
between : (xs front ys : List ℕ) (base place i low high : ℕ) → base ≤ length xs → take i xs ≡ take base xs ++ front → low ≤ place → place < high → AreFrom low high (drop base xs) → (AreFrom low high (drop i xs) → AreFrom low high ys)
    → AreFrom low high (drop base (take i xs ++ place ∷ ys))
between xs front ys base place i low high h e p q all some =
    let parts : AreFrom low high (front ++ drop i xs) = subst (AreFrom low high) (parted xs front base i h e) all in
    let here : AreFrom low high (front ++ place ∷ ys) =
    All-append (λ i. (low ≤ i) × (i < high)) front (place ∷ ys) (left-from low high front (drop i xs) parts) (All-cons (λ i. (low ≤ i) × (i < high)) place ys (p, q) (some (right-from low high front (drop i xs) parts))) in
    subst (AreFrom low high) (sym (cut xs front (place ∷ ys) base i h e)) here

members-put : (pool : Texts) (tell : Value → Data) (ps : List Property) (xs front ys : List ℕ) (base place i : ℕ) → base ≤ length xs → take i xs ≡ take base xs ++ front
    → members_at pool tell ps (drop base (take i xs ++ place ∷ ys)) ≡ members_before pool tell ps front (member (name_at pool ps place) (tell (field_at ps place).value) (members_at pool tell ps ys))
members-put pool tell ps xs front ys base place i h e =
    ap (members_at pool tell ps) (cut xs front (place ∷ ys) base i h e) ∙ before-append pool tell ps front (place ∷ ys) no_members

counted : (xs ys : List ℕ) (place i : ℕ) → length (take i xs ++ place ∷ ys) ≡ length (take i xs) + (1 + length ys)
counted xs ys place i = omega (arith, length-append (take i xs) (place ∷ ys))

pub inserted : (pool : Texts) (ps : List Property) (xs : List ℕ) (base place i : ℕ) → base ≤ i → i < length xs → IsSearched pool ps xs base place i → Less ≡ slice_cmp nat_cmp (name_at pool ps place) (name_at pool ps (get_or xs i 0)) → IsPut pool ps xs base place (take i xs ++ place ∷ drop i xs)
inserted pool ps xs base place i hb h s e =
    let within : base ≤ length xs = omega (arith, hb, h) in
    record {
      first = kept xs (place ∷ drop i xs) base i hb (omega (arith, h));
      members = λ tell. members-put pool tell ps xs s.front (drop i xs) base place i within s.taken
          ∙ sym (s.members tell ∙ ap (members_before pool tell ps s.front) (against pool ps xs base place i h tell Less (sym e)));
      from = λ low high p q all. between xs s.front (drop i xs) base place i low high within s.taken p q all (λ some. some);
      count = omega (arith, counted xs (drop i xs) place i, length-take i xs, length-drop i xs, h);
      kept = omega (arith, counted xs (drop i xs) place i, length-take i xs, length-drop i xs, h, hb);
    }

pub replaced : (pool : Texts) (ps : List Property) (xs : List ℕ) (base place i : ℕ) → base ≤ i → i < length xs → IsSearched pool ps xs base place i → Equal ≡ slice_cmp nat_cmp (name_at pool ps place) (name_at pool ps (get_or xs i 0)) → IsPut pool ps xs base place (take i xs ++ place ∷ drop (i + 1) xs)
replaced pool ps xs base place i hb h s e =
    let within : base ≤ length xs = omega (arith, hb, h) in
    record {
      first = kept xs (place ∷ drop (i + 1) xs) base i hb (omega (arith, h));
      members = λ tell. members-put pool tell ps xs s.front (drop (i + 1) xs) base place i within s.taken
          ∙ sym (s.members tell ∙ ap (members_before pool tell ps s.front) (against pool ps xs base place i h tell Equal (sym e)
          ∙ ap (λ k. member k (tell (field_at ps place).value) (members_at pool tell ps (drop (i + 1) xs))) (sym (exact_bytes (name_at pool ps place) (name_at pool ps (get_or xs i 0)) (sym e)))));
      from = λ low high p q all. between xs s.front (drop (i + 1) xs) base place i low high within s.taken p q all
          (λ some. All-tail (λ i. (low ≤ i) × (i < high)) (get_or xs i 0) (drop (i + 1) xs) (subst (AreFrom low high) (drop_more xs i 0 h) some));
      count = omega (arith, counted xs (drop (i + 1) xs) place i, length-take i xs, length-drop (i + 1) xs, h);
      kept = omega (arith, counted xs (drop (i + 1) xs) place i, length-take i xs, length-drop (i + 1) xs, h, hb);
    }

pub appended : (pool : Texts) (ps : List Property) (xs : List ℕ) (base place i : ℕ) → base ≤ i → i ≡ length xs → IsSearched pool ps xs base place i → IsPut pool ps xs base place (take i xs ++ place ∷ drop i xs)
appended pool ps xs base place i hb h s =
    let within : base ≤ length xs = omega (arith, hb, h) in
    let none : drop i xs ≡ [] = drop_all i xs (omega (arith, h)) in
    record {
      first = kept xs (place ∷ drop i xs) base i hb (omega (arith, h));
      members = λ tell. members-put pool tell ps xs s.front (drop i xs) base place i within s.taken
          ∙ ap (λ ys. members_before pool tell ps s.front (member (name_at pool ps place) (tell (field_at ps place).value) (members_at pool tell ps ys))) none
          ∙ sym (s.members tell ∙ ap (λ ys. members_before pool tell ps s.front (put (name_at pool ps place) (tell (field_at ps place).value) (members_at pool tell ps ys))) none);
      from = λ low high p q all. between xs s.front (drop i xs) base place i low high within s.taken p q all (λ some. some);
      count = omega (arith, counted xs (drop i xs) place i, length-take i xs, length-drop i xs, h);
      kept = omega (arith, counted xs (drop i xs) place i, length-take i xs, length-drop i xs, h, hb);
    }

-- ALL PLACES

-- the places that are filled with those of the properties from `begin` on and before this one
pub record IsFilled (pool : Texts) (ps : List Property) (begin : ℕ) (old places : List ℕ) (place : ℕ) : Type 0 where
  pub first : take (length old) places ≡ old
  pub members : (tell : Value → Data) → fields_data tell pool (members_at pool tell ps (drop (length old) places)) (drop place ps) ≡ fields_data tell pool no_members (drop begin ps)
  pub from : AreFrom begin (length ps) (drop (length old) places)
  pub count : length places + begin ≤ length old + place
  pub kept : length old ≤ length places
  pub ordered : IsOrdered pool ps (drop (length old) places)

pub filled-none : (pool : Texts) (ps : List Property) (first : ℕ) (old : List ℕ) → IsFilled pool ps first old old first
filled-none pool ps first old =
    let none : drop (length old) old ≡ [] = drop_all (length old) old (omega arith) in
    record {
      first = ap (take (length old)) (sym (append-nil old)) ∙ take-append_seam old [];
      members = λ tell. ap (λ ys. fields_data tell pool (members_at pool tell ps ys) (drop first ps)) none;
      from = subst (AreFrom first (length ps)) (sym none) (All-nil (λ i. (first ≤ i) × (i < length ps)));
      count = omega arith;
      kept = omega arith;
      ordered = subst (IsOrdered pool ps) (sym none) tt;
    }

pub filled-more : (pool : Texts) (ps : List Property) (first : ℕ) (old places new : List ℕ) (place : ℕ) → first ≤ place → place < length ps → IsFilled pool ps first old places place → IsPut pool ps places (length old) place new → IsFilled pool ps first old new (place + 1)
filled-more pool ps first old places new place low there f p = record {
  first = p.first ∙ f.first;
  members = λ tell.
      let before = members_at pool tell ps (drop (length old) places) in
      let step : fields_data tell pool before (drop place ps) ≡ fields_data tell pool (put (name_at pool ps place) (tell (field_at ps place).value) before) (drop (place + 1) ps) =
      ap (fields_data tell pool before) (drop_more ps place (record { name = record { start = 0; count = 0 }; value = Undefined }) there) in
      ap (λ ms. fields_data tell pool ms (drop (place + 1) ps)) (p.members tell) ∙ sym step ∙ f.members tell;
  from = p.from first (length ps) low there f.from;
  count = omega (arith, p.count, f.count);
  kept = p.kept;
  ordered = subst AreInOrder (sym (p.members (λ v. null))) (ordered-put (name_at pool ps place) null (members_at pool (λ v. null) ps (drop (length old) places)) f.ordered);
}

-- no property is left
pub filled-all : (pool : Texts) (old_ps own : List Property) (old places : List ℕ) (place : ℕ) → length (old_ps ++ own) ≤ place → IsFilled pool (old_ps ++ own) (length old_ps) old places place → (tell : Value → Data)
    → members_at pool tell (old_ps ++ own) (drop (length old) places) ≡ fields_data tell pool no_members own
filled-all pool old_ps own old places place h f tell =
    let whole = old_ps ++ own in
    let last : drop (length old_ps) whole ≡ own = drop-append-le (length old_ps) old_ps own (omega arith) ∙ ap (λ l. l ++ own) (drop_all (length old_ps) old_ps (omega arith)) in
    sym (ap (fields_data tell pool (members_at pool tell whole (drop (length old) places))) (drop_all place whole h)) ∙ f.members tell ∙ ap (fields_data tell pool no_members) last
