-- Where an identifier stands, and what a table keeps when a session ends.
use Rattle.std.proofs.Common.{◌≡◌, ◌+◌, ◌-◌, ◌≤◌, ℕ, zero, suc, Bool, true, false, not, cond, eqb, nat_lt, List, [], ◌∷◌, length, position, slice_get, slice_set, count_by, Option, Some, None, IsSome, option_and_then, unwrap_or, refl, sym, ◌∙◌, subst, arith}
use Rattle.std.specs.List.{position_or_len}
use Rattle.std.specs.Vec.{with_item}
use Rattle.std.proofs.lemmas.Bool.{eqb-false}
use Rattle.std.proofs.lemmas.List.Sums.{sum_by-cons}
use Rattle.std.proofs.Math.ListN.{length-set}
use Rattle.rip_table.specs.declared.table.Table.{Table}
use Rattle.rip_table.specs.Table.{IsTable, at_ordinal, is_live_at, live_value, ended, place_of, with_value}

-- the place that was found is that of the first
pub position_is : {X : Type 0} (p : X → Bool) (xs : List X) (place : ℕ) → Some place ≡ position p xs → position_or_len p xs ≡ place
position_is p xs place found = by (nat_lt (position_or_len p xs) (length xs)) (position_or_len p xs) found
  where
    by : (b : Bool) (n : ℕ) → Some place ≡ cond b (Some n) None → n ≡ place
    by true n e = cc
    by false n e = absurd (cc)

-- a session whose value is told is live
pub live_here : {X : Type 0} (b : Bool) (o : Option X) → IsSome (cond b o None) → b ≡ true
live_here true o some = refl
live_here false o some = absurd (cc)

-- what stands at an ordinal stands at the place before it
some-past : {X : Type 0} (b : Bool) (o : Option X) → IsSome (cond b None o) → (b ≡ false) × IsSome o
some-past true o some = absurd (cc)
some-past false o some = (refl, some)

pub some_ordinal : {X : Type 0} (f : ℕ → Option X) (n : ℕ) → IsSome (at_ordinal f n) → (1 ≤ n) × IsSome (f (n - 1))
some_ordinal f n some =
    let past = some-past (eqb n 0) (f (n - 1)) some in
    let ne : n ≡ 0 → ⊥ = eqb-false n 0 past.0 in
    (omega (arith, ne), past.1)

-- what a session counts among the live ones
abbrev counted : Bool → ℕ
counted has_ended = cond (not has_ended) 1 0

-- one that ends counts no more
pub count-ended : (xs : List Bool) (place : ℕ) → not (unwrap_or (slice_get xs place) true) ≡ true → count_by not (slice_set xs place true) + 1 ≡ count_by not xs
count-ended [] place live = absurd (cc)
count-ended (true ∷ xs) zero live = absurd (cc)
count-ended (false ∷ xs) zero live = omega (arith, sum_by-cons counted true xs, sum_by-cons counted false xs)
count-ended (x ∷ xs) (suc place) live =
    let rest = count-ended xs place live in
    omega (arith, sum_by-cons counted x xs, sum_by-cons counted x (slice_set xs place true), rest)

module _ {T : Type 0} where
  -- the session with an identifier is live where its value is told
  pub live_at_place : (t : Table T) (id place : ℕ) → Some place ≡ place_of t id → IsSome (option_and_then (live_value t) (place_of t id)) → is_live_at t place ≡ true
  live_at_place t id place found live =
      live_here (is_live_at t place) (slice_get t.values.items place) (subst (λ o. IsSome (option_and_then (live_value t) o)) (sym found) live)

  pub some_live : (t : Table T) (place : ℕ) → IsTable t → is_live_at t place ≡ true → 1 ≤ t.live
  some_live t place table live = omega (arith, table.live, count-ended (ended t) place live)

  pub ended_table : (t : Table T) (place : ℕ) → IsTable t → is_live_at t place ≡ true → IsTable (record t { ended = with_item t.ended place true; live = t.live - 1 })
  ended_table t place table live =
      let fewer = count-ended (ended t) place live in
      let counted = table.live in
      let few = table.few_live in
      record {
        values_each = table.values_each;
        ended_each = length-set t.ended.items place true ∙ table.ended_each;
        distinct = table.distinct;
        live = omega arith;
        few_live = omega arith;
        few = table.few;
      }

  pub lent_table : (t : Table T) (place : ℕ) (v : T) → IsTable t → IsTable (with_value t place v)
  lent_table t place v table = record {
    values_each = length-set t.values.items place v ∙ table.values_each;
    ended_each = table.ended_each;
    distinct = table.distinct;
    live = table.live;
    few_live = table.few_live;
    few = table.few;
  }
