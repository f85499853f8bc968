-- A name looked for among properties, one behind the other.
use Rattle.std.proofs.Common.{◌≡◌, ℕ, ◌+◌, ◌<◌, ◌≤◌, Bool, true, false, cond, ◌⊎◌, inl, inr, List, length, None, Some, sym, ap, ◌∙◌, arith, nat_lt, slice_get}
use Rattle.std.specs.Prelude.{slice_index_or}
use Rattle.std.specs.List.{position_or_len}
use Rattle.std.proofs.lemmas.Bool.{cases_lt}
use Rattle.std.proofs.lemmas.Bool.Decides.{nat_tests}
use Rattle.std.proofs.lemmas.List.Sums.{position_or_len_is}
use Rattle.std.proofs.lemmas.Option.{get_or_from_slice_get, same_Some, slice_get-get_or, slice_get_within}
use Rattle.rip_base.specs.declared.value.Span.{Span}
use Rattle.rip_base.specs.declared.value.Value.TheVariants.{Undefined}
use Rattle.rip_values.specs.Pool.{Texts}
use Rattle.rip_heap_region.specs.declared.pages.property.Property.{Property}
use Rattle.rip_heap_region.specs.Names.{place_of, same_text}

-- none of so many properties has the name
abbrev pub NoneBefore : Texts → Span → List Property → ℕ → Type 0
NoneBefore pool name properties n = (k : ℕ) (property : Property) → k < n → slice_get properties k ≡ Some property → same_text pool property.name name ≡ false

abbrev none : Property
none = record { name = record { start = 0; count = 0 }; value = Undefined }

abbrev test : Texts → Span → Property → Bool
test pool name property = same_text pool property.name name

first_at : (pool : Texts) (name : Span) (properties : List Property) (n : ℕ) → n ≤ length properties → NoneBefore pool name properties n
    → (n < length properties → same_text pool (slice_index_or properties n none).name name ≡ true) → position_or_len (test pool name) properties ≡ n
first_at pool name properties n le before here =
    position_or_len_is (test pool name) properties n none le (λ k lt. before k (slice_index_or properties k none) lt (slice_get-get_or properties k none (omega (arith, lt, le)))) here

-- the first that has it
pub found_there : (pool : Texts) (name : Span) (properties : List Property) (n : ℕ) (property : Property) → NoneBefore pool name properties n
    → slice_get properties n ≡ Some property → same_text pool property.name name ≡ true → place_of pool name properties ≡ Some n
found_there pool name properties n property before there here =
    let low : n < length properties = slice_get_within properties n property there in
    let first : position_or_len (test pool name) properties ≡ n = first_at pool name properties n (omega (arith, low)) before (λ lt. ap (λ (p : Property). same_text pool p.name name) (get_or_from_slice_get properties n property none there) ∙ here) in
    let below : nat_lt (position_or_len (test pool name) properties) (length properties) ≡ true = grind (arith, nat_tests) in
    ap (λ b. cond b (Some (position_or_len (test pool name) properties)) None) below ∙ ap (λ k. Some k) first

-- none has it
pub found_nowhere : (pool : Texts) (name : Span) (properties : List Property) (n : ℕ) → n ≡ length properties → NoneBefore pool name properties n → place_of pool name properties ≡ None
found_nowhere pool name properties n all before =
    let first : position_or_len (test pool name) properties ≡ n = first_at pool name properties n (omega (arith, all)) before (λ lt. absurd (omega (arith, lt, all))) in
    let past : nat_lt (position_or_len (test pool name) properties) (length properties) ≡ false = grind (arith, nat_tests) in
    ap (λ b. cond b (Some (position_or_len (test pool name) properties)) None) past

-- one more that does not have it
pub none_more : (pool : Texts) (name : Span) (properties : List Property) (n : ℕ) (property : Property) → NoneBefore pool name properties n
    → slice_get properties n ≡ Some property → same_text pool property.name name ≡ false → NoneBefore pool name properties (n + 1)
none_more pool name properties n property before there other k p lt is = by (cases_lt k n)
  where
    by : (k < n) ⊎ (n ≤ k) → same_text pool p.name name ≡ false
    by (inl low) = before k p low is
    by (inr high) =
        let e : k ≡ n = omega (arith, high, lt) in
        ap (λ (q : Property). same_text pool q.name name) (same_Some p property (sym is ∙ ap (λ j. slice_get properties j) e ∙ there)) ∙ other
