-- The scope of a function that is entered is the new one.
use Rattle.std.proofs.Common.{◌≡◌, ℕ, ◌+◌, Bool, true, false, if◌then◌else◌, List, length, Option, None, Some, option_and_then, option_map, nat_le, unwrap_or, sym, ap, ◌∙◌, refl}
use Rattle.std.proofs.lemmas.Option.{none-some}
use Rattle.rip_base.specs.declared.value.Value.{Value}
use Rattle.rip_heap.specs.Scopes.{new_scope}
use Rattle.rip_heap.specs.World.{World, cost_of_scope, paid}
use Rattle.rip_eval_language.specs.Reading.{Loaded, scoping}
use Rattle.rip_eval_language.specs.Rows.Functions.{body, cost_of_entering, function_entered, parameters, scope_filled, scope_made, with_arguments, with_functions, with_undefined}

-- what is made, if anything, has this number
abbrev pub IsNumbered : ℕ → Option (ℕ × World) → Type 0
IsNumbered n o = (made : ℕ × World) → o ≡ Some made → made.0 ≡ n

some_number : (n : ℕ) (x : World) → IsNumbered n (Some (n, x))
some_number n x = λ made h. ap (λ (o : Option (ℕ × World)). (unwrap_or o made).0) (sym h)

if_number : (b : Bool) (n : ℕ) (o : Option (ℕ × World)) → IsNumbered n o → IsNumbered n (if b then o else None)
if_number true n o is = is
if_number false n o is = λ made h. absurd (none-some made h)

charged_number : (b : Bool) (names outer : ℕ) (w x : World) → x.scopes ≡ w.scopes
    → IsNumbered (length w.scopes) (option_and_then (λ y. new_scope y (Some outer) names) (if b then Some x else None))
charged_number true names outer w x same = λ made h. if_number (nat_le (x.cells + cost_of_scope names) x.limit) (length x.scopes) _ (some_number (length x.scopes) _) made h ∙ ap (λ ss. length ss) same
charged_number false names outer w x same = λ made h. absurd (none-some made h)

map_number : (n : ℕ) (o : Option World) → IsNumbered n (option_map (λ x. (n, x)) o)
map_number n None = λ made h. absurd (none-some made h)
map_number n (Some x) = some_number n x

filled_number : (p : Loaded) (f : ℕ) (args : List Value) (n : ℕ) (o : Option (ℕ × World)) → IsNumbered n o → IsNumbered n (option_and_then (scope_filled p f args) o)
filled_number p f args n None is = λ made h. absurd (none-some made h)
filled_number p f args n (Some there) is = λ made h.
    let x = with_arguments p f there.0 args (parameters p f) (with_undefined there.0 (scoping p f).names there.1) in
    map_number there.0 (with_functions p there.0 (body p f) x) made h ∙ is there refl

pub entered_scope : (p : Loaded) (f scope : ℕ) (args : List Value) (w : World) (made : ℕ × World) → function_entered p f scope args w ≡ Some made → made.0 ≡ length w.scopes
entered_scope p f scope args w made h =
    let n : ℕ = length args in
    let charged = charged_number (nat_le (w.cells + n) w.limit) (scoping p f).names scope w (paid n w) refl in
    if_number (nat_le (w.cells + cost_of_entering p f n) w.limit) (length w.scopes) (option_and_then (scope_filled p f args) (scope_made p f scope n w))
    (filled_number p f args (length w.scopes) (scope_made p f scope n w) charged) made h
