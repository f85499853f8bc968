-- One pass over the fields of a head.
use Rattle.std.proofs.Common.{◌≡◌, ◌==◌, ℕ, Bool, true, false, ◌||◌, List, [], ◌∷◌, length, Option, Some, None, Result, Ok, Err, refl, ◌∙◌, ◌<◌, arith}
use Rattle.std.specs.List.{list_any}
use Rattle.rip_http.specs.Fields.{has_host, length_in, body_length, lists_close}
use Rattle.rip_http.specs.Verdicts.{has_no_coding}
use Rattle.rip_http.specs.Said.{next_length}
use Rattle.rip_http.specs.declared.request.Refusal.{Refusal}
use Rattle.rip_http.specs.declared.request.Refusal.TheVariants.{Head}

-- ---- what is known behind the first values, and what it comes to behind the others

-- Host: whether one was seen, and whether all is well so far
abbrev pub host_with : Bool → Bool → List (List ℕ) → Bool
host_with seen good [] = good
host_with false good (v ∷ vs) = host_with true true vs
host_with true good (v ∷ vs) = host_with true false vs

abbrev pub length_with : Result (Option ℕ) Refusal → List (List ℕ) → Result (Option ℕ) Refusal
length_with length [] = length
length_with length (v ∷ vs) = length_with (next_length length v) vs

abbrev pub uncoded_with : Bool → List (List ℕ) → Bool
uncoded_with uncoded [] = uncoded
uncoded_with uncoded (v ∷ vs) = uncoded_with false vs

abbrev pub close_with : Bool → List (List ℕ) → Bool
close_with close [] = close
close_with close (v ∷ vs) = close_with (close || lists_close v) vs

hosts_stay : (vs : List (List ℕ)) → host_with true false vs ≡ false
hosts_stay [] = refl
hosts_stay (v ∷ vs) = hosts_stay vs

pub hosts_are : (minor : ℕ) (vs : List (List ℕ)) → host_with false (minor == 0) vs ≡ has_host minor vs
hosts_are minor [] = refl
hosts_are minor (v ∷ []) = refl
hosts_are minor (v ∷ w ∷ vs) = hosts_stay vs

length_stays : (vs : List (List ℕ)) → length_with (Err Head) vs ≡ Err Head
length_stays [] = refl
length_stays (v ∷ vs) = length_stays vs

two_lengths : (o : Option ℕ) (w : List ℕ) (vs : List (List ℕ)) → length_with (elim o [ None ↦ Err Head | Some n ↦ Ok (Some n) ]) (w ∷ vs) ≡ Err Head
two_lengths None w vs = length_stays vs
two_lengths (Some n) w vs = length_stays vs

pub lengths_are : (vs : List (List ℕ)) → length_with (Ok None) vs ≡ body_length vs
lengths_are [] = refl
lengths_are (v ∷ []) = refl
lengths_are (v ∷ w ∷ vs) = two_lengths (length_in v) w vs

codings_stay : (vs : List (List ℕ)) → uncoded_with false vs ≡ false
codings_stay [] = refl
codings_stay (v ∷ vs) = codings_stay vs

pub codings_are : (vs : List (List ℕ)) → uncoded_with true vs ≡ has_no_coding vs
codings_are [] = refl
codings_are (v ∷ vs) = codings_stay vs

or_nothing : (b : Bool) → b ≡ (b || false)
or_nothing true = refl
or_nothing false = refl

or_assoc : (a b c : Bool) → ((a || b) || c) ≡ (a || (b || c))
or_assoc true b c = refl
or_assoc false b c = refl

pub closings_are : (close : Bool) (vs : List (List ℕ)) → close_with close vs ≡ (close || list_any lists_close vs)
closings_are close [] = or_nothing close
closings_are close (v ∷ vs) = closings_are (close || lists_close v) vs ∙ or_assoc close (lists_close v) (list_any lists_close vs)

-- a list with no element
pub nothing : {X : Type 0} (xs : List X) → length xs < 1 → xs ≡ []
nothing [] short = refl
nothing (x ∷ xs) short = absurd (omega (arith, short))
