-- The calls that are served of items are one list.
use Rattle.std.proofs.Common.{◌≡◌, ℕ, ◌+◌, Bool, true, false, List, [], ◌∷◌, refl, sym, ap, ◌∙◌}
use Rattle.std.specs.Prelude.{is_some}
use Rattle.rip_host.specs.declared.browser.Browser.{Browser}
use Rattle.rip_history.specs.Sessions.{Deed, deed_of}
use Rattle.rip_replica.specs.Parts.{Doing}
use Rattle.rip_law_replica.specs.Prefix.{Placed, Reached, after, closes_fine, played}
use Rattle.rip_session.specs.Tasks.{Task}
use Rattle.rip_law_served.specs.Served.{call_of}
use Rattle.rip_headline.specs.PrefixHistories.{CallsAreOne, Serves, through, goes_on, is_served, ends_at, lacks_at, is_later, comes, part_by, spent_by, wants_at}

-- an item is fine, has come, reports a call and wants memory, or not: what is told of it and of those behind it
told_by : Bool → Bool → Bool → Bool → Deed → List Deed → List Deed
told_by false come call want x rest = []
told_by true false call want x rest = []
told_by true true false want x rest = rest
told_by true true true false x rest = x ∷ rest
told_by true true true true x rest = []

is_passed : (fine come call want : Bool) (x : Deed) (rest : List Deed) → fine ≡ true → come ≡ true → call ≡ false → told_by fine come call want x rest ≡ rest
unfolding told_by
is_passed fine come call want x rest e f g =
    ap (λ (b : Bool). told_by b come call want x rest) e ∙ ap (λ (b : Bool). told_by true b call want x rest) f ∙ ap (λ (b : Bool). told_by true true b want x rest) g

is_told : (fine come call want : Bool) (x : Deed) (rest : List Deed) → fine ≡ true → come ≡ true → call ≡ true → want ≡ false → told_by fine come call want x rest ≡ x ∷ rest
unfolding told_by
is_told fine come call want x rest e f g h =
    ap (λ (b : Bool). told_by b come call want x rest) e ∙ ap (λ (b : Bool). told_by true b call want x rest) f ∙ ap (λ (b : Bool). told_by true true b want x rest) g
    ∙ ap (λ (b : Bool). told_by true true true b x rest) h

is_broken : (fine come call want : Bool) (x : Deed) (rest : List Deed) → fine ≡ false → told_by fine come call want x rest ≡ []
unfolding told_by
is_broken fine come call want x rest e = ap (λ (b : Bool). told_by b come call want x rest) e

is_late : (fine come call want : Bool) (x : Deed) (rest : List Deed) → come ≡ false → told_by fine come call want x rest ≡ []
unfolding told_by
is_late true come call want x rest e = ap (λ (b : Bool). told_by true b call want x rest) e
is_late false come call want x rest e = refl

is_wanting : (fine come call want : Bool) (x : Deed) (rest : List Deed) → call ≡ true → want ≡ true → told_by fine come call want x rest ≡ []
unfolding told_by
is_wanting true true call want x rest e f = ap (λ (b : Bool). told_by true true b want x rest) e ∙ ap (λ (b : Bool). told_by true true true b x rest) f
is_wanting true false call want x rest e f = refl
is_wanting false come call want x rest e f = refl

calls_by : Doing Task Browser → ℕ → List ℕ → List Deed → Reached Browser → ℕ → List (Placed Task) → List Deed
calls_by d last turns did at spent [] = []
calls_by d last turns did at spent (p ∷ ps) =
    told_by (closes_fine (played d at p)) (comes last turns (part_by d at spent p)) (is_some (call_of p.item)) (wants_at p.batch p.number did)
    (deed_of turns (part_by d at spent p)) (calls_by d last turns did (after d at p) (spent_by d at spent p) ps)

are_by : (d : Doing Task Browser) (last : ℕ) (turns : List ℕ) (did : List Deed) (at : Reached Browser) (spent k : ℕ) (ps : List (Placed Task)) (calls : List Deed)
    → Serves d last turns did at spent k ps calls → calls_by d last turns did at spent ps ≡ calls
unfolding calls_by
are_by d last turns did at spent k items calls (through _ _ _) = refl
are_by d last turns did at spent k items calls (goes_on _ _ _ p ps _ fine come none rest) =
    is_passed _ _ _ _ _ _ fine come (ap is_some none) ∙ are_by d last turns did (after d at p) (spent_by d at spent p) k ps calls rest
are_by d last turns did at spent k items calls (is_served _ _ _ p ps more c fine come call number made want rest) =
    is_told _ _ _ _ _ _ fine come (ap is_some call) want
    ∙ ap (λ (ds : List Deed). deed_of turns (part_by d at spent p) ∷ ds) (are_by d last turns did (after d at p) (spent_by d at spent p) (k + 1) ps more rest)
are_by d last turns did at spent k items calls (ends_at _ _ _ p ps broken may) = is_broken _ _ _ _ _ _ broken
are_by d last turns did at spent k items calls (lacks_at _ _ _ p ps call want) = is_wanting _ _ _ _ _ _ call want
are_by d last turns did at spent k items calls (is_later _ _ _ p ps late) = is_late _ _ _ _ _ _ late

pub calls_are_one : CallsAreOne
calls_are_one d last turns did at spent k ps calls others one other =
    sym (are_by d last turns did at spent k ps calls one) ∙ are_by d last turns did at spent k ps others other
