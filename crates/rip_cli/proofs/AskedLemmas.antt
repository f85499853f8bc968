-- How the names that are asked for join.
use Rattle.std.proofs.Common.{◌≡◌, ℕ, List, [], ◌++◌, Option, append-nil, sym, ap, ◌∙◌, append_assoc}
use Rattle.rip_outer.specs.Outside.{also}
use Rattle.rip_outer.proofs.Composing.{also-also}
use Rattle.std.specs.Prelude.{Result, Ok, Err, IsErr}
use Rattle.rip_cli.specs.Steps.{AskedFront, Asked}
use Rattle.rip_cli.specs.declared.input.ReadStop.{ReadStop}

-- after some names that were all asked for, a front of some more
pub asked_part : (xs ys zs all : List (List ℕ)) (old mid new : Option (List (List ℕ)))
    → mid ≡ also xs old → AskedFront ys mid new → all ≡ xs ++ (ys ++ zs) → AskedFront all old new
asked_part xs ys zs all old mid new whole h same = record {
  first = xs ++ h.first;
  others = h.others ++ zs;
  in_order = same ∙ ap (λ names. xs ++ (names ++ zs)) h.in_order ∙ ap (λ names. xs ++ names) (append_assoc h.first h.others zs) ∙ sym (append_assoc xs h.first (h.others ++ zs));
  asked = h.asked ∙ ap (also h.first) whole ∙ also-also xs h.first old;
}

-- all of them
pub asked_all : (xs : List (List ℕ)) (old new : Option (List (List ℕ))) → new ≡ also xs old → AskedFront xs old new
asked_all xs old new h = record { first = xs; others = []; in_order = sym (append-nil xs); asked = h }

-- reading that stopped
pub asked_err : {A : Type 0} (r : Result A ReadStop) (names : List (List ℕ)) (old new : Option (List (List ℕ)))
    → IsErr r → AskedFront names old new → Asked r names old new
asked_err (Ok x) names old new failed h = cc
asked_err (Err e) names old new failed h = h
