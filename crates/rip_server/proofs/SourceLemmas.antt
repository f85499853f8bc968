-- What is told one after another.
use Rattle.std.proofs.Common.{◌≡◌, ℕ, ◌+◌, List, [], ◌∷◌, ◌++◌, length, Option, sym, ap, subst, ◌∙◌, arith, zero-add}
use Rattle.std.specs.Prelude.{IfSome}
use Rattle.std.proofs.lemmas.List.{length-append}
use Rattle.rip_outer.specs.Outside.{also}
use Rattle.rip_outer.proofs.Composing.{also-nil, also-also}
use Rattle.rip_server.specs.Turning.{Source, Come, Gives}

pub gives_none : (s : Source) → Gives [] s s
gives_none s = record { told = also-nil s.told; first = tt; others = λ j. ap s.coming (sym (zero-add j)) }

pub gives_one : (x : ℕ) (old new : Source) → new.told ≡ also (x ∷ []) old.told → IfSome (old.coming 0) (λ (y : ℕ). x ≡ y)
    → ((j : ℕ) → new.coming j ≡ old.coming (j + 1)) → Gives (x ∷ []) old new
gives_one x old new told first others = record {
  told = told;
  first = (first, tt);
  others = λ j. others j ∙ ap old.coming (omega arith);
}

come_shift : (n from : ℕ) (xs : List ℕ) (old mid : ℕ → Option ℕ) → ((j : ℕ) → mid j ≡ old (n + j)) → Come from xs mid → Come (n + from) xs old
come_shift n from [] old mid e h = tt
come_shift n from (x ∷ xs) old mid e h = (
  subst (λ (o : Option ℕ). IfSome o (λ (y : ℕ). x ≡ y)) (e from) h.0,
  subst (λ (k : ℕ). Come k xs old) (omega arith) (come_shift n (from + 1) xs old mid e h.1),
)

come_append : (from : ℕ) (xs ys : List ℕ) (old : ℕ → Option ℕ) → Come from xs old → Come (from + length xs) ys old → Come from (xs ++ ys) old
come_append from [] ys old h r = subst (λ (k : ℕ). Come k ys old) (omega arith) r
come_append from (x ∷ xs) ys old h r =
    (h.0, come_append (from + 1) xs ys old h.1 (subst (λ (k : ℕ). Come k ys old) (omega arith) r))

pub gives_then : (xs ys : List ℕ) (a b c : Source) → Gives xs a b → Gives ys b c → Gives (xs ++ ys) a c
gives_then xs ys a b c x y = record {
  told = y.told ∙ ap (also ys) x.told ∙ also-also xs ys a.told;
  first = come_append 0 xs ys a.coming x.first
      (subst (λ (k : ℕ). Come k ys a.coming) (omega arith) (come_shift (length xs) 0 ys a.coming b.coming x.others y.first));
  others = λ j. y.others j ∙ x.others (length ys + j) ∙ ap a.coming (omega (arith, length-append xs ys));
}
