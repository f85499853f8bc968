use Rattle.std.proofs.Common.{rules, ◌≡◌, ◌∙◌, ap, refl, List, map, Bool, [], ◌∷◌, eqb, ◌||◌}
use Rattle.std.proofs.Common.{tests}
use Rattle.std.specs.Prelude.{codes}
use Rattle.std.specs.List.{list_any, slice_split}
use Rattle.std.specs.Str.{str_eq_ignore_ascii_case}
use Rattle.std.proofs.lemmas.Iterator.Splits.{YieldsList-from_slice_split}
use Rattle.std.proofs.lemmas.Iterator.Search.{any_from_yields_List}
use Rattle.httparse.specs.Grammar.{trim_ows}
use Rattle.rip_http.proofs.field.has_close.Goals as goal

any-map : {X Y : Type 0} (p : Y → Bool) (f : X → Y) (xs : List X) → list_any (λ x. p (f x)) xs ≡ list_any p (map f xs)
any-map p f [] = refl
any-map p f (x ∷ xs) = ap (λ t. p (f x) || t) (any-map p f xs)

pub returns : goal.returns
returns c =
    any_from_yields_List (λ e. str_eq_ignore_ascii_case (trim_ows e) (codes "close")) _ _ _ c.any.ensures.ran
    (YieldsList-from_slice_split _ (λ b. eqb b 44) c.args.value.now c.split.ensures.rest c.split.ensures.done c.split.ensures.closure (λ x b q k. search (rules, tests)))
    (λ x b q k. search (rules, tests))
    ∙ any-map (λ e. str_eq_ignore_ascii_case e (codes "close")) trim_ows (slice_split (λ b. eqb b 44) c.args.value.now)
