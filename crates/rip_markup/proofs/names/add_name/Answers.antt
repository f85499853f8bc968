use Rattle.std.proofs.Common.{◌≡◌, ◌∙◌, ◌++◌, ◌∷◌, [], true, cond, not, ap, subst, Vec, Global, ℕ}
use Rattle.std.proofs.lemmas.Map.Text.{is_eq-slice_cmp}
use Rattle.std.specs.Ordering.{nat_cmp}
use Rattle.std.specs.Cmp.Lexicographic.{slice_cmp}
use Rattle.std.specs.BTreeSet.{contains}
use Rattle.rip_markup.specs.Words.{is_among}
use Rattle.rip_markup.proofs.Adding.{not-not, knows_more}
use Rattle.rip_markup.proofs.names.add_name.Goals as goal

pub returns : goal.returns
returns c = λ names knows.
    let key = c.in_ok-key.key in
    let same = c.in_ok-key.ensures.items in (
      ap not c.in_ok-added.ensures.added ∙ not-not _ ∙ knows key ∙ ap (is_among names) same,
      λ q.
          subst (λ k. contains (λ (x y : Vec ℕ Global). slice_cmp nat_cmp x.items y.items) c.insert.new.self q ≡ is_among (names ++ k ∷ []) q.items) same
          (knows_more names key.items q.items _ _ (c.in_ok-added.ensures.updates.0 q ∙ ap (λ b. cond b true (contains (λ (x y : Vec ℕ Global). slice_cmp nat_cmp x.items y.items) c.args.seen.now q)) (is_eq-slice_cmp key.items q.items)) (knows q)),
    )
