-- How the trees of a page's scripts are gathered.
use Rattle.std.proofs.Common.{◌≡◌, ◌+◌, ◌++◌, ◌∷◌, ℕ, suc, List, [], length, arith, subst}
use Rattle.rip_base.specs.Page.{Contents as Page}
use Rattle.rip_tree.specs.Branches.{Plant}
use Rattle.rip_app.specs.App.{HasTreeAt, HaveTreesFrom}

-- one more script has its tree
pub trees_push : (page : Page) (number : ℕ) (trees : List Plant) (tree : Plant) → HaveTreesFrom page number trees → HasTreeAt page (number + length trees) tree → HaveTreesFrom page number (trees ++ tree ∷ [])
trees_push page number [] tree h t = let e : number + 0 ≡ number = omega arith in (subst (λ n. HasTreeAt page n tree) e t, tt)
trees_push page number (x ∷ xs) tree h t =
    let e : number + suc (length xs) ≡ suc number + length xs = omega arith in
    (h.0, trees_push page (suc number) xs tree h.1 (subst (λ n. HasTreeAt page n tree) e t))
