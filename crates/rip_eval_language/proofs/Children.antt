-- The children of a node from a place on: the child there, and those behind it.
use Rattle.std.proofs.Common.{◌≡◌, ℕ, zero, suc, ◌+◌, ◌-◌, ◌^◌, ◌<◌, ◌≤◌, ◌⊎◌, inl, inr, List, [], ◌∷◌, drop, min, Option, None, Some, IfSome, refl, sym, ap, ◌∙◌, arith}
use Rattle.rip_tree.specs.Branches.{Branch, child_of, links_of, child_at as link_at}
use Rattle.std.proofs.lemmas.Bool.{cases_lt}
use Rattle.rip_tree.specs.Program.{ChildrenAreCounted}
use Rattle.rip_eval_language.specs.Reading.{Loaded, child_at, children_from, leading}

links_some : (cs : List (Option ℕ)) (place c : ℕ) → link_at cs place ≡ Some c → leading (drop place cs) ≡ c ∷ leading (drop (place + 1) cs)
links_some [] place c h = absurd (cc)
links_some (d ∷ cs) zero c h = rw h refl
links_some (d ∷ cs) (suc place) c h =
    let e : suc (place + 1) ≡ suc place + 1 = omega arith in
    links_some cs place c h ∙ ap (λ n. c ∷ leading (drop n (d ∷ cs))) e

links_none : (cs : List (Option ℕ)) (place : ℕ) → link_at cs place ≡ None → leading (drop place cs) ≡ []
links_none [] zero h = refl
links_none [] (suc place) h = refl
links_none (d ∷ cs) zero h = rw h refl
links_none (d ∷ cs) (suc place) h = links_none cs place h

branches_some : (bs : List Branch) (id place c : ℕ) → child_of bs id place ≡ Some c → leading (drop place (links_of bs id)) ≡ c ∷ leading (drop (place + 1) (links_of bs id))
branches_some [] id place c h = absurd (cc)
branches_some (b ∷ bs) zero place c h = links_some b.children place c h
branches_some (b ∷ bs) (suc id) place c h = branches_some bs id place c h

branches_none : (bs : List Branch) (id place : ℕ) → child_of bs id place ≡ None → leading (drop place (links_of bs id)) ≡ []
branches_none [] id zero h = refl
branches_none [] id (suc place) h = refl
branches_none (b ∷ bs) zero place h = links_none b.children place h
branches_none (b ∷ bs) (suc id) place h = branches_none bs id place h

pub children_some : (p : Loaded) (id place c : ℕ) → child_at p id place ≡ Some c → children_from p id place ≡ c ∷ children_from p id (place + 1)
children_some p id place c h = branches_some p.code.grove.branches id place c h

pub children_none : (p : Loaded) (id place : ℕ) → child_at p id place ≡ None → children_from p id place ≡ []
children_none p id place h = branches_none p.code.grove.branches id place h

-- a place that 32 bits do not count has no child, and nothing stands from there on
pub child_past : (p : Loaded) (id place : ℕ) → ChildrenAreCounted p.code → 2 ^ 32 ≤ place + 1 → child_at p id place ≡ None
child_past p id place counted past = none (child_at p id place) (counted id place)
  where
    none : (found : Option ℕ) → IfSome found (λ _. place + 1 < 2 ^ 32) → found ≡ None
    none None h = refl
    none (Some c) h = absurd (omega (arith, h, past))

pub children_past : (p : Loaded) (id place : ℕ) → ChildrenAreCounted p.code → 2 ^ 32 ≤ place + 1 → children_from p id place ≡ []
children_past p id place counted past = children_none p id place (child_past p id place counted past)

-- so the last place that they count stands for all places behind it
pub children_behind : (p : Loaded) (place next more : ℕ) → ChildrenAreCounted p.code → next ≡ min place (2 ^ 32 - 1)
    → (id : ℕ) → children_from p id (next + more) ≡ children_from p id (place + more)
children_behind p place next more counted is id = by (cases_lt place (2 ^ 32 - 1))
  where
    by : (place < 2 ^ 32 - 1) ⊎ (2 ^ 32 - 1 ≤ place) → children_from p id (next + more) ≡ children_from p id (place + more)
    by (inl below) = let same : next + more ≡ place + more = omega (arith, is, below) in ap (children_from p id) same
    by (inr above) =
        let last : 2 ^ 32 ≤ next + more + 1 = omega (arith, is, above) in
        let behind : 2 ^ 32 ≤ place + more + 1 = omega (arith, above) in
        children_past p id (next + more) counted last ∙ sym (children_past p id (place + more) counted behind)

pub child_behind : (p : Loaded) (place next : ℕ) → ChildrenAreCounted p.code → next ≡ min place (2 ^ 32 - 1)
    → (id : ℕ) → child_at p id next ≡ child_at p id place
child_behind p place next counted is id = by (cases_lt place (2 ^ 32 - 1))
  where
    by : (place < 2 ^ 32 - 1) ⊎ (2 ^ 32 - 1 ≤ place) → child_at p id next ≡ child_at p id place
    by (inl below) = let same : next ≡ place = omega (arith, is, below) in ap (child_at p id) same
    by (inr above) =
        let last : 2 ^ 32 ≤ next + 1 = omega (arith, is, above) in
        let behind : 2 ^ 32 ≤ place + 1 = omega (arith, above) in
        child_past p id next counted last ∙ sym (child_past p id place counted behind)
