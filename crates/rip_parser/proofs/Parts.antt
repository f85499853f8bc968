-- Parts that no node has taken yet.
use Rattle.std.proofs.Common.{◌≡◌, ℕ, zero, suc, ◌<◌, ◌≤◌, List, [], ◌∷◌, ◌++◌, take, drop, Option, Some, None, refl, ap, arith}
use Rattle.rip_tree.specs.Branches.{AreBetween}
use Rattle.rip_parser.specs.Building.{numbers}
use Rattle.rip_parser.specs.declared.part.Part.{Part}

-- the rest of a row
AreBetween-rest : (low high : ℕ) (c : Option ℕ) (cs : List (Option ℕ)) → AreBetween low high (c ∷ cs) → AreBetween low high cs
AreBetween-rest low high None cs between = between
AreBetween-rest low high (Some n) cs between = between.2

-- the last parts have numbers in the range of all
AreBetween-drop : (low high : ℕ) (n : ℕ) (ps : List Part) → AreBetween low high (numbers ps) → AreBetween low high (numbers (drop n ps))
AreBetween-drop low high zero ps between = between
AreBetween-drop low high (suc n) [] between = between
AreBetween-drop low high (suc n) (p ∷ ps) between = AreBetween-drop low high n ps (AreBetween-rest low high p.number (numbers ps) between)

AreBetween-cons : (low high : ℕ) (c : Option ℕ) (cs ds : List (Option ℕ)) → AreBetween low high (c ∷ cs) → AreBetween low high ds → AreBetween low high (c ∷ ds)
AreBetween-cons low high None cs ds between rest = rest
AreBetween-cons low high (Some n) cs ds between rest = (between.0, between.1, rest)

AreBetween-take : (low high : ℕ) (n : ℕ) (ps : List Part) → AreBetween low high (numbers ps) → AreBetween low high (numbers (take n ps))
AreBetween-take low high zero ps between = tt
AreBetween-take low high (suc n) [] between = between
AreBetween-take low high (suc n) (p ∷ ps) between =
    AreBetween-cons low high p.number (numbers ps) (numbers (take n ps)) between (AreBetween-take low high n ps (AreBetween-rest low high p.number (numbers ps) between))

-- so have those of a range
pub AreBetween-range : (low high : ℕ) (m n : ℕ) (ps : List Part) → AreBetween low high (numbers ps) → AreBetween low high (numbers (take m (drop n ps)))
AreBetween-range low high m n ps between = AreBetween-take low high m (drop n ps) (AreBetween-drop low high n ps between)

pub numbers-append : (ps qs : List Part) → numbers (ps ++ qs) ≡ numbers ps ++ numbers qs
numbers-append [] qs = refl
numbers-append (p ∷ ps) qs = ap (λ ns. p.number ∷ ns) (numbers-append ps qs)

pub AreBetween-behind : (low high : ℕ) (cs ds : List (Option ℕ)) → AreBetween low high cs → AreBetween low high ds → AreBetween low high (cs ++ ds)
AreBetween-behind low high [] ds between more = more
AreBetween-behind low high (None ∷ cs) ds between more = AreBetween-behind low high cs ds between more
AreBetween-behind low high (Some c ∷ cs) ds between more = (between.0, between.1, AreBetween-behind low high cs ds between.2 more)

pub AreBetween-front : (low high : ℕ) (cs ds : List (Option ℕ)) → AreBetween low high (cs ++ ds) → AreBetween low high cs
AreBetween-front low high [] ds between = tt
AreBetween-front low high (None ∷ cs) ds between = AreBetween-front low high cs ds between
AreBetween-front low high (Some c ∷ cs) ds between = (between.0, between.1, AreBetween-front low high cs ds between.2)

pub AreBetween-back : (low high : ℕ) (cs ds : List (Option ℕ)) → AreBetween low high (cs ++ ds) → AreBetween low high ds
AreBetween-back low high [] ds between = between
AreBetween-back low high (None ∷ cs) ds between = AreBetween-back low high cs ds between
AreBetween-back low high (Some c ∷ cs) ds between = AreBetween-back low high cs ds between.2

pub AreBetween-lower : (lower low high : ℕ) (cs : List (Option ℕ)) → lower ≤ low → AreBetween low high cs → AreBetween lower high cs
AreBetween-lower lower low high [] less between = tt
AreBetween-lower lower low high (None ∷ cs) less between = AreBetween-lower lower low high cs less between
AreBetween-lower lower low high (Some c ∷ cs) less between =
    let above : low < c = between.0 in (omega arith, between.1, AreBetween-lower lower low high cs less between.2)
