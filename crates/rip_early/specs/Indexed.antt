-- What an index of names holds, and how it is kept.
use Rattle.std.specs.Prelude.{◌≡◌, ℕ, ◌^◌, ◌<◌, List, length, map, Option, None, Some}
use Rattle.std.specs.BTreeMap.{get_by}
use Rattle.std.specs.Cmp.Lexicographic.{slice_cmp}
use Rattle.std.specs.Ordering.{nat_cmp}
use Rattle.rip_early.specs.Names.{Name, place_in, with_name}
use Rattle.rip_early.specs.declared.names.Names.{Names}

-- the names that an index holds
abbrev pub names_of : Names → List Name
names_of n = map (λ r. r.now) n.list.items

-- each name is found at its place, and no other is found
pub record IsIndexed (n : Names) : Type 0 where
  pub found : (q : Name) → get_by (λ k. slice_cmp nat_cmp q k.now) n.places ≡ place_in (names_of n) q
  pub counted : length n.list.items < 2 ^ 32

-- the names with one more, if there is one and it is none of them
abbrev pub with_any : List Name → Option Name → List Name
with_any names None = names
with_any names (Some name) = with_name names name

-- what a child names, if it is there
abbrev pub name_of_child : (ℕ → Option Name) → Option ℕ → Option Name
name_of_child named None = None
name_of_child named (Some id) = named id
