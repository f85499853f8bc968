-- What loops along links look for.
use Rattle.std.specs.Prelude.{ℕ, Bool, not, ◌==◌, ◌&&◌, Option, List}
use Rattle.rip_dom.specs.declared.dom.NodeRecord.{NodeRecord}
use Rattle.rip_dom.specs.Document.{record_at}
use Rattle.rip_dom.specs.Lists.{is_place}
use Rattle.rip_dom.specs.Tree.{is_element}

-- the record is that of an element other than these two
abbrev pub is_other_element : List NodeRecord → ℕ → Option ℕ → ℕ → Bool
is_other_element records c o n = is_element (record_at records n).kind && (not (n == c) && not (is_place o n))
