-- The call of an item, and copies of calls.
use Rattle.std.specs.Prelude.{◌≡◌, ℕ, List}
use Rattle.rip_data.specs.Datum.{Tree, trees_in}
use Rattle.rip_wire.specs.Items.{AreArgs}
use Rattle.rip_history.specs.Parts.{Fact, passes, serves, finishes}
use Rattle.rip_replica.specs.declared.works.Call.{Call}

-- a call has this number and name, and args of these trees
pub record IsCopy (number : ℕ) (name : List ℕ) (args : List Tree) (c : Call) : Type 0 where
  pub number_is : c.number ≡ number
  pub name_is : c.name ≡ name
  pub args_are : trees_in c.args ≡ args

-- an item that comes to this reports no call
abbrev pub IsNoCall : Fact → Type 0
IsNoCall passes = Unit {0}
IsNoCall (serves number name args) = ⊥
IsNoCall (finishes how) = Unit {0}

-- or it reports this one, whose args are in range
pub record IsCall (fact : Fact) (c : Call) : Type 0 where
  pub is : fact ≡ serves c.number c.name (trees_in c.args)
  pub args : AreArgs (trees_in c.args)
