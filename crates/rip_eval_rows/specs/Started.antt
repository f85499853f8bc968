-- What a run is of.
use Rattle.std.specs.Prelude.{ℕ, List}
use Rattle.rip_base.specs.declared.value.Value.{Value}

-- this script of the page, which are numbered from 1; or the call of this object from outside a script, with a value of
-- `this` and arguments (ECMA-262 13.2.1)
pub data Started : Type 0 where
  ScriptOf : ℕ → Started
  CallOf : ℕ → Value → List Value → Started
