-- Laws of members, in words that no rule of theirs uses.
use Rattle.std.specs.Prelude.{◌≡◌, ℕ}
use Rattle.rip_base.specs.declared.value.Value.{Value}
use Rattle.rip_base.specs.declared.value.Value.TheVariants.{Object}
use Rattle.rip_heap.specs.declared.keys.Key.{Key}
use Rattle.rip_heap.specs.World.{World}
use Rattle.rip_ops.specs.declared.access.base.Base.TheVariants.{Plain, Array}
use Rattle.rip_ops.specs.declared.access.outcome.Read.TheVariants.{Value as Gives}
use Rattle.rip_ops.specs.Base.{base_of}
use Rattle.rip_ops.specs.Reading.{read}
use Rattle.rip_ops.specs.Writing.{write, Writes}

-- what is written to a plain object is read
abbrev pub WrittenIsRead : Type 0
WrittenIsRead = (w next : World) (n : ℕ) (key : Key) (v : Value)
    → base_of w (Object n) ≡ Plain n → write w (Object n) key v ≡ Writes next → read next (Object n) key ≡ Gives v

-- what is written to an array is read: at an index below its length or at the length, and as its `length`
abbrev pub WrittenToArrayIsRead : Type 0
WrittenToArrayIsRead = (w next : World) (n : ℕ) (key : Key) (v : Value)
    → base_of w (Object n) ≡ Array n → write w (Object n) key v ≡ Writes next → read next (Object n) key ≡ Gives v
