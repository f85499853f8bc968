-- Rows that ask the host, and what becomes of its answers.
use Rattle.std.specs.Prelude.{ℕ, pos, List, Option, None, Some}
use Rattle.rip_values.specs.declared.fixed.FixedText.TheVariants.{Code as CodeText}
use Rattle.rip_base.specs.declared.value.Limit.TheVariants.{Cells}
use Rattle.rip_base.specs.declared.value.Span.{Span}
use Rattle.rip_base.specs.declared.value.Value.{Value}
use Rattle.rip_base.specs.declared.value.Value.TheVariants.{Num, Object}
use Rattle.rip_heap.specs.declared.class.Class.TheVariants.{Code, ThrownTypeError}
use Rattle.rip_heap.specs.declared.host.HostDone.{HostDone}
use Rattle.rip_heap.specs.declared.host.HostDone.TheVariants as host
use Rattle.rip_heap.specs.Conversions.{span_of}
use Rattle.rip_heap.specs.Objects.{new_of, put}
use Rattle.rip_heap.specs.World.{World}
use Rattle.rip_eval_rows.specs.declared.completion.Completion.TheVariants.{Thrown}
use Rattle.rip_eval_rows.specs.declared.completion.Stop.TheVariants.{Fault as AtFault, Limit as AtLimit}
use Rattle.rip_heap.specs.Host.{Reads, Writes, Calls}
use Rattle.rip_eval_rows.specs.Row.{Row, Ends, Halts, AsksHost}
use Rattle.rip_eval_language.specs.Rows.Names.{throws}

-- CODES OF THE DOCUMENT (DOM Level 2 Core 1.2)

-- an object is thrown once its property stands
abbrev pub coded : ℕ → World → Option World → Row
coded object w None = Halts (AtLimit Cells) w
coded object w (Some x) = Ends (Thrown (Object object)) x

-- a new object gets the code as its own property `code`
abbrev pub with_code : ℕ → World → Option (ℕ × World) → Row
with_code code w None = Halts (AtLimit Cells) w
with_code code w (Some made) = coded made.0 made.1 (put made.1 made.0 (span_of CodeText) (Num (pos code)))

-- throws a new object that has the code: one cell for the object, and one for its property
abbrev pub throws_code : ℕ → World → Row
throws_code code w = with_code code w (new_of w Code)

-- ANSWERS

-- goes on with the value that the host answers; all else ends the row. No call means want of memory
abbrev pub with_reply : HostDone → World → (Value → World → Row) → Row
with_reply (host.Value v) w go = go v w
with_reply host.TypeFault w go = throws ThrownTypeError w
with_reply (host.Dom code) w go = throws_code code w
with_reply (host.Fault fault) w go = Halts (AtFault fault) w
with_reply (host.Limit limit) w go = Halts (AtLimit limit) w
with_reply host.Memory w go = Halts (AtLimit Cells) w

-- asks for a member of an object of the host, and goes on with its value
abbrev pub asks_read : ℕ → Span → World → (Value → World → Row) → Row
asks_read object name w go = AsksHost (Reads object name) w (λ done x. with_reply done x go)

-- writes a member of an object of the host, and goes on
abbrev pub asks_write : ℕ → Span → Value → World → (World → Row) → Row
asks_write object name v w go = AsksHost (Writes object name v) w (λ done x. with_reply done x (λ _ y. go y))

-- calls a built-in function of the host, and goes on with what it returns
abbrev pub asks_call : ℕ → Value → List Value → World → (Value → World → Row) → Row
asks_call which this args w go = AsksHost (Calls which this args) w (λ done x. with_reply done x go)
