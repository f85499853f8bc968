-- The rows of members (ECMA-262 11.2.1), what targets mean (8.7), and what `delete` takes away (11.4.1).
use Rattle.std.specs.Prelude.{true, Option, None, Some}
use Rattle.rip_base.specs.declared.value.Fault.TheVariants.{NotInProfile}
use Rattle.rip_base.specs.declared.value.Value.{Value}
use Rattle.rip_base.specs.declared.value.Value.TheVariants.{Undefined, Null, Bool as Boolean, Num, NaN, Text, Object}
use Rattle.rip_heap.specs.declared.class.Class.TheVariants.{ThrownTypeError}
use Rattle.rip_heap.specs.declared.keys.Key.{Key}
use Rattle.rip_heap.specs.declared.keys.Key.TheVariants.{Name}
use Rattle.rip_heap.specs.declared.keys.Reference.{Reference}
use Rattle.rip_heap.specs.World.{World}
use Rattle.rip_ops.specs.declared.access.outcome.Read.{Read}
use Rattle.rip_ops.specs.declared.access.outcome.Read.TheVariants.{Value as Gives, TypeFault as ReadThrows, Fault as ReadFaults, Host as HostReads}
use Rattle.rip_ops.specs.Deleting.{deleted}
use Rattle.rip_ops.specs.Keys.{Keying, Keys as IsKey, Throws as KeyThrows, Faults as KeyFaults, Exceeds as KeyExceeds, key_of}
use Rattle.rip_ops.specs.Reading.{read}
use Rattle.rip_ops.specs.Writing.{Writing, Writes as IsWritten, Throws as WriteThrows, Faults as WriteFaults, Exceeds as WriteExceeds, AsksHost as HostWrites}
use Rattle.rip_eval_rows.specs.declared.completion.Completion.{Completion}
use Rattle.rip_eval_rows.specs.declared.completion.Completion.TheVariants.{Normal, Thrown, Returned, Broken, Continued, Referred, Method}
use Rattle.rip_eval_rows.specs.declared.completion.Stop.TheVariants.{Fault as AtFault, Limit as AtLimit}
use Rattle.rip_eval_rows.specs.declared.part.Part.{Part}
use Rattle.rip_eval_rows.specs.declared.part.Role.{Role}
use Rattle.rip_eval_rows.specs.declared.part.Role.TheVariants as role
use Rattle.rip_eval_rows.specs.Row.{Row, Ends, Halts, Asks, value_of, with_value}
use Rattle.rip_eval_language.specs.Reading.{Loaded, literal, part_at}
use Rattle.rip_eval_language.specs.Rows.Host.{asks_read, asks_write}
use Rattle.rip_eval_language.specs.Rows.Names.{throws}

-- ANSWERS OF MEMBERS

-- goes on with what is read: a value, or what the host answers
abbrev pub with_read : Read → World → (Value → World → Row) → Row
with_read (Gives v) w go = go v w
with_read ReadThrows w go = throws ThrownTypeError w
with_read (ReadFaults fault) w go = Halts (AtFault fault) w
with_read (HostReads object name) w go = asks_read object name w go

-- goes on with the world after a write of this value, or after that of the host
abbrev pub with_writing : Writing → Value → World → (World → Row) → Row
with_writing (IsWritten x) v w go = go x
with_writing WriteThrows v w go = throws ThrownTypeError w
with_writing (WriteFaults fault) v w go = Halts (AtFault fault) w
with_writing (WriteExceeds limit) v w go = Halts (AtLimit limit) w
with_writing (HostWrites object name) v w go = asks_write object name v w go

-- goes on with a key
abbrev pub with_key : Keying → World → (Key → World → Row) → Row
with_key (IsKey key x) w go = go key x
with_key KeyThrows w go = throws ThrownTypeError w
with_key (KeyFaults fault) w go = Halts (AtFault fault) w
with_key (KeyExceeds limit) w go = Halts (AtLimit limit) w

-- goes on where a base can have members: undefined and null are a TypeError (11.2.1, 9.10)
abbrev pub with_base : Value → World → Row → Row
with_base Undefined w go = throws ThrownTypeError w
with_base Null w go = throws ThrownTypeError w
with_base (Boolean b) w go = go
with_base (Num z) w go = go
with_base NaN w go = go
with_base (Text span) w go = go
with_base (Object n) w go = go

-- MEMBERS

abbrev pub reference : Value → Key → Reference
reference base key = record { base = base; key = key }

-- what the member of a base is evaluated for: its value; what it means as a target, unread; or its value and the base as
-- the value of `this` (11.2.3)
abbrev pub member_for : Role → Value → Key → World → Row
member_for role.Value base key w = with_read (read w base key) w (λ v x. Ends (Normal v) x)
member_for role.Target base key w = Ends (Referred (reference base key)) w
member_for role.Callee base key w = with_read (read w base key) w (λ f x. Ends (Method f base) x)

-- `a.b`: the base, which is checked, and the member (11.2.1)
abbrev pub member_row : Loaded → Part → World → Row
member_row p at w = value_of (part_at p at 0) w (λ base x. with_base base x (member_for at.role base (Name (literal p at.node)) x))

-- `a[b]`: the base, then the expression; then the base is checked, and the key is made (11.2.1)
abbrev pub subscript_end : Part → Value → Completion → World → Row
subscript_end at base c w = with_value c w (λ b. with_key (key_of w base b) w (λ key x. member_for at.role base key x))

-- the row of `a[b]`
abbrev pub index_row : Loaded → Part → World → Row
index_row p at w = value_of (part_at p at 0) w (λ base x. Asks (part_at p at 1) x (subscript_end at base))

-- TARGETS

-- goes on with what a target is: a member, or none where it is a name or no target at all (8.7)
abbrev pub with_target : Completion → World → (Option Reference → Row) → Row
with_target (Normal v) w go = go None
with_target (Referred r) w go = go (Some r)
with_target (Thrown v) w go = Ends (Thrown v) w
with_target (Returned v) w go = Ends (Returned v) w
with_target Broken w go = Ends Broken w
with_target Continued w go = Ends Continued w
with_target (Method f this) w go = Ends (Method f this) w

-- goes on with the target that a part is
abbrev pub target_of : Part → World → (Option Reference → World → Row) → Row
target_of part w go = Asks part w (λ c x. with_target c x (λ target. go target x))

-- DELETE

-- what is taken away leaves true; the host is never asked for it
abbrev pub with_deletion : Writing → World → Row
with_deletion (IsWritten x) w = Ends (Normal (Boolean true)) x
with_deletion WriteThrows w = throws ThrownTypeError w
with_deletion (WriteFaults fault) w = Halts (AtFault fault) w
with_deletion (WriteExceeds limit) w = Halts (AtLimit limit) w
with_deletion (HostWrites object name) w = Halts (AtFault NotInProfile) w

-- takes a member away; what is no member is left, and true as well (11.4.1)
abbrev pub deletes : Option Reference → World → Row
deletes None w = Ends (Normal (Boolean true)) w
deletes (Some r) w = with_deletion (deleted w r.base r.key) w
