-- Values that become texts (ECMA-262 9.8), and what such a text costs. A number alone makes a new text; the texts of
-- other values stand already.
use Rattle.std.specs.Prelude.{ℕ, ◌+◌, not, Bool, true, false, nat_lt, if◌then◌else◌, Option, None, Some, Result, Ok, Err, length}
use Rattle.std.specs.Fmt.{signed_decimal}
use Rattle.rip_values.specs.declared.fixed.FixedText.TheVariants.{Empty, Undefined as UndefinedText, Null as NullText, True, False, NaN as NaNText}
use Rattle.rip_base.specs.declared.value.Fault.{Fault}
use Rattle.rip_base.specs.declared.value.Limit.TheVariants.{Nodes, Units}
use Rattle.rip_base.specs.declared.value.Span.{Span}
use Rattle.rip_base.specs.declared.value.Value.{Value}
use Rattle.rip_base.specs.declared.value.Value.TheVariants.{Undefined, Null, Bool as Boolean, Num, NaN, Text, Object}
use Rattle.rip_values.specs.Pool.{Texts, span_behind, with_text as texts_with}
use Rattle.rip_heap.specs.declared.host.HostDone.{HostDone}
use Rattle.rip_heap.specs.declared.host.HostDone.TheVariants as host
use Rattle.rip_heap.specs.Conversions.{span_of, text_fault}
use Rattle.rip_heap.specs.World.{World}
use Rattle.rip_dom.specs.Tree.{Tree}

-- the text of a value, where it stands already: a number has none yet, an object none at all
abbrev pub standing_text : Value → Option Span
standing_text Undefined = Some (span_of UndefinedText)
standing_text Null = Some (span_of NullText)
standing_text (Boolean false) = Some (span_of False)
standing_text (Boolean true) = Some (span_of True)
standing_text (Num z) = None
standing_text NaN = Some (span_of NaNText)
standing_text (Text span) = Some span
standing_text (Object n) = None

-- where the text of a value stands, once it is made: that of a number behind all others
abbrev pub text_span : Texts → Value → Span
text_span pool Undefined = span_of UndefinedText
text_span pool Null = span_of NullText
text_span pool (Boolean false) = span_of False
text_span pool (Boolean true) = span_of True
text_span pool (Num z) = span_behind pool (signed_decimal z)
text_span pool NaN = span_of NaNText
text_span pool (Text span) = span
text_span pool (Object n) = span_of Empty

-- what the text of a value costs, in units
abbrev pub cost_of_text : Value → ℕ
cost_of_text (Num z) = length (signed_decimal z)
cost_of_text Undefined = 0
cost_of_text Null = 0
cost_of_text (Boolean b) = 0
cost_of_text NaN = 0
cost_of_text (Text span) = 0
cost_of_text (Object n) = 0

-- the texts with that of a value
abbrev pub with_text_of : Texts → Value → Texts
with_text_of pool (Num z) = texts_with pool (signed_decimal z) (length (signed_decimal z))
with_text_of pool Undefined = pool
with_text_of pool Null = pool
with_text_of pool (Boolean b) = pool
with_text_of pool NaN = pool
with_text_of pool (Text span) = pool
with_text_of pool (Object n) = pool

-- the world with the text of a value
abbrev pub world_with : World → Value → World
world_with w v = record w { pool = with_text_of w.pool v }

-- so many units more would pass their limit
abbrev pub are_past : Texts → ℕ → Bool
are_past pool units = nat_lt pool.limit (pool.used + units)

-- one more node or attribute would pass the limit
abbrev pub is_full : Tree → Bool
is_full t = not (nat_lt t.used t.limit)

-- the answer, where there is no fault
abbrev pub unless_fault : Option Fault → World → Tree → HostDone × World × Tree → HostDone × World × Tree
unless_fault None w t answer = answer
unless_fault (Some fault) w t answer = (host.Fault fault, w, t)

-- the answer, where the limit of nodes is not passed and then that of units
abbrev pub within_limits : Bool → Bool → World → Tree → HostDone × World × Tree → HostDone × World × Tree
within_limits nodes units w t answer =
    if nodes then (host.Limit Nodes, w, t) else if units then (host.Limit Units, w, t) else answer

-- the answer, where the text of a value can be made: the fault of the conversion comes first, and then the limit of units
abbrev pub once_text : World → Tree → Value → HostDone × World × Tree → HostDone × World × Tree
once_text w t v answer = unless_fault (text_fault w.pool v) w t (within_limits false (are_past w.pool (cost_of_text v)) w t answer)

-- the text of a value as a member takes it, or what the member answers instead; and the world after it. The fault of
-- the conversion comes first, then the limit of units, which the text costs, and then that of nodes, where what follows would
-- pass it
abbrev pub text_judged : Option Fault → Bool → Bool → World → Value → Result Span HostDone × World
text_judged (Some fault) nodes units w v = (Err (host.Fault fault), w)
text_judged None nodes units w v =
    if units then (Err (host.Limit Units), w)
    else if nodes then (Err (host.Limit Nodes), w)
    else (Ok (text_span w.pool v), world_with w v)

abbrev pub text_taken : World → Bool → Value → Result Span HostDone × World
text_taken w nodes v = text_judged (text_fault w.pool v) nodes (are_past w.pool (cost_of_text v)) w v

abbrev pub goes_on : Result Span HostDone → World → Tree → (Span → World → HostDone × World × Tree) → HostDone × World × Tree
goes_on (Ok span) w t go = go span w
goes_on (Err done) w t go = (done, w, t)

-- goes on with the text of a value and the world with it
abbrev pub with_text : World → Tree → Bool → Value → (Span → World → HostDone × World × Tree) → HostDone × World × Tree
with_text w t nodes v go = goes_on (text_taken w nodes v).0 (text_taken w nodes v).1 t go
