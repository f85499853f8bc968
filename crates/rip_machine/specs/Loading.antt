-- How a program is loaded: the text that a node is or names is put into the heap, in the order of the nodes, each name once.
use Rattle.std.specs.Prelude.{◌≡◌, ℕ, ◌+◌, ◌==◌, ◌<◌, ◌≤◌, if◌then◌else◌, List, [], length, map, Option, None, Some, Result, Ok, Err}
use Rattle.std.specs.Fmt.{signed_decimal}
use Rattle.std.specs.List.{flat_map, range_with_len, sum_by}
use Rattle.rip_base.specs.declared.value.Limit.TheVariants.{Units}
use Rattle.rip_base.specs.declared.value.Refused.{Refused}
use Rattle.rip_base.specs.declared.value.Refused.TheVariants.{Limit as At, Memory as NoRoom}
use Rattle.rip_base.specs.declared.value.Span.{Span}
use Rattle.rip_values.specs.FixedTexts.{fixed_span}
use Rattle.rip_values.specs.Pool.{IsSpan, Texts, text_at, with_text}
use Rattle.rip_heap.specs.World.{World}
use Rattle.rip_tree.specs.declared.form.Form.{Form}
use Rattle.rip_tree.specs.declared.form.Form.TheVariants as form
use Rattle.rip_tree.specs.declared.form.Key.{Key}
use Rattle.rip_tree.specs.declared.form.Key.TheVariants as key
use Rattle.rip_tree.specs.Branches.{Branch, node_of, units_at}
use Rattle.rip_tree.specs.Firsts.{first_named}
use Rattle.rip_tree.specs.Program.{Code}
use Rattle.rip_machine.specs.Law.{Standing}
use Rattle.rip_eval_language.specs.Reading.{Loaded, form_in, form_of, literal}

-- TEXTS, in a program with these units

-- the key of an entry as a text: a name, a text, or the decimal numeral of a number (ECMA-262 11.1.5)
abbrev pub key_text : List ℕ → Key → List ℕ
key_text units (key.Name name) = units_at units name
key_text units (key.Text literal) = units_at units literal.value
key_text units (key.Number z) = signed_decimal z

-- the text that a node is (7.8.4), or that it names as a member (11.2.1) or as an entry; of others none
abbrev pub form_text : List ℕ → Form → Option (List ℕ)
form_text units (form.Text literal) = Some (units_at units literal.value)
form_text units (form.Member name) = Some (units_at units name)
form_text units (form.Entry key) = Some (key_text units key)
form_text units f = None

-- what it costs in units: a text literal its length, a name nothing
abbrev pub form_cost : List ℕ → Form → ℕ
form_cost units (form.Text literal) = length (units_at units literal.value)
form_cost units f = 0

-- what a branch costs
abbrev pub node_cost : List ℕ → Branch → ℕ
node_cost units b = form_cost units b.node.form

-- WHAT IS PUT IN

-- what is put in of a name with such a fixed span: a fixed text stands in every pool, and nothing is put in; of any other
-- name its units are
abbrev pub unless_fixed : Option Span → List ℕ → List ℕ
unless_fixed None name = name
unless_fixed (Some span) name = []

-- what is put in of a name
abbrev pub name_put : List ℕ → List ℕ
name_put name = unless_fixed (fixed_span name) name

-- the text that a node of this form puts in, where no node before it has its name: a text literal, or a name or key that is
-- no fixed text
abbrev pub own_text : List ℕ → Form → List ℕ
own_text units (form.Text literal) = units_at units literal.value
own_text units (form.Member name) = name_put (units_at units name)
own_text units (form.Entry key) = name_put (key_text units key)
own_text units f = []

-- the text that the node with this number puts in: each name is put in once, by the first node that has it; a text literal
-- and a number as a key have no such name, and are put in each
abbrev pub put_text : Code → ℕ → List ℕ
put_text code id = if first_named code.grove id == id then own_text code.grove.units (form_in (node_of code.grove.branches id)) else []

-- the texts that the nodes before this one put in, one behind another
abbrev pub texts_before : Code → ℕ → List ℕ
texts_before code id = flat_map (put_text code) (range_with_len 0 id)

-- LOADED WORLDS

-- the text literals of a program together, in units
abbrev pub cost_of_literals : Code → ℕ
cost_of_literals code = sum_by (node_cost code.grove.units) code.grove.branches

-- the world in which the program is loaded: what its nodes put in stands behind all other texts
abbrev pub world_loaded : Code → World → World
world_loaded code w = record w { pool = with_text w.pool (texts_before code (length code.grove.branches)) (cost_of_literals code) }

-- where a name with such a fixed span stands, if it is put in at this place: a fixed text stands where it does in every pool
abbrev pub fixed_or_at : ℕ → Option Span → List ℕ → Span
fixed_or_at start None name = record { start = start; count = length name }
fixed_or_at start (Some span) name = span

-- where a name stands, if it is put in at this place
abbrev pub name_span : ℕ → List ℕ → Span
name_span start name = fixed_or_at start (fixed_span name) name

-- the span of a node's text, where that is put in at this place; of a node without a text the empty span
abbrev pub own_span : ℕ → List ℕ → Form → Span
own_span start units (form.Text literal) = record { start = start; count = length (units_at units literal.value) }
own_span start units (form.Member name) = name_span start (units_at units name)
own_span start units (form.Entry key) = name_span start (key_text units key)
own_span start units f = record { start = 0; count = 0 }

-- where the text of the node with this number stands, if it puts one in: behind all that was there and all that nodes before
-- it put in
abbrev pub start_of_text : Code → World → ℕ → ℕ
start_of_text code w id = length w.pool.units + length (texts_before code id)

-- the span of the node with this number: its name stands where the first node that has it puts it in
abbrev pub span_of : Code → World → ℕ → Span
span_of code w id = own_span (start_of_text code w (first_named code.grove id)) code.grove.units (form_in (node_of code.grove.branches id))

-- of each node the span of its text in the world in which the program is loaded
abbrev pub spans_loaded : Code → World → List Span
spans_loaded code w = map (span_of code w) (range_with_len 0 (length code.grove.branches))

-- WHILE IT IS LOADED

-- the world with the name behind all others, unless it is a fixed text
abbrev pub with_name : List ℕ → World → World
with_name name w = record w { pool = with_text w.pool (name_put name) 0 }

-- the world with the text of a node of this form behind all others, where no node before it has its name
abbrev pub with_form : List ℕ → Form → World → World
with_form units f w = record w { pool = with_text w.pool (own_text units f) (form_cost units f) }

-- the text stands at this span, within the pool
abbrev pub IsTextAt : Texts → List ℕ → Span → Type 0
IsTextAt pool text span = (text_at pool span ≡ text) × IsSpan pool span

-- if there is a text, it stands there
abbrev pub StandsIfAny : Texts → Option (List ℕ) → Span → Type 0
StandsIfAny pool None span = Unit {0}
StandsIfAny pool (Some text) span = IsTextAt pool text span

-- ROOM FOR VALUES

-- how many values may stand beside the open frames of a run with so much fuel, of a script or of a function that is called
-- from outside with at most one argument: one for each unit, since each that is kept took a unit; one more, which is kept
-- before its unit is taken; and the argument
abbrev pub values_needed : ℕ → ℕ
values_needed fuel = fuel + 2

-- LOADING

-- what `load` leaves: the world and the spans of the loaded program; or all as it was, exactly
-- where its literals would pass the limit of units, or where memory is wanting
abbrev pub Loads : Code → World → Standing → Result (Unit {0}) Refused → World → Standing → Type 0
Loads code w m (Ok done) x n =
    (w.pool.used + cost_of_literals code ≤ w.pool.limit) × (x ≡ world_loaded code w)
    × (n ≡ record m { literals = spans_loaded code w })
Loads code w m (Err (At limit)) x n = (limit ≡ Units) × (w.pool.limit < w.pool.used + cost_of_literals code) × (x ≡ w) × (n ≡ m)
Loads code w m (Err NoRoom) x n = (x ≡ w) × (n ≡ m)

-- the span of each node that is or names a text stands for that text
abbrev pub TextsStand : Loaded → World → Type 0
TextsStand p w = (id : ℕ) (text : List ℕ) → form_text p.code.grove.units (form_of p id) ≡ Some text → text_at w.pool (literal p id) ≡ text
