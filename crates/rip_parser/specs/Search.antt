-- How the first node that is too deep is found, from the last event to the first. No public clause cites this.
use Rattle.std.specs.Prelude.{ℕ, zero, suc, ◌+◌, min, nat_le, Bool, true, false, if◌then◌else◌, List, [], ◌∷◌, Option, Some, None}
use Rattle.rip_grammar.specs.declared.event.Head.{Head}
use Rattle.rip_grammar.specs.declared.event.Event.{Event}
use Rattle.rip_grammar.specs.declared.event.Event.TheVariants as E
use Rattle.rip_parser.specs.declared.deepest.Standing.{Standing}
use Rattle.rip_parser.specs.declared.deepest.Standing.TheVariants as S
use Rattle.rip_parser.specs.declared.deepest.Around.{Around}
use Rattle.rip_parser.specs.Building.{is_part}
use Rattle.rip_parser.specs.TooDeep.{first_of}

-- the place that was found last, and what parts are to come, the innermost first
pub record Search : Type 0 where
  pub first : Option ℕ
  pub around : List Around

-- so many parts are to come
abbrev pub pushed : ℕ → Standing → List Around → List Around
pushed zero standing around = around
pushed (suc more) standing around = record { more = more; standing = standing } ∷ around

-- what the next part stands in, and what is to come behind it
abbrev pub next_standing : List Around → Standing
next_standing [] = S.Below 1
next_standing (a ∷ around) = a.standing

-- the parts to come, without the next one
abbrev pub next_around : List Around → List Around
next_around [] = []
next_around (a ∷ around) = pushed a.more a.standing around

-- one level more; the greatest stands for all above it
abbrev pub below_one_more : ℕ → ℕ
below_one_more n = min (n + 1) 200

-- a node so stands that it is too deep
abbrev pub is_deep : Standing → Bool → Bool
is_deep (S.Below n) true = false
is_deep (S.Below n) false = nat_le 200 n
is_deep S.Deep part = true
is_deep S.Known part = false

-- the place that is noted, at a node with this place or none
abbrev pub noted : Bool → Option ℕ → Option ℕ → Option ℕ
noted true place first = first_of place first
noted false place first = first

-- what the parts of a node stand in
abbrev pub standing_in : Bool → Option ℕ → Standing → Bool → Standing
standing_in true (Some place) standing part = S.Known
standing_in true None standing part = S.Deep
standing_in false place (S.Below n) true = S.Below n
standing_in false place (S.Below n) false = S.Below (below_one_more n)
standing_in false place S.Deep part = S.Deep
standing_in false place S.Known part = S.Known

-- and what parentheses that stand there hold
abbrev pub standing_within : Standing → Standing
standing_within (S.Below n) = S.Below (below_one_more n)
standing_within S.Deep = S.Known
standing_within S.Known = S.Known

-- the place that is noted once parentheses are taken: theirs, where a node that is too deep begins with them
abbrev pub parenthesis_noted : Standing → ℕ → Option ℕ → Option ℕ
parenthesis_noted (S.Below n) place first = first
parenthesis_noted S.Deep place first = Some place
parenthesis_noted S.Known place first = first

-- one event, for a part that stands so
abbrev pub take_at : Standing → List Around → Event → Option ℕ → Search
take_at c around E.Absent first = record { first = first; around = around }
take_at c around (E.Parenthesized place) first = record { first = parenthesis_noted c place first; around = pushed 1 (standing_within c) around }
take_at c around (E.Node place head count) first = record {
  first = noted (is_deep c (is_part head)) place first;
  around = pushed count (standing_in (is_deep c (is_part head)) place c (is_part head)) around;
}

-- the search once the event before is taken
abbrev pub taken : Event → Search → Search
taken event s = take_at (next_standing s.around) (next_around s.around) event s.first

-- the events, the latest first
abbrev pub search : List Event → Search → Search
search [] s = s
search (event ∷ told) s = search told (taken event s)

-- the place that is found
abbrev pub found : List Event → Option ℕ
found told = (search told (record { first = None; around = [] })).first
