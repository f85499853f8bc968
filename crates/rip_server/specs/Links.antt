-- The connections of a server, as the machine has them.
use Rattle.std.specs.Prelude.{ℕ, ◌<◌, ◌≤◌, Bool, List, [], ◌∷◌, length, map, Option, Some, None, option_map}
use Rattle.std.specs.List.{AllByRecursion}
use Rattle.rip_http.specs.Answers.{answer_text}
use Rattle.rip_http.specs.declared.answer.HttpAnswer.{HttpAnswer}
use Rattle.rip_history.specs.Connections.{Act, Owed, Connection as Link, Connections as Links, answer_acts}
use Rattle.rip_server.specs.declared.connection.Connection.{Connection}
use Rattle.rip_server.specs.declared.connection.Wait.{Wait}
use Rattle.rip_server.specs.declared.connections.Connections.{Connections}

abbrev pub owed_of : Wait → Owed
owed_of w = record { session = w.session; close = w.close }

abbrev pub link_of : Connection → Link
link_of c = record { number = c.number; unread = c.conn; owed = option_map owed_of c.waits }

-- those that are there, in order
abbrev pub there_of : List Connection → List Link
there_of cs = map link_of cs

abbrev pub links_of : Connections → Links
links_of cs = record { opened = cs.opened; there = there_of cs.list.items }

-- their numbers rise, and are below this one
abbrev pub AreRising : List Link → ℕ → Type 0
AreRising [] high = Unit {0}
AreRising (c ∷ cs) high = (c.number < high) × AllByRecursion (λ (d : Link). c.number < d.number) cs × AreRising cs high

-- they are numbered in the order of their opening, and a door may be asked to send on each
pub record AreLinks (open_at : ℕ → Type 0) (k : Links) : Type 0 where
  pub rising : AreRising k.there k.opened
  pub each : AllByRecursion (λ (c : Link). open_at c.number) k.there
  pub few : length k.there ≤ 64

-- the answer that is owed on a connection is sent, if one is, and that connection is shut behind it or not
abbrev pub answered_with : Bool → Option (ℕ × Bool) → HttpAnswer → List Act
answered_with gone None a = []
answered_with gone (Some (c, close)) a = answer_acts gone close c (answer_text (record a { close = close }))
