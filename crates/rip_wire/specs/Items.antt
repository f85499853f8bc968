-- What the items of a batch report, and their JSON (RFC 8259).
use Rattle.std.specs.Prelude.{ℕ, ◌<◌, ◌≤◌, ◌^◌, ◌++◌, List, [], ◌∷◌, length, codes, Option, Some, None, ⊤}
use Rattle.serde_json.specs.Data.{Data, string, number, unsigned, array}
use Rattle.serde_json.specs.View.{items_of}
use Rattle.rip_base.specs.Text.{IsUtf16}
use Rattle.rip_base.specs.declared.report.EventKind.{EventKind}
use Rattle.rip_base.specs.declared.report.EventKind.TheVariants as K
use Rattle.rip_data.specs.Datum.{Tree, elements_of, trees_in, utf8_of, data_of, nesting, canonical_text, IsDatum}
use Rattle.rip_data.specs.Datum as tree
use Rattle.rip_wire.specs.declared.item.Item.{Item}
use Rattle.rip_wire.specs.declared.item.Item.TheVariants as I
use Rattle.rip_wire.specs.Names.{IsName}

-- what an item reports: an event by its kind, its target, the text of its control and the place of the chosen option;
-- a call by its number, its name and its args; a delivered reply by the number of its call
pub data Reported : Type 0 where
  event : EventKind → ℕ → Option (List ℕ) → Option ℕ → Reported
  call : ℕ → List ℕ → List Tree → Reported
  reply : ℕ → Reported

abbrev pub reported_of : Item → Reported
reported_of (I.Event kind node text place) = event kind node text place
reported_of (I.Call k name args) = call k name (trees_in args)
reported_of (I.Reply k) = reply k

-- ---- the JSON

-- the word of a kind of event
abbrev pub event_word : EventKind → List ℕ
event_word K.Click = codes "click"
event_word K.Focus = codes "focus"
event_word K.Blur = codes "blur"
event_word K.Submit = codes "submit"
event_word K.Change = codes "change"
event_word K.Input = codes "input"

-- a list of values
abbrev pub list_of : List Data → Data
list_of values = array (items_of values)

-- a text, a number and the args of a call as values
abbrev pub text_value : List ℕ → Data
text_value units = string (utf8_of units)

abbrev pub number_value : ℕ → Data
number_value n = number (unsigned n)

abbrev pub args_tree : List Tree → Tree
args_tree args = tree.array (elements_of args)

-- what stands behind the target of an event
abbrev pub text_values : Option (List ℕ) → List Data
text_values None = []
text_values (Some text) = text_value text ∷ []

abbrev pub place_values : Option ℕ → List Data
place_values None = []
place_values (Some place) = number_value place ∷ []

abbrev pub detail_values : Option (List ℕ) → Option ℕ → List Data
detail_values text place = text_values text ++ place_values place

-- what stands behind the word of an item
abbrev pub event_values : EventKind → ℕ → Option (List ℕ) → Option ℕ → List Data
event_values kind node text place = string (event_word kind) ∷ number_value node ∷ detail_values text place

abbrev pub call_values : ℕ → List ℕ → List Tree → List Data
call_values k name args = number_value k ∷ text_value name ∷ data_of (args_tree args) ∷ []

abbrev pub reply_values : ℕ → List Data
reply_values k = number_value k ∷ []

-- `["event",KIND,NODE]`, `["event","input",NODE,TEXT]`, `["event","change",NODE,PLACE]`, `["call",K,NAME,ARGS]`,
-- `["reply",K]`
abbrev pub item_value : Reported → Data
item_value (event kind node text place) = list_of (string (codes "event") ∷ event_values kind node text place)
item_value (call k name args) = list_of (string (codes "call") ∷ call_values k name args)
item_value (reply k) = list_of (string (codes "reply") ∷ reply_values k)

-- ---- which are in range

-- an event has a text exactly where it is an input, and a place only where it is a change
abbrev pub HasDetail : EventKind → Option (List ℕ) → Option ℕ → Type 0
HasDetail K.Input (Some text) None = IsUtf16 text
HasDetail K.Change None (Some place) = place < 2 ^ 32
HasDetail K.Change None None = ⊤
HasDetail K.Click None None = ⊤
HasDetail K.Focus None None = ⊤
HasDetail K.Blur None None = ⊤
HasDetail K.Submit None None = ⊤
HasDetail kind text place = ⊥

-- args are data, as a list that nests at most 8 deep and has a canonical text of at most 16,384 bytes
pub record AreArgs (args : List Tree) : Type 0 where
  pub are : IsDatum (args_tree args)
  pub shallow : nesting (args_tree args) ≤ 8
  pub short : length (canonical_text (args_tree args)) ≤ 16384

-- the numbers of targets, places and calls are below 2^32
abbrev pub IsItem : Reported → Type 0
IsItem (event kind node text place) = (node < 2 ^ 32) × HasDetail kind text place
IsItem (call k name args) = (k < 2 ^ 32) × IsName name × AreArgs args
IsItem (reply k) = k < 2 ^ 32
