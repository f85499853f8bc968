-- Batches, and the bodies that spell them.
use Rattle.std.specs.Prelude.{◌≡◌, ℕ, ◌<◌, ◌≤◌, ◌^◌, List, length, map, codes, Some}
use Rattle.std.specs.List.{AllByRecursion}
use Rattle.serde_json.specs.Data.{Data, object, member, no_members}
use Rattle.serde_json.specs.Written.{compact_text}
use Rattle.rip_data.specs.Reading.{value_of}
use Rattle.rip_wire.specs.Items.{Reported, reported_of, item_value, list_of, number_value, IsItem}
use Rattle.rip_wire.specs.declared.item.Batch.{Batch}

-- what a batch says: its number and what its items report, in order
pub record Contents : Type 0 where
  pub number : ℕ
  pub items : List Reported

abbrev pub contents_of : Batch → Contents
contents_of b = record { number = b.number; items = map reported_of b.items }

-- its JSON: an object with exactly the members `batch` and `items`; a value holds members in the order of their names
abbrev pub batch_value : Contents → Data
batch_value b = object (member (codes "batch") (number_value b.number) (member (codes "items") (list_of (map item_value b.items)) no_members))

-- its text: that JSON with no white space
abbrev pub batch_text : Contents → List ℕ
batch_text b = compact_text (batch_value b)

-- a batch is in range: numbered from 1 to 2^53 - 1, with at most 64 items, each in range
pub record IsBatch (b : Contents) : Type 0 where
  pub from_one : 1 ≤ b.number
  pub bounded : b.number < 2 ^ 53
  pub few : length b.items ≤ 64
  pub items : AllByRecursion IsItem b.items

-- items that a batch may have: at most 64, each in range
pub record AreItems (items : List Reported) : Type 0 where
  pub few : length items ≤ 64
  pub each : AllByRecursion IsItem items

-- their text: a list of them with no white space
abbrev pub items_text : List Reported → List ℕ
items_text items = compact_text (list_of (map item_value items))

-- the body is JSON in UTF-8 of this batch, which is in range; members may stand in any order, and of a repeated one the last counts
pub record Spells (body : List ℕ) (b : Contents) : Type 0 where
  pub in_range : IsBatch b
  pub is : value_of body ≡ Some (batch_value b)

-- the body is that of no batch in range
abbrev pub SpellsNone : List ℕ → Type 0
SpellsNone body = (b : Contents) → ¬ (Spells body b)
