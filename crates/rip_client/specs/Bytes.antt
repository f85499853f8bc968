-- The bytes of items and of batches as they are told.
use Rattle.std.specs.Prelude.{◌≡◌, ℕ, List, length, map, min}
use Rattle.serde_json.specs.Written.{compact_text}
use Rattle.rip_client.specs.Cutting.{body_size}
use Rattle.rip_wire.specs.Batches.{Contents, contents_of}
use Rattle.rip_wire.specs.Items.{Reported, item_value, reported_of}
use Rattle.rip_wire.specs.declared.item.Item.{Item}
use Rattle.rip_client.specs.declared.list.ToldBatch.{ToldBatch}

-- the bytes of an item's text
abbrev pub size_of : Reported → ℕ
size_of item = length (compact_text (item_value item))

-- so many bytes has the body of a batch of this number with these items; a number past the range of `usize` is told as the
-- greatest
abbrev pub HasBytes : ℕ → List Item → ℕ → Type 0
HasBytes number items bytes = bytes ≡ min (body_size number (map size_of (map reported_of items))) 18446744073709551615

-- the batches that were told
abbrev pub batches_of : List ToldBatch → List Contents
batches_of told = map (λ (b : ToldBatch). contents_of b.batch) told
