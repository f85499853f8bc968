-- How a document keeps its tree: records of nodes, and linked lists of children and of attributes.
use Rattle.std.specs.Prelude.{◌≡◌, ℕ, zero, suc, ◌+◌, ◌^◌, ◌<◌, ◌≤◌, Option, None, Some, List, length, map, slice_index_or}
use Rattle.std.specs.List.{range_with_len}
use Rattle.rip_base.specs.declared.page.NodeKind.TheVariants.{Text}
use Rattle.rip_base.specs.declared.value.Span.{Span}
use Rattle.rip_dom.specs.declared.dom.NodeRecord.{NodeRecord}
use Rattle.rip_dom.specs.Lists.{Lists, list_at, owner_at}
use Rattle.rip_dom.specs.Tree.{Node, Tree}

-- what a record past the last stands for
abbrev pub no_record : NodeRecord
no_record = record { kind = Text; name = None; text = None }

-- the record of this number
abbrev pub record_at : List NodeRecord → ℕ → NodeRecord
record_at records n = slice_index_or records n no_record

-- the span of no text
abbrev pub no_span : Span
no_span = record { start = 0; count = 0 }

-- the name and the value of the attribute of this number
abbrev pub pair_at : List (Span × Span) → ℕ → Span × Span
pair_at pairs n = slice_index_or pairs n (no_span, no_span)

-- the node of this number
abbrev pub node_of : List NodeRecord → Lists → Lists → List (Span × Span) → ℕ → Node
node_of records children attributes pairs n = record {
  kind = (record_at records n).kind;
  name = (record_at records n).name;
  text = (record_at records n).text;
  attributes = map (pair_at pairs) (list_at attributes.lists n);
  parent = owner_at children.owners n;
  children = list_at children.lists n;
}

-- the tree of these records and lists
abbrev pub tree_of : ℕ → List NodeRecord → Lists → Lists → List (Span × Span) → Tree
tree_of limit records children attributes pairs = record {
  limit = limit;
  used = length records + length pairs;
  nodes = map (node_of records children attributes pairs) (range_with_len 0 (length records));
}

-- the way up from here has so many nodes, and then ends
abbrev pub IsDeep : (ℕ → Option ℕ) → ℕ → Option ℕ → Type 0
IsDeep up zero None = Unit {0}
IsDeep up zero (Some n) = ⊥
IsDeep up (suc k) None = ⊥
IsDeep up (suc k) (Some n) = IsDeep up k (up n)

-- the way up from each node ends
abbrev pub IsRooted : (ℕ → Option ℕ) → Type 0
IsRooted up = (n : ℕ) → (k : ℕ) × IsDeep up k (Some n)

-- what a document keeps: the way up from each node ends, each node has its list of children and of attributes, and all that may still be made has room
pub record IsDocument (limit : ℕ) (records : List NodeRecord) (children attributes : Lists) (pairs : List (Span × Span)) (records_room pairs_room : ℕ) : Type 0 where
  pub child_lists : length children.lists ≡ length records
  pub child_items : length children.owners ≡ length records
  pub attribute_lists : length attributes.lists ≡ length records
  pub attribute_items : length attributes.owners ≡ length pairs
  pub parents : (n p : ℕ) → owner_at children.owners n ≡ Some p → p < length records
  pub rooted : IsRooted (owner_at children.owners)
  pub within : length records + length pairs ≤ limit
  pub small : limit < 2 ^ 32
  pub child_limit : children.limit ≡ limit
  pub attribute_limit : attributes.limit ≡ limit
  pub records_reserved : limit ≤ records_room
  pub pairs_reserved : limit ≤ pairs_room
