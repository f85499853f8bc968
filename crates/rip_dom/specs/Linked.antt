-- How lists are kept by links: of each list its first and last item, of each item both neighbours.
use Rattle.std.specs.Prelude.{◌≡◌, ◌≢◌, ℕ, zero, suc, ◌<◌, ◌≤◌, ◌⊎◌, Option, None, Some, List, [], ◌∷◌, length, map, slice_index_or, slice_set}
use Rattle.rip_dom.specs.declared.lists.Ends.{Ends}
use Rattle.rip_dom.specs.declared.lists.Item.{Item}
use Rattle.rip_dom.specs.Lists.{Lists, list_at, owner_at}

-- the ends of an empty list
abbrev pub no_ends : Ends
no_ends = record { first = None; last = None }

-- an item that stands in no list
abbrev pub no_item : Item
no_item = record { owner = None; next = None; previous = None }

-- the ends of the list of this number
abbrev pub ends_at : List Ends → ℕ → Ends
ends_at ends p = slice_index_or ends p no_ends

-- the item of this number
abbrev pub item_at : List Item → ℕ → Item
item_at items n = slice_index_or items n no_item

-- what comes after the start of a list, or after an item
abbrev pub forward : List Ends → List Item → ℕ → Option ℕ → Option ℕ
forward ends items p None = (ends_at ends p).first
forward ends items p (Some n) = (item_at items n).next

-- what comes before the end of a list, or before an item
abbrev pub backward : List Ends → List Item → ℕ → Option ℕ → Option ℕ
backward ends items p None = (ends_at ends p).last
backward ends items p (Some n) = (item_at items n).previous

-- the list in which an item stands
abbrev pub owner_of : List Item → ℕ → Option ℕ
owner_of items n = (item_at items n).owner

-- the items from this one on, at most so many, each found by the link of the one before
abbrev pub walk : ℕ → List Item → Option ℕ → List ℕ
walk zero items at = []
walk (suc k) items None = []
walk (suc k) items (Some n) = n ∷ walk k items (item_at items n).next

-- the lists that the links say
abbrev pub lists_of : List Ends → List Item → List (List ℕ)
lists_of ends items = map (λ e. walk (length items) items e.first) ends

-- the ends of the lists when what comes behind this place of a list is another
abbrev pub ends_forward : List Ends → ℕ → Option ℕ → Option ℕ → List Ends
ends_forward ends p None to = slice_set ends p (record (ends_at ends p) { first = to })
ends_forward ends p (Some n) to = ends

-- the ends of the lists when what comes before this place of a list is another
abbrev pub ends_backward : List Ends → ℕ → Option ℕ → Option ℕ → List Ends
ends_backward ends p None to = slice_set ends p (record (ends_at ends p) { last = to })
ends_backward ends p (Some n) to = ends

-- the items when what comes behind this place is another
abbrev pub items_forward : List Item → Option ℕ → Option ℕ → List Item
items_forward items None to = items
items_forward items (Some n) to = slice_set items n (record (item_at items n) { next = to })

-- the items when what comes before this place is another
abbrev pub items_backward : List Item → Option ℕ → Option ℕ → List Item
items_backward items None to = items
items_backward items (Some n) to = slice_set items n (record (item_at items n) { previous = to })

-- the ends of the lists when these two are neighbours in the list
abbrev pub ends_joined : List Ends → ℕ → Option ℕ → Option ℕ → List Ends
ends_joined ends p front behind = ends_backward (ends_forward ends p front behind) p behind front

-- the items when these two are neighbours
abbrev pub items_joined : List Item → Option ℕ → Option ℕ → List Item
items_joined items front behind = items_backward (items_forward items front behind) behind front

-- the item is in the list
abbrev pub Has : ℕ → List ℕ → Type 0
Has c [] = ⊥
Has c (n ∷ ns) = (c ≡ n) ⊎ Has c ns

-- no item is in the list twice
abbrev pub Differ : List ℕ → Type 0
Differ [] = Unit {0}
Differ (n ∷ ns) = (Has n ns → ⊥) × Differ ns

-- the item from which a way begins is none of the list
abbrev pub Apart : Option ℕ → List ℕ → Type 0
Apart x ns = (m : ℕ) → Has m ns → x ≢ Some m

-- the way from x on goes along the list, in both directions, and never comes back
abbrev pub Path : (Option ℕ → Option ℕ) → (Option ℕ → Option ℕ) → Option ℕ → List ℕ → Type 0
Path F B x [] = (F x ≡ None) × (B None ≡ x)
Path F B x (n ∷ ns) = (F x ≡ Some n) × (B (Some n) ≡ x) × Apart x (n ∷ ns) × Path F B (Some n) ns

-- the links lead along these lists, and each item knows the one in which it stands
pub record Linked (F B : ℕ → Option ℕ → Option ℕ) (owner : ℕ → Option ℕ) (lists : ℕ → List ℕ) : Type 0 where
  pub paths : (p : ℕ) → Path (F p) (B p) None (lists p)
  pub owned : (p n : ℕ) → Has n (lists p) → owner n ≡ Some p
  pub listed : (p n : ℕ) → owner n ≡ Some p → Has n (lists p)

-- what the lists keep: the links lead along them, and all that may still be made has room
pub record AreLinked (ends : List Ends) (items : List Item) (limit ends_room items_room : ℕ) : Type 0 where
  pub links : Linked (forward ends items) (backward ends items) (owner_of items) (λ p. list_at (lists_of ends items) p)
  pub few_lists : length ends ≤ limit
  pub few_items : length items ≤ limit
  pub ends_reserved : limit ≤ ends_room
  pub items_reserved : limit ≤ items_room

-- each item of a list is one of the items
abbrev pub AreKnown : Lists → Type 0
AreKnown l = (p m : ℕ) → Has m (list_at l.lists p) → m < length l.owners

-- what linked lists keep of lists and items: an item is in a list exactly where that is its own, and there once
pub record AreListed (l : Lists) : Type 0 where
  pub owned : (p n : ℕ) → Has n (list_at l.lists p) → owner_at l.owners n ≡ Some p
  pub listed : (p n : ℕ) → owner_at l.owners n ≡ Some p → Has n (list_at l.lists p)
  pub once : (p : ℕ) → Differ (list_at l.lists p)
