-- Where the blocks of a cache are kept: each way of each set is a slot, which holds a block or none.
use Rattle.std.specs.Prelude.{◌≡◌, ℕ, ◌+◌, ◌*◌, ◌<◌, ◌≤◌, true, List, [], ◌∷◌, filter_map, length, map, slice_get, slice_index_or, Option, Some, None}
use Rattle.std.specs.List.{range_with_len}
use Rattle.link_table.specs.Items.{is_in, AreApart}
use Rattle.link_table.specs.Lists.{Lists, items_of}
use Rattle.lru_concrete.specs.declared.level.Shape.{Shape}
use Rattle.lru_concrete.specs.Contents.{Content, IsLawful}

-- The block in a slot.
abbrev pub block_at : List (Option ℕ) → (slot : ℕ) → Option ℕ
block_at slots slot = slice_index_or slots slot None

-- The blocks in these slots, in their order.
abbrev pub blocks_at : List (Option ℕ) → List ℕ → List ℕ
blocks_at slots order = filter_map (block_at slots) order

-- Slots with blocks stand before all others.
abbrev pub AreEmpty : List (Option ℕ) → List ℕ → Type 0
AreEmpty slots [] = Unit {0}
AreEmpty slots (slot ∷ order) = (block_at slots slot ≡ None) × AreEmpty slots order

abbrev pub holds_front : Option ℕ → (later empty : Type 0) → Type 0
holds_front None later empty = empty
holds_front (Some block) later empty = later

abbrev pub ArePacked : List (Option ℕ) → List ℕ → Type 0
ArePacked slots [] = Unit {0}
ArePacked slots (slot ∷ order) = holds_front (block_at slots slot) (ArePacked slots order) (AreEmpty slots order)

-- The slots of a set, by recency: all its ways, each once, those with blocks first.
pub record AreWays (ways : ℕ) (slots : List (Option ℕ)) (set : ℕ) (order : List ℕ) : Type 0 where
  pub all : length order ≡ ways
  pub apart : AreApart order
  pub own : (slot : ℕ) → is_in order slot ≡ true → (set * ways ≤ slot) × (slot < set * ways + ways)
  pub there : (slot : ℕ) → set * ways ≤ slot → slot < set * ways + ways → is_in order slot ≡ true
  pub packed : ArePacked slots order

-- The blocks of each set.
abbrev pub sets_of : List (Option ℕ) → Lists → List (List ℕ)
sets_of slots order = map (blocks_at slots) order.lists

-- A cache as contracts see it, by its slots and their lists.
abbrev pub content_of : Shape → Lists → List (Option ℕ) → Content
content_of shape order slots = record { shape = shape; blocks = sets_of slots order }

-- Each set has its own slots, and what they hold is lawful.
pub record KeepsSets (shape : Shape) (order : Lists) (slots : List (Option ℕ)) : Type 0 where
  pub count : length slots ≡ shape.sets * shape.ways
  pub items : order.items ≡ shape.sets * shape.ways
  pub sets : length order.lists ≡ shape.sets
  pub ways : (set : ℕ) → set < shape.sets → AreWays shape.ways slots set (items_of order set)
  pub lawful : IsLawful shape (sets_of slots order)

-- The slots of a set that holds these blocks, and no others.
abbrev pub ways_of : (ways : ℕ) → List ℕ → List (Option ℕ)
ways_of ways blocks = map (slice_get blocks) (range_with_len 0 ways)

-- For each set the list of its slots, the first one in front.
pub record IsInOrder (sets ways : ℕ) (order : Lists) : Type 0 where
  pub items : order.items ≡ sets * ways
  pub count : length order.lists ≡ sets
  pub each : (set : ℕ) → set < sets → items_of order set ≡ range_with_len (set * ways) ways
