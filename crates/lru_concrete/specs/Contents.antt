-- What a cache holds: for each of its sets a list of blocks, the most recent one first.
use Rattle.std.specs.Prelude.{◌≡◌, ℕ, ◌≤◌, ◌/◌, ◌%◌, Bool, true, List, [], length, slice_index_or, slice_set}
use Rattle.lru_concrete.specs.declared.level.Shape.{Shape}
use Rattle.lru_concrete.specs.Sets.{is_in, AreApart, touched}

-- The block of an address.
abbrev pub block_in : Shape → (address : ℕ) → ℕ
block_in shape address = address / shape.line

-- The set of a block, and what it holds.
abbrev pub set_in : Shape → (block : ℕ) → ℕ
set_in shape block = block % shape.sets

abbrev pub set_of : Shape → List (List ℕ) → (block : ℕ) → List ℕ
set_of shape blocks block = slice_index_or blocks (set_in shape block) []

-- Whether the cache holds a block.
abbrev pub holds : Shape → List (List ℕ) → (block : ℕ) → Bool
holds shape blocks block = is_in (set_of shape blocks block) block

-- A touch of a block changes its set.
abbrev pub touching : Shape → List (List ℕ) → (block : ℕ) → List (List ℕ)
touching shape blocks block =
    slice_set blocks (set_in shape block) (touched shape.ways (set_of shape blocks block) block)

-- Lawful contents: a list a set, with distinct blocks that belong there, no more of them than the set has ways.
pub record IsLawful (shape : Shape) (blocks : List (List ℕ)) : Type 0 where
  pub count : length blocks ≡ shape.sets
  pub few : (set : ℕ) → length (slice_index_or blocks set []) ≤ shape.ways
  pub apart : (set : ℕ) → AreApart (slice_index_or blocks set [])
  pub own : (set block : ℕ) → is_in (slice_index_or blocks set []) block ≡ true → set_in shape block ≡ set

-- A cache as contracts see it.
pub record Content : Type 0 where
  pub shape : Shape
  pub blocks : List (List ℕ)
