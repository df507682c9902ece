-- Rings of nodes, as the list of the nodes that follow each.
use Rattle.std.specs.Prelude.{◌≡◌, ◌≢◌, ℕ, ◌<◌, List, length, slice_index}

-- Each list of links undoes the other one.
pub record AreRings (next previous : List ℕ) : Type 0 where
  pub long : length previous ≡ length next
  pub onward : (node : ℕ) → node < length next → slice_index next node < length next
  pub backward : (node : ℕ) → node < length next → slice_index previous node < length next
  pub returns : (node : ℕ) → node < length next → slice_index previous (slice_index next node) ≡ node
  pub comes_back : (node : ℕ) → node < length next → slice_index next (slice_index previous node) ≡ node

-- A node was put behind another one.
pub record IsInserted (old : List ℕ) (node after : ℕ) (new : List ℕ) : Type 0 where
  pub count : length new ≡ length old
  pub behind : slice_index new after ≡ node
  pub onward : slice_index new node ≡ slice_index old after
  pub others : (other : ℕ) → other ≢ node → other ≢ after → slice_index new other ≡ slice_index old other

-- A node was taken out of its ring.
pub record IsRemoved (old : List ℕ) (node : ℕ) (new : List ℕ) : Type 0 where
  pub count : length new ≡ length old
  pub alone : slice_index new node ≡ node
  pub passed : (other : ℕ) → other < length old → other ≢ node → slice_index old other ≡ node →
      slice_index new other ≡ slice_index old node
  pub others : (other : ℕ) → other ≢ node → slice_index old other ≢ node → slice_index new other ≡ slice_index old other
