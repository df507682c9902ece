-- Waiting places in lists by depth.
use Rattle.std.specs.Prelude.{◌≡◌, ℕ, ◌<◌, ◌≤◌, Bool, true, List, length, Some, Contains, slice_get}
use Rattle.link_table.specs.Lists.{Lists, items_of}
use Rattle.fixpoint.specs.Values.{waits}

-- Each place that waits stands in the list of its depth, no other place stands in a list, and no list that is deeper
-- than the deepest one has a place.
pub record IsQueue (table : Lists) (depths : List ℕ) (marks : List Bool) (deepest : ℕ) : Type 0 where
  pub items : table.items ≡ length marks
  pub sized : length depths ≡ length marks
  pub some : deepest < length table.lists
  pub low : (place depth : ℕ) → slice_get depths place ≡ Some depth → depth < length table.lists
  pub marked : (list place : ℕ) → Contains (items_of table list) place →
      (waits marks place ≡ true) × (slice_get depths place ≡ Some list) × (list ≤ deepest)
  pub stands : (place depth : ℕ) → waits marks place ≡ true → slice_get depths place ≡ Some depth →
      Contains (items_of table depth) place
