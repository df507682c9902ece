-- The conflicts of one block.
use Rattle.std.specs.Prelude.{◌≡◌, ℕ, ◌^◌, ◌<◌, Bool, true, List, [], ◌∷◌, length, Option, None, Some}
use Rattle.age_model.specs.Since.{since}
use Rattle.domain_laws.specs.Sets.{IsCapped, Limited}
use Rattle.lru_concrete.specs.Sets.{is_in}

-- The block, and the other blocks that may have been touched: fewer than the limit, which is the ways of the set, or all.
pub record Conflicting : Type 0 where
  pub block : ℕ
  pub others : Limited

-- A state of this block in a set with these ways.
pub record IsConflicting (ways own : ℕ) (state : Conflicting) : Type 0 where
  pub same : state.block ≡ own
  pub low : own < 2 ^ 32
  pub some : 0 < ways
  pub few : IsCapped ways state.others

-- No conflicts.
abbrev pub none_of : (ways block : ℕ) → Conflicting
none_of ways block = record { block = block; others = record { limit = ways; items = Some [] } }

-- How many conflicts there are, where all blocks count as the ways.
abbrev pub count_in : (limit : ℕ) → Option (List ℕ) → ℕ
count_in limit None = limit
count_in limit (Some items) = length items

abbrev pub count_of : Conflicting → ℕ
count_of state = count_in state.others.limit state.others.items

-- Whether a block is among the conflicts.
abbrev pub holds_in : Option (List ℕ) → (block : ℕ) → Bool
holds_in None block = true
holds_in (Some items) block = is_in items block

-- Each block that was touched since the last touch of the state's own block is a conflict. The touches stand with the last
-- one first.
pub record Covers (state : Conflicting) (touches : List ℕ) : Type 0 where
  pub each : (other : ℕ) → is_in (since state.block touches) other ≡ true → holds_in state.others.items other ≡ true
