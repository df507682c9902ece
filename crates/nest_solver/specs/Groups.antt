-- Numbers put together by a key, as chains that fall from number to number.
use Rattle.std.specs.Prelude.{◌≡◌, ℕ, ◌<◌, ◌≤◌}

-- Of the numbers from 1 to below `high`: `first` gives for each key the greatest one that has it, `next` gives
-- for each number the next less one of its key, and 0 stands for none.
pub record AreGrouped (key : ℕ → ℕ) (high : ℕ) (first next : ℕ → ℕ) : Type 0 where
  pub first_low : (k : ℕ) → 0 < first k → first k < high
  pub first_key : (k : ℕ) → 0 < first k → key (first k) ≡ k
  pub first_most : (i : ℕ) → 0 < i → i < high → i ≤ first (key i)
  pub next_less : (i : ℕ) → 0 < i → i < high → next i < i
  pub next_key : (i : ℕ) → 0 < i → i < high → 0 < next i → key (next i) ≡ key i
  pub next_most : (i j : ℕ) → 0 < i → i < high → 0 < j → j < i → key j ≡ key i → j ≤ next i
