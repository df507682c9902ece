-- The longest ways of a level as far as the arcs were looked at in their order.
use Rattle.std.specs.Prelude.{◌≡◌, ℕ, ◌+◌, ◌<◌, ◌≤◌}
use Rattle.nest_solver.specs.Shape.{Shape, IsUpTo}
use Rattle.nest_solver.specs.Ways.{HasRoom, reach}

-- What holds once the arcs at the positions up to k were looked at.
pub record IsSoFar (s : Shape) (depth : ℕ) (round weight best choice position : ℕ → ℕ) (limit k : ℕ) : Type 0 where
  pub room : HasRoom s depth round weight limit
  pub low : (p : ℕ) → best p ≤ room.most p + 1
  pub closed : (i : ℕ) → IsUpTo s.arcs i → position i ≤ k → 0 < reach s depth round best i →
      weight i + reach s depth round best i ≤ best (s.from i)
  pub up : (p : ℕ) → 0 < best p → IsUpTo s.arcs (choice p)
  pub known : (p : ℕ) → 0 < best p → position (choice p) ≤ k
  pub leaves : (p : ℕ) → 0 < best p → s.from (choice p) ≡ p
  pub leads : (p : ℕ) → 0 < best p → 0 < reach s depth round best (choice p)
  pub tight : (p : ℕ) → 0 < best p →
      best p ≡ weight (choice p) + reach s depth round best (choice p)
