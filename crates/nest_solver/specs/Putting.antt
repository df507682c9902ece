-- The turns of the loops of one depth are put back, one loop after the other.
use Rattle.std.specs.Prelude.{◌≡◌, ◌⊎◌, ℕ, ◌+◌, ◌*◌, ◌<◌, ◌≤◌, List, []}
use Rattle.nest_solver.specs.Shape.{Shape, IsUpTo}
use Rattle.nest_solver.specs.Counted.{AreWays, IsCounted, IsTurn, entered, put_back, times}

-- Those of the loops with a number above `at` are put back into the counts that the level began with.
pub record IsPutting (s : Shape) (weight turns start : ℕ → ℕ) (depth at : ℕ) (counts : ℕ → ℕ) : Type 0 where
  pub turned : ℕ → List ℕ
  pub done : (l : ℕ) → IsUpTo s.loops l → s.depth l ≡ depth → at < l →
      ((turned l ≡ []) × (turns l ≡ 0)) ⊎ IsTurn s weight l (turns l) (turned l)
  pub none : (l : ℕ) → IsUpTo s.loops l → (s.depth l ≡ depth → at < l → ⊥) → turned l ≡ []
  pub are : (i : ℕ) → IsUpTo s.arcs i → counts i ≡ put_back s (entered s start) turned start i

-- Counts of a way out and of the turns of all loops down to a depth.
pub record IsCountedTo (s : Shape) (weight turns : ℕ → ℕ) (path : List ℕ) (depth : ℕ) (counts : ℕ → ℕ) : Type 0 where
  pub ways : ℕ → List ℕ
  pub are : AreWays s weight turns depth ways
  pub counted : IsCounted s path ways counts

-- The arcs of a way may come so many times more without a count above the total.
pub record HasRoomFor (s : Shape) (counts : ℕ → ℕ) (often total : ℕ) (way : List ℕ) : Type 0 where
  pub each : (i : ℕ) → IsUpTo s.arcs i → counts i + often * times way i ≤ total
  pub some : (way ≡ [] → ⊥) → often ≤ total
