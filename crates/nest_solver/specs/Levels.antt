-- Levels solved down to a depth, with the weights that the arcs have then.
use Rattle.std.specs.Prelude.{◌≡◌, ℕ, ◌-◌, ◌*◌, ◌<◌, ◌==◌, ◌&&◌, if◌then◌else◌}
use Rattle.ipet_program.specs.Programs.{crude_limit}
use Rattle.nest_solver.specs.Crude.{IsCrude}
use Rattle.nest_solver.specs.Nets.{value_at_end}
use Rattle.nest_solver.specs.Shape.{Shape, IsUpTo, target, is_entering}
use Rattle.nest_solver.specs.Solved.{AreSolved, weight_of}
use Rattle.nest_solver.specs.Ways.{HasRoom, IsRound}

-- What the turns of the loops of a depth add to the weight of an arc.
abbrev pub extra : Shape → (depth : ℕ) → (turns : ℕ → ℕ) → ℕ → ℕ
extra s depth turns i =
    if is_entering s i && (s.depth (target s i) == depth) then (s.bound (target s i) - 1) * turns (target s i) else 0

-- The loops of this depth and of all greater ones are solved, at these prices of places; the others have no turns
-- yet, and each arc weighs its value and the turns that it carries.
pub record AreLevels (s : Shape) (price weight turns : ℕ → ℕ) (depth : ℕ) : Type 0 where
  pub crude : IsCrude s price crude_limit
  pub solved : AreSolved s (value_at_end s price) turns depth
  pub weights : (i : ℕ) → IsUpTo s.arcs i → weight i ≡ weight_of s (value_at_end s price) turns i
  pub none : (l : ℕ) → IsUpTo s.loops l → s.depth l < depth → turns l ≡ 0

-- So it is at some prices.
pub record SomeLevels (s : Shape) (weight turns : ℕ → ℕ) (depth : ℕ) : Type 0 where
  pub price : ℕ → ℕ
  pub levels : AreLevels s price weight turns depth

-- The ways of a depth have room.
pub record IsRoomy (s : Shape) (weight : ℕ → ℕ) (depth : ℕ) : Type 0 where
  pub room : (round : ℕ → ℕ) → IsRound s depth round → HasRoom s depth round weight crude_limit
