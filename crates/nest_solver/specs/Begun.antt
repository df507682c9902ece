-- A level whose turns are put back: what was solved before, and what the level began with.
use Rattle.std.specs.Prelude.{◌≡◌, ℕ, ◌-◌, ◌<◌, ◌≤◌, List}
use Rattle.ipet_program.specs.Programs.{crude_limit}
use Rattle.nest_solver.specs.Shape.{Shape, IsUpTo}
use Rattle.nest_solver.specs.Ways.{IsRound, IsSwept}
use Rattle.nest_solver.specs.Nets.{value_at_end}
use Rattle.nest_solver.specs.Levels.{AreLevels}
use Rattle.nest_solver.specs.Solved.{AreSolved, weight_of}
use Rattle.nest_solver.specs.Counted.{IsPath, entered}
use Rattle.nest_solver.specs.Putting.{IsCountedTo, IsPutting}

-- All loops are solved, and the way out weighs the total.
pub record IsSettled (s : Shape) (value turns : ℕ → ℕ) (path : List ℕ) (total : ℕ) : Type 0 where
  pub costly : (i : ℕ) → IsUpTo s.arcs i → 0 < s.to i → 1 ≤ value i
  pub out : IsPath s (weight_of s value turns) path total
  pub solved : AreSolved s value turns 1
  pub low : total ≤ crude_limit

-- The turns of all lesser depths are put back, and the longest ways of this one are found.
pub record IsBegun (s : Shape) (value turns : ℕ → ℕ) (path : List ℕ) (total depth : ℕ) (best choice start : ℕ → ℕ) :
    Type 0 where
  pub settled : IsSettled s value turns path total
  pub deep : 0 < depth
  pub counted : IsCountedTo s (weight_of s value turns) turns path (depth - 1) start
  pub round : ℕ → ℕ
  pub rounds : IsRound s depth round
  pub swept : IsSwept s depth round (weight_of s value turns) best choice

-- So are the turns of the loops of the depth with a number above `at`, as often as the loops were entered when the
-- level began.
pub record IsAtTurn (s : Shape) (value turns : ℕ → ℕ) (path : List ℕ) (total depth at : ℕ)
    (best choice often start counts : ℕ → ℕ) : Type 0 where
  pub begun : IsBegun s value turns path total depth best choice start
  pub enters : (l : ℕ) → IsUpTo s.loops l → often l ≡ entered s start l
  pub putting : IsPutting s (weight_of s value turns) turns start depth at counts

-- The same for some values of arcs, turns, way out and counts.
pub record SomeBegun (s : Shape) (depth : ℕ) (best choice start : ℕ → ℕ) : Type 0 where
  pub value : ℕ → ℕ
  pub turns : ℕ → ℕ
  pub path : List ℕ
  pub total : ℕ
  pub begun : IsBegun s value turns path total depth best choice start

pub record SomeTurn (s : Shape) (depth at : ℕ) (best choice often counts : ℕ → ℕ) : Type 0 where
  pub value : ℕ → ℕ
  pub turns : ℕ → ℕ
  pub path : List ℕ
  pub total : ℕ
  pub start : ℕ → ℕ
  pub turn : IsAtTurn s value turns path total depth at best choice often start counts

-- Counts of a way out and of turns, once all loops are solved at these prices of places.
pub record IsReady (s : Shape) (price weight turns : ℕ → ℕ) (path : List ℕ) (total depth : ℕ) (counts : ℕ → ℕ) : Type 0 where
  pub levels : AreLevels s price weight turns 1
  pub settled : IsSettled s (value_at_end s price) turns path total
  pub counted : IsCountedTo s (weight_of s (value_at_end s price) turns) turns path depth counts

pub record SomeReady (s : Shape) (weight turns : ℕ → ℕ) (depth : ℕ) (counts : ℕ → ℕ) : Type 0 where
  pub price : ℕ → ℕ
  pub path : List ℕ
  pub total : ℕ
  pub ready : IsReady s price weight turns path total depth counts
