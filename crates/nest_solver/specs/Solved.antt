-- Loops taken together by depth, the deepest first: how much the longest turn of each loop weighs, and
-- what an arc that enters it then weighs.
use Rattle.std.specs.Prelude.{◌≡◌, ℕ, ◌+◌, ◌-◌, ◌*◌, ◌<◌, ◌≤◌, ◌==◌, ◌&&◌, nat_lt, max, true, false, if◌then◌else◌}
use Rattle.nest_solver.specs.Shape.{Shape, IsUpTo, target, is_back, is_entering}
use Rattle.nest_solver.specs.Ways.{IsRound, IsSwept}

-- An entering arc carries its loop's turns: bound - 1 times the longest one.
abbrev pub paid : Shape → (turns : ℕ → ℕ) → ℕ → ℕ
paid s turns i =
    if is_entering s i then (s.bound (target s i) - 1) * turns (target s i) else 0

abbrev pub weight_of : Shape → (value turns : ℕ → ℕ) → ℕ → ℕ
weight_of s value turns i = value i + paid s turns i

-- The loops of a depth are solved: the turns are the longest ways from header to header, 0 where there
-- is none.
pub record IsSolved (s : Shape) (value turns : ℕ → ℕ) (depth : ℕ) : Type 0 where
  pub round : ℕ → ℕ
  pub best : ℕ → ℕ
  pub choice : ℕ → ℕ
  pub rounds : IsRound s depth round
  pub swept : IsSwept s depth round (weight_of s value turns) best choice
  pub turned : (l : ℕ) → IsUpTo s.loops l → s.depth l ≡ depth → turns l ≡ best (s.header l) - 1

-- The loops of this depth and of all greater ones are solved. (They stay so when those of a smaller depth are:
-- `solved-level` of proofs/Solving.antt.)
abbrev pub AreSolved : Shape → (value turns : ℕ → ℕ) → (depth : ℕ) → Type 0
AreSolved s value turns depth = (deeper : ℕ) → depth ≤ deeper → IsSolved s value turns deeper

-- The turn of a loop of the depth, by the longest way from its header; another loop keeps its turn.
abbrev pub turned : Shape → (depth : ℕ) → (best before : ℕ → ℕ) → ℕ → ℕ
turned s depth best before l = if s.depth l == depth then best (s.header l) - 1 else before l

-- The turns of the loops of a depth put beside those that stood before.
abbrev pub AreTurns : Shape → (depth : ℕ) → (best before after : ℕ → ℕ) → Type 0
AreTurns s depth best before after =
    (l : ℕ) → IsUpTo s.loops l → after l ≡ turned s depth best before l

-- Worths of places: along each arc from a place the worth falls by at least the arc's weight. A back arc may use up
-- its loop's turn; those of loops deeper than `depth` aren't asked. (`weak` of proofs/Weak.antt: worths that ask all
-- back arcs bound the value of all counts that the rows allow.)
pub record IsDual (s : Shape) (weight turns : ℕ → ℕ) (depth : ℕ) (worth : ℕ → ℕ) : Type 0 where
  pub forward : (i : ℕ) → IsUpTo s.arcs i → 0 < s.from i → is_back s i ≡ false →
      weight i + worth (s.to i) ≤ worth (s.from i)
  pub back : (i : ℕ) → IsUpTo s.arcs i → is_back s i ≡ true → s.depth (target s i) ≤ depth →
      weight i + worth (s.to i) ≤ worth (s.from i) + turns (target s i)

-- Worths before any back arc is looked at. Place 0 is worth `shift` + 1; a place with a way out as much
-- more as the longest one weighs; the others less, by falling numbers, a step apart.
abbrev pub base_shift : Shape → (step : ℕ) → ℕ
base_shift s step = step * (s.arcs + 1)

abbrev pub base_worth : Shape → (step : ℕ) → (rank best : ℕ → ℕ) → ℕ → ℕ
base_worth s step rank best p =
    if p == 0 then base_shift s step + 1
    else (if nat_lt 0 (best p) then base_shift s step + best p else step * (s.arcs - rank p))

-- Worths raised by the loops of one depth: a place with a way back to its loop's header is worth at
-- least that way and the header, less the loop's turn. (`lift-dual` of proofs/Lifting.antt: so they take the back arcs
-- of that depth.)
abbrev pub lifted : Shape → (round best turns worth : ℕ → ℕ) → ℕ → ℕ
lifted s round best turns worth p =
    if nat_lt 0 (round p) && nat_lt 0 (best p)
    then max (worth p) ((best p + worth (s.header (round p))) - (turns (round p) + 1))
    else worth p
