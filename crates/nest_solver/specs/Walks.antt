-- Walks along the arcs that were chosen, and the counts that they add.
use Rattle.std.specs.Prelude.{◌≡◌, ◌⊎◌, ℕ, ◌+◌, ◌*◌, ◌^◌, ◌<◌, true, false, List, [], ◌∷◌}
use Rattle.nest_solver.specs.Shape.{Shape, IsUpTo}
use Rattle.nest_solver.specs.Ways.{IsSwept, closes}
use Rattle.nest_solver.specs.Counted.{times}

-- The arcs that are chosen from a place on, up to the first one that ends a way.
abbrev pub Follows : Shape → (depth : ℕ) → (choice : ℕ → ℕ) → (from : ℕ) → List ℕ → Type 0
Follows s depth choice from [] = ⊥
Follows s depth choice from (i ∷ more) =
    (i ≡ choice from)
    × (((closes s depth i ≡ true) × (more ≡ []))
    ⊎ ((closes s depth i ≡ false) × Follows s depth choice (s.to i) more))

-- A sweep chose the arcs, and found a way from the place; along it each count may grow.
pub record IsWalkable (s : Shape) (depth : ℕ) (choice : ℕ → ℕ) (from often : ℕ) (counts : ℕ → ℕ) : Type 0 where
  pub round : ℕ → ℕ
  pub weight : ℕ → ℕ
  pub best : ℕ → ℕ
  pub swept : IsSwept s depth round weight best choice
  pub known : 0 < best from
  pub room : (way : List ℕ) → Follows s depth choice from way → (i : ℕ) → IsUpTo s.arcs i →
      counts i + often * times way i < 2 ^ 64

-- The arcs of the walk came so many times more.
pub record IsWalked (s : Shape) (depth : ℕ) (choice : ℕ → ℕ) (from often : ℕ) (before after : ℕ → ℕ) : Type 0 where
  pub way : List ℕ
  pub follows : Follows s depth choice from way
  pub counts : (i : ℕ) → IsUpTo s.arcs i → after i ≡ before i + often * times way i
