-- How much the ways of a nest may weigh: each place's price, as often as the loops round it let it be visited.
use Rattle.std.specs.Prelude.{◌≡◌, ℕ, ◌*◌, ◌≤◌, ◌&&◌, nat_lt, if◌then◌else◌}
use Rattle.ipet_program.specs.Sums.{sum_to, product_to}
use Rattle.nest_solver.specs.Shape.{Shape}

-- The product of the bounds of the loops that hold a place and are deeper than a depth.
abbrev pub grown : Shape → (depth place : ℕ) → ℕ
grown s depth p =
    product_to s.loops (λ l. if s.holds l p && nat_lt depth (s.depth l) then s.bound l else 1)

-- The places' prices have a crude bound of at most the limit, and place 0 costs nothing.
pub record IsCrude (s : Shape) (price : ℕ → ℕ) (limit : ℕ) : Type 0 where
  pub outside : price 0 ≡ 0
  pub low : sum_to s.places (λ p. price p * grown s 0 p) ≤ limit
