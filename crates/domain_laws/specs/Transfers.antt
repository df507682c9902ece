-- The laws of a transfer: what its places and arcs make of a state.
use Rattle.std.specs.Prelude.{◌≡◌, ℕ, Bool, true}
use Rattle.domain_laws.specs.Shapes.{Shape}

-- Over the numbers that it serves and the states of its shape, the outcome has the shape and is monotone.
pub record IsTransfer {D : Type 0} (has : D → Shape → Type 0) (leq : D → D → Bool) (serves : ℕ → Type 0)
    (shape : Shape) (outcome : ℕ → D → D) : Type 0 where
  pub kept : (number : ℕ) (x : D) → serves number → has x shape → has (outcome number x) shape
  pub rises : (number : ℕ) (x y : D) → serves number → has x shape → has y shape → leq x y ≡ true →
      leq (outcome number x) (outcome number y) ≡ true
