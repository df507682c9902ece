-- The laws of lattices, of ranks and of widening, over the values that meet a condition and over the values
-- of each shape.
use Rattle.std.specs.Prelude.{◌≡◌, ℕ, ◌<◌, Bool, true, false}
use Rattle.domain_laws.specs.Shapes.{Shape}

-- Among the values that meet a condition the test is an order, and of every two of them the join is the
-- least upper bound. It meets the condition too.
pub record IsLatticeOn {D : Type 0} (P : D → Type 0) (leq : D → D → Bool) (joined : D → D → D) : Type 0 where
  pub same : (x : D) → P x → leq x x ≡ true
  pub chain : (x y z : D) → P x → P y → P z → leq x y ≡ true → leq y z ≡ true → leq x z ≡ true
  pub both : (x y : D) → P x → P y → leq x y ≡ true → leq y x ≡ true → x ≡ y
  pub kept : (x y : D) → P x → P y → P (joined x y)
  pub left : (x y : D) → P x → P y → leq x (joined x y) ≡ true
  pub right : (x y : D) → P x → P y → leq y (joined x y) ≡ true
  pub least : (x y z : D) → P x → P y → P z → leq x z ≡ true → leq y z ≡ true → leq (joined x y) z ≡ true

-- No rank reaches the height, and a value that is strictly above another one has a lower rank. So no value
-- grows more often than the height says.
pub record IsRankedOn {D : Type 0} (P : D → Type 0) (leq : D → D → Bool) (rank : D → ℕ) (height : ℕ) : Type 0 where
  pub within : (x : D) → P x → rank x < height
  pub falls : (x y : D) → P x → P y → leq x y ≡ true → leq y x ≡ false → rank y < rank x

-- Of every two values that meet the condition, the widened value is an upper bound that meets it too.
pub record IsWideningOn {D : Type 0} (P : D → Type 0) (leq : D → D → Bool) (widened : D → D → D) : Type 0 where
  pub kept : (x y : D) → P x → P y → P (widened x y)
  pub left : (x y : D) → P x → P y → leq x (widened x y) ≡ true
  pub right : (x y : D) → P x → P y → leq y (widened x y) ≡ true

-- A ceiling: every two values under it widen to a value under it.
pub record IsCeiling {D : Type 0} (P : D → Type 0) (leq : D → D → Bool) (widened : D → D → D) (z : D) : Type 0 where
  pub above : (x y : D) → P x → P y → leq x z ≡ true → leq y z ≡ true → leq (widened x y) z ≡ true

-- The laws hold among the values of each shape.
pub record IsLattice {D : Type 0} (has : D → Shape → Type 0) (leq : D → D → Bool) (joined : D → D → D) : Type 0 where
  pub on : (s : Shape) → IsLatticeOn (λ x. has x s) leq joined

pub record IsRanked {D : Type 0} (has : D → Shape → Type 0) (leq : D → D → Bool) (rank : D → ℕ) (height : ℕ) : Type 0 where
  pub on : (s : Shape) → IsRankedOn (λ x. has x s) leq rank height

pub record IsWidening {D : Type 0} (has : D → Shape → Type 0) (leq : D → D → Bool) (widened : D → D → D) : Type 0 where
  pub on : (s : Shape) → IsWideningOn (λ x. has x s) leq widened
