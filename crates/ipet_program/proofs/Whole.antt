-- Products and orders of whole numbers.
use Rattle.std.proofs.Common.{◌≡◌, ℕ, ◌*◌, ap, arith}
use Rattle.std.proofs.Math.Nat.{mul-le-mul_left}
use Rattle.std.proofs.lemmas.Int.{ints}
use borrow.Author.Differences.{up, down, sum_is_lem, product_is, le_out}
use lib.IntN.{ℤ, pos, negsuc, ◌+ℤ◌, ◌*ℤ◌}
use lib.Signed.{◌≤ℤ◌}

-- A product of a sum is the sum of the products.
pub mul-sum : (a b c : ℤ) → a *ℤ (b +ℤ c) ≡ a *ℤ b +ℤ a *ℤ c
mul-sum a b c =
    let e = sum_is_lem b c in
    omega (arith, ints, ap (λ (m : ℕ). up a * m) e, ap (λ (m : ℕ). down a * m) e)

pub sum-mul : (a b c : ℤ) → (b +ℤ c) *ℤ a ≡ b *ℤ a +ℤ c *ℤ a
sum-mul a b c =
    let e = sum_is_lem b c in
    omega (arith, ints, ap (λ (m : ℕ). m * up a) e, ap (λ (m : ℕ). m * down a) e)

pub mul-assoc : (a b c : ℤ) → (a *ℤ b) *ℤ c ≡ a *ℤ (b *ℤ c)
mul-assoc a b c =
    let l = product_is a b in
    let r = product_is b c in
    omega (
      arith,
      ints,
      ap (λ (m : ℕ). m * up c) l.0,
      ap (λ (m : ℕ). m * down c) l.0,
      ap (λ (m : ℕ). m * up c) l.1,
      ap (λ (m : ℕ). m * down c) l.1,
      ap (λ (m : ℕ). up a * m) r.0,
      ap (λ (m : ℕ). down a * m) r.0,
      ap (λ (m : ℕ). up a * m) r.1,
      ap (λ (m : ℕ). down a * m) r.1,
    )

-- A product with a number that isn't negative keeps an order.
mul-order_pos : (n : ℕ) (b c : ℤ) → b ≤ℤ c → (pos n *ℤ b) ≤ℤ (pos n *ℤ c)
mul-order_pos n b c h = omega (arith, ints, mul-le-mul_left n (le_out b c h))

pub mul-order : (a b c : ℤ) → pos 0 ≤ℤ a → b ≤ℤ c → (a *ℤ b) ≤ℤ (a *ℤ c)
mul-order (pos n) b c low h = mul-order_pos n b c h
mul-order (negsuc n) b c low h = absurd (omega (arith, ints))

-- The same with the other factor.
pub mul-order_left : (n : ℕ) (b c : ℤ) → b ≤ℤ c → (b *ℤ pos n) ≤ℤ (c *ℤ pos n)
mul-order_left n b c h = omega (arith, ints, mul-le-mul_left n (le_out b c h))
