-- Prices and rows have small numbers.
use Rattle.std.proofs.Common.{◌≡◌, ℕ, pos, sym, subst, arith, to_z, w64}
use Rattle.std.proofs.lemmas.Int.{ints}
use Rattle.ipet_program.specs.Programs.{IsSmall}
use Rattle.ipet_program.specs.Programs.IsSmall.{above}
use Rattle.ipet_program.specs.Tables.{IsPrice}

-- A price is the same as a signed number.
pub signed-price : (price : ℕ) → IsPrice price → to_z w64 price ≡ pos price
signed-price price is = omega (arith, ints, is.1)

pub small-price : (price : ℕ) → IsPrice price → IsSmall (to_z w64 price)
small-price price is = subst IsSmall (sym (signed-price price is)) (above price (omega (arith, is.1)))
