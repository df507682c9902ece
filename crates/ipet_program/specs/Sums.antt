-- Lists and sums over the numbers from 1 up to a number.
use Rattle.std.specs.Prelude.{ℕ, zero, suc, ◌+◌, ◌*◌, List, [], ◌∷◌, ◌++◌}

-- What a function gives for 1, 2 and so on.
abbrev pub numbered : {T : Type 0} → (ℕ → T) → ℕ → List T
numbered f zero = []
numbered f (suc n) = numbered f n ++ f (suc n) ∷ []

-- The sum of what it gives for them, and the product.
abbrev pub sum_to : ℕ → (ℕ → ℕ) → ℕ
sum_to zero f = 0
sum_to (suc n) f = sum_to n f + f (suc n)

abbrev pub product_to : ℕ → (ℕ → ℕ) → ℕ
product_to zero f = 1
product_to (suc n) f = product_to n f * f (suc n)
