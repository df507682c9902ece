-- The set of two numbers.
use Rattle.std.proofs.Common.{ℕ, ◌<◌, [], ◌∷◌, All, refl, arith}
use Rattle.std.specs.Prelude.{AllPairs, Contains}
use Rattle.std.proofs.lemmas.List.Elements.{All-cons, All-nil}
use Rattle.std.proofs.lemmas.List.Kept.{AllPairs-cons}
use Rattle.code_units.specs.Sets.{IsSetOf}

rising : (a b : ℕ) → a < b → AllPairs (λ (x y : ℕ). x < y) (a ∷ b ∷ [])
rising a b less =
    AllPairs-cons (λ (x y : ℕ). x < y) a (b ∷ [])
    (All-cons (λ (y : ℕ). a < y) b [] less (All-nil (λ (y : ℕ). a < y)))
    (AllPairs-cons (λ (x y : ℕ). x < y) b [] (All-nil (λ (y : ℕ). b < y)) (λ i j d f l. absurd (omega arith)))

both : (P : ℕ → Type 0) (a b : ℕ) → P a → P b → All P (a ∷ b ∷ [])
both P a b p q = All-cons P a (b ∷ []) p (All-cons P b [] q (All-nil P))

first : (a b : ℕ) → Contains (a ∷ b ∷ []) a
first a b = (0, omega arith, refl)

second : (a b : ℕ) → Contains (a ∷ b ∷ []) b
second a b = (1, omega arith, refl)

pub IsSetOf-rising : (a b : ℕ) → a < b → IsSetOf (a ∷ b ∷ []) (a ∷ b ∷ [])
IsSetOf-rising a b less = record {
  rising = rising a b less;
  sound = both (Contains (a ∷ b ∷ [])) a b (first a b) (second a b);
  whole = both (Contains (a ∷ b ∷ [])) a b (first a b) (second a b);
}

pub IsSetOf-falling : (a b : ℕ) → b < a → IsSetOf (a ∷ b ∷ []) (b ∷ a ∷ [])
IsSetOf-falling a b less = record {
  rising = rising b a less;
  sound = both (Contains (a ∷ b ∷ [])) b a (second a b) (first a b);
  whole = both (Contains (b ∷ a ∷ [])) a b (second b a) (first b a);
}
