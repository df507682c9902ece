-- The crude bound grows by a place's price, as often as the loops round it let it be visited.
use Rattle.std.proofs.Common.{◌≡◌, ℕ, ◌+◌, ◌*◌, sym, ◌∙◌, ap, refl, arith, add-one}
use Rattle.ipet_program.specs.Sums.{sum_to}
use Rattle.ipet_program.specs.Tables.{in_128}
use Rattle.ipet_program.proofs.Bits128.{in_128-add, in_128-mul}

sum_to-more : (f : ℕ → ℕ) (n : ℕ) → sum_to (n + 1) f ≡ sum_to n f + f (n + 1)
sum_to-more f n = rw add-one refl

swapped : (a b : ℕ) → a * b ≡ b * a
swapped a b = omega arith

pub crude-next : (price turns : ℕ → ℕ) (index before visits paid cycles after : ℕ) →
    before ≡ in_128 (sum_to index (λ p. price p * turns p)) → visits ≡ in_128 (turns (index + 1)) →
    paid ≡ price (index + 1) → cycles ≡ in_128 (visits * paid) → after ≡ in_128 (before + cycles) →
    after ≡ in_128 (sum_to (index + 1) (λ p. price p * turns p))
crude-next price turns index before visits paid cycles after known visited cost made added =
    let times : cycles ≡ in_128 (price (index + 1) * turns (index + 1)) =
    made ∙ ap (λ (x : ℕ). in_128 (x * paid)) visited ∙ in_128-mul (turns (index + 1)) paid
    ∙ ap in_128 (swapped (turns (index + 1)) paid) ∙ ap (λ (x : ℕ). in_128 (x * turns (index + 1))) cost in
    added ∙ ap (λ (x : ℕ). in_128 (x + cycles)) known
    ∙ ap (λ (x : ℕ). in_128 (in_128 (sum_to index (λ p. price p * turns p)) + x)) times
    ∙ in_128-add (sum_to index (λ p. price p * turns p)) (price (index + 1) * turns (index + 1))
    ∙ ap in_128 (sym (sum_to-more (λ p. price p * turns p) index))
