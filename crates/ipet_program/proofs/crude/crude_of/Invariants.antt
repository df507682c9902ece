-- The sum so far is that of the places so far.
use Rattle.std.proofs.Common.{◌≡◌, ◌*◌, ℕ, length}
use Rattle.ipet_program.specs.Scopes.{turns_at}
use Rattle.ipet_program.specs.Sums.{numbered, sum_to}
use Rattle.ipet_program.specs.Tables.{in_128}
use Rattle.ipet_program.proofs.crude.crude_of.Given as goal

abbrev pub invariant-loop-index : goal.invariant-loop-index
invariant-loop-index l =
    (price : ℕ → ℕ) → l.prices ≡ numbered price (length l.net.places) →
    l.crude ≡ in_128 (sum_to l.index (λ place. price place * turns_at l.net place))
