-- The values so far are those of the arcs so far.
use Rattle.std.proofs.Common.{◌≡◌, ℕ, All, length}
use Rattle.flow_net.specs.Numbers.{item_at}
use Rattle.ipet_program.specs.Programs.{IsSmall, arc_value}
use Rattle.ipet_program.specs.Sums.{numbered}
use Rattle.ipet_program.proofs.arcs.values_of.Given as goal

abbrev pub invariant-loop-arc : goal.invariant-loop-arc
invariant-loop-arc l = record {
  known : (price : ℕ → ℕ) → price 0 ≡ 0 → l.prices ≡ numbered price (length l.net.places) →
      l.values ≡ numbered (λ column. arc_value price (item_at column l.net.arcs)) l.arc-index;
  count : length l.values ≡ l.arc-index;
  small : All IsSmall l.values;
}
