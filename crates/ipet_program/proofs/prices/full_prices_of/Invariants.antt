-- The prices so far are those of the places so far.
use Rattle.std.proofs.Common.{◌≡◌, All}
use Rattle.ipet_program.specs.Programs.{full_price}
use Rattle.ipet_program.specs.Sums.{numbered}
use Rattle.ipet_program.specs.Tables.{IsFullPrice}
use Rattle.ipet_program.proofs.prices.full_prices_of.Given as goal

abbrev pub invariant-loop-place : goal.invariant-loop-place
invariant-loop-place l = record {
  known : l.prices.items ≡ numbered (full_price l.profile l.image l.net) l.place-index;
  priced : All IsFullPrice l.prices.items;
}
