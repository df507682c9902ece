-- The prices so far are those of the places so far.
use Rattle.std.proofs.Common.{◌≡◌, All}
use Rattle.ipet_program.specs.Programs.{place_price}
use Rattle.ipet_program.specs.Sums.{numbered}
use Rattle.ipet_program.specs.Tables.{IsPrice}
use Rattle.ipet_program.proofs.prices.prices_of.Given as goal

abbrev pub invariant-loop-place : goal.invariant-loop-place
invariant-loop-place l = record {
  known : l.prices.items ≡ numbered (place_price l.profile l.image l.net) l.place-index;
  priced : All IsPrice l.prices.items;
}
