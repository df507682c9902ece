-- The bytes so far are a number, and stand within each number that stands there.
use Rattle.std.specs.Prelude.{ℕ, ◌<◌, ◌≤◌, ◌^◌, List, length}
use Rattle.std.specs.Fmt.{decimal}
use Rattle.cert_check.specs.Numbers.{Stands}
use Rattle.cert_check.proofs.Decimal.{Grows}
use Rattle.cert_check.proofs.numbers.number_at.Given as goal

abbrev pub invariant-loop-place : goal.invariant-loop-place
invariant-loop-place l = record {
  small : l.number < 2 ^ 128;
  grows : Grows l.bytes l.place l.number;
  within : (n stop : ℕ) (rest : List ℕ) → n < 2 ^ 128 → Stands l.bytes n stop rest → l.place ≤ length (decimal n);
}
