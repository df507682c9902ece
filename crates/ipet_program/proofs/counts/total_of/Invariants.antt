-- The sum of the terms before this one, and how large it may be.
use Rattle.std.proofs.Common.{◌≡◌, ◌*◌, ◌≤◌, ◌^◌, take, unsigned_abs}
use Rattle.ipet_program.specs.Counts.{listed, row_sum}
use Rattle.ipet_program.proofs.counts.total_of.Given as goal

abbrev pub invariant-loop-term : goal.invariant-loop-term
invariant-loop-term l = record {
  is : l.sum ≡ row_sum (listed l.counts) (take l.term-index l.terms);
  small : unsigned_abs l.sum ≤ l.term-index * 2 ^ 97;
}
