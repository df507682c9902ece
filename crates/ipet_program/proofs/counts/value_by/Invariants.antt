-- The value of the columns before this one, and how large it may be.
use Rattle.std.proofs.Common.{◌≡◌, ◌+◌, ◌*◌, ◌≤◌, ◌^◌, take, unsigned_abs}
use Rattle.ipet_program.specs.Counts.{listed, value_from}
use Rattle.ipet_program.proofs.counts.value_by.Given as goal

abbrev pub invariant-loop-value : goal.invariant-loop-value
invariant-loop-value l = record {
  at : l.column ≡ l.value-index + 1;
  is : l.sum ≡ value_from 1 (listed l.counts) (take l.value-index l.values);
  small : unsigned_abs l.sum ≤ l.value-index * 2 ^ 97;
}
