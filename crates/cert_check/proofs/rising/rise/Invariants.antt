-- Cuts whose first part is done fall away.
use Rattle.std.proofs.Common.{◌≡◌, ◌≤◌, length, vec_capacity}
use Rattle.std.specs.Prelude.{reverse}
use Rattle.cert_check.specs.Walks.{parts}
use Rattle.cert_check.proofs.rising.rise.Given as goal

abbrev pub invariant-loop-cut : goal.invariant-loop-cut
invariant-loop-cut l = record {
  same : parts (reverse l.fn.cuts.items) ≡ parts (reverse l.cuts.items);
  few : length l.cuts.items ≤ length l.fn.cuts.items;
  room : vec_capacity l.fn.cuts ≤ vec_capacity l.cuts;
}

abbrev pub decreases-loop-cut : goal.decreases-loop-cut
decreases-loop-cut l = length l.cuts.items
