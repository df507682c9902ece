-- A size within the limits.
use Rattle.std.proofs.Common.{rules}
use Rattle.std.specs.Int.RustNames.{count_ones}
use Rattle.lru_concrete.proofs.tests.one_block.Goals as goal

pub invariant_of-result : goal.invariant_of-result
unfolding count_ones
invariant_of-result c = search rules
