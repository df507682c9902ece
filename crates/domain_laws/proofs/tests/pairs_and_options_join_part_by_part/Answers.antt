-- The pairs have the pair of the one shape of each part.
use Rattle.std.proofs.Common.{[], arith}
use Rattle.domain_laws.specs.Shapes.Shape.{plain, pair}
use Rattle.domain_laws.proofs.tests.pairs_and_options_join_part_by_part.Goals as goal

pub joined-requires : goal.joined-requires
joined-requires g c = (pair (plain []) (plain []), (omega arith, omega arith), (omega arith, tt))

pub joined-requires-2 : goal.joined-requires-2
joined-requires-2 g c = (pair (plain []) (plain []), (omega arith, tt), (omega arith, omega arith))

pub widened-requires : goal.widened-requires
widened-requires g c = (pair (plain []) (plain []), (omega arith, omega arith), (omega arith, omega arith))
