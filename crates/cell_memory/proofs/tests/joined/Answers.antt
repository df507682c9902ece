-- Both values have the one shape of all values.
use Rattle.std.proofs.Common.{[], sym, subst}
use Rattle.domain_laws.specs.Shapes.Shape.{plain}
use Rattle.cell_memory.specs.Words.{AreWords}
use Rattle.cell_memory.proofs.tests.joined.Goals as goal

pub join-requires : goal.join-requires
join-requires c = (plain [], subst AreWords (sym c.in_ok-cells.ensures) c.load.ensures.shape, c.load-2.ensures.shape)
