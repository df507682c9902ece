-- The bits of both ends turned over.
use Rattle.std.proofs.Common.{ap}
use Rattle.value_domain.specs.Results.{inverted}
use Rattle.value_domain.proofs.strided.Strided.inverted.Goals as goal

pub returns : goal.returns
unfolding inverted
returns c = ap inverted c.self.view_is
