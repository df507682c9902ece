-- Every number is a ceiling.
use Rattle.value_domain.specs.LatticeLaws.{everything_ceiling}
use Rattle.value_domain.proofs.strided.Strided.all.Goals as goal

pub returns-clause-ceiling : goal.returns-clause-ceiling
returns-clause-ceiling c = everything_ceiling
