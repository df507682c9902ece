-- A single number is a ceiling.
use Rattle.value_domain.specs.LatticeLaws.{single_ceiling}
use Rattle.value_domain.proofs.strided.Strided.one.Goals as goal

pub returns-clause-ceiling : goal.returns-clause-ceiling
returns-clause-ceiling c = single_ceiling c.args.n
