-- No true age exceeds the ways.
use Rattle.must_domain.proofs.Touching.{unknown-covers}
use Rattle.must_domain.proofs.state.Upper.unknown.Goals as goal

pub returns-clause-covers : goal.returns-clause-covers
returns-clause-covers c = rw c.new.ensures.items (λ blocks fits. unknown-covers c.args.ways blocks fits)
