-- Less than a step is left.
use Rattle.age_model.proofs.Stepping.{one-block}
use Rattle.age_model.proofs.candidates.Candidates.after_first.Goals as goal

pub returns-then-self-clause-one : goal.returns-then-self-clause-one
returns-then-self-clause-one c =
    one-block c.args.self.now.first c.args.self.now.last c.args.self.now.step c.if-self.true
