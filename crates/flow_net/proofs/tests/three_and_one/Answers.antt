-- The net has the scopes that are written out.
use Rattle.std.proofs.Common.{rules}
use Rattle.flow_net.proofs.OnLiterals.{three_and_one}
use Rattle.flow_net.proofs.tests.three_and_one.Goals as goal

pub returns : goal.returns
returns c = three_and_one _ (search rules) (search rules)
