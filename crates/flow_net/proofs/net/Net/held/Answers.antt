-- What is told of the place's innermost scope is the test of the scopes round the place.
use Rattle.std.proofs.Common.{rules}
use Rattle.flow_net.proofs.Round.{holds_of-read, scopes-round}
use Rattle.flow_net.proofs.net.Net.held.Goals as goal

pub returns-clause-told : goal.returns-clause-told
returns-clause-told c = search (rules, holds_of-read)

pub returns-clause-round : goal.returns-clause-round
returns-clause-round c = scopes-round c.args.self.now c.requires.scopes c.args.place
