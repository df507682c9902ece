-- The candidates are whole steps away from the first one.
use Rattle.std.proofs.Common.{arith, sym}
use Rattle.age_model.proofs.Holding.{none-above, none-below, those-within}
use Rattle.age_model.proofs.candidates.Candidates.holds.Goals as goal

pub returns-then-block-self : goal.returns-then-block-self
returns-then-block-self c =
    sym (none-below c.args.self.now.first c.args.self.now.last c.args.self.now.step c.args.block c.requires.apart
    c.requires.some c.if-block-self.true)

pub returns-then-block-self-2 : goal.returns-then-block-self-2
returns-then-block-self-2 c =
    sym (none-above c.args.self.now.first c.args.self.now.last c.args.self.now.step c.args.block c.requires.apart
    c.requires.some c.if-block-self-2.true)

pub returns : goal.returns
returns c =
    sym (those-within c.args.self.now.first c.args.self.now.last c.args.self.now.step c.args.block c.requires.apart
    c.requires.some (omega arith) (omega arith))
