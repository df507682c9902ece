use Rattle.loop_nest.proofs.Returning.{walk_back}
use Rattle.loop_nest.proofs.ranks.go_back.Goals as goal

pub returns-clause-walk : goal.returns-clause-walk
returns-clause-walk c entry trail walk =
    walk_back c.args.table.now entry c.args.numbers.now c.args.count.now trail c.args.last walk
    c.requires.passed c.requires.within
