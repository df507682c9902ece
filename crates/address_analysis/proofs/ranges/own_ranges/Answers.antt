-- The ranges of the code hold the addresses that it allows.
use Rattle.address_analysis.proofs.OwnRanges.{own-held}
use Rattle.address_analysis.proofs.ranges.own_ranges.Goals as goal

pub returns-clause-all : goal.returns-clause-all
returns-clause-all c = own-held c.args.net.now (record { rows = c.in_ok-rows.rows }) c.in_ok-rows.ensures
