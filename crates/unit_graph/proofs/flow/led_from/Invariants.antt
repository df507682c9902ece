use Rattle.std.proofs.Common.{◌+◌, ◌*◌, ◌-◌, ◌^◌, length}
use Rattle.unit_graph.specs.Flow.{Leads}
use Rattle.unit_graph.specs.Search.{IsSearch}
use Rattle.unit_graph.proofs.flow.led_from.Given as goal

abbrev pub invariant-loop-address : goal.invariant-loop-address
invariant-loop-address l = IsSearch (Leads l.rows l.returning.keys l.reach) l.start l.seen.keys l.waiting.items

-- Each turn takes a waiting address; each that comes in its place was not seen before.
abbrev pub decreases-loop-address : goal.decreases-loop-address
decreases-loop-address l = 2 * (2 ^ 32 - length l.seen.keys) + length l.waiting.items
