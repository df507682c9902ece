use Rattle.std.proofs.Common.{◌+◌, ◌*◌, ◌-◌, ◌^◌, length}
use Rattle.unit_graph.specs.Rows.{MayLeadAt}
use Rattle.unit_graph.specs.Search.{IsSearch}
use Rattle.unit_graph.proofs.span.span_of.Given as goal

abbrev pub invariant-loop-address : goal.invariant-loop-address
invariant-loop-address l = IsSearch (MayLeadAt l.image) l.entry l.seen.keys l.waiting.items

-- Each turn takes a waiting address; each that comes in its place was not seen before.
abbrev pub decreases-loop-address : goal.decreases-loop-address
decreases-loop-address l = 2 * (2 ^ 32 - length l.seen.keys) + length l.waiting.items
