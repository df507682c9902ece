use Rattle.std.proofs.Common.{◌+◌, ◌*◌, ◌-◌, length}
use Rattle.loop_nest.specs.Ranks.{AreLooked, IsWalk}
use Rattle.loop_nest.proofs.ranks.number_all.Given as goal

abbrev pub invariant-loop-last : goal.invariant-loop-last
invariant-loop-last l =
    IsWalk l.table l.entry l.numbers l.count l.trail.items × AreLooked l.table l.numbers l.looked

-- Each turn ranks a position, or puts a new one on the trail.
abbrev pub decreases-loop-last : goal.decreases-loop-last
decreases-loop-last l = 2 * length l.table - (2 * l.count + length l.trail.items)
