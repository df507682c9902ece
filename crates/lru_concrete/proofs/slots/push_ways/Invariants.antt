-- The first ways are there.
use Rattle.std.proofs.Common.{◌≡◌, ◌++◌, map, slice_get}
use Rattle.std.specs.List.{range_with_len}
use Rattle.lru_concrete.proofs.slots.push_ways.Given as goal

abbrev pub invariant-loop-way : goal.invariant-loop-way
invariant-loop-way l = l.slots.items ≡ l.initial.slots.items ++ map (slice_get l.blocks) (range_with_len 0 l.way)
