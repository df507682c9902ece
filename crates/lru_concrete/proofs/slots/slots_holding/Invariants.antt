-- The slots of the first sets are there.
use Rattle.std.proofs.Common.{◌≡◌, take}
use Rattle.std.specs.List.{flat_map}
use Rattle.lru_concrete.specs.Slots.{ways_of}
use Rattle.lru_concrete.proofs.slots.slots_holding.Given as goal

abbrev pub invariant-loop-blocks : goal.invariant-loop-blocks
invariant-loop-blocks l = l.slots.items ≡ flat_map (ways_of l.ways) (take l.blocks-index l.sets)
