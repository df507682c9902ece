use Rattle.std.proofs.Common.{take}
use Rattle.std.specs.Prelude.{Contains}
use Rattle.unit_graph.specs.Search.{Gains}
use Rattle.unit_graph.proofs.search.add_all.Given as goal

abbrev pub invariant-loop-address : goal.invariant-loop-address
invariant-loop-address l = Gains (Contains (take l.address-index l.addresses)) l.initial.set.keys l.set.keys
