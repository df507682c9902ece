use Rattle.std.proofs.Common.{take}
use Rattle.std.specs.Prelude.{Contains}
use Rattle.unit_graph.specs.Search.{Sees}
use Rattle.unit_graph.proofs.search.see_all.Given as goal

abbrev pub invariant-loop-address : goal.invariant-loop-address
invariant-loop-address l =
    Sees (Contains (take l.address-index l.addresses)) l.initial.seen.keys l.initial.waiting.items l.seen.keys l.waiting.items
