use Rattle.std.proofs.Common.{All, take}
use Rattle.unit_graph.specs.Firsts.{Follows, IsAmong}
use Rattle.unit_graph.proofs.first.first_fault.Given as goal

abbrev pub invariant-loop-content : goal.invariant-loop-content
invariant-loop-content l = record {
  among : IsAmong l.first (take l.content-index l.contents);
  first : All (Follows l.first) (take l.content-index l.contents);
}
