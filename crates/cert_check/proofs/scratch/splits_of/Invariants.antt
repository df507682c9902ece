-- The splits before this node, at most as many as the nodes before it.
use Rattle.std.proofs.Common.{◌≡◌, ◌≤◌, take}
use Rattle.cert_check.specs.Walks.{splits_of}
use Rattle.cert_check.proofs.scratch.splits_of.Given as goal

abbrev pub invariant-loop-node : goal.invariant-loop-node
invariant-loop-node l = record {
  is : l.splits ≡ splits_of (take l.node-index l.nodes);
  few : l.splits ≤ l.node-index;
}
