-- The nested net that flow_net writes out can be solved.
use Rattle.std.proofs.Common.{arith}
use Rattle.flow_net.proofs.OnNested.{nested_two_loops, two_loops}
use Rattle.fixpoint.specs.Solved.{IsSolvable}

pub solvable_two_loops : IsSolvable two_loops
solvable_two_loops = record {
  starts = nested_two_loops.numbers.starts;
  ends = nested_two_loops.numbers.ends;
  scopes = nested_two_loops.scopes;
  first = nested_two_loops.entered.first;
  only = nested_two_loops.entered.only;
  reached = nested_two_loops.entered.reached;
  few = (Prim.omega arith, Prim.omega arith);
}
