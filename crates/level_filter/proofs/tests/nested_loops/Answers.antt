-- The net that is made is the one that flow_net writes out: it is nested.
use Rattle.std.proofs.Common.{sym, subst}
use Rattle.flow_net.specs.Nested.{IsNested}
use Rattle.flow_net.proofs.OnNested.{nested_two_loops}
use Rattle.level_filter.proofs.tests.nested_loops.Goals as goal

pub returns : goal.returns
returns c = subst IsNested (sym c.in_ok-net.ensures) nested_two_loops
