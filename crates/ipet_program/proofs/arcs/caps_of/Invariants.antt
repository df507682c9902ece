-- The caps so far are those of the arcs so far.
use Rattle.std.proofs.Common.{◌≡◌}
use Rattle.flow_net.specs.Numbers.{item_at}
use Rattle.ipet_program.specs.Programs.{arc_cap}
use Rattle.ipet_program.specs.Sums.{numbered}
use Rattle.ipet_program.proofs.arcs.caps_of.Given as goal

abbrev pub invariant-loop-arc : goal.invariant-loop-arc
invariant-loop-arc l =
    l.caps ≡ numbered (λ column. arc_cap l.net (item_at column l.net.arcs)) l.arc-index
