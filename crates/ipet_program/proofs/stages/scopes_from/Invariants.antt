-- The scopes from the innermost one outward are listed so far.
use Rattle.std.proofs.Common.{◌+◌, length, All}
use Rattle.flow_net.specs.Numbers.{IsNumberOrZero}
use Rattle.flow_net.specs.Scopes.{scopes_round}
use Rattle.flow_net.proofs.Chains.{around}
use Rattle.ipet_program.specs.Stages.{from_scope}
use Rattle.ipet_program.proofs.RoundFrom.{IsListing}
use Rattle.ipet_program.proofs.stages.scopes_from.Given as goal

abbrev pub invariant-loop-around : goal.invariant-loop-around
invariant-loop-around l = record {
  listing : IsListing l.net.loops l.scope l.around l.scopes.items (from_scope l.scope (scopes_round l.net l.place));
  numbers : All (IsNumberOrZero l.net.loops) l.scopes.items;
}

abbrev pub decreases-loop-around : goal.decreases-loop-around
decreases-loop-around l = around l.net.loops (length l.net.loops + 1) l.around
