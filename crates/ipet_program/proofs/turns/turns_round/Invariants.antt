-- The bounds of the scopes from the inner one outward are multiplied, and those further out are left.
use Rattle.std.proofs.Common.{ℕ, Bool, ◌+◌, length}
use Rattle.flow_net.specs.Numbers.{IsNumberOrZero}
use Rattle.flow_net.proofs.Chains.{around}
use Rattle.ipet_program.specs.Tables.{TellsWithin, turns_round}
use Rattle.ipet_program.proofs.Bits128.{IsKept}
use Rattle.ipet_program.proofs.turns.turns_round.Given as goal

abbrev pub invariant-loop-scope : goal.invariant-loop-scope
invariant-loop-scope l = record {
  number : IsNumberOrZero l.loops l.scope;
  kept : (within : ℕ → ℕ → Bool) → TellsWithin l.loops within →
      IsKept (turns_round l.loops within l.inner) l.turns (turns_round l.loops within l.scope);
}

abbrev pub decreases-loop-scope : goal.decreases-loop-scope
decreases-loop-scope l = around l.loops (length l.loops + 1) l.scope
