use Rattle.std.proofs.Common.{◌≤◌, length}
use Rattle.call_contexts.specs.Expansion.{AreExpanded, SumsUp}
use Rattle.call_contexts.proofs.contexts.make_contexts.Given as goal

abbrev pub invariant-loop-parent : goal.invariant-loop-parent
invariant-loop-parent l = record {
  expanded : AreExpanded l.entry l.lists l.contexts.keys l.functions.items l.parent;
  reached : l.parent ≤ length l.functions.items;
  sums : SumsUp l.lists l.functions.items l.parent;
}
