use Rattle.std.proofs.Common.{map, take}
use Rattle.std.specs.Prelude.{Contains}
use Rattle.elf_mips.specs.declared.mark.Mark.{Mark}
use Rattle.unit_graph.specs.Search.{Gains}
use Rattle.unit_graph.proofs.search.add_targets.Given as goal

abbrev pub invariant-loop-mark : goal.invariant-loop-mark
invariant-loop-mark l =
    Gains (Contains (map (λ (mark : Mark). mark.x) (take l.mark-index l.marks))) l.initial.set.keys l.set.keys
