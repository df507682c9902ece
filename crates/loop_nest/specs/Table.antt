-- How the units of a function follow one another, by their positions in its list of units, from 0.
use Rattle.std.specs.Prelude.{ℕ, List}
use Rattle.std.specs.List.{AllZip}
use Rattle.step_table.specs.Table.{AreStepsTo}
use Rattle.unit_graph.specs.declared.node.Unit.{Unit as Node}

-- The table of some units has for each of them the steps to its onward addresses.
abbrev pub IsTableOf : (addresses : List ℕ) → List Node → List (List ℕ) → Type 0
IsTableOf addresses units table =
    AllZip (λ (node : Node) (steps : List ℕ). AreStepsTo addresses node.onward steps) units table
