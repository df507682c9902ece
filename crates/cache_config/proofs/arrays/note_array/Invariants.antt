use Rattle.std.proofs.Common.{◌≡◌, map, drop}
use Rattle.toml.specs.View.{view}
use Rattle.cache_config.specs.Faults.{array_faults, element_faults, numbered}
use Rattle.cache_config.specs.Firsts.{first_of}
use Rattle.cache_config.specs.Joints.{rule_of}
use Rattle.cache_config.specs.Rows.{tables_of}
use Rattle.cache_config.proofs.arrays.note_array.Given as goal

abbrev pub invariant-loop-at : goal.invariant-loop-at
invariant-loop-at l =
    first_of l.first (numbered (element_faults (tables_of l.tables) (rule_of l.joint) (map view l.values)) l.at (map view (drop l.at l.values)))
    ≡ first_of l.initial.first (array_faults (tables_of l.tables) (rule_of l.joint) (map view l.values))
