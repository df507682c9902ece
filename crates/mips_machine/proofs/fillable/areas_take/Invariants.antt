-- The areas that were passed don't take the fill.
use Rattle.std.proofs.Common.{◌≡◌, map, drop}
use Rattle.std.specs.List.{list_any}
use Rattle.mips_machine.specs.Image.{area_of, takes_fill}
use Rattle.mips_machine.proofs.fillable.areas_take.Given as goal

abbrev pub invariant-loop-area : goal.invariant-loop-area
invariant-loop-area l =
    list_any (takes_fill l.fill) (map area_of (drop l.area-index l.areas)) ≡ list_any (takes_fill l.fill) (map area_of l.areas)
