-- The segments that were passed don't take the fill.
use Rattle.std.proofs.Common.{◌≡◌, map, drop}
use Rattle.std.specs.List.{list_any}
use Rattle.mips_machine.specs.Image.{region_of, takes_fill}
use Rattle.mips_machine.proofs.fillable.segments_take.Given as goal

abbrev pub invariant-loop-segment : goal.invariant-loop-segment
invariant-loop-segment l =
    list_any (takes_fill l.fill) (map region_of (drop l.segment-index l.segment-items))
    ≡ list_any (takes_fill l.fill) (map region_of l.segment-items)
