-- The arcs of the contexts and of the units so far, and how many they are.
use Rattle.std.proofs.Common.{◌≡◌, ◌+◌, ◌*◌, ℕ, take, slice_get, Some}
use Rattle.std.specs.Prelude.{sum_by}
use Rattle.call_contexts.specs.Arcs.{AreArcs}
use Rattle.call_contexts.proofs.ArcCounts.{AreCounted}
use Rattle.call_contexts.proofs.WayCounts.{weight}
use Rattle.call_contexts.proofs.arcs.arcs_of.Given as goal

abbrev pub invariant-loop-context : goal.invariant-loop-context
invariant-loop-context l =
    (base : ℕ) × (slice_get l.layout.bases.items l.context ≡ Some base) × AreArcs l.graphs.graphs l.layout base l.arcs.items
    × AreCounted l.graphs.graphs l.layout base (base * 260) l.arcs.items

abbrev pub invariant-loop-position : goal.invariant-loop-position
invariant-loop-position l =
    AreArcs l.graphs.graphs l.layout (l.base + l.position) l.arcs.items
    × AreCounted l.graphs.graphs l.layout (l.base + l.position) (l.base * 260 + sum_by weight (take l.position l.units)) l.arcs.items
