-- The calls and units of graphs, and what they make in all.
use Rattle.std.specs.Prelude.{◌≡◌, ◌≤◌, ℕ, List, length}
use Rattle.unit_graph.specs.declared.graph.Graph.{Graph}
use Rattle.call_contexts.specs.Counting.{AreCallLists, IsToldFirst, IsTotalOfFirst, ones_for, steps_of, unit_counts}
use Rattle.call_contexts.specs.Expansion.{AreReady}
use Rattle.call_contexts.specs.Sizes.{most_contexts, most_places}
use Rattle.call_contexts.specs.declared.sizes.Counted.{Counted}

pub record IsCounted (graphs : List Graph) (counted : Counted) : Type 0 where
  pub lists : AreCallLists graphs counted.lists.items
  pub units : counted.units.items ≡ unit_counts graphs
  pub contexts : IsToldFirst (steps_of counted.lists.items) (ones_for counted.lists.items) counted.sizes.contexts
  pub places : IsToldFirst (steps_of counted.lists.items) counted.units.items counted.sizes.places

-- They make as many contexts and places as are told, and no more than a net may have.
pub record IsFit (entry : ℕ) (counted : Counted) : Type 0 where
  pub ready : AreReady entry counted.lists.items counted.sizes.contexts
  pub sized : length counted.units.items ≡ length counted.lists.items
  pub places : IsTotalOfFirst (steps_of counted.lists.items) counted.units.items counted.sizes.places
  pub few_contexts : counted.sizes.contexts ≤ most_contexts
  pub few_places : counted.sizes.places ≤ most_places
