-- The accesses of a graph's nodes.
use Rattle.std.specs.Prelude.{ℕ, ◌+◌, List, [], ◌∷◌, ◌++◌, if◌then◌else◌}
use Rattle.flow_net.specs.declared.net.Access.{Access}
use Rattle.flow_net.specs.declared.net.Role.TheVariants.{Fetch, Slot}
use Rattle.net_model.specs.Accesses.{access, load_access}
use Rattle.unit_graph.specs.declared.node.Unit.{Unit as Node}

-- The fetch of the slot, where the unit has one.
abbrev pub slot_access : (number : ℕ) → Node → List Access
slot_access number node = if node.slot then access number Slot (node.address + 4) ∷ [] else []

-- The accesses of a node's unit: its fetch, the fetch of its slot, and its load.
abbrev pub node_accesses : (number : ℕ) → Node → List Access
node_accesses number node =
    access number Fetch node.address ∷ slot_access number node ++ load_access number node.load
