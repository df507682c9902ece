-- The nodes of rows.
use Rattle.std.specs.Prelude.{◌≡◌, ℕ, List, Contains, is_some}
use Rattle.net_model.specs.declared.unit.CodeUnit.{CodeUnit}
use Rattle.net_model.specs.Onward.{is_link_passed, load_of, returns}
use Rattle.unit_graph.specs.declared.node.Unit.{Unit as Node}
use Rattle.unit_graph.specs.declared.rows.Row.{Row}
use Rattle.unit_graph.specs.Flow.{Follows}
use Rattle.unit_graph.specs.Graphs.{AreJust}

-- The node of a unit that stands at a row's address.
pub record IsNodeOf (returning : List ℕ) (row : Row) (unit : CodeUnit) (node : Node) : Type 0 where
  pub address : node.address ≡ row.address
  pub slot : node.slot ≡ is_some unit.slot
  pub returns : node.returns ≡ returns unit
  pub skips : node.skips ≡ is_link_passed unit.instr
  pub load : node.load ≡ load_of unit row.address
  pub onward : AreJust (Follows returning row) node.onward
  pub calls : AreJust (Contains row.calls) node.calls
