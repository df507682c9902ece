-- The tables of a net, and the plain tables of the net that they tell.
use Rattle.std.specs.Prelude.{◌≡◌, ℕ, ◌+◌, ◌-◌, length}
use Rattle.flow_net.specs.Numbers.{item_at}
use Rattle.flow_net.specs.declared.net.Net.{Net}
use Rattle.nest_solver.specs.Nets.{AreUp, HasHeaders, entry, header_of, shape_of}
use Rattle.nest_solver.specs.Orders.{IsOrder, arcs_of}
use Rattle.nest_solver.specs.Shape.{Shape, IsUpTo}
use Rattle.nest_solver.specs.Tables.{AreBacks}
use Rattle.nest_solver.specs.Up.{AreScopes}
use Rattle.nest_solver.specs.declared.tables.Tables.{Tables}

pub record AreTables (net : Net) (tables : Tables) : Type 0 where
  pub scopes : AreScopes net tables.scopes
  pub headed : HasHeaders net (entry tables.headed.items)
  pub headed_count : length tables.headed.items ≡ length net.places + 1
  pub backs : AreBacks net (entry tables.headed.items) tables.backs.items
  pub order : IsOrder (arcs_of net tables.backs.items) tables.order.arcs.items (entry tables.order.positions.items)

-- The plain tables of the net.
abbrev pub plain : Net → Tables → Shape
plain net tables = shape_of net (entry tables.scopes.depths.items) (entry tables.headed.items)

-- The table tells the loops of some depth round the scopes.
pub record IsUpSomewhere (net : Net) (tables : Tables) (up : ℕ → ℕ) : Type 0 where
  pub depth : ℕ
  pub are : AreUp net (entry tables.scopes.depths.items) depth up

-- So it is, and the turns of the loops of that depth are the longest ways from their headers.
pub record IsTurnedSomewhere (net : Net) (tables : Tables) (up best turns : ℕ → ℕ) : Type 0 where
  pub depth : ℕ
  pub are : AreUp net (entry tables.scopes.depths.items) depth up
  pub turned : (l : ℕ) → IsUpTo (length net.loops) l → entry tables.scopes.depths.items l ≡ depth →
      turns l ≡ best (header_of (item_at l net.loops)) - 1
