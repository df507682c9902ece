-- Where the units of rows lead, by the functions that can return.
use Rattle.std.specs.Prelude.{◌≡◌, ℕ, ◌+◌, ◌⊎◌, List, Contains}
use Rattle.unit_graph.specs.declared.flow.Reach.{Reach}
use Rattle.unit_graph.specs.declared.flow.Reach.TheVariants.{Program}
use Rattle.unit_graph.specs.declared.rows.Row.{Row}

-- One of these functions can return.
pub record SomeReturns (returning calls : List ℕ) : Type 0 where
  pub callee : ℕ
  pub called : Contains calls callee
  pub returns : Contains returning callee

-- The address is the one behind the slot of a unit that calls a function which can return.
abbrev pub ComesBack : List ℕ → Row → ℕ → Type 0
ComesBack returning row later = SomeReturns returning row.calls × (row.address + 8 ≡ later)

-- An onward unit.
abbrev pub Follows : List ℕ → Row → ℕ → Type 0
Follows returning row later = Contains row.onward later ⊎ ComesBack returning row later

-- An onward unit, or where the whole program is looked for a function that the unit calls.
abbrev pub LeadsFrom : List ℕ → Reach → Row → ℕ → Type 0
LeadsFrom returning reach row later = Follows returning row later ⊎ ((reach ≡ Program) × Contains row.calls later)

-- The same by the address of the unit.
pub record Leads (rows : List Row) (returning : List ℕ) (reach : Reach) (address later : ℕ) : Type 0 where
  pub row : Row
  pub listed : Contains rows row
  pub same : row.address ≡ address
  pub leads : LeadsFrom returning reach row later
