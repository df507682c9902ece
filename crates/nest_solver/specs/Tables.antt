-- The tables that are made of a net once.
use Rattle.std.specs.Prelude.{◌≡◌, ℕ, ◌+◌, ◌^◌, ◌≤◌, ◌==◌, ◌&&◌, not, Bool, false, List, length, slice_index_or}
use Rattle.flow_net.specs.Scopes.{holds_of}
use Rattle.flow_net.specs.Numbers.{item_at}
use Rattle.flow_net.specs.Visits.{target_of}
use Rattle.flow_net.specs.declared.net.Net.{Net}
use Rattle.nest_solver.specs.Nets.{source_of}
use Rattle.nest_solver.specs.Shape.{IsUpTo}

-- The net has at most 2^28 arcs, places and loop instances.
pub record IsFew (net : Net) : Type 0 where
  pub arcs : length net.arcs ≤ 2 ^ 28
  pub places : length net.places ≤ 2 ^ 28
  pub loops : length net.loops ≤ 2 ^ 28

-- Whether an arc goes back to the header of a loop that holds its source: the test of back arcs of the net's
-- plain tables.
abbrev pub goes_back : Net → (headed : ℕ → ℕ) → ℕ → Bool
goes_back net headed i =
    not (headed (target_of (item_at i net.arcs)) == 0)
    && holds_of net (headed (target_of (item_at i net.arcs))) (source_of (item_at i net.arcs))

-- A test by number, false beyond the end of the table.
abbrev pub test_at : List Bool → ℕ → Bool
test_at table number = slice_index_or table number false

-- The table tells the back arcs.
pub record AreBacks (net : Net) (headed : ℕ → ℕ) (backs : List Bool) : Type 0 where
  pub count : length backs ≡ length net.arcs + 1
  pub told : (i : ℕ) → IsUpTo (length net.arcs) i → test_at backs i ≡ goes_back net headed i
