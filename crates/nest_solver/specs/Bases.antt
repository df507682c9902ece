-- Worths of places before any back arc is looked at, by the last arcs from them.
use Rattle.std.specs.Prelude.{◌≡◌, ℕ, ◌+◌, ◌-◌, ◌*◌, ◌^◌, ◌<◌, ◌≤◌, ◌==◌, nat_lt, length, if◌then◌else◌}
use Rattle.flow_net.specs.declared.net.Net.{Net}
use Rattle.nest_solver.specs.Orders.{Arcs}
use Rattle.nest_solver.specs.Plain.{plain}
use Rattle.nest_solver.specs.Shape.{IsRising, IsUpTo}
use Rattle.nest_solver.specs.declared.tables.Tables.{Tables}

-- Of each place the position of the last arc from there, among those up to k; 0 where there is none.
pub record AreLatest (a : Arcs) (position latest : ℕ → ℕ) (k : ℕ) : Type 0 where
  pub most : (i : ℕ) → IsUpTo a.count i → position i ≤ k → position i ≤ latest (a.from i)
  pub some : (p : ℕ) → 0 < latest p →
      (i : ℕ) × IsUpTo a.count i × (a.from i ≡ p) × (position i ≡ latest p)
  pub low : (p : ℕ) → latest p ≤ k

-- A place whose last arc stands further behind has a lesser rank.
abbrev pub rank_by : Net → (latest : ℕ → ℕ) → ℕ → ℕ
rank_by net latest p = length net.arcs - latest p

-- The last arcs tell ranks.
pub record AreRanks (net : Net) (tables : Tables) (latest : ℕ → ℕ) : Type 0 where
  pub small : (p : ℕ) → latest p ≤ length net.arcs
  pub rises : IsRising (plain net tables) (rank_by net latest)

-- The worths of `base_worth` by these ranks, a step of 2^63 apart.
abbrev pub base_by : Net → (latest best : ℕ → ℕ) → ℕ → ℕ
base_by net latest best p =
    if p == 0 then 2 ^ 63 * (length net.arcs + 1) + 1
    else (if nat_lt 0 (best p) then 2 ^ 63 * (length net.arcs + 1) + best p
    else 2 ^ 63 * (length net.arcs - rank_by net latest p))
