-- The scopes of a net by their depths, and the loops of one depth round them as far as they are found.
use Rattle.std.specs.Prelude.{◌≡◌, ◌⊎◌, ℕ, ◌+◌, ◌<◌, ◌≤◌, length, Some}
use Rattle.flow_net.specs.Numbers.{item_at}
use Rattle.flow_net.specs.declared.net.LoopInst.{LoopInst}
use Rattle.flow_net.specs.declared.net.Net.{Net}
use Rattle.nest_solver.specs.Groups.{AreGrouped}
use Rattle.nest_solver.specs.Nets.{HasDepths, entry, up_step}
use Rattle.nest_solver.specs.declared.scopes.Scopes.{Scopes}

-- The tables tell the depths of the net's scopes, and the chains of loop instances of one depth.
pub record AreScopes (net : Net) (scopes : Scopes) : Type 0 where
  pub depths : HasDepths net (entry scopes.depths.items)
  pub count : length scopes.depths.items ≡ length net.loops + 1
  pub small : (scope : ℕ) → entry scopes.depths.items scope ≤ length net.loops + 1
  pub heads : length scopes.heads.items ≡ length net.loops + 2
  pub next : length scopes.next.items ≡ length net.loops + 1
  pub chains : AreGrouped (entry scopes.depths.items) (length net.loops + 1) (entry scopes.heads.items)
      (entry scopes.next.items)

-- They are found for the loop instances that lie less deep than a level, and for those at the level with a
-- number above `at`.
pub record AreRight (net : Net) (depths : ℕ → ℕ) (depth : ℕ) (up : ℕ → ℕ) (level at : ℕ) : Type 0 where
  pub found : (scope : ℕ) (inst : LoopInst) → item_at scope net.loops ≡ Some inst →
      ((depths scope < level) ⊎ ((depths scope ≡ level) × (at < scope))) →
      up scope ≡ up_step (depths scope) depth scope (up inst.outer)
