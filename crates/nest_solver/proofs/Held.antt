-- How many scopes lie round one, and the depths of scopes that lie in one another.
use Rattle.std.proofs.Common.{◌≡◌, ◌⊎◌, ℕ, zero, suc, ◌<◌, ◌≤◌, List, Option, Some, None, refl, ap, inl, inr, arith}
use Rattle.flow_net.specs.Numbers.{item_at}
use Rattle.flow_net.specs.Scopes.{IsWithin}
use Rattle.flow_net.specs.Scopes.IsWithin.{here, out}
use Rattle.flow_net.specs.declared.net.LoopInst.{LoopInst}
use Rattle.flow_net.specs.declared.net.Net.{Net}
use Rattle.flow_net.proofs.Chains.{around, from_next}
use Rattle.nest_solver.specs.Nets.{HasDepths}

from_next_small : (n : ℕ) (count : ℕ → ℕ) → ((scope : ℕ) → count scope ≤ n) → (found : Option LoopInst) →
    from_next count found ≤ suc n
from_next_small n count small None = omega arith
from_next_small n count small (Some inst) = omega (arith, small inst.outer)

pub around_small : (loops : List LoopInst) (n scope : ℕ) → around loops n scope ≤ n
around_small loops zero scope = omega arith
around_small loops (suc n) scope = from_next_small n (around loops n) (around_small loops n) (item_at scope loops)

-- A scope that lies within another one is that scope, or deeper.
pub within-deeper : (net : Net) (depth : ℕ → ℕ) (outer scope : ℕ) → HasDepths net depth →
    IsWithin net.loops outer scope → (outer ≡ scope) ⊎ (depth outer < depth scope)
within-deeper net depth outer _ depths here = inl refl
within-deeper net depth outer _ depths (out scope inst there w) =
    elim (within-deeper net depth outer inst.outer depths w)
    as (λ _. (outer ≡ scope) ⊎ (depth outer < depth scope)) [
      | inl same ↦ inr (omega (arith, ap depth same, depths.outward scope inst there))
      | inr less ↦ inr (omega (arith, less, depths.outward scope inst there))
    ]
