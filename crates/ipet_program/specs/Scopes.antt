-- How often the loops round a place let it be visited.
use Rattle.std.specs.Prelude.{ℕ, length, Option, Some, None, if◌then◌else◌}
use Rattle.flow_net.specs.Numbers.{item_at}
use Rattle.flow_net.specs.Scopes.{holds_of}
use Rattle.flow_net.specs.declared.net.LoopInst.{LoopInst}
use Rattle.flow_net.specs.declared.net.Net.{Net}
use Rattle.ipet_program.specs.Sums.{product_to}

-- The bound of a loop instance.
abbrev pub bound_of : Option LoopInst → ℕ
bound_of None = 1
bound_of (Some inst) = inst.bound

-- The product of the bounds of the loop instances that hold a place.
abbrev pub turns_at : Net → (place : ℕ) → ℕ
turns_at net place =
    product_to (length net.loops) (λ scope. if holds_of net scope place then bound_of (item_at scope net.loops) else 1)
