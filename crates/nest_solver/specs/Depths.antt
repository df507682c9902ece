-- How deep a scope lies, by the chain from it outward.
use Rattle.std.specs.Prelude.{◌≡◌, ℕ, suc, List, Some}
use Rattle.flow_net.specs.Numbers.{item_at}
use Rattle.flow_net.specs.declared.net.LoopInst.{LoopInst}

-- The run has the depth 0, a loop instance one more than the next scope outward.
pub data IsDeep (loops : List LoopInst) : (scope depth : ℕ) → Type 0 where
  run : IsDeep loops 0 0
  inner : (scope depth : ℕ) (inst : LoopInst) → item_at scope loops ≡ Some inst →
      IsDeep loops inst.outer depth → IsDeep loops scope (suc depth)
