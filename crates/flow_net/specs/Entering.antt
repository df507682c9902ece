-- Where a run enters the scopes of a net.
use Rattle.std.specs.Prelude.{◌≡◌, ℕ, Some}
use Rattle.flow_net.specs.Numbers.{item_at}
use Rattle.flow_net.specs.Scopes.{Holds}
use Rattle.flow_net.specs.declared.net.LoopInst.{LoopInst}
use Rattle.flow_net.specs.declared.net.Net.{Net}
use Rattle.flow_net.specs.declared.net.NetArc.{NetArc}

-- A place is outside a scope: it is a place that the scope doesn't hold, or 0, which no scope holds.
abbrev pub IsOutside : Net → (scope place : ℕ) → Type 0
IsOutside net scope place = Holds net scope place → ⊥

-- The arc of this number enters the scope: arc 1 the run, and a loop instance each arc that goes to its header from
-- outside. (In a nested net these are the arcs that go from outside the scope to a place that it holds:
-- `enters-comes` of proofs/Headers.antt.)
pub data Enters (net : Net) : (scope number : ℕ) → Type 0 where
  run : Enters net 0 1
  loop : (scope number : ℕ) (inst : LoopInst) (arc : NetArc) → item_at scope net.loops ≡ Some inst →
      item_at number net.arcs ≡ Some arc → arc.to ≡ inst.header → IsOutside net scope arc.from →
      Enters net scope number
