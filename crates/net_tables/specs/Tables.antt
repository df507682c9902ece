-- Tables of a net: what belongs to each place, by its number.
use Rattle.std.specs.Prelude.{◌≡◌, ℕ, ◌+◌, ◌-◌, ◌^◌, min, List, length, map, Some, slice_get}
use Rattle.flow_net.specs.Numbers.{item_at}
use Rattle.flow_net.specs.declared.net.Access.{Access}
use Rattle.flow_net.specs.declared.net.LoopInst.{LoopInst}
use Rattle.flow_net.specs.declared.net.Net.{Net}
use Rattle.flow_net.specs.declared.net.NetArc.{NetArc}
use Rattle.flow_net.specs.declared.net.Place.{Place}
use Rattle.net_tables.specs.Numbers.{AreNumbers}

-- For each place, and for 0, the numbers of the arcs that leave it.
abbrev pub AreArcsOut : Net → List (List ℕ) → Type 0
AreArcsOut net lists = AreNumbers (length net.places) (map (λ (arc : NetArc). arc.from) net.arcs) lists

-- For each place, and for 0, the numbers of the arcs that come to it.
abbrev pub AreArcsInto : Net → List (List ℕ) → Type 0
AreArcsInto net lists = AreNumbers (length net.places) (map (λ (arc : NetArc). arc.to) net.arcs) lists

-- For each place the numbers of its accesses, in their order.
abbrev pub AreAccesses : Net → List (List ℕ) → Type 0
AreAccesses net lists = AreNumbers (length net.places) (map (λ (access : Access). access.place) net.accesses) lists

-- How many loop instances lie around a scope, itself among them. None lies around the run.
pub data HasDepth (loops : List LoopInst) : (scope depth : ℕ) → Type 0 where
  run : HasDepth loops 0 0
  within : (scope depth : ℕ) (inst : LoopInst) → item_at scope loops ≡ Some inst → HasDepth loops inst.outer depth →
      HasDepth loops scope (depth + 1)

-- The depth of a scope, up to the greatest number of 32 bits.
pub record IsCapDepth (loops : List LoopInst) (scope result : ℕ) : Type 0 where
  pub depth : ℕ
  pub counted : HasDepth loops scope depth
  pub capped : result ≡ min depth (2 ^ 32 - 1)

-- For each place, in order, the depth of its innermost scope.
pub record AreDepths (net : Net) (depths : List ℕ) : Type 0 where
  pub size : length depths ≡ length net.places
  pub each : (position : ℕ) (place : Place) (depth : ℕ) → slice_get net.places position ≡ Some place →
      slice_get depths position ≡ Some depth → IsCapDepth net.loops place.scope depth
