-- Nested nets: each loop instance is entered at its header alone, and the chains of instances and
-- the ways between back arcs come to an end.
use Rattle.std.specs.Prelude.{◌≡◌, ℕ, ◌<◌, ◌≤◌, List, length, Some, All}
use Rattle.flow_net.specs.Numbers.{item_at, IsNumberOf, IsNumberOrZero}
use Rattle.flow_net.specs.Scopes.{Holds, HasScopes}
use Rattle.flow_net.specs.Entering.{IsOutside}
use Rattle.flow_net.specs.Paths.{IsRunPath}
use Rattle.flow_net.specs.declared.net.Net.{Net}
use Rattle.flow_net.specs.declared.net.NetArc.{NetArc}
use Rattle.flow_net.specs.declared.net.LoopInst.{LoopInst}

-- The numbers in a net are those of its own contexts and places, contexts being counted from 0, or
-- 0 at the ends of an arc. (`HasScopes` says it of the scopes.)
pub record HasNumbers (net : Net) : Type 0 where
  pub parents : All (λ context. context.parent < length net.contexts) net.contexts
  pub contexts : All (λ place. place.context < length net.contexts) net.places
  pub starts : All (λ arc. IsNumberOrZero net.places arc.from) net.arcs
  pub ends : All (λ arc. IsNumberOrZero net.places arc.to) net.arcs
  pub headers : All (λ inst. IsNumberOf net.places inst.header) net.loops
  pub accesses : All (λ access. IsNumberOf net.places access.place) net.accesses

-- A run begins with arc 1, and may come to each place.
pub record IsEntered (net : Net) : Type 0 where
  pub first : (arc : NetArc) × (item_at 1 net.arcs ≡ Some arc) × (arc.from ≡ 0) × (0 < arc.to)
  pub only : (number : ℕ) (arc : NetArc) → item_at number net.arcs ≡ Some arc → arc.from ≡ 0 →
      number ≡ 1
  pub reached : (place : ℕ) → IsNumberOf net.places place →
      (numbers : List ℕ) × IsRunPath net.arcs numbers place

-- A back arc goes from a place that a loop instance holds to the header of that instance.
pub record IsBack (net : Net) (arc : NetArc) : Type 0 where
  pub scope : ℕ
  pub inst : LoopInst
  pub there : item_at scope net.loops ≡ Some inst
  pub header : arc.to ≡ inst.header
  pub held : Holds net scope arc.from

-- No cycle is left without the back arcs: there is a number for each place that rises along every
-- other arc between places.
pub record HasRanks (net : Net) : Type 0 where
  pub rank : ℕ → ℕ
  pub rises : (number : ℕ) (arc : NetArc) → item_at number net.arcs ≡ Some arc → 0 < arc.from →
      0 < arc.to → (IsBack net arc → ⊥) → rank arc.from < rank arc.to

-- The net is nested. So the innermost scope of each header is its own loop instance
-- (`header-scope` of proofs/Headers.antt), an arc comes into each loop instance (`enters-each`
-- there), and the run holds each place (`holds-run` of proofs/Holds.antt). In proofs/OnNested.antt
-- stands a net of two loops that is nested.
pub record IsNested (net : Net) : Type 0 where
  pub numbers : HasNumbers net
  pub scopes : HasScopes net
  pub entered : IsEntered net
  -- Some arc goes to 0, where a run ends.
  pub left : (number : ℕ) × ((arc : NetArc) × (item_at number net.arcs ≡ Some arc) × (arc.to ≡ 0))
  -- Each loop instance holds its header.
  pub held : (scope : ℕ) (inst : LoopInst) → item_at scope net.loops ≡ Some inst →
      Holds net scope inst.header
  pub bounds : All (λ inst. 1 ≤ inst.bound) net.loops
  -- No two loop instances have one header.
  pub distinct : (scope other : ℕ) (inst another : LoopInst) →
      item_at scope net.loops ≡ Some inst → item_at other net.loops ≡ Some another →
      inst.header ≡ another.header → scope ≡ other
  -- An arc to a held place from outside the loop instance goes to its header.
  pub entering : (number scope : ℕ) (arc : NetArc) (inst : LoopInst) →
      item_at number net.arcs ≡ Some arc → item_at scope net.loops ≡ Some inst →
      Holds net scope arc.to → IsOutside net scope arc.from → arc.to ≡ inst.header
  pub ranks : HasRanks net
